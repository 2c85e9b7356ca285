-- The cut outline of a subpath: its places in the order in which 000's `cut_corners` pushes their anchors. Assumes nothing.
use Rattle.std.specs.Prelude.{ℕ, zero, suc, Bool, ◌&&◌, cond, List, [], ◌∷◌, ◌++◌, ltb, eqb}
use Rattle.path.specs.declared.anchor.Anchor.{Anchor}
use Rattle.cut.specs.declared.places.Place.{Place}
use Rattle.cut.specs.View.{View}
use Rattle.cut.specs.Places.{place_at}

-- f 0, then f 1, .. up to f (n - 1)
unfoldable pub joined : (ℕ → List Anchor) → ℕ → List Anchor
joined f zero = []
joined f (suc n) = joined f n ++ f n

-- the anchors of a place, but that the start of a closed subpath's anchor 0 is held back
unfoldable pub anchors_at : Bool → (ℕ → Place) → ℕ → List Anchor
anchors_at closed f i =
    let p = f i in
    cond p.cut (cond (closed && eqb i 0) (p.end ∷ []) (p.start ∷ p.end ∷ [])) (p.start ∷ [])

-- and comes last
unfoldable pub held_back : ℕ → Bool → (ℕ → Place) → List Anchor
held_back n closed f = cond (closed && (ltb 0 n && (f 0).cut)) ((f 0).start ∷ []) []

-- any places, in that order
unfoldable pub assembled : ℕ → Bool → (ℕ → Place) → List Anchor
assembled n closed f = joined (anchors_at closed f) n ++ held_back n closed f

-- the plain cut
unfoldable pub cut_corners : View → List Anchor
cut_corners v = assembled v.n v.closed (place_at v)
