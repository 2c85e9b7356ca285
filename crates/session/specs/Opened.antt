-- A kept outline opened (request 10/14): whether lists hold, bit for bit, the fresh cache of the drawing beside it. Assumes nothing.
use Rattle.std.specs.Prelude.{ℕ, ◌+◌, ◌*◌, ◌<◌, Bool, ◌&&◌, T, eqb, get_or, Float}
use Rattle.std.specs.Float.{binary64}
use Rattle.std.specs.Float.Ieee.{fits, to_bits}
use Rattle.views.specs.View.{entry}
use Rattle.views.specs.Search.{all}
use Rattle.std.specs.Prelude.{Option}
use Rattle.path.specs.Limit.{first_bad}
use Rattle.path.specs.Shape.{total}
use Rattle.cut.specs.Places.{place_numbers}
use Rattle.cut.specs.Rows.{flag_of}
use Rattle.session.specs.Drawing.{Lent, drawn}
use Rattle.session.specs.Edits.{places_of}

unfoldable pub same_bits : Float → Float → Bool
same_bits x y = eqb (to_bits binary64 x) (to_bits binary64 y)

-- the twelve numbers of place k, and its flag
unfoldable pub place_fresh : Lent → ℕ → ℕ → Bool
place_fresh l kind k =
    let p = places_of (drawn l kind) k in
    all (λ i. same_bits (entry l.numbers (k * 12 + i)) (entry (place_numbers p) i)) 12 && eqb (get_or l.flags k 0) (flag_of p.cut)

-- refusal 14: the first place that differs
unfoldable pub stale_at : Lent → ℕ → Option ℕ
stale_at l kind = first_bad (place_fresh l kind) (total l.shapes)

-- the numbers compared are such as an f64 can be: what a list of f64 holds always is
pub record Storable (l : Lent) (kind : ℕ) : Type 0 where
  pub held : (j : ℕ) → T (fits binary64 (entry l.numbers j))
  pub fresh : (k i : ℕ) → k < total l.shapes → i < 12 → T (fits binary64 (entry (place_numbers (places_of (drawn l kind) k)) i))
