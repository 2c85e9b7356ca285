-- Words in order write what they read as: by the kind of the word before them, what they must begin with. Assumes nothing.
use mathlib.Core.Path.{◌≡◌, refl, ap, ◌∙◌}
use mathlib.Core.Bool.{true, ◌||◌, cond}
use mathlib.Core.List.{List, [], ◌∷◌}
use mathlib.Core.Option.{none}
use Prim.Native.Nat.{ℕ, zero, suc, ◌<◌}
use native.Mathlib.Omega.{arith}
use lib.Dec.{ltb, eqb}
use borrow.Author.Tests.{ltb-true}
use Rattle.job.specs.declared.kinds.Kind.TheVariants.{Subpath, End}
use Rattle.job.specs.Kinds.{kind_of}
use Rattle.job.specs.Words.{Word, word}
use Rattle.job.specs.Grammar.{pair_then, radius_then, rest_then, anchor_then, anchors_then, subpaths_then, end}
use Rattle.job.specs.Order.{wholes, rows, payloads}
use Rattle.job.specs.Content.{Part, part_of}
use Rattle.job.proofs.Orders.{Each}

-- the words of a part
abbrev pub rest : Part → List Word
rest p = rest_then p.into p.out p.radius (anchors_then p.anchors (subpaths_then p.subpaths end))

-- after a word of kind l: the y that is due, and the part's words
abbrev pub due : ℕ → Part → List Word
due l p =
    cond (eqb l 15) []
    (cond (eqb l 16) (word 0 p.kind ∷ rest p)
    (cond (eqb l 2) (word 3 p.y ∷ rest p)
    (cond (eqb l 4) (word 5 p.y ∷ rest p)
    (cond (eqb l 6) (word 7 p.y ∷ rest p)
    (rest p)))))

-- and what the part has not: the handle in, the handle out, the radius, anchors
abbrev pub level : ℕ → ℕ
level l = cond (eqb l 4 || eqb l 5) 1 (cond (eqb l 6 || eqb l 7) 2 (cond (eqb l 1 || eqb l 8) 3 (cond (eqb l 0 || eqb l 16) 4 0)))

abbrev pub Lacks : ℕ → Part → Type 0
Lacks zero p = Unit {0}
Lacks (suc zero) p = p.into ≡ none
Lacks (suc (suc zero)) p = (p.into ≡ none) × (p.out ≡ none)
Lacks (suc (suc (suc zero))) p = (p.into ≡ none) × (p.out ≡ none) × (p.radius ≡ none)
Lacks (suc (suc (suc (suc n)))) p = (p.into ≡ none) × (p.out ≡ none) × (p.radius ≡ none) × (p.anchors ≡ [])

pub record Shaped (l : ℕ) (ws : List Word) : Type 0 where
  pub words : ws ≡ due l (part_of ws)
  pub lacks : Lacks (level l) (part_of ws)

-- a word in front
abbrev pub Step : ℕ → ℕ → Type 0
Step l k = (v : ℕ) → ltb v (payloads (kind_of k)) ≡ true → (ws : List Word) → Shaped k ws → Shaped l (word k v ∷ ws)

head_step : Step 16 0
unfolding part_of
head_step v b ws h = record { words = ap (λ l. word 0 v ∷ l) h.words; lacks = h.lacks }

closed_one : (v : ℕ) → v < 2 → v ≡ cond (eqb v 1) 1 0
closed_one zero h = refl
closed_one (suc zero) h = refl
closed_one (suc (suc v)) h = absurd (omega arith)

subpath-words : (v : ℕ) → ltb v (payloads Subpath) ≡ true → (ws : List Word) → Shaped 1 ws → word 1 v ∷ ws ≡ rest (part_of (word 1 v ∷ ws))
unfolding part_of payloads rest_then subpaths_then pair_then radius_then kind_of
subpath-words v b ws h =
    let k = h.lacks in
    ap (λ l. word 1 v ∷ l) (h.words ∙ rw (k.0, k.1, k.2)) ∙ ap (λ u. word 1 u ∷ anchors_then (part_of ws).anchors (subpaths_then (part_of ws).subpaths end)) (closed_one v (ltb-true v 2 b))

point-words : (v : ℕ) (ws : List Word) → Shaped 2 ws → word 2 v ∷ ws ≡ rest (part_of (word 2 v ∷ ws))
unfolding part_of rest_then anchors_then anchor_then pair_then radius_then
point-words v ws h = ap (λ l. word 2 v ∷ l) h.words

y_step : Step 2 3
unfolding part_of
y_step v b ws h = record { words = ap (λ l. word 3 v ∷ l) h.words; lacks = tt }

in_step : Step 3 4
unfolding part_of rest_then pair_then
in_step v b ws h = record { words = ap (λ l. word 4 v ∷ l) (h.words ∙ rw h.lacks); lacks = tt }

in_y_step : Step 4 5
unfolding part_of
in_y_step v b ws h = record { words = ap (λ l. word 5 v ∷ l) h.words; lacks = h.lacks }

out_words : (v : ℕ) (ws : List Word) → Shaped 6 ws → word 6 v ∷ ws ≡ rest (part_of (word 6 v ∷ ws))
unfolding part_of rest_then pair_then
out_words v ws h = let k = h.lacks in ap (λ l. word 6 v ∷ l) h.words ∙ rw (k.0, k.1)

out_y_step : Step 6 7
unfolding part_of
out_y_step v b ws h = record { words = ap (λ l. word 7 v ∷ l) h.words; lacks = h.lacks }

radius-words : (v : ℕ) (ws : List Word) → Shaped 8 ws → word 8 v ∷ ws ≡ rest (part_of (word 8 v ∷ ws))
unfolding part_of rest_then pair_then radius_then
radius-words v ws h = let k = h.lacks in ap (λ l. word 8 v ∷ l) h.words ∙ rw (k.0, k.1, k.2)

end-words : (v : ℕ) → ltb v (payloads End) ≡ true → (ws : List Word) → Shaped 15 ws → word 15 v ∷ ws ≡ rest (part_of (word 15 v ∷ ws))
unfolding part_of payloads rest_then anchors_then subpaths_then pair_then radius_then kind_of
end-words v b ws h = let e : v ≡ 0 = omega (arith, ltb-true v 1 b) in rw (h.words, e)

end_lacks : (v : ℕ) (ws : List Word) → Shaped 15 ws → Lacks 4 (part_of (word 15 v ∷ ws))
unfolding part_of
end_lacks v ws h = (rw h.words, rw h.words, rw h.words, rw h.words)

-- after each kind that can end an anchor
after-whole : (k : ℕ) → ((v : ℕ) → ltb v (payloads (kind_of k)) ≡ true → (ws : List Word) → Shaped k ws → word k v ∷ ws ≡ rest (part_of (word k v ∷ ws)))
    → ((v : ℕ) (ws : List Word) → Shaped k ws → Lacks 3 (part_of (word k v ∷ ws))) → Each (λ l. Step l k) wholes
after-whole k words bare = (
  λ v b ws h. record { words = words v b ws h; lacks = bare v ws h },
  (
    λ v b ws h. record { words = words v b ws h; lacks = bare v ws h },
    (
      λ v b ws h. record { words = words v b ws h; lacks = tt },
      (λ v b ws h. record { words = words v b ws h; lacks = (bare v ws h).0 }, (λ v b ws h. record { words = words v b ws h; lacks = ((bare v ws h).0, (bare v ws h).1) }, tt)),
    ),
  ),
)

-- every row
pub steps : Each (λ r. Each (λ l. Step l r.kind) r.after) rows
unfolding part_of kind_of
steps =
    let subpath-lacks : (v : ℕ) (ws : List Word) → Lacks 4 (part_of (word 1 v ∷ ws)) = λ v ws. (refl, refl, refl, refl) in
    let out_step : Step 3 6 = λ v b ws h. record { words = out_words v ws h; lacks = tt } in
    let radius-step : Step 3 8 = λ v b ws h. record { words = radius-words v ws h; lacks = tt } in (
      (head_step, tt),
      (
        (λ v b ws h. record { words = subpath-words v b ws h; lacks = subpath-lacks v ws }, after-whole 1 subpath-words (λ v ws h. (refl, refl, refl))),
        (
          after-whole 2 (λ v b ws h. point-words v ws h) (λ v ws h. (refl, refl, refl)),
          (
            (y_step, tt),
            (
              (in_step, tt),
              (
                (in_y_step, tt),
                (
                  (out_step, (λ v b ws h. record { words = out_words v ws h; lacks = h.lacks.0 }, tt)),
                  (
                    (out_y_step, tt),
                    (
                      (
                        radius-step,
                        (λ v b ws h. record { words = radius-words v ws h; lacks = h.lacks.0 }, (λ v b ws h. record { words = radius-words v ws h; lacks = (h.lacks.0, h.lacks.1) }, tt)),
                      ),
                      (
                        (λ v b ws h. record { words = end-words v b ws h; lacks = end_lacks v ws h }, after-whole 15 end-words (λ v ws h. let k = end_lacks v ws h in (k.0, k.1, k.2))),
                        tt,
                      ),
                    ),
                  ),
                ),
              ),
            ),
          ),
        ),
      ),
    )
