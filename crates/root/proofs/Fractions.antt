-- From numbers of units to fractions: what `Nearer` says, from the same in units. Nothing here is about floats. Assumes nothing.
use Rattle.std.proofs.Common.{◌≡◌, ℕ, ◌+◌, ◌*◌, ◌<◌, sym, ap, ◌∙◌, subst, mul_assoc, mul_comm, add-mul, lt_of_mul-lt-mul_right, mul-lt-mul_of_pos_right, mul-pos, mul_right_comm}
use Rattle.root.proofs.Whole.{sq_mul}

-- l units make 1; a / d and b / e are r and w units, and c / f is k square units
module _ (a d b e c f l r w k : ℕ) (L : 0 < l) (D : 0 < d) (E : 0 < e) (F : 0 < f) (A : a * l ≡ r * d) (B : b * l ≡ w * e) (C : c * (l * l) ≡ k * f) where
  first : a * e * l ≡ r * (d * e)
  first = mul_right_comm a e l ∙ ap (λ (x : ℕ). x * e) A ∙ mul_assoc r d e

  second : b * d * l ≡ w * (d * e)
  second = mul_right_comm b d l ∙ ap (λ (x : ℕ). x * d) B ∙ mul_assoc w e d ∙ ap (λ (x : ℕ). w * x) (mul_comm e d)

  pub is_below : b * d < a * e → w < r
  is_below h = lt_of_mul-lt-mul_right (d * e) (subst (λ (x : ℕ). x < r * (d * e)) second (subst (λ (x : ℕ). b * d * l < x) first (mul-lt-mul_of_pos_right h L)))

  pub is_above : a * e < b * d → r < w
  is_above h = lt_of_mul-lt-mul_right (d * e) (subst (λ (x : ℕ). x < w * (d * e)) first (subst (λ (x : ℕ). a * e * l < x) second (mul-lt-mul_of_pos_right h L)))

  both : (a * e + b * d) * l ≡ (r + w) * (d * e)
  both = add-mul (a * e) (b * d) l ∙ ap (λ (x : ℕ). x + b * d * l) first ∙ ap (λ (x : ℕ). r * (d * e) + x) second ∙ sym (add-mul r w (d * e))

  mid : (a * e + b * d) * (a * e + b * d) * f * (l * l) ≡ (r + w) * (r + w) * (d * e * (d * e) * f)
  mid =
      mul_right_comm ((a * e + b * d) * (a * e + b * d)) f (l * l)
      ∙ ap (λ (x : ℕ). x * f) (sym (sq_mul (a * e + b * d) l) ∙ ap (λ (x : ℕ). x * x) both ∙ sq_mul (r + w) (d * e))
      ∙ mul_assoc ((r + w) * (r + w)) (d * e * (d * e)) f

  rad : 4 * c * (d * e * (d * e)) * (l * l) ≡ 4 * k * (d * e * (d * e) * f)
  rad = regroup (d * e * (d * e)) (l * l) ∙ ap (λ (x : ℕ). 4 * x * (d * e * (d * e))) C ∙ regroup' (d * e * (d * e))
    where
      regroup : (s z : ℕ) → 4 * c * s * z ≡ 4 * (c * z) * s
      regroup s z = mul_right_comm (4 * c) s z ∙ ap (λ (x : ℕ). x * s) (mul_assoc 4 c z)

      regroup' : (s : ℕ) → 4 * (k * f) * s ≡ 4 * k * (s * f)
      regroup' s = ap (λ (x : ℕ). x * s) (sym (mul_assoc 4 k f)) ∙ mul_assoc (4 * k) f s ∙ ap (λ (x : ℕ). 4 * k * x) (mul_comm f s)

  scale : 0 < d * e * (d * e) * f
  scale = mul-pos (mul-pos (mul-pos D E) (mul-pos D E)) F

  pub to_below : (r + w) * (r + w) < 4 * k → (a * e + b * d) * (a * e + b * d) * f < 4 * c * (d * e * (d * e))
  to_below h = lt_of_mul-lt-mul_right (l * l) (subst (λ (x : ℕ). x < 4 * c * (d * e * (d * e)) * (l * l)) (sym mid) (subst (λ (x : ℕ). (r + w) * (r + w) * (d * e * (d * e) * f) < x) (sym rad) (mul-lt-mul_of_pos_right h scale)))

  pub to_above : 4 * k < (r + w) * (r + w) → 4 * c * (d * e * (d * e)) < (a * e + b * d) * (a * e + b * d) * f
  to_above h = lt_of_mul-lt-mul_right (l * l) (subst (λ (x : ℕ). 4 * c * (d * e * (d * e)) * (l * l) < x) (sym mid) (subst (λ (x : ℕ). x < (r + w) * (r + w) * (d * e * (d * e) * f)) (sym rad) (mul-lt-mul_of_pos_right h scale)))
