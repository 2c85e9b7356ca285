-- `NearestEven n r` holds of one r at most: of two neighbours as near to √n one has an odd pattern. Assumes nothing.
use Rattle.std.proofs.Common.{◌≡◌, ℕ, suc, ◌+◌, ◌*◌, ◌%◌, ◌^◌, ◌<◌, ◌≤◌, false, not, T, sym, ap, ◌∙◌, subst, le_trans, le_of_eq, le_of_suc-le-suc, le_of_lt, add_comm, le_antisymm, lt_of_not-le, not-le_of_lt, arith}
use lib.Ieee.{Float, nan, inf, fin, binary64, is_nan, of_bits}
use lib.Ieee.Bits.{to_bits-of_bits, of_bits-fits}
use lib.Ieee.Exact.{HasValue}
use Rattle.root.specs.Nearest.{InUnits, NearestEven}
use Rattle.root.proofs.Whole.{sq_le-back}
use Rattle.root.proofs.Values.{digits_of, units_only}
use Rattle.root.proofs.Patterns.{pattern_of, to_bits_at, same_pattern, same_units, pattern_lt, pattern_mono, bits_value}

-- ---- a value with a pattern between those of two others lies between them
no_nan_of : (y : Float) (a c : ℕ) → HasValue y false a c → T (not (is_nan y))
unfolding is_nan
no_nan_of nan a c p = absurd p
no_nan_of (inf s) a c p = absurd p
no_nan_of (fin s m e) a c p = tt

record Between (u v : ℕ) : Type 0 where
  y : Float
  w : ℕ
  value : InUnits y w
  low : u < w
  high : w < v

between : (u v b : ℕ) → b < 2047 * 2 ^ 52 → pattern_of u < b → b < pattern_of v → Between u v
between u v b B lo hi =
    let y = of_bits binary64 b in
    let p = bits_value b B in
    let e : pattern_of p.0 ≡ b = sym (to_bits_at y p.0 p.1) ∙ to_bits-of_bits binary64 b (omega arith) (no_nan_of y p.0 (2 ^ 1074) p.1) in
    record {
      y = y;
      w = p.0;
      value = (of_bits-fits binary64 b, p.1);
      low = lt_of_not-le (λ (g : p.0 ≤ u). not-le_of_lt lo (le_trans (le_of_eq (sym e)) (pattern_mono p.0 u g)));
      high = lt_of_not-le (λ (g : v ≤ p.0). not-le_of_lt hi (le_trans (pattern_mono v p.0 g) (le_of_eq e)));
    }

-- ---- two such values, u and v units: the midpoint between them is √n, and so nothing lies between them; but then one pattern is odd
clash : (n : ℕ) (r s : Float) (a : NearestEven n r) (b : NearestEven n s) → a.units < b.units → ⊥
clash n r s a b h =
    let u = a.units in
    let v = b.units in
    let e : (u + v) * (u + v) ≡ 4 * n = le_antisymm (le_trans (le_of_eq (ap (λ (x : ℕ). x * x) (add_comm u v))) (b.if_below r u a.value h)) (a.if_above s v b.value h) in
    let i : pattern_of u % 2 ≡ 0 = ap (λ (x : ℕ). x % 2) (sym (to_bits_at r u a.value.1)) ∙ a.if_tie s v b.value (λ (g : v ≡ u). differ u v h (sym g)) e in
    let j : pattern_of v % 2 ≡ 0 = ap (λ (x : ℕ). x % 2) (sym (to_bits_at s v b.value.1)) ∙ b.if_tie r u a.value (differ u v h) (ap (λ (x : ℕ). x * x) (add_comm v u) ∙ e) in
    let l : pattern_of u < pattern_of v = lt_of_not-le (λ (g : pattern_of v ≤ pattern_of u). differ u v h (same (le_antisymm (pattern_mono u v (le_of_lt h)) g))) in
    let t = between u v (pattern_of u + 1) (omega (arith, pattern_lt v (digits_of s v b.value).under)) (omega arith) (omega arith) in
    let m : (v + t.w) * (v + t.w) ≤ (u + v) * (u + v) = le_trans {n = (v + t.w) * (v + t.w)} (b.if_below t.y t.w t.value t.high) (le_of_eq (sym e)) in
    past u v t.w (sq_le-back (v + t.w) (u + v) m) t.low
  where
    differ : (u v : ℕ) → u < v → u ≡ v → ⊥
    differ u v h e = omega arith

    past : (u v w : ℕ) → v + w ≤ u + v → u < w → ⊥
    past u v w h k = omega arith

    same : pattern_of a.units ≡ pattern_of b.units → a.units ≡ b.units
    same e = units_only r a.units b.units a.value.1 (subst (λ (y : Float). HasValue y false b.units (2 ^ 1074)) (sym (same_pattern r s a.units b.units a.value b.value e)) b.value.1)

pub only_nearest_even : (n : ℕ) (r s : Float) → NearestEven n r → NearestEven n s → r ≡ s
only_nearest_even n r s a b =
    same_units r s a.units a.value
    (subst (λ (x : ℕ). InUnits s x)
    (le_antisymm (le_of_suc-le-suc (lt_of_not-le (λ (g : suc a.units ≤ b.units). clash n r s a b g))) (le_of_suc-le-suc (lt_of_not-le (λ (g : suc b.units ≤ a.units). clash n s r b a g))))
    b.value)
