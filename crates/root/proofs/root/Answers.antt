-- Each return is a case of the definition, by the pattern of x.
use Rattle.std.proofs.Common.{◌≡◌, ℕ, not, T, sym, ap, ◌∙◌, subst, arith}
use Rattle.std.proofs.lemmas.Float.{T_from_false, not_nan_f64_bits}
use lib.Ieee.{Float, binary64, is_nan, of_bits, to_bits}
use lib.Ieee.Bits.{of_bits-to_bits, to_bits-lt}
use Rattle.root.specs.Root.{root_of}
use Rattle.root.proofs.Special.{root-of_nan, zero_by_zero, at_zero, at_ends, root-of-negative}
use Rattle.root.proofs.root.Goals.{else-b-gt0-via-then-b-gt0+else-b-lt9218868437227405312, else-b-gt0-via-else-b-gt0}
use Rattle.root.proofs.root.Goals as goal

pub returns-then-is_nan : goal.returns-then-is_nan
returns-then-is_nan c = root-of_nan c.args.x (sym c.is_nan.ensures.value ∙ c.if-is_nan.true)

pub float_from_bits-result : goal.float_from_bits-result
float_from_bits-result c = not_nan_f64_bits c.root_bits.result (omega (arith, c.root_bits.ensures.0))

pub returns-then-b-lt9218868437227405312 : goal.returns-then-b-lt9218868437227405312
returns-then-b-lt9218868437227405312 c =
    let bits = of_bits-to_bits binary64 c.args.x (subst T (sym c.well_formed.0.1) tt) in
    sym c.root_bits.ensures.1 ∙ ap root_of bits

pub returns-then-b-gt9223372036854775808 : goal.returns-then-b-gt9223372036854775808
returns-then-b-gt9223372036854775808 c =
    let held = subst T (sym c.well_formed.0.1) tt in
    zero_by_zero ∙ sym (root-of-negative (to_bits binary64 c.args.x) c.if-b-gt9223372036854775808.true (to_bits-lt binary64 c.args.x held)) ∙ ap root_of (of_bits-to_bits binary64 c.args.x held)

pub returns : goal.returns
returns c =
    let b = to_bits binary64 c.args.x in
    let bits : of_bits binary64 b ≡ c.args.x = of_bits-to_bits binary64 c.args.x (subst T (sym c.well_formed.0.1) tt) in
    let number : T (not (is_nan (of_bits binary64 b))) = rw bits (T_from_false _ (sym c.is_nan.ensures.value ∙ c.if-is_nan.false)) in
    subst (λ (y : Float). y ≡ root_of y) bits
    (elim c.else-b-gt0.branch [
      | else-b-gt0-via-then-b-gt0+else-b-lt9218868437227405312 w ↦ at_ends b number w.if-b-lt9218868437227405312.false c.if-b-gt9223372036854775808.false
      | else-b-gt0-via-else-b-gt0 w ↦ let e : b ≡ 0 = omega (arith, w) in subst (λ (k : ℕ). of_bits binary64 k ≡ root_of (of_bits binary64 k)) (sym e) at_zero
    ])
