-- One index more.
use mathlib.Core.Path.{◌≡◌, refl, sym, ap, ◌∙◌}
use Prim.Native.Nat.{◌+◌}
use native.Mathlib.Nat.{add-zero}
use native.Mathlib.Omega.{arith}
use lib.ListN.{length, length-set}
use Rattle.corner_calls.proofs.Found.{length-put, holds_same, holds_more}
use Rattle.corner_calls.proofs.finding.find_in_subpath.Goals as goal

pub loop-i-init : goal.loop-i-init
loop-i-init c = record {
  inside = omega arith;
  few = omega arith;
  at_kept = refl;
  rows_kept = refl;
  held = λ corner is h. rw (add-zero c.args.sub.first) h;
}

pub loop-i-preserved-in_default : goal.loop-i-preserved-in_default
loop-i-preserved-in_default c =
    let l = c.loop-i in
    let i = l.invariant in
    let e : c.args.sub.first + (l.i + 1) ≡ c.args.sub.first + l.i + 1 = omega arith in record {
      inside = omega arith;
      few = omega arith;
      at_kept = i.at_kept;
      rows_kept = i.rows_kept;
      held = λ corner is h. rw e (holds_same _ _ _ _ _ (i.held corner is h) (is l.i (omega arith) ∙ sym c.corner_at.ensures ∙ c.in_default.is));
    }

pub loop-i-preserved : goal.loop-i-preserved
loop-i-preserved c =
    let l = c.loop-i in
    let i = l.invariant in
    let put = c.put_corner.ensures in
    let e : c.args.sub.first + (l.i + 1) ≡ c.args.sub.first + l.i + 1 = omega arith in record {
      inside = omega arith;
      few = omega arith;
      at_kept = simp length-set i.at_kept;
      rows_kept = ap length put ∙ length-put _ _ _ ∙ i.rows_kept;
      held = λ corner is h. rw (e, put)
          (holds_more _ _ _ _ _ (i.held corner is h) c.in-Some.c (is l.i (omega arith) ∙ sym c.corner_at.ensures ∙ c.in-Some.is) (omega arith) (omega arith));
    }
