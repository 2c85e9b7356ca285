-- Before index i the lists hold the places of those below it that are near.
use Rattle.std.proofs.Common.{◌≡◌, ℕ, ◌≤◌, get_or}
use Rattle.views.specs.View.{entry}
use Rattle.cut.specs.Near.{near, span_of}
use Rattle.cut.specs.Places.{place_numbers}
use Rattle.cut.specs.Unrolled.{rolled}
use Rattle.cut.proofs.Stages.{numbers_at_lem, flags_at}
use Rattle.recutting.proofs.Copies.{place_from}
use Rattle.recutting.proofs.plans.write_places.Given as goal

abbrev pub invariant-loop-i : goal.invariant-loop-i
invariant-loop-i l =
    let close = near l.fn.w.reach l.fn.sub.n l.fn.sub.closed l.fn.w.at in
    record {
      under : l.i ≤ l.i-end;
      inside : l.i-end ≤ l.fn.sub.n;
      to : l.i-end ≡ (span_of l.fn.w.reach l.fn.sub.n l.fn.sub.closed l.fn.w.at).to;
      number : (j : ℕ) → entry l.numbers j ≡ numbers_at_lem close l.fn.sub.first (λ i. place_numbers (place_from l.fn.made (rolled l.fn.sub.n l.fn.from i))) l.fn.numbers l.i j;
      flag : (k : ℕ) → get_or l.flags k 0 ≡ flags_at close l.fn.sub.first (λ i. get_or l.fn.marks (rolled l.fn.sub.n l.fn.from i) 0) l.fn.flags l.i k;
    }
