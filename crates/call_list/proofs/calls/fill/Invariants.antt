-- The first k entries are those that the closure gives, the rest is as it was.
use Rattle.std.proofs.Common.{◌≡◌, ℕ, ◌<◌, length}
use Rattle.views.specs.View.{overwrite}
use Rattle.call_list.proofs.calls.fill.Given as goal

abbrev pub invariant-loop-k : goal.invariant-loop-k
invariant-loop-k g l =
    (f : ℕ → _) → ((k : ℕ) (x : _) → k < length l.fn.list → goal.F-post g l.fn.entry k x → x ≡ f k) → l.list ≡ overwrite l.k f l.fn.list
