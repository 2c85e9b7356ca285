-- After k anchors those are put.
use Rattle.std.proofs.Common.{◌≡◌, take}
use Rattle.path.specs.Flat.{put_all}
use Rattle.shape.proofs.calls.hand_over.Given as goal

abbrev pub invariant-loop-k : goal.invariant-loop-k
invariant-loop-k l = l.to ≡ put_all l.fn.to 0 (take l.k l.fn.anchors)
