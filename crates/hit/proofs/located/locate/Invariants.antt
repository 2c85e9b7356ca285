-- What is left of k is counted from the start of the subpath.
use Rattle.std.proofs.Common.{◌≡◌, ◌+◌}
use Rattle.path.specs.Shape.{start}
use Rattle.hit.proofs.located.locate.Given as goal

abbrev pub invariant-loop-subpath : goal.invariant-loop-subpath
invariant-loop-subpath l = l.k ≡ start l.shapes l.subpath + l.anchor
