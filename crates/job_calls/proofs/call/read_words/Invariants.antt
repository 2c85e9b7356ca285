-- What `job_calls::call::read_words` keeps: what is left to be read and laid is what there was at first.
use Rattle.std.proofs.Common.{◌≡◌, drop}
use Rattle.job.specs.Order.{start, Fair}
use Rattle.job.specs.Reading.{scan_from}
use Rattle.job.specs.Lists.{lay_shapes, lay_numbers, lay_radii}
use Rattle.job_calls.proofs.Turns.{words_in}
use Rattle.job_calls.proofs.call.read_words.Given as goal

abbrev pub invariant-loop-i : goal.invariant-loop-i
invariant-loop-i l =
    let ws = words_in l.bytes in
    let now = l.lists in
    let old = l.initial.lists in
    Fair l.seen
    × (scan_from l.seen l.i (drop l.i ws) ≡ scan_from start 0 ws)
    × (lay_shapes l.seen.subpaths l.seen.shape (drop l.i ws) now.shapes ≡ lay_shapes 0 0 ws old.shapes)
    × (lay_numbers l.seen.anchors (drop l.i ws) now.numbers ≡ lay_numbers 0 ws old.numbers)
    × (lay_radii l.seen.anchors (drop l.i ws) now.radii ≡ lay_radii 0 ws old.radii)
