-- The lines of the calls that have come are put, and the calls and answers after them are still to come.
use Rattle.std.proofs.Common.{◌≡◌, ◌*◌, ◌≤◌, length, take, drop}
use Rattle.std.specs.Slice.Iter.{chunks_exact_rest, chunks_exact_size}
use Rattle.std.specs.Iterator.Adapters.{zip_first, zip_second}
use Rattle.decimal.specs.Put.{Adds}
use Rattle.call_lines.specs.Lines.{call_lines}
use Rattle.call_lines.proofs.lines.put_calls.Given as goal

abbrev pub invariant-loop-code : goal.invariant-loop-code
invariant-loop-code l =
    let j = length l.yielded in
    record {
      three : chunks_exact_size (zip_first l.code-iterator) ≡ 3;
      five : chunks_exact_size (zip_second l.code-iterator) ≡ 5;
      codes : chunks_exact_rest (zip_first l.code-iterator) ≡ drop (j * 3) (take (l.m * 3) l.codes);
      answers : chunks_exact_rest (zip_second l.code-iterator) ≡ drop (j * 5) (take (l.m * 5) l.answers);
      to : j ≤ l.m;
      text : Adds l.initial.text (call_lines l.codes l.answers j) l.text;
      room : l.text.at ≤ j * 42;
    }
