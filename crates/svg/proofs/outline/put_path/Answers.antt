-- After a word one subpath more is put, or none where it counts no anchor.
use Rattle.std.proofs.Common.{◌<◌, ◌^◌, ◌+◌, ◌≡◌, length, append-nil, refl, take, rules, arith}
use lib.Seq.{take-length}
use Rattle.path.specs.Flat.{anchor_at}
use Rattle.path.specs.Shape.{count_of, total, word_at, start}
use Rattle.path.proofs.Shapes.{total-next, total_in}
use Rattle.decimal.specs.Put.{Put}
use Rattle.decimal.proofs.Puts.{from_start}
use Rattle.svg.specs.Path.{commands_from, commands_of, text_of}
use Rattle.svg.specs.Pieces.{glue}
use Rattle.svg.proofs.Glues.{glued, no_commands}
use Rattle.svg.proofs.Paths.{from-none, from_next, subpath-none}
use Rattle.svg.proofs.outline.put_path.Goals as goal
use Rattle.svg.proofs.outline.put_path.Goals.{then-n-gt0, else-n-gt0, In-loop-word}

pub loop-word-init : goal.loop-word-init
loop-word-init c =
    record { first = refl; text = rw (from-none (anchor_at c.args.anchors.now)) (no_commands (omega (arith, c.new-text.ensures.empty))); room = omega (arith, c.new-text.ensures.empty) }

pub put_subpath-requires-clause-by_index : goal.put_subpath-requires-clause-by_index
put_subpath-requires-clause-by_index c j lo hi =
    let l = c.loop-word in
    c.requires.by_index j (omega (arith, l.invariant.first, total_in c.args.shapes.now l.word-index (omega arith), c.count_of-n.ensures))

pub put_subpath-requires-clause-n_bound : goal.put_subpath-requires-clause-n_bound
put_subpath-requires-clause-n_bound c =
    let l = c.loop-word in
    omega (arith, l.invariant.first, total_in c.args.shapes.now l.word-index (omega arith), c.count_of-n.ensures)

pub overflow_add-k : goal.overflow_add-k
overflow_add-k c =
    let l = c.loop-word in
    record { fits = omega (arith, l.invariant.first, total_in c.args.shapes.now l.word-index (omega arith), c.count_of-n.ensures) }

pub loop-word-preserved : goal.loop-word-preserved
loop-word-preserved c =
    let ws = c.args.shapes.now in
    let f = anchor_at c.args.anchors.now in
    let l = c.loop-word in
    let n = c.count_of-n.ensures in
    let next : c.loop-word.k + c.count_of-n.result ≡ start ws (l.word-index + 1) =
    omega (arith, l.invariant.first, total-next ws l.word-index (omega arith), n) in
    elim c.if-n-gt0.branch [
      | then-n-gt0 w ↦
          let h : length c.new-text.result.out.now < 2 ^ 64 = search rules in record {
            first = next;
            text =
                rw (from_next f ws l.word-index (omega arith), ← l.invariant.first, w.text-is)
                (glued (commands_from f 0 (take l.word-index ws)) _ h l.invariant.text (rw (n, w.closed_of.ensures) at w.put_subpath.ensures.text));
            room = rw w.text-is (omega (arith, w.put_subpath.ensures.room));
          }
      | else-n-gt0 w ↦ record {
        first = next;
        text =
            rw (from_next f ws l.word-index (omega arith), subpath-none f _ (count_of (word_at ws l.word-index)) _ (omega (arith, n, w.if-n-gt0.false)), append-nil, w.text-is)
            l.invariant.text;
        room = rw w.text-is (omega arith);
      }
    ]

-- the list ends where all the words are counted
pub returns-clause-text : goal.returns-clause-text
unfolding text_of commands_of glue
returns-clause-text c =
    let l = c.loop-word in
    let ws = c.args.shapes.now in
    let f = anchor_at c.args.anchors.now in
    let e : l.word-index ≡ length ws = omega arith in
    let k : l.k ≡ total ws = rw (e, take-length) at l.invariant.first in
    let p = from_start c.new-text.ensures.untouched c.new-text.ensures.empty l.invariant.text (omega arith) in
    let q : Put c.args.out.now 0 (text_of ws f) c.loop-word.text.out.now c.loop-word.text.at = rw (c.new-text.ensures.empty, e, take-length) at p in
    search (rules, q)
