-- Each answer of `to_svg_d` is a line.
use mathlib.Core.Path.{sym}
use Rattle.printing.proofs.Lines.{line_refused, line_accepted}
use Rattle.printing.proofs.path_line.put_path.Goals as goal

pub returns-in-Err : goal.returns-in-Err
returns-in-Err c =
    let e = c.in-Err.ensures in
    line_refused c.args.words.now c.args.anchors.now c.args.out.now c.requires.0 c.requires.1 _ _ _ (sym e.answer) (rw (← e.left) c.put_refusal.ensures)

pub returns-in-Ok : goal.returns-in-Ok
returns-in-Ok c =
    let e = c.in-Ok.ensures in
    rw e.left (line_accepted c.args.words.now c.args.anchors.now c.args.out.now c.requires.0 c.requires.1 _ (sym e.answer))
