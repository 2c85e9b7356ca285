-- The code of a call: which it is, and its index; and what it recuts about. Assumes nothing.
use Rattle.std.specs.Prelude.{ℕ}
use Rattle.path.specs.Shape.{word_at, start}
use Rattle.cut.specs.declared.subpath.Sub.{Sub}
use Rattle.cut.specs.declared.subpath.Window.{Window}
use Rattle.session.specs.Drawing.{Drawing}
use Rattle.session.specs.Edits.{Call, move, set_radius, split, edit_of}
use Rattle.replay.specs.Encoding.{subpath_of}
use Rattle.call_lines.specs.Lines.{window_of, sub_from}

unfoldable pub which_of : Call → ℕ
which_of (move s i new) = 0
which_of (set_radius s i r) = 1
which_of (split s a t) = 2

-- of an anchor, or of the segment's start
unfoldable pub index_of : Call → ℕ
index_of (move s i new) = i
index_of (set_radius s i r) = i
index_of (split s a t) = a

-- its subpath as it leaves it, by the place at which that starts and its shape word; and the index in it, with the steps
abbrev pub sub_left : Drawing → Call → Sub
sub_left d c = sub_from (start d.shapes (subpath_of c)) (word_at (edit_of d c).made.shapes (subpath_of c))

abbrev pub window_in : Call → Window
window_in c = window_of (which_of c) (index_of c)
