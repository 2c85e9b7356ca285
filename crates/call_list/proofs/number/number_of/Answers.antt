-- The signed word over 1024.
use Rattle.std.proofs.Common.{◌≡◌}
use Rattle.std.proofs.Math.Facts.{of_z-to_z}
use lib.Ieee.{binary64, of_int}
use mir.Syntax.{w32}
use mir.Val.{to_z, of_z}
use Rattle.call_list.proofs.Numbers.{signed_number}
use Rattle.call_list.proofs.number.number_of.Goals as goal

pub returns : goal.returns
returns c =
    let e : c.from.result ≡ of_int binary64 (to_z w32 (of_z w32 c.cast_signed.result)) = c.from.ensures in
    rw (e, c.cast_signed.ensures, of_z-to_z c.ranges.word) (signed_number c.args.word c.ranges.word.fits)
