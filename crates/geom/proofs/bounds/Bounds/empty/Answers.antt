-- The infinities, given by their bits.
use mathlib.Core.Path.{refl}
use lib.Ieee.{of_bits}
use Rattle.geom.specs.Box.{no_point}
use Rattle.geom.proofs.bounds.Bounds.empty.Goals as goal

pub returns : goal.returns
unfolding no_point of_bits
returns c = rw (c.new.ensures, c.new-2.ensures) refl
