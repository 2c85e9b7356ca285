-- `split_cubic` is de Casteljau's subdivision at four control points. Assumes nothing.
use mathlib.Core.Path.{◌≡◌, refl}
use lib.Ieee.{Float}
use Rattle.views.specs.View.{tabulate}
use Rattle.geom.specs.declared.point.P.{P}
use Rattle.cubic.specs.Cubic.{four, split_cubic}
use Rattle.cubic.specs.DeCasteljau.{casteljau, curve_before, curve_after}

-- the curve before t, and the curve after it
pub split-before : (a b c d : P) (t : Float) → (split_cubic (four a b c d) t).before ≡ curve_before (four a b c d) t
unfolding split_cubic curve_before tabulate casteljau
split-before a b c d t = refl

pub split_after_lem : (a b c d : P) (t : Float) → (split_cubic (four a b c d) t).after ≡ curve_after (four a b c d) t
unfolding split_cubic curve_after tabulate casteljau
split_after_lem a b c d t = refl
