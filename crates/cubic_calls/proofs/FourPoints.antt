-- A list of four control points is its entries, so `split_cubic` is de Casteljau's subdivision of it. Assumes nothing.
use mathlib.Core.Path.{◌≡◌, refl, sym, subst}
use mathlib.Core.List.{List}
use lib.ListN.{length}
use lib.Ieee.{Float, nan}
use Rattle.views.specs.View.{tabulate}
use Rattle.views.proofs.Laws.{as_tabulate}
use Rattle.geom.specs.declared.point.P.{P}
use Rattle.geom.specs.Point.{point}
use Rattle.geom.specs.Flat.{pt}
use Rattle.cubic.specs.Cubic.{four, split_cubic}
use Rattle.cubic.specs.DeCasteljau.{curve_before, curve_after}
use Rattle.cubic.proofs.DeCasteljau.{split-before, split_after_lem}

module _ (c : List P) (l : length c ≡ 4) where
  its_entries : c ≡ four (pt c 0) (pt c 1) (pt c 2) (pt c 3)
  unfolding tabulate
  its_entries = as_tabulate (point nan nan) c 4 (pt c) l (λ i h. refl)

  pub before_by_rule : (t : Float) → (split_cubic c t).before ≡ curve_before c t
  before_by_rule t = subst (λ (d : List P). (split_cubic d t).before ≡ curve_before d t) (sym its_entries) (split-before _ _ _ _ t)

  pub after_by_rule : (t : Float) → (split_cubic c t).after ≡ curve_after c t
  after_by_rule t = subst (λ (d : List P). (split_cubic d t).after ≡ curve_after d t) (sym its_entries) (split_after_lem _ _ _ _ t)
