-- A corner is sharp before it is measured where it is afterwards, and its first side is then long.
use mathlib.Core.Path.{◌≡◌, refl, sym, ◌∙◌, subst}
use mathlib.Core.Bool.{true}
use lib.Ieee.{lt}
use Rattle.cubic.specs.Cubic.{CEPS}
use Rattle.side.specs.Side.{OnLine}
use Rattle.corner.specs.declared.corner.Corner.{Corner}
use Rattle.corner.specs.Corner.{with_lengths, meet}
use Rattle.corner.proofs.Measures.{nothing, same_some, sharp-measured, sharp_long}
use Rattle.corner.proofs.corner.Corner.meet.Goals as goal

pub returns-then-sharp : goal.returns-then-sharp
unfolding meet with_lengths
returns-then-sharp c =
    let s = sym (sharp-measured 128 _ c.reach.ensures.long c.reach-2.ensures.long) ∙ sym c.sharp.ensures ∙ c.if-sharp.true in
    record {
      is = rw s refl;
      long = λ d e. subst (λ (k : Corner). lt CEPS k.lu ≡ true) (same_some _ d e) (sharp_long _ (sym c.sharp.ensures ∙ c.if-sharp.true));
      lines = λ d e. subst (λ (k : Corner). OnLine 128 k.side_u k.lu × OnLine 128 k.side_v k.lv) (same_some _ d e) (c.reach.ensures.line, c.reach-2.ensures.line);
    }

pub returns-else-sharp : goal.returns-else-sharp
unfolding meet with_lengths
returns-else-sharp c =
    let s = sym (sharp-measured 128 _ c.reach.ensures.long c.reach-2.ensures.long) ∙ sym c.sharp.ensures ∙ c.if-sharp.false in
    nothing 128 _ _ refl (rw s refl)
