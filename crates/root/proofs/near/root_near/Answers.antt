-- A hint is given back only where it is the root.
use Rattle.std.proofs.Common.{T, sym, ap, ◌∙◌, subst}
use lib.Ieee.{binary64}
use lib.Ieee.Bits.{of_bits-to_bits}
use Rattle.root.specs.Root.{root_of}
use Rattle.root.proofs.Special.{root-of_nan}
use Rattle.root.proofs.near.root_near.Goals as goal

pub returns-then-is_nan : goal.returns-then-is_nan
returns-then-is_nan c = root-of_nan c.args.x (sym c.is_nan.ensures.value ∙ c.if-is_nan.true)

-- an f64 is what its pattern stands for, since the format holds it
pub returns-then-is_root : goal.returns-then-is_root
returns-then-is_root c =
    let of-x = of_bits-to_bits binary64 c.args.x (subst T (sym c.well_formed.0.1) tt) in
    let of-hint = of_bits-to_bits binary64 c.args.hint (subst T (sym c.well_formed.1.0.1) tt) in
    sym of-hint ∙ sym (c.is_root.ensures (subst T (sym c.if-is_root.true) tt)) ∙ ap root_of of-x
