-- `call::opening::open_path`: each return cites what the tests before it found.
use Rattle.std.proofs.Common.{◌≡◌, Err, rules, sym, ◌∙◌}
use native.Mathlib.Omega.{arith}
use Rattle.path.proofs.Limits.{first_is, none_is}
use Rattle.call.proofs.Openings.{path_closed, path_sized, path_bad, path_good}
use Rattle.call.proofs.opening.open_path.Goals as goal

pub returns-in_err-n : goal.returns-in_err-n
returns-in_err-n c =
    let e : c.from_residual.result ≡ Err c.in_err-n.field-0.0 = search rules in
    e ∙ path_closed _ _ _ _ (sym c.in_err-n.ensures)

pub first_bad_anchor-requires : goal.first_bad_anchor-requires
first_bad_anchor-requires c = let f = path_sized _ _ _ _ (sym c.in_ok-n.ensures) in let k = f.0.count in (f.0.words, omega (arith, f.0.anchors), omega (arith, f.1))

pub returns-in-Some : goal.returns-in-Some
returns-in-Some c =
    let f = path_sized _ _ _ _ (sym c.in_ok-n.ensures) in
    rw c.at.ensures (path_bad _ _ _ _ f.0 f.1 _ ((first_is _ _ _).0 (sym c.first_bad_anchor.ensures ∙ c.in-Some.is)))

pub returns-in-None : goal.returns-in-None
returns-in-None c = let f = path_sized _ _ _ _ (sym c.in_ok-n.ensures) in path_good _ _ _ _ f.0 f.1 ((none_is _ _).0 (sym c.first_bad_anchor.ensures ∙ c.in-None.is))
