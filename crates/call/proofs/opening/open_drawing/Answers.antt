-- `call::opening::open_drawing`: each return cites what the tests before it found.
use Rattle.std.proofs.Common.{◌≡◌, Err, rules, sym, ◌∙◌}
use native.Mathlib.Omega.{arith}
use Rattle.path.proofs.Limits.{first_is, none_is}
use Rattle.call.proofs.Openings.{path_sized, drawing_closed, drawing_radii, drawing_bad, drawing_good}
use Rattle.call.proofs.opening.open_drawing.Goals as goal

pub returns-in_err-n : goal.returns-in_err-n
returns-in_err-n c =
    let e : c.from_residual.result ≡ Err c.in_err-n.field-0.0 = search rules in
    e ∙ drawing_closed _ _ _ _ (sym c.in_err-n.ensures)

pub returns-then-radii-n : goal.returns-then-radii-n
returns-then-radii-n c =
    let f = path_sized _ _ _ _ (sym c.in_ok-n.ensures) in
    rw c.at.ensures (drawing_radii _ _ _ _ f.0 f.1 (omega arith))

pub first_bad_place-requires : goal.first_bad_place-requires
first_bad_place-requires c =
    let f = path_sized _ _ _ _ (sym c.in_ok-n.ensures) in
    let k = f.0.count in
    (f.0.words, omega (arith, f.0.anchors), omega (arith, f.1), omega arith)

pub returns-in-Some : goal.returns-in-Some
returns-in-Some c =
    let f = path_sized _ _ _ _ (sym c.in_ok-n.ensures) in
    rw c.at-in-Some.ensures (drawing_bad _ _ _ _ f.0 f.1 (omega arith) _ ((first_is _ _ _).0 (sym c.first_bad_place.ensures ∙ c.in-Some.is)))

pub returns-in-None : goal.returns-in-None
returns-in-None c =
    let f = path_sized _ _ _ _ (sym c.in_ok-n.ensures) in
    drawing_good _ _ _ _ f.0 f.1 (omega arith) ((none_is _ _).0 (sym c.first_bad_place.ensures ∙ c.in-None.is))
