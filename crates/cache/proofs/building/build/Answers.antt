-- Each return cites what the tests before it told.
use Rattle.std.proofs.Common.{rules, ◌≡◌, ◌≤◌, sym, ◌∙◌, Err}
use native.Mathlib.Omega.{arith}
use Rattle.path.specs.Shape.{total}
use Rattle.call.proofs.Openings.{drawing_opens}
use Rattle.corner.proofs.TriedKinds.{tried_some, tried_none}
use Rattle.cache.proofs.Fitting.{fits_says, size_says, size_refused}
use Rattle.cache.proofs.Outcomes.{build_lists, build_refuses, build_opening, build-kind, build-answers, build-numbers, build_flags_lem}
use Rattle.cache.proofs.building.build.Goals as goal

pub returns-in_default : goal.returns-in_default
returns-in_default c =
    let a = c.args in
    let h = build_refuses a.shapes.now a.anchors.now a.radii.now a.kind a.numbers.now a.flags.now _ (build_lists _ _ _ _ _ _ (size_refused _ _ _ (sym c.size_test.ensures ∙ c.in_default.is))) in
    record { answer = rw c.at.ensures h.0; numbers = h.1; flags = h.2 }

pub returns-in_err-open_drawing : goal.returns-in_err-open_drawing
returns-in_err-open_drawing c =
    let a = c.args in
    let s = size_says _ _ _ _ (sym c.size_test.ensures ∙ c.in-Some.is) in
    let e : c.from_residual.result ≡ Err c.in_err-open_drawing.field-0.0 = search rules in
    let v = build_opening a.shapes.now a.anchors.now a.radii.now a.kind a.numbers.now a.flags.now s.0 _ (sym c.open_drawing.ensures ∙ c.in_err-open_drawing.was) in
    let h = build_refuses a.shapes.now a.anchors.now a.radii.now a.kind a.numbers.now a.flags.now _ v in
    record { answer = e ∙ h.0; numbers = h.1; flags = h.2 }

pub returns-in_default-try_from : goal.returns-in_default-try_from
returns-in_default-try_from c =
    let a = c.args in
    let s = size_says _ _ _ _ (sym c.size_test.ensures ∙ c.in-Some.is) in
    let o = drawing_opens _ _ _ _ (sym c.open_drawing.ensures ∙ c.in_ok-open_drawing.was) in
    let v = build-kind a.shapes.now a.anchors.now a.radii.now a.kind a.numbers.now a.flags.now s.0 _ o _ s.1 (tried_none _ _ _ (sym c.try_from.ensures ∙ c.in_default-try_from.is)) in
    let h = build_refuses a.shapes.now a.anchors.now a.radii.now a.kind a.numbers.now a.flags.now _ v in
    record { answer = rw c.at-in_default-try_from.ensures h.0; numbers = h.1; flags = h.2 }

pub build_within-requires-clause-drawing : goal.build_within-requires-clause-drawing
build_within-requires-clause-drawing c =
    let o = drawing_opens _ _ _ _ (sym c.open_drawing.ensures ∙ c.in_ok-open_drawing.was) in
    (o.words, o.few, o.long, o.radius_each)

pub build_within-requires-clause-cache : goal.build_within-requires-clause-cache
build_within-requires-clause-cache c =
    let s = size_says _ _ _ _ (sym c.size_test.ensures ∙ c.in-Some.is) in
    let f = fits_says _ _ _ s.0 in
    (f.long, f.flag_each)

pub build_within-requires-clause-scratch : goal.build_within-requires-clause-scratch
build_within-requires-clause-scratch c =
    let places = (size_says _ _ _ _ (sym c.size_test.ensures ∙ c.in-Some.is)).1 in
    let held : total c.args.shapes.now ≤ 32 = omega arith in
    let long : 384 ≤ 384 = omega arith in
    let small : 384 ≤ 6144 = omega arith in
    (held, long, small)

pub build_within-requires-else-places-le32-clause-drawing : goal.build_within-requires-else-places-le32-clause-drawing
build_within-requires-else-places-le32-clause-drawing c =
    let o = drawing_opens _ _ _ _ (sym c.open_drawing.ensures ∙ c.in_ok-open_drawing.was) in
    (o.words, o.few, o.long, o.radius_each)

pub build_within-requires-else-places-le32-clause-cache : goal.build_within-requires-else-places-le32-clause-cache
build_within-requires-else-places-le32-clause-cache c =
    let s = size_says _ _ _ _ (sym c.size_test.ensures ∙ c.in-Some.is) in
    let f = fits_says _ _ _ s.0 in
    (f.long, f.flag_each)

pub build_within-requires-else-places-le32-clause-scratch : goal.build_within-requires-else-places-le32-clause-scratch
build_within-requires-else-places-le32-clause-scratch c =
    let o = drawing_opens _ _ _ _ (sym c.open_drawing.ensures ∙ c.in_ok-open_drawing.was) in
    let long : 6144 ≤ 6144 = omega arith in
    let small : 6144 ≤ 6144 = omega arith in
    (o.few, long, small)

pub returns-then-places-le32 : goal.returns-then-places-le32
returns-then-places-le32 c =
    let a = c.args in
    let s = (size_says _ _ _ _ (sym c.size_test.ensures ∙ c.in-Some.is)).0 in
    let o = drawing_opens _ _ _ _ (sym c.open_drawing.ensures ∙ c.in_ok-open_drawing.was) in
    let k = tried_some _ _ _ (sym c.try_from.ensures ∙ c.in-Ok.is) in
    let h = c.build_within.ensures in
    record {
      answer = h.answer ∙ build-answers a.shapes.now a.anchors.now a.radii.now a.kind a.numbers.now a.flags.now s _ o _ k;
      numbers = h.numbers ∙ build-numbers a.shapes.now a.anchors.now a.radii.now a.kind a.numbers.now a.flags.now s _ o _ k;
      flags = h.flags ∙ build_flags_lem a.shapes.now a.anchors.now a.radii.now a.kind a.numbers.now a.flags.now s _ o _ k;
    }

pub returns-else-places-le32 : goal.returns-else-places-le32
returns-else-places-le32 c =
    let a = c.args in
    let s = (size_says _ _ _ _ (sym c.size_test.ensures ∙ c.in-Some.is)).0 in
    let o = drawing_opens _ _ _ _ (sym c.open_drawing.ensures ∙ c.in_ok-open_drawing.was) in
    let k = tried_some _ _ _ (sym c.try_from.ensures ∙ c.in-Ok.is) in
    let h = c.build_within-else-places-le32.ensures in
    record {
      answer = h.answer ∙ build-answers a.shapes.now a.anchors.now a.radii.now a.kind a.numbers.now a.flags.now s _ o _ k;
      numbers = h.numbers ∙ build-numbers a.shapes.now a.anchors.now a.radii.now a.kind a.numbers.now a.flags.now s _ o _ k;
      flags = h.flags ∙ build_flags_lem a.shapes.now a.anchors.now a.radii.now a.kind a.numbers.now a.flags.now s _ o _ k;
    }
