-- `call::handing::hand_over`: each return cites what the tests before it found.
use Rattle.std.proofs.Common.{sym, ◌∙◌}
use native.Mathlib.Omega.{arith}
use lib.Ieee.{nan}
use Rattle.path.proofs.Limits.{first_is, none_is}
use Rattle.call.proofs.Handings.{room, few_words, few_numbers, handed_bad, handed-short, handed-all, handed-refused, handed_accepted}
use Rattle.call.proofs.handing.hand_over.Goals as goal

pub returns-in-Some : goal.returns-in-Some
returns-in-Some c =
    let a = c.args in
    let h = handed-refused a.words.now a.made.now a.to_shapes.now a.to.now _ (handed_bad _ _ _ _ _ ((first_is _ _ _).0 (sym c.first_bad_anchor.ensures ∙ c.in-Some.is))) in
    record { answer = rw c.at.ensures h.0; shapes = h.1; anchors = h.2 }

pub returns-then-to_shapes-words : goal.returns-then-to_shapes-words
returns-then-to_shapes-words c =
    let a = c.args in
    let h = handed-refused a.words.now a.made.now a.to_shapes.now a.to.now _ (handed-short _ _ _ _ ((none_is _ _).0 (sym c.first_bad_anchor.ensures ∙ c.in_default.is)) (few_words _ _ _ _ (omega arith))) in
    record { answer = rw c.at-then-to_shapes-words.ensures h.0; shapes = h.1; anchors = h.2 }

pub returns-then-to-count : goal.returns-then-to-count
returns-then-to-count c =
    let a = c.args in
    let n = c.total_of-count.ensures in
    let h = handed-refused a.words.now a.made.now a.to_shapes.now a.to.now _ (handed-short _ _ _ _ ((none_is _ _).0 (sym c.first_bad_anchor.ensures ∙ c.in_default.is)) (few_numbers _ _ _ _ (omega arith))) in
    record { answer = rw c.at-then-to-count.ensures h.0; shapes = h.1; anchors = h.2 }

pub returns : goal.returns
returns c =
    let a = c.args in
    let n = c.total_of-count.ensures in
    let h = handed_accepted a.words.now a.made.now a.to_shapes.now a.to.now (handed-all _ _ _ _ ((none_is _ _).0 (sym c.first_bad_anchor.ensures ∙ c.in_default.is)) (room _ _ _ _ (omega arith) (omega arith))) in
    record { answer = rw n h.0; shapes = c.copy.ensures 0 ∙ h.1; anchors = c.copy-2.ensures nan ∙ rw n h.2 }
