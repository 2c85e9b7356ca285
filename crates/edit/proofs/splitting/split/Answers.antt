-- `edit::splitting::split` meets its contract: one law for each answer.
use Rattle.std.proofs.Common.{◌≡◌, ℕ, ◌+◌, ◌<◌, arith, List, length, rules, Err}
use mathlib.Core.Path.{◌∙◌, sym}
use Rattle.path.specs.Shape.{count_of, total, word_at, start, next}
use Rattle.path.proofs.Shapes.{total_in}
use Rattle.call.proofs.Openings.{path_opens}
use Rattle.edit.specs.Split.{Ends}
use Rattle.edit.proofs.Segments.{segment_says, next_other}
use Rattle.edit.proofs.Outcomes.{split-refused, not_opened, no_parameter, no_subpath, no_segment, one_segment, unknown, full, then-between}
use Rattle.edit.proofs.splitting.split.Goals as goal

pub returns-in_err-n : goal.returns-in_err-n
returns-in_err-n c =
    let a = c.args in
    let e : c.from_residual.result ≡ Err c.in_err-n.field-0.0 = search rules in
    let h = split-refused _ _ a.s a.a a.t _ (not_opened _ _ a.s a.a a.t _ (sym c.open_path.ensures ∙ c.in_err-n.was)) in
    record { answer = e ∙ h.0; shapes = h.1; anchors = h.2 }

pub returns-then-not-in_limit : goal.returns-then-not-in_limit
returns-then-not-in_limit c =
    let a = c.args in
    let o = path_opens 512 _ _ _ (sym c.open_path.ensures ∙ c.in_ok-n.was) in
    let h = split-refused a.shapes.now a.anchors.now a.s a.a a.t _ (no_parameter _ _ _ o a.s a.a a.t (sym c.in_limit.ensures ∙ c.if-not-in_limit.true)) in
    record { answer = rw c.at.ensures h.0; shapes = h.1; anchors = h.2 }

pub returns-then-shapes-s : goal.returns-then-shapes-s
returns-then-shapes-s c =
    let a = c.args in
    let o = path_opens 512 _ _ _ (sym c.open_path.ensures ∙ c.in_ok-n.was) in
    let t = sym c.in_limit.ensures ∙ c.if-not-in_limit.false in
    let h = split-refused a.shapes.now a.anchors.now a.s a.a a.t _ (unknown _ _ _ o a.s a.a a.t t (no_subpath _ _ _ o a.s a.a a.t (omega (arith, c.if-shapes-s.true)))) in
    record { answer = rw c.at-then-shapes-s.ensures h.0; shapes = h.1; anchors = h.2 }

pub returns-then-not-has_segment : goal.returns-then-not-has_segment
returns-then-not-has_segment c =
    let a = c.args in
    let o = path_opens 512 _ _ _ (sym c.open_path.ensures ∙ c.in_ok-n.was) in
    let t = sym c.in_limit.ensures ∙ c.if-not-in_limit.false in
    let told = rw (c.count_of-count.ensures, c.closed_of.ensures) at c.has_segment.ensures in
    let h = split-refused a.shapes.now a.anchors.now a.s a.a a.t _ (unknown _ _ _ o a.s a.a a.t t (no_segment _ _ _ o a.s a.a a.t (sym told ∙ c.if-not-has_segment.true))) in
    record { answer = rw c.at-then-not-has_segment.ensures h.0; shapes = h.1; anchors = h.2 }

pub returns-then-n-ge512 : goal.returns-then-n-ge512
returns-then-n-ge512 c =
    let a = c.args in
    let o = path_opens 512 _ _ _ (sym c.open_path.ensures ∙ c.in_ok-n.was) in
    let t = sym c.in_limit.ensures ∙ c.if-not-in_limit.false in
    let told = rw (c.count_of-count.ensures, c.closed_of.ensures) at c.has_segment.ensures in
    let known = one_segment _ _ _ o a.s a.a a.t (omega (arith, c.if-shapes-s.false)) (sym told ∙ c.if-not-has_segment.false) in
    let h = split-refused a.shapes.now a.anchors.now a.s a.a a.t _ (full _ _ _ o a.s a.a a.t t known (omega (arith, c.if-n-ge512.true))) in
    record { answer = rw c.at-then-n-ge512.ensures h.0; shapes = h.1; anchors = h.2 }

pub start_of-first-requires : goal.start_of-first-requires
start_of-first-requires c = (omega (arith, c.if-shapes-s.false), (path_opens 512 _ _ _ (sym c.open_path.ensures ∙ c.in_ok-n.was)).words)

pub next-requires : goal.next-requires
next-requires c =
    let told = rw (c.count_of-count.ensures, c.closed_of.ensures) at c.has_segment.ensures in
    let w = segment_says _ _ _ (sym told ∙ c.if-not-has_segment.false) in
    omega (arith, w.0, c.count_of-count.ensures)

-- the ends of the segment that starts at index a, where subpath s has m anchors
ends : (shapes : List ℕ) (n s a first m b : ℕ) → n ≡ total shapes → s < length shapes → first ≡ start shapes s → m ≡ count_of (word_at shapes s) → b ≡ next m a → (a < m) × (1 < m) → n < 512
    → Ends n (first + a) (first + b)
ends shapes n s a first m b k l f e g w q =
    let o = next_other m a w.0 w.1 in
    let t = total_in shapes s l in
    record { from = omega (arith, w.0); to = omega (arith, o.0, g); apart = λ x. o.1 (omega (arith, x, g)); few = q }

pub overflow_add-b : goal.overflow_add-b
overflow_add-b c =
    let told = rw c.closed_of.ensures at c.has_segment.ensures in
    let o = path_opens 512 _ _ _ (sym c.open_path.ensures ∙ c.in_ok-n.was) in
    let e = ends c.args.shapes.now c.in_ok-n.n c.args.s c.args.a _ _ _ o.count (omega (arith, c.if-shapes-s.false)) c.start_of-first.ensures c.count_of-count.ensures c.next.ensures (segment_says _ _ _ (sym told ∙ c.if-not-has_segment.false)) (omega (arith, c.if-n-ge512.false)) in
    record { fits = omega (arith, e.to, c.if-n-ge512.false) }

-- the segment goes from a place of the path to another
apart : (c : goal.After-split_between-arg-2-1) → let first = c.start_of-first.result in Ends c.in_ok-n.n (first + c.args.a) (first + c.next.result)
apart c =
    let told = rw c.closed_of.ensures at c.has_segment.ensures in
    let o = path_opens 512 _ _ _ (sym c.open_path.ensures ∙ c.in_ok-n.was) in
    ends c.args.shapes.now c.in_ok-n.n c.args.s c.args.a _ _ _ o.count (omega (arith, c.if-shapes-s.false)) c.start_of-first.ensures c.count_of-count.ensures c.next.ensures (segment_says _ _ _ (sym told ∙ c.if-not-has_segment.false)) (omega (arith, c.if-n-ge512.false))

pub overflow_add-first : goal.overflow_add-first
overflow_add-first c = let e = apart c in record { fits = omega (arith, e.from, c.if-n-ge512.false) }

pub split_between-requires : goal.split_between-requires
split_between-requires c =
    let o = path_opens 512 _ _ _ (sym c.open_path.ensures ∙ c.in_ok-n.was) in
    let l : c.args.s < length c.args.shapes.now = omega (arith, c.if-shapes-s.false) in
    let k = o.count in
    (record { there = l; few = omega (arith, total_in c.args.shapes.now c.args.s l, c.if-n-ge512.false) }, apart c, omega (arith, o.long), rw k o.good)

pub returns : goal.returns
returns c =
    let a = c.args in
    let o = path_opens 512 _ _ _ (sym c.open_path.ensures ∙ c.in_ok-n.was) in
    let t = sym c.in_limit.ensures ∙ c.if-not-in_limit.false in
    let told = rw (c.count_of-count.ensures, c.closed_of.ensures) at c.has_segment.ensures in
    let known = one_segment _ _ _ o a.s a.a a.t (omega (arith, c.if-shapes-s.false)) (sym told ∙ c.if-not-has_segment.false) in
    let h = then-between _ _ _ o a.s a.a a.t t known (omega (arith, c.if-n-ge512.false)) _ _ c.start_of-first.ensures (rw c.count_of-count.ensures at c.next.ensures) in
    let e = c.split_between.ensures in
    record { answer = e.answer ∙ h.0; shapes = e.shapes ∙ h.1; anchors = e.anchors ∙ h.2 }
