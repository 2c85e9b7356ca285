-- What the cached edits answer and what they leave in the lent lists, on any cache; and the fresh cache they start from. Assumes nothing.
use Rattle.std.proofs.Common.{Result}
use Rattle.std.specs.Prelude.{ℕ, ◌+◌, ◌*◌, ◌/◌, ◌%◌, Bool, not, ◌&&◌, ◌||◌, cond, List, leb, length, get_or, Float}
use Rattle.views.specs.View.{entry, overwrite}
use Rattle.views.specs.Search.{count}
use Rattle.refusal.specs.declared.Refusal.{Refusal}
use Rattle.refusal.specs.Order.{Test, passes, holds, Verdict, accepted, refused, verdict, tests, answering}
use Rattle.path.specs.Shape.{total}
use Rattle.path.specs.Flat.{anchor_numbers}
use Rattle.call.specs.Tests.{places, drawing_fits, drawing_limit}
use Rattle.corner.specs.Kinds.{kind_of, is_known}
use Rattle.session.specs.declared.answers.Edited.{Edited}
use Rattle.session.specs.Drawing.{Lent, drawn}
use Rattle.cache.specs.Cache.{cached_numbers, cached_flags, cached_in}
use Rattle.cache.specs.Tests.{cache_fits}
use Rattle.cache.specs.Calls.{build_verdict, build_numbers, build_flags}
use Rattle.path.specs.Limit.{anchor_good}
use Rattle.session.specs.Edits.{Call, Edit, edit_of, places_of}

-- ---- tests
-- 7: a drawing, and a cache for it
unfoldable pub lists_fit : Lent → Bool
lists_fit l = cache_fits l.shapes l.numbers l.flags && drawing_fits l.shapes l.anchors l.radii

-- 9: the anchors that an edit writes in the drawing, then the places that it recuts
unfoldable pub written_good : Edit → ℕ → Bool
written_good e k = not (e.writes k) || anchor_good (e.made.anchor k)

unfoldable pub recut_good : Edit → ℕ → Bool
recut_good e k = not (e.recuts k) || cached_in (places_of e.made) k

unfoldable pub edit_limit : Edit → Test
edit_limit e = let n = total e.made.shapes in places (written_good e) n (places (recut_good e) n passes)

-- 8: every list is long enough for n places
unfoldable pub room_in : Lent → ℕ → Bool
room_in l n = leb (n * 6) (length l.anchors) && (leb n (length l.radii) && (leb (n * 12) (length l.numbers) && leb n (length l.flags)))

-- ---- an edit: its verdict, and what it leaves
unfoldable pub edit_verdict : Lent → ℕ → Edit → Verdict
edit_verdict l kind e =
    let n = total e.made.shapes in
    verdict
    (tests
    (holds (lists_fit l) 0)
    (drawing_limit l.shapes l.anchors l.radii (is_known (kind_of kind) && e.loose))
    (holds e.known 0)
    (holds (leb n 512) 0)
    (edit_limit e)
    (holds (room_in l n) 0))

-- how many places were recut, and how many anchors there are
unfoldable pub edit_answer : Verdict → ℕ → ℕ → Result Edited Refusal
edit_answer v recut n = answering v (record { recut = recut; anchors = n })

-- number j of the cache: of a place recut, or what stood there; and the flag of place k
unfoldable pub numbers_after : Edit → List Float → ℕ → Float
numbers_after e xs j = cond (e.recuts (j / 12)) (cached_numbers (places_of e.made) j) (entry xs (e.stood (j / 12) * 12 + j % 12))

unfoldable pub flags_after : Edit → List ℕ → ℕ → ℕ
flags_after e fs k = cond (e.recuts k) (cached_flags (places_of e.made) k) (get_or fs (e.stood k) 0)

unfoldable pub edited_lists : Lent → Edit → Lent
edited_lists l e =
    let n = total e.made.shapes in
    record {
      shapes = e.made.shapes;
      anchors = overwrite (n * 6) (anchor_numbers e.made.anchor) l.anchors;
      radii = overwrite n e.made.radius l.radii;
      numbers = overwrite (n * 12) (numbers_after e l.numbers) l.numbers;
      flags = overwrite n (flags_after e l.flags) l.flags;
    }

-- the lists at exit: a refusal leaves every bit
unfoldable pub lists_after : Verdict → Lent → Lent → Lent
lists_after accepted now before = now
lists_after (refused why) now before = before

-- ---- WHAT THE CONTRACTS OF THE CACHED EDITS CITE
unfoldable pub call_verdict : Lent → ℕ → Call → Verdict
call_verdict l kind c = edit_verdict l kind (edit_of (drawn l kind) c)

unfoldable pub call_answer : Lent → ℕ → Call → Result Edited Refusal
call_answer l kind c =
    let e = edit_of (drawn l kind) c in
    let n = total e.made.shapes in
    edit_answer (call_verdict l kind c) (count e.recuts n) n

unfoldable pub call_lists : Lent → ℕ → Call → Lent
call_lists l kind c = lists_after (call_verdict l kind c) (edited_lists l (edit_of (drawn l kind) c)) l

-- ---- the fresh cache of the drawing, in the lists
unfoldable pub built_verdict : Lent → ℕ → Verdict
built_verdict l kind = build_verdict l.shapes l.anchors l.radii kind l.numbers l.flags

unfoldable pub built_lists : Lent → ℕ → Lent
built_lists l kind =
    record {
      shapes = l.shapes;
      anchors = l.anchors;
      radii = l.radii;
      numbers = build_numbers l.shapes l.anchors l.radii kind l.numbers l.flags;
      flags = build_flags l.shapes l.anchors l.radii kind l.numbers l.flags;
    }
