-- What a call's tests come to, and what the call then answers and leaves. Assumes nothing.
use mathlib.Core.Path.{◌≡◌}
use mathlib.Core.Bool.{Bool, true, false, ◌&&◌, and-false}
use mathlib.Core.List.{List}
use Prim.Native.Nat.{ℕ, ◌*◌, ◌≤◌, ◌<◌}
use lib.ListN.{length}
use lib.Ieee.{Float}
use borrow.Author.Tests.{le-leb, lt-leb}
use Rattle.views.specs.View.{overwrite}
use Rattle.geom.specs.declared.point.P.{P}
use Rattle.geom.specs.Flat.{coordinates}
use Rattle.refusal.specs.Reasons.{refusal_at}
use Rattle.refusal.specs.declared.Refusal.{Refusal}
use Rattle.refusal.specs.declared.Reason.TheVariants.{Arguments, Output, Made}
use Rattle.refusal.specs.Order.{holds, judge, first_failing, verdict, tests, Verdict, accepted, refused}
use Rattle.cubic_calls.specs.Calls.{judged, left, fits}

-- ---- the room for some points
pub room : (count : ℕ) (out : List Float) → 2 * count ≤ length out → fits count out ≡ true
unfolding fits
room count out h = le-leb (2 * count) (length out) h

pub no_room : (count : ℕ) (out : List Float) → length out < 2 * count → fits count out ≡ false
unfolding fits
no_room count out h = lt-leb (2 * count) (length out) h

-- ---- two tests
pub first_fails : {a : Bool} (b : Bool) → a ≡ false → (a && b) ≡ false
first_fails b p = rw p

pub second_fails : (a : Bool) {b : Bool} → b ≡ false → (a && b) ≡ false
second_fails a p = rw p (and-false a)

-- ---- the verdict
pub given_fails : {given : Bool} (made room : Bool) → given ≡ false → judged given made room ≡ refused (refusal_at Arguments 0)
unfolding judged verdict first_failing judge tests holds
given_fails made room g = rw g

pub made_fails : {given made : Bool} (room : Bool) → given ≡ true → made ≡ false → judged given made room ≡ refused (refusal_at Made 0)
unfolding judged verdict first_failing judge tests holds
made_fails room g m = rw (g, m)

pub room_fails : {given made room : Bool} → given ≡ true → made ≡ true → room ≡ false → judged given made room ≡ refused (refusal_at Output 0)
unfolding judged verdict first_failing judge tests holds
room_fails g m r = rw (g, m, r)

pub all_hold : {given made room : Bool} → given ≡ true → made ≡ true → room ≡ true → judged given made room ≡ accepted
unfolding judged verdict first_failing judge tests holds
all_hold g m r = rw (g, m, r)

-- ---- a lent list
pub kept : {v : Verdict} {why : Refusal} (count : ℕ) (f : ℕ → P) (out : List Float) → v ≡ refused why → out ≡ left v count f out
unfolding left
kept count f out e = rw e

pub written : {v : Verdict} (count : ℕ) (f : ℕ → P) (out : List Float) → v ≡ accepted → overwrite (2 * count) (coordinates f) out ≡ left v count f out
unfolding left
written count f out e = rw e
