-- A chain of `&&` as the code walks it: a test is made where all before it hold. Assumes nothing.
use mathlib.Core.Path.{◌≡◌, sym}
use mathlib.Core.Bool.{Bool, true, false, ◌&&◌, true≢false}

-- v is what the chain comes to after the tests t, which held, and u
pub and-made : (t u v : Bool) → t ≡ true → v ≡ u → v ≡ (t && u)
and-made true u v h e = e
and-made false u v h e = absurd (true≢false (sym h))

-- and after tests of which one failed
pub and_left : (t u v : Bool) → t ≡ false → v ≡ t → v ≡ (t && u)
and_left true u v h e = absurd (true≢false h)
and_left false u v h e = e
