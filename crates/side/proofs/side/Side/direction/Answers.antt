-- The first end that is far enough, of the three.
use Rattle.std.proofs.Common.{Some, [], ◌∷◌, ℕ, zero, suc, ◌≡◌, ◌<◌, true, false}
use mathlib.Core.Path.{refl, ap, sym, ◌∙◌}
use native.Mathlib.Omega.{arith}
use lib.Ieee.{lt, nan}
use lib.ListN.{get_or}
use Rattle.geom.specs.declared.point.P.{P}
use Rattle.geom.specs.Point.{point, minus, len}
use Rattle.geom.specs.Flat.{pt}
use Rattle.cubic.specs.Cubic.{CEPS}
use Rattle.side.specs.declared.side.Side.{Side}
use Rattle.side.specs.Side.{unit, towards, direction}
use Rattle.side.proofs.side.Side.direction.Goals as goal

-- from the start to end j
leg : Side → ℕ → P
leg o j = minus (get_or (pt o.c 1 ∷ pt o.c 2 ∷ pt o.c 3 ∷ []) j (point nan nan)) (pt o.c 0)

abbrev Near : Side → ℕ → Type 0
Near o k = (j : ℕ) → j < k → lt CEPS (len (leg o j)) ≡ false

found : (o : Side) (k : ℕ) → k < 3 → Near o k → lt CEPS (len (leg o k)) ≡ true → Some (unit (leg o k)) ≡ direction o
unfolding direction towards leg
found o zero l n far = rw far refl
found o (suc zero) l n far = rw (n 0 (omega arith), far) refl
found o (suc (suc zero)) l n far = rw (n 0 (omega arith), n 1 (omega arith), far) refl
found o (suc (suc (suc k))) l n far = absurd (omega arith)

pub returns-then-beyond : goal.returns-then-beyond
unfolding unit leg
returns-then-beyond c =
    let d = c.sub-d.ensures in
    rw (c.mul-along.ensures, c.len-far.ensures, d)
    (found c.args.self c.loop-end.end-index (omega arith) c.loop-end.invariant (ap (λ p. lt CEPS (len p)) (sym d) ∙ sym c.beyond.ensures ∙ c.if-beyond.true))

pub returns : goal.returns
unfolding direction towards
returns c =
    let n = c.loop-end.invariant in
    rw (n 0 (omega arith), n 1 (omega arith), n 2 (omega arith)) refl
