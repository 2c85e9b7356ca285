-- An entry more at each turn.
use Rattle.std.proofs.Common.{◌≡◌, ℕ, zero, suc, ◌+◌, ◌<◌, List, [], ◌∷◌, length, refl, ap, arith}
use native.Mathlib.Nat.{not-suc-le-zero, le_of_suc-le-suc}
use lib.ListN.{set}
use Rattle.views.specs.View.{overwrite}
use Rattle.call_list.proofs.calls.fill.Goals as goal

none : {A : Type 0} (f : ℕ → A) (xs : List A) → xs ≡ overwrite 0 f xs
unfolding overwrite
none f [] = refl
none f (x ∷ xs) = refl

more : {A : Type 0} (f : ℕ → A) (k : ℕ) (xs : List A) → k < length xs → set (overwrite k f xs) k (f k) ≡ overwrite (suc k) f xs
unfolding overwrite
more f k [] h = absurd (not-suc-le-zero h)
more f zero (x ∷ xs) h = ap (λ l. f 0 ∷ l) (none (λ i. f (suc i)) xs)
more f (suc k) (x ∷ xs) h = ap (λ l. f 0 ∷ l) (more (λ i. f (suc i)) k xs (le_of_suc-le-suc h))

pub loop-k-init : goal.loop-k-init
loop-k-init g c = λ f h. none f c.args.list.now

pub loop-k-preserved : goal.loop-k-preserved
loop-k-preserved g c = λ f h.
    let l = c.loop-k in
    let xs = c.args.list.now in
    let room : l.k < length xs = omega arith in
    let one : c.entry.result ≡ f l.k = h l.k c.entry.result c.loop-k-test.true c.entry.ensures in
    let next : l.k + 1 ≡ suc l.k = omega arith in
    rw (l.invariant f h, one, next) (more f l.k xs room)

pub returns : goal.returns
returns g c = λ f h.
    let e : c.loop-k.k ≡ length c.args.list.now = omega arith in
    rw (← e) (c.loop-k.invariant f h)
