-- Runs of stores that follow each other, stores past the end, and texts that are put one after another. Assumes nothing.
use mathlib.Core.Path.{◌≡◌, refl, sym, ap, ap₂, ◌∙◌}
use mathlib.Core.Logic.{⊎_elim}
use mathlib.Core.List.{List, [], ◌∷◌, ◌++◌}
use Prim.Native.Nat.{ℕ, zero, suc, ◌+◌, ◌^◌, ◌≤◌, ◌<◌}
use native.Mathlib.Nat.{add-zero, not-suc-le-zero, le_of_suc-le-suc}
use native.Mathlib.Omega.{arith}
use lib.ListN.{length, set, take, drop, length-append}
use lib.Seq.{sets, sets-eq, length-sets}
use Rattle.std.proofs.lemmas.List.{set_comm}
use Rattle.views.proofs.Laws.{order}
use Rattle.decimal.specs.declared.text.Text.{Text}
use Rattle.decimal.specs.Put.{Put, Adds, counted}

pub sets_append : (a b l : List ℕ) (i : ℕ) → sets l i (a ++ b) ≡ sets (sets l i a) (i + length a) b
sets_append [] b l i = ap (λ k. sets l k b) (sym (add-zero i))
sets_append (x ∷ a) b l i = sets_append a b (set l i x) (suc i) ∙ ap (λ k. sets (sets (set l i x) (suc i) a) k b) (omega arith)

pub set_past : (l : List ℕ) (i b : ℕ) → length l ≤ i → set l i b ≡ l
set_past [] i b h = refl
set_past (x ∷ l) zero b h = absurd (not-suc-le-zero h)
set_past (x ∷ l) (suc i) b h = ap (λ t. x ∷ t) (set_past l i b (le_of_suc-le-suc h))

pub sets_past : (a l : List ℕ) (i : ℕ) → length l ≤ i → sets l i a ≡ l
sets_past [] l i h = refl
sets_past (b ∷ a) l i h = ap (λ m. sets m (suc i) a) (set_past l i b h) ∙ sets_past a l (suc i) (omega arith)

-- a store before others
set_first : (a l : List ℕ) (i k b : ℕ) → i < k → set (sets l k a) i b ≡ sets (set l i b) k a
set_first [] l i k b h = refl
set_first (x ∷ a) l i k b h = set_first a (set l k x) i (suc k) b (omega arith) ∙ ap (λ m. sets m (suc k) a) (set_comm l k i x b (λ e. omega arith))

pub sets_first : (a l : List ℕ) (i b : ℕ) → set (sets l (suc i) a) i b ≡ sets l i (b ∷ a)
sets_first a l i b = set_first a l i (suc i) b (omega arith)

pub sets_first_past : (a l : List ℕ) (i b : ℕ) → length l ≤ i → sets l (suc i) a ≡ sets l i (b ∷ a)
sets_first_past a l i b h = ap (λ m. sets m (suc i) a) (sym (set_past l i b h))

-- no list reaches where a usize stops counting
sets_counted : (l a : List ℕ) (i : ℕ) → length l < 2 ^ 64 → sets l (counted i) a ≡ sets l i a
sets_counted l a i h =
    ⊎_elim
    (λ p. sets_past a l (counted i) (omega arith) ∙ sym (sets_past a l i (omega arith)))
    (λ p. let e : counted i ≡ i = omega arith in ap (λ k. sets l k a) e)
    (order (2 ^ 64) i)

-- no text
pub no_text : {t : Text} → t.at < 2 ^ 64 → Adds t [] t
no_text h = record { same = refl; end = omega arith; list = refl }

-- a text past the end is counted and not stored
pub past : {t m : Text} (a : List ℕ) → length t.out.now ≤ t.at → m.out.ghost_name ≡ t.out.ghost_name → m.out.now ≡ t.out.now → m.at ≡ counted (t.at + length a) → Adds t a m
past {t} a h s l e = record { same = s; end = e; list = l ∙ sym (sets_past a t.out.now t.at h) }

-- one text after another
pub then : {t m n : Text} {a b : List ℕ} → length t.out.now < 2 ^ 64 → Adds t a m → Adds m b n → Adds t (a ++ b) n
then {t} {m} {n} {a} {b} h p q =
    let e : length (a ++ b) ≡ length a + length b = length-append a b in
    let l : length (sets t.out.now t.at a) < 2 ^ 64 = omega (arith, length-sets t.out.now t.at a) in
    record {
      same = q.same ∙ p.same;
      end = omega (arith, p.end, q.end, e);
      list = q.list ∙ ap (λ k. sets m.out.now k b) p.end ∙ ap (λ k. sets k (counted (t.at + length a)) b) p.list ∙ sets_counted (sets t.out.now t.at a) b (t.at + length a) l ∙ sym (sets_append a b t.out.now t.at);
    }

-- a text put into a list from a place on, whose end a usize counts to
pub from_place : {t m : Text} {l a : List ℕ} {at : ℕ} → t.out.now ≡ l → t.at ≡ at → Adds t a m → at + length a < 2 ^ 64 → Put l at a m.out.now m.at
from_place {a = a} e z p h = record { end = omega (arith, p.end, z); list = p.list ∙ ap₂ (λ k i. sets k i a) e z }

-- a text put into a list from its start, of fewer bytes than the largest number: it was counted whole
pub from_start : {t m : Text} {l a : List ℕ} → t.out.now ≡ l → t.at ≡ 0 → Adds t a m → m.at + 1 < 2 ^ 64 → Put l 0 a m.out.now m.at
from_start e z p h = from_place e z p (omega (arith, p.end, z))

-- ---- the same of a list and a place

-- a text past the end is counted and not stored
pub put_past : (l : List ℕ) (at to : ℕ) (a : List ℕ) → length l ≤ at → to ≡ at + length a → Put l at a l to
put_past l at to a h e = record { end = e; list = sym (sets_past a l at h) }

-- one text after another
pub put_then : {l m n : List ℕ} {at to next : ℕ} {a b : List ℕ} → Put l at a m to → Put m to b n next → Put l at (a ++ b) n next
put_then {l} {m} {n} {at} {to} {next} {a} {b} p q = record {
  end = q.end ∙ ap (λ k. k + length b) p.end ∙ (let e : length (a ++ b) ≡ length a + length b = length-append a b in omega arith);
  list = q.list ∙ ap (λ k. sets m k b) p.end ∙ ap (λ k. sets k (at + length a) b) p.list ∙ sym (sets_append a b l at);
}

-- no text
pub nothing : (l : List ℕ) (at : ℕ) → Put l at [] l at
nothing l at = record { end = sym (add-zero at); list = refl }

pub keeps : (l m : List ℕ) (at to : ℕ) (a : List ℕ) → Put l at a m to → length m ≡ length l
keeps l m at to a p = ap length p.list ∙ length-sets l at a

-- where there is room the list is what was before, the text, and what was after
pub roomy : (l m : List ℕ) (at to : ℕ) (a : List ℕ) → Put l at a m to → at + length a ≤ length l → m ≡ take at l ++ a ++ drop (at + length a) l
roomy l m at to a p h = p.list ∙ sets-eq a l at h
