-- After any list of edits, k of them taken back, newest first, leave the drawing that the edits before the last k made; the last 256 kept suffice for k up to 256. Assumes nothing.
use mathlib.Core.Path.{◌≡◌, refl, sym, ap, ◌∙◌}
use mathlib.Core.Logic.{⊎_elim}
use mathlib.Core.List.{List, [], ◌∷◌, ◌++◌}
use Prim.Native.Nat.{ℕ, suc, ◌-◌, ◌≤◌, ◌<◌}
use native.Mathlib.Nat.{le_refl}
use native.Mathlib.Omega.{arith}
use lib.ListN.{length, take, length-append}
use lib.Seq.{take_all, take-nil, take-append-le, take-take}
use Rattle.views.proofs.Laws.{order}
use Rattle.session.specs.Drawing.{Drawing}
use Rattle.session.specs.Edits.{Call, edit_of}
use Rattle.session.specs.Undo.{Entry, entry_of, reverse_of, made_by, entries_of, taken_back, AllThere}
use Rattle.session.proofs.Undo.{undone}

taken-append : (xs ys : List Entry) (d : Drawing) → taken_back d (xs ++ ys) ≡ taken_back (taken_back d xs) ys
unfolding taken_back
taken-append [] ys d = refl
taken-append (x ∷ xs) ys d = taken-append xs ys (reverse_of d x).made

entries_length : (cs : List Call) (d : Drawing) → length (entries_of d cs) ≡ length cs
unfolding entries_of
entries_length [] d = refl
entries_length (c ∷ cs) d = length-append (entries_of (edit_of d c).made cs) (entry_of d c ∷ []) ∙ (let e = entries_length cs (edit_of d c).made in omega arith)

pub all_undone : (cs : List Call) (d : Drawing) → AllThere d cs → (k : ℕ) → k ≤ length cs → taken_back (made_by d cs) (take k (entries_of d cs)) ≡ made_by d (take (length cs - k) cs)
unfolding taken_back made_by entries_of
all_undone [] d t k h = rw (take-nil k, take-nil (0 - k))
all_undone (c ∷ cs) d t k h = ⊎_elim some all (order k (length cs)) (all_undone cs (edit_of d c).made t.1)
  where
    now : Drawing
    now = (edit_of d c).made

    kept : List Entry
    kept = entries_of now cs

    some : k ≤ length cs → ((j : ℕ) → j ≤ length cs → taken_back (made_by now cs) (take j kept) ≡ made_by now (take (length cs - j) cs))
        → taken_back (made_by now cs) (take k (kept ++ entry_of d c ∷ [])) ≡ made_by d (take (suc (length cs) - k) (c ∷ cs))
    some l ih =
        let n = entries_length cs now in
        let e : suc (length cs) - k ≡ suc (length cs - k) = omega arith in
        rw (take-append-le k kept (entry_of d c ∷ []) (omega arith), e) (ih k l)

    all : length cs < k → ((j : ℕ) → j ≤ length cs → taken_back (made_by now cs) (take j kept) ≡ made_by now (take (length cs - j) cs))
        → taken_back (made_by now cs) (take k (kept ++ entry_of d c ∷ [])) ≡ made_by d (take (suc (length cs) - k) (c ∷ cs))
    all l ih =
        let n = entries_length cs now in
        let m = length-append kept (entry_of d c ∷ []) in
        let e : suc (length cs) - k ≡ 0 = omega arith in
        let z : length cs - length cs ≡ 0 = omega arith in
        let back : taken_back (made_by now cs) kept ≡ now = ap (taken_back (made_by now cs)) (sym (take_all (length cs) kept (omega arith))) ∙ ih (length cs) (le_refl (length cs)) ∙ ap (λ j. made_by now (take j cs)) z in
        rw (take_all k (kept ++ entry_of d c ∷ []) (omega arith), e)
        (taken-append kept (entry_of d c ∷ []) (made_by now cs) ∙ ap (λ x. taken_back x (entry_of d c ∷ [])) back ∙ (undone d c t.0.0 t.0.1).0)

pub last_undone : (cs : List Call) (d : Drawing) → AllThere d cs → (k : ℕ) → k ≤ length cs → k ≤ 256 → taken_back (made_by d cs) (take k (take 256 (entries_of d cs))) ≡ made_by d (take (length cs - k) cs)
last_undone cs d t k h l = ap (taken_back (made_by d cs)) (take-take k 256 (entries_of d cs) l) ∙ all_undone cs d t k h
