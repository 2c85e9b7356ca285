-- One encoded call: which of the three it is, and what running and telling it leaves. Assumes nothing.
use mathlib.Core.Path.{◌≡◌, refl, sym, ap, ◌∙◌}
use mathlib.Core.Bool.{Bool, true, false, cond}
use mathlib.Core.List.{List}
use Prim.Native.Nat.{ℕ, zero, suc, ◌+◌, ◌*◌}
use native.Mathlib.Omega.{arith}
use lib.Dec.{eqb}
use lib.ListN.{get_or}
use lib.Ieee.{Float}
use borrow.Author.Tests.{ne_eqb}
use Rattle.std.proofs.Common.{Result}
use Rattle.std.specs.Option.{ok_or}
use Rattle.std.specs.Result.{result_unwrap_or}
use Rattle.path.specs.declared.anchor.Anchor.{Anchor}
use Rattle.path.specs.Flat.{anchor_at}
use Rattle.session.specs.declared.answers.Edited.{Edited}
use Rattle.session.specs.Drawing.{Lent}
use Rattle.session.specs.Edits.{Call, move, set_radius, split}
use Rattle.session.specs.Calls.{call_answer, call_lists}
use Rattle.cached.specs.Doing.{Does}
use Rattle.replay.specs.declared.kind.CallKind.{CallKind}
use Rattle.replay.specs.declared.kind.CallKind.TheVariants.{Split}
use Rattle.replay.specs.Kinds.{call_kind, call_as}
use Rattle.replay.specs.Encoding.{call_of, call_at, answer_words, Small, subpath_of}
use Rattle.replay.specs.Replay.{call_words}
use Rattle.replay.proofs.Bounds.{small-answer}
use Rattle.refusal.specs.declared.Refusal.{Refusal}

-- ---- which of the three: its kind, and a split where the number is no kind's
call_is : {E : Type 0} (e : E) (which s i : ℕ) (given : Anchor) → call_as (result_unwrap_or (ok_or (call_kind which) e) Split) s i given ≡ call_of which s i given
unfolding call_kind call_as call_of
call_is e zero s i given = refl
call_is e (suc zero) s i given = refl
call_is e (suc (suc zero)) s i given = refl
call_is e (suc (suc (suc n))) s i given = rw (ne_eqb (suc (suc (suc n))) 0 (λ h. omega arith), ne_eqb (suc (suc (suc n))) 1 (λ h. omega arith))

-- each names its subpath
subpath-is : (which s i : ℕ) (given : Anchor) → subpath_of (call_of which s i given) ≡ s
unfolding call_of subpath_of
subpath-is which s i given = go (eqb which 0) (eqb which 1)
  where
    go : (a b : Bool) → subpath_of (cond a (move s i given) (cond b (set_radius s i given.p.x) (split s i given.p.x))) ≡ s
    go true b = refl
    go false true = refl
    go false false = refl

-- ---- call j of a list, read, run and told
module _ (codes : List ℕ) (values : List Float) (j : ℕ) where
  abbrev s : ℕ
  s = get_or codes (j * 3 + 1) 0

  abbrev i : ℕ
  i = get_or codes (j * 3 + 2) 0

  pub call_read : {E : Type 0} (e : E) (tried : Result CallKind E) (which : CallKind) (given : Anchor) → tried ≡ ok_or (call_kind (get_or codes (j * 3) 0)) e
      → which ≡ result_unwrap_or tried Split → given ≡ anchor_at values j → call_as which s i given ≡ call_at codes values j
  unfolding call_at
  call_read e tried which given is-tried is-which is-given = rw (is-which, is-tried, is-given) (call_is e (get_or codes (j * 3) 0) s i (anchor_at values j))

  sub_is : s ≡ subpath_of (call_at codes values j)
  unfolding call_at
  sub_is = sym (subpath-is (get_or codes (j * 3) 0) s i (anchor_at values j))

  module _ (l : Lent) (kind : ℕ) (call : Call) (edited : Result Edited Refusal) (left : Lent) (is-call : call ≡ call_at codes values j) (does : Does l kind call edited left) where
    pub call_lists_lem : left ≡ call_lists l kind (call_at codes values j)
    call_lists_lem = does.lists ∙ ap (call_lists l kind) is-call

    call-answer : edited ≡ call_answer l kind (call_at codes values j)
    call-answer = does.answer ∙ ap (call_answer l kind) is-call

    pub call-small : Small edited left.shapes s
    call-small = rw (call-answer, call_lists_lem, sub_is) (small-answer l kind (call_at codes values j))

    pub call-words : answer_words edited left.shapes s ≡ call_words kind l (call_at codes values j)
    unfolding call_words
    call-words = rw (call-answer, call_lists_lem, sub_is)
