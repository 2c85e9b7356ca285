-- Lists that are passed some numbers at a time: a call's three words of code and five words of answer. Assumes nothing.
use mathlib.Core.Path.{◌≡◌, sym, ap, ◌∙◌}
use mathlib.Core.List.{List, ◌++◌}
use Prim.Native.Nat.{ℕ, ◌+◌, ◌*◌, ◌≤◌, ◌<◌}
use native.Mathlib.Omega.{arith}
use lib.ListN.{length, length-append, get_or, get_or-append, take, drop}
use lib.Seq.{length-take-le, get_or-take, drop-append_seam}
use Rattle.std.proofs.lemmas.List.{drop-drop, length-drop, get_or-drop}

-- ---- xs is the next part of the first b numbers of a list, of which a have come
module _ (list xs rest : List ℕ) (a b : ℕ) (room : b ≤ length list) (next : drop a (take b list) ≡ xs ++ rest) where
  rest_is : (c : ℕ) → a + length xs ≡ c → rest ≡ drop c (take b list)
  rest_is c e = sym (drop-append_seam xs rest) ∙ ap (drop (length xs)) (sym next) ∙ drop-drop (length xs) a (take b list) ∙ ap (λ n. drop n (take b list)) e

  part_in : 0 < length xs → a + length xs ≤ b
  part_in h = omega (arith, length-take-le b list room, length-drop a (take b list), ap length next, length-append xs rest)

  entry_is : (e k : ℕ) → e < length xs → a + e ≡ k → get_or xs e 0 ≡ get_or list k 0
  entry_is e k h f =
      let inside = part_in (omega arith) in
      sym (get_or-append xs rest 0 e h) ∙ ap (λ ys. get_or ys e 0) (sym next) ∙ get_or-drop a (take b list) e 0 ∙ get_or-take b list (a + e) 0 (omega arith) ∙ ap (λ n. get_or list n 0) f

-- ---- call j of m
pub record Call (codes answers code answer codes_left answers_left : List ℕ) (j m : ℕ) : Type 0 where
  pub inside : j < m
  pub codes_rest : codes_left ≡ drop ((j + 1) * 3) (take (m * 3) codes)
  pub answers_rest : answers_left ≡ drop ((j + 1) * 5) (take (m * 5) answers)
  pub which : get_or code 0 0 ≡ get_or codes (j * 3) 0
  pub index : get_or code 2 0 ≡ get_or codes (j * 3 + 2) 0
  pub number : get_or answer 0 0 ≡ get_or answers (j * 5) 0
  pub second : get_or answer 1 0 ≡ get_or answers (j * 5 + 1) 0
  pub first : get_or answer 3 0 ≡ get_or answers (j * 5 + 3) 0
  pub word : get_or answer 4 0 ≡ get_or answers (j * 5 + 4) 0

pub call_next : (codes answers code answer codes_left answers_left : List ℕ) (j m : ℕ) → m * 3 ≤ length codes → m * 5 ≤ length answers
    → drop (j * 3) (take (m * 3) codes) ≡ code ++ codes_left → length code ≡ 3 → drop (j * 5) (take (m * 5) answers) ≡ answer ++ answers_left → length answer ≡ 5
    → Call codes answers code answer codes_left answers_left j m
call_next codes answers code answer codes_left answers_left j m r s e three f five = record {
  inside = omega (arith, part_in codes code codes_left (j * 3) (m * 3) r e (omega arith));
  codes_rest = rest_is codes code codes_left (j * 3) (m * 3) r e ((j + 1) * 3) (omega arith);
  answers_rest = rest_is answers answer answers_left (j * 5) (m * 5) s f ((j + 1) * 5) (omega arith);
  which = entry_is codes code codes_left (j * 3) (m * 3) r e 0 (j * 3) (omega arith) (omega arith);
  index = entry_is codes code codes_left (j * 3) (m * 3) r e 2 (j * 3 + 2) (omega arith) (omega arith);
  number = entry_is answers answer answers_left (j * 5) (m * 5) s f 0 (j * 5) (omega arith) (omega arith);
  second = entry_is answers answer answers_left (j * 5) (m * 5) s f 1 (j * 5 + 1) (omega arith) (omega arith);
  first = entry_is answers answer answers_left (j * 5) (m * 5) s f 3 (j * 5 + 3) (omega arith) (omega arith);
  word = entry_is answers answer answers_left (j * 5) (m * 5) s f 4 (j * 5 + 4) (omega arith) (omega arith);
}

-- after the last call no whole part is left of either list
pub none_left : (list : List ℕ) (a b n : ℕ) → b ≤ length list → a ≤ b → length (drop a (take b list)) < n → b < a + n
none_left list a b n room h l = omega (arith, length-take-le b list room, length-drop a (take b list))
