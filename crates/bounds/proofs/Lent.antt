-- What a walk by hand cites of a `Bounds` that lies in a local and is lent by `&mut` to `add`. Rattle makes the two walks of `growing` by itself now.
--     lies_in, lies_out    a box in a local is what can be lent, and back
--     unit_typed           of the value that `add` returns
--     calls_add            the call `add(&mut b, p)` as one step: the local's box h becomes grown_of h p. Inside it a lifetime is made, the local is lent for it, `add` is called, the lifetime is ended, and the local is back at the last value that `add`'s contract says
-- Of the structs only the laws of the modules that `rt check` makes are used, and no field is named. Assumes `Logic`, and that the table's entry meets `add`'s contract.
use mathlib.Core.Path.{◌≡◌, refl, sym, ap, subst}
use Prim.Native.Nat.{ℕ}
use mathlib.Core.List.{[], ◌∷◌, List}
use seplogic.Ra.Ura.{Ura}
use base.Fraction.{full_share}
use lib.Dec.{T as Holds}
use mir.Syntax.{Place, Opd as Operand, Body as Code, named, ty_unit, seq, call}
use mir.Val.{Val, vunit, vptr, has_ty, WT}
use base.Logic.{SProp, ent, sep, guard, id⊢}
use base.Fml.{Fml, GName, ftrue, fsep, fat, flft, fres, flent}
use prog.Memory.{Memory}
use prog.Routine.{Routine}
use prog.Wp.{Env, Calls, Loops}
use types.Logic.{Logic, sem}
use contract.Monad.{Fun, fact}
use types.Kit.{Item, Post, runs, lands, Seq, ‵, raw, given, ◌⊛◌, some, later, ◌$◌, ◌∵◌, !, qed, move, keep, use1, use2, use3, rewrite, split, join, pick, learn, check, fsplit, fjoin, fpick, fpack, feq_l, frame, await, updating, now as at_once, done}
use types.Run.{Opds}
use types.Tokens.{lft_new, lft_end}
use types.SemTy.{Body}
use sound.WpLaws.{FmC}
use denote.Laws.{Is, shows}
use denote.Memory.{mem, cell_at, part_of}
use denote.Plain.{Nothing}
use denote.Ref.{MutBor, MutRef}
use denote.Lend.{lends_ref, ref_back}
use denote.Steps.{only, owned, facts, heard, nothing}
use denote.Struct.Steps.{spelt}
use denote.Struct.Laws as LL
use denote.Triple.Statement.{Contract, Triple}
use denote.Triple.Call.{calls_at}
use denote.Triple.Clauses.{ensured, lasts}
use denote.Triple.Spec.{triple_of}
use Rattle.geom.specs.Box.{grown as grown_of}
use Rattle.geom.specs.declared.point.P.{P}
use Rattle.geom.specs.declared.bounds.Bounds.{Bounds}
use Rattle.geom.specs.contracts.point.P as S
use Rattle.geom.proofs.point.P.TheLaws as S'
use Rattle.geom.specs.contracts.bounds.Bounds as T
use Rattle.geom.proofs.bounds.Bounds.TheLaws as T'
use Rattle.bounds.specs.contracts.growing.add as add
use Rattle.bounds.proofs.growing.add.Symbol.{name as #add}

-- the machine value of a box, and of a point
abbrev pub box : Bounds → Val
box = LL.val T.the_type T'.the_laws

abbrev pub point : P → Val
point = LL.val S.the_type S'.the_laws

-- what a call without a result leaves in its local
pub unit_typed : {u : Val} → u ≡ vunit → Holds (has_ty ty_unit u) × WT u
unit_typed e = subst (λ (y : Val). Holds (has_ty ty_unit y) × WT y) (sym e) (tt, tt)

-- the box h lies in the local at l
abbrev pub Lies : Bounds → ℕ → Fml
Lies h l = (mem T.the_row).own_at h l 0

module _ {M : Type 1} {𝓤 : Ura M} (𝓛 : Logic 𝓤) where
  pub lies_in : (h : Bounds) (v : Val) (l : ℕ) → Is T.the_row h (v ∷ []) → ent 𝓤 (sem 𝓛 (fat full_share T'.mir l 0 v)) (sem 𝓛 (Lies h l))
  unfolding part_of
  lies_in h v l gh =
      qed 𝓛 (‵ (fat full_share T'.mir l 0 v) ∷ []) ∵ use1 𝓛 (‵ (cell_at full_share (T.the_row).mir (v ∷ []) l 0)) (𝓛.laws.at_raw full_share T'.mir l 0 v) $
      owned ! T.the_row (Is T.the_row) (LL.makes T.the_type T'.the_plain 𝓛) h _ gh $ move ! (1 ∷ 0 ∷ []) $ fjoin ! $ fpack ! (List Val) (λ vs. fsep (cell_at full_share (T.the_row).mir vs l 0) ((T.the_row).own_val h vs)) (v ∷ []) $ done !

  pub lies_out : (h : Bounds) (l : ℕ) → ent 𝓤 (sem 𝓛 (Lies h l)) (guard 𝓤 (Is T.the_row h (box h ∷ [])) (sem 𝓛 (fat full_share T'.mir l 0 (box h))))
  unfolding part_of
  lies_out h l =
      qed 𝓛 (‵ (Lies h l) ∷ []) ∵ fpick ! (λ vs. fsplit ! $ spelt ! T.the_row (Is T.the_row) (shows 𝓛 T.the_row) (LL.vals T.the_type T'.the_laws) (LL.tells T.the_type T'.the_laws) full_share h vs l 0 $
      move ! (1 ∷ []) $ facts ! T.the_row (Is T.the_row) (shows 𝓛 T.the_row) h (box h ∷ []) (λ gh. use1 𝓛 (‵ (fat full_share T'.mir l 0 (box h))) (𝓛.laws.raw_at full_share T'.mir l 0 (box h)) $ check ! gh $ done !))

module _ {M : Type 1} {𝓤 : Ura M} (𝓛 : Logic 𝓤) (at_mem : Memory → SProp 𝓤) (run : Routine → Fun 𝓤) where
  -- the contract that a walk cites
  open 𝓛 use {H, A}

  abbrev pub Add : Contract 𝓤
  Add = triple_of 𝓛 add.signature (add.spec 𝓛 at_mem run)

  -- the local at l, lent for the lifetime α under the name γ, at the box h; and the point p with the machine value v
  module _ (h : Bounds) (p : P) (v : Val) (l α : ℕ) (γ : GName) where
    abbrev lent : MutBor Bounds
    lent = record { ref_ptr = (l, 0); ghost_name = γ; now = h }

    abbrev lent-own : Fml
    lent-own = (MutRef (named 0) (α ∷ []) T.the_row).own_val lent (vptr l 0 ∷ [])

    abbrev pub to-add : Add.Ghost
    to-add = (((α ∷ [], tt), (full_share, tt), tt, (lent, (p, tt)), (vptr l 0 ∷ [], (v ∷ [], tt))), tt)

    goes_add : Is S.the_row p (v ∷ []) → ent 𝓤 (sep 𝓤 (A.lft (α ∷ []) full_share) (sem 𝓛 lent-own)) (Add.pre to-add)
    goes_add gp =
        qed 𝓛 (‵ (flft (α ∷ []) full_share) ∷ ‵ lent-own ∷ []) ∵ nothing ! $ move ! (1 ∷ 0 ∷ []) $ join ! $
        nothing ! $ owned ! S.the_row (Is S.the_row) (LL.makes S.the_type S'.the_plain 𝓛) p _ gp $ fjoin ! $ move ! (2 ∷ 0 ∷ []) $ fjoin ! $ move ! (1 ∷ 0 ∷ []) $ join ! $ frame ! $ done !

    -- what the call gives: the token, and the reference's last value
    gives : (u : Val) → ent 𝓤 (Add.post to-add u) (H.⇛ (guard 𝓤 (u ≡ vunit) (sep 𝓤 (A.lft (α ∷ []) full_share) (A.res γ ((T.the_row).coded.code (grown_of h p))))))
    gives u =
        qed 𝓛 (raw (Add.post to-add u) ∷ []) ∵ updating ! $
        use1 𝓛 (later (some (λ (r : Unit {0}). ((‵ (flft (α ∷ []) full_share) ⊛ ‵ ftrue) ⊛ ‵ (Nothing.own_val r (u ∷ []))) ⊛ raw (ensured 𝓛 add.ended (add.clauses 𝓛 at_mem run) (α ∷ [], tt) (lent, (p, tt)) tt r)))) (id⊢ 𝓤 _) $ await ! tt $ pick ! (λ r.
        split ! $ move ! (1 ∷ []) $ use1 𝓛 (some (λ (zs : Bounds × (Unit {0} × Unit {0})). ‵ (lasts add.ended (α ∷ [], tt) (lent, (p, tt)) zs) ⊛ raw (fact 𝓤 (zs.0 ≡ grown_of h p)))) (id⊢ 𝓤 _) $ pick ! (λ zs.
        split ! $ move ! (1 ∷ []) $ heard ! (zs.0 ≡ grown_of h p) (λ e. fsplit ! $ fsplit ! $ rewrite ! 0 (λ (z : Bounds). ‵ (fres γ ((T.the_row).coded.code z))) e refl $
        -- [the last value; the borrow, closed; …; the token and the result]
        move ! (3 ∷ []) $ split ! $ move ! (1 ∷ []) $ feq_l ! (λ w. at_once ! $ check ! (ap only w) $ split ! $ keep ! (0 ∷ 2 ∷ []) $ done !))))

module _ {M : Type 1} {𝓤 : Ura M} {𝓛 : Logic 𝓤} {K : Type 0} {Γ : List (Item 𝓤)} {E : Env 𝓤 𝓛.H} {C : Calls 𝓤 𝓛.H} {Λ : Loops 𝓤 𝓛.H} {q : Post 𝓤 𝓛.H} {d : Place} {rest : Code} {xs : List Operand} where
  -- the operands are read with what `add` asks and the lender's part at the head of the context, where the box was
  open 𝓛 use {H}

  pub calls_add : K → FmC 𝓤 H 𝓛.laws C → (at_mem : Memory → SProp 𝓤) (run : Routine → Fun 𝓤) → Triple 𝓤 (C #add) (Add 𝓛 at_mem run) → (h : Bounds) (p : P) (v : Val) (l : ℕ) → Is S.the_row p (v ∷ [])
      → ((α : ℕ) (γ : GName) → Opds K 𝓛 (raw ((Add 𝓛 at_mem run).pre (to-add 𝓛 at_mem run h p v l α γ)) ∷ ‵ (flent (α ∷ []) (Body (mem T.the_row) l 0 γ)) ∷ Γ) E xs (vptr l 0 ∷ v ∷ []))
      → ((u : Val) → u ≡ vunit → Seq K 𝓛 (‵ (Lies (grown_of h p) l) ∷ Γ) (lands C Λ E d u rest q))
      → Seq K 𝓛 (‵ (Lies h l) ∷ Γ) (runs C Λ E (seq (call #add xs d) rest) q)
  calls_add t fm at_mem run known h p v l gp os k =
      lft_new t tt (λ α. move t (1 ∷ []) $
      use1 𝓛 (later (some (λ (γ : GName). ‵ (lent-own 𝓛 at_mem run h p v l α γ) ⊛ ‵ (flent (α ∷ []) (Body (mem T.the_row) l 0 γ))))) (lends_ref 𝓛 T.the_row (named 0) (α ∷ []) h l 0) $ await t tt $ pick t (λ γ. split t $
      -- [the reference; the lender's part; the token; …]
      move t (2 ∷ 0 ∷ []) $ use2 𝓛 (raw ((Add 𝓛 at_mem run).pre (to-add 𝓛 at_mem run h p v l α γ))) (goes_add 𝓛 at_mem run h p v l α γ gp) $
      calls_at t fm (Add 𝓛 at_mem run) known (to-add 𝓛 at_mem run h p v l α γ) (os α γ) (λ u.
      use1 𝓛 (later (given (u ≡ vunit) (‵ (flft (α ∷ []) full_share) ⊛ ‵ (fres γ ((T.the_row).coded.code (grown_of h p)))))) (gives 𝓛 at_mem run h p v l α γ u) $ await t tt $ learn t (λ w. split t $
      -- the lifetime is ended, and the local is back
      lft_end t tt $ move t (0 ∷ 2 ∷ 1 ∷ []) $ use3 𝓛 (later (‵ (Lies (grown_of h p) l))) (ref_back 𝓛 T.the_row (α ∷ []) γ (grown_of h p) l 0) $ await t tt $ k u w))))
