-- The walk of `and`: it makes the struct without bytes, and says what was asked before and now.
use mathlib.Core.Path.{refl}
use mathlib.Core.List.{[], ◌∷◌}
use seplogic.Ra.Ura.{Ura}
use mir.Syntax.{named}
use mir.Val.{Val, vptr, vstruct, vnil}
use base.Logic.{SProp, ent, emp, via, fst∗}
use prog.Memory.{Memory}
use prog.Routine.{Routine}
use prog.Wp.{Calls, Loops, WpFn, Tables}
use types.Logic.{Logic}
use contract.Lifetimes.{Lfts, Shares, AllOutlive}
use contract.Monad.{Fun}
use contract.Running.{tables, tables_of}
use sound.WpLaws.{WpFn-mono}
use types.Kit.{‵, raw, ◌$◌, ◌∵◌, !, qed, move, suffices, done}
use types.Run.{no_more, returns, enter}
use types.Part.{agg}
use types.ByLocal.{alloc_all, pass_all, free_all, look_at, sets}
use denote.Exit.{yes}
use denote.RattleType.{owns}
use denote.Ref.{shr_vals, shr_Tells}
use denote.Shadow.{pure_i}
use denote.Signature.{plain, types_at, named_lft}
use denote.Triple.Entry.{on_entry, alive, Args}
use denote.Triple.Spec.{Meets, triple_of}
use denote.Triple.Table.{entered}
use denote.Triple.Walked.{says, stay_none_ref, Stays, walk_of, Walks, ends_at, walked, Goes-none_ref, walk_Meets}
use Rattle.pig_outside.specs.Asked.{and_asked}
use Rattle.pig_outside.specs.declared.history.History.{History}
use Rattle.pig_outside.specs.contracts.history.History as made
use Rattle.pig_outside.specs.contracts.history.Asked as asked
use Rattle.pig_outside.specs.contracts.history.History.and as it
use Rattle.pig_outside.specs.contracts.history.History.and.Key.{name as key}
use Rattle.pig_outside.proofs.history.History.and.Code as code
use Rattle.pig_outside.proofs.history.History.and.Statement as stated

abbrev stays : Stays (it.ended).signature.params (it.ended).kept
stays = (stay_none_ref (0 ∷ []) tt (plain (λ _. made.the_row)) yes, (stay_none_ref (1 ∷ []) tt (plain (λ κs. asked.the_row (named_lft 3 2 tt κs))) yes, tt))

module _ {M : Type 1} {𝓤 : Ura M} (𝓛 : Logic 𝓤) (mem : Memory → SProp 𝓤) (run : Routine → Fun 𝓤) (C : Calls 𝓤 𝓛.H) (Λ : Loops 𝓤 𝓛.H) where
  open 𝓛 use {H}

  module _ (κs : Lfts 3) (qs : Shares 3) (bounds : AllOutlive (it.ended).signature.lifetimes (it.ended).signature.outlives κs) (a : Args it.signature κs) where
    abbrev before : Val
    before = vptr a.0.ref_ptr.0 a.0.ref_ptr.1

    abbrev question : Val
    question = vptr a.1.0.ref_ptr.0 a.1.0.ref_ptr.1

    abbrev after : History
    after = and_asked a.0.now a.1.0.now

    abbrev ghost_is : (walk_of 𝓛 it.ended stays (it.clauses 𝓛 mem run)).Ghost
    ghost_is = ((κs, qs, bounds, a, (before ∷ [], (question ∷ [], tt))), tt)

    walk : ent 𝓤 (on_entry 𝓛 it.signature κs qs a (before ∷ [], (question ∷ [], tt)))
        (WpFn 𝓤 H C Λ code.function (before ∷ question ∷ []) ((walk_of 𝓛 it.ended stays (it.clauses 𝓛 mem run)).post ghost_is))
    walk =
        qed 𝓛 (raw (alive 𝓛 it.signature κs qs) ∷ ‵ (owns (types_at it.signature.params κs) a (before ∷ [], (question ∷ [], tt))) ∷ []) ∵
        enter ! C Λ code.function (before ∷ question ∷ []) _ $
        alloc_all ! (λ l. pass_all ! refl ((tt, tt), ((tt, tt), tt)) $ sets ! (agg ! (no_more !)) refl (tt, tt) $
        returns ! (look_at ! 0 refl) $ free_all ! refl $
        suffices ! _ (ends_at 𝓛 it.ended stays (it.clauses 𝓛 mem run) ghost_is (vstruct vnil) after (tt, (tt, tt)) (tt, (tt, tt))) $
        says ! refl $ pure_i ! (made.the_row.own_val after (vstruct vnil ∷ [])) ((λ vss. (tt, tt)), tt) ((tt, (refl, tt)), tt) $
        move ! (1 ∷ 2 ∷ 0 ∷ []) $ done !)

  walks : Walks 𝓛 it.ended stays (WpFn 𝓤 H C Λ code.function) (it.clauses 𝓛 mem run)
  walks =
      walked 𝓛 it.ended stays (it.clauses 𝓛 mem run) (WpFn 𝓤 H C Λ code.function) (λ κs. (shr_vals, (shr_vals, tt)))
      (λ κs. (shr_Tells (named 0) κs.0 made.the_row, (shr_Tells (named 1) κs.1.0 (asked.the_row (named_lft 3 2 tt κs)), tt)))
      (λ κs qs bounds a g are. via 𝓤 _ (fst∗ 𝓤 _ (emp 𝓤)) (walk κs qs bounds a))

meets : {M : Type 1} {𝓤 : Ura M} (𝓛 : Logic 𝓤) (mem : Memory → SProp 𝓤) (run : Routine → Fun 𝓤) (𝓣 : Tables 𝓤 𝓛.H)
    → Meets 𝓛 it.signature (WpFn 𝓤 𝓛.H 𝓣.C 𝓣.Λ code.function) (it.spec 𝓛 mem run)
meets {𝓤 = 𝓤} 𝓛 mem run 𝓣 =
    walk_Meets 𝓛 it.ended stays
    (Goes-none_ref 𝓛 3 (0 ∷ []) tt (plain (λ _. made.the_row)) yes, (Goes-none_ref 𝓛 3 (1 ∷ []) tt (plain (λ κs. asked.the_row (named_lft 3 2 tt κs))) yes, tt))
    (it.clauses 𝓛 mem run) (WpFn 𝓤 𝓛.H 𝓣.C 𝓣.Λ code.function) (WpFn-mono 𝓤 𝓛.H 𝓛.laws 𝓣 code.function) (walks 𝓛 mem run 𝓣.C 𝓣.Λ)

pub and_spec : {M : Type 1} → stated.statement M
unfolding tables_of
and_spec 𝓤 𝓛 𝓜 𝓡 w =
    let 𝓣 : Tables 𝓤 𝓛.H = tables_of 𝓤 𝓛.H 𝓜 (tables 𝓤 𝓛.H 𝓜 𝓡 𝓡.env) in
    entered 𝓤 𝓛.H (triple_of 𝓛 it.signature (it.spec 𝓛 𝓜.mem 𝓡.returns)) 𝓣.C 𝓣.Λ key code.function
    (code.unfolded 𝓤 𝓛.H 𝓜 𝓡 w) (meets 𝓛 𝓜.mem 𝓡.returns 𝓣)
