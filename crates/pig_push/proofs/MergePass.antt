-- What the pass over FILTERs that stand on FILTERs does at each of them.
use Rattle.std.specs.Prelude.{◌≡◌, ◌<◌, ◌&&◌, ℕ, zero, suc, false, List, [], ◌∷◌, ◌++◌, map, Err, IfOk, Ok, OnOk, Result, Some, slice_get, slice_set, refl}
use Rattle.std.proofs.Common.{ap, sym, ◌∙◌, subst, arith, append_assoc, append-nil}
use Rattle.std.specs.List.{flat_map}
use Rattle.std.specs.Option.{option_map}
use Rattle.std.proofs.lemmas.List.{map-append, map-set}
use Rattle.std.specs.declared.alloc.AllocError.{AllocError}
use Rattle.pig_value.proofs.list_laws.Indexing.{get_map}
use Rattle.pig_value.proofs.list_laws.Listing.{some_same}
use Rattle.pig_typed.specs.Typed.{Typed, typed, x_null}
use Rattle.pig_typed.specs.declared.exprs.TExpr.{TExpr}
use Rattle.pig_plan.proofs.Exchanged.{set_other}
use Rattle.pig_plan.specs.Conjuncts.{conjuncts}
use Rattle.pig_plan.specs.Meaning.{width_at}
use Rattle.pig_plan.specs.Nodes.{names}
use Rattle.pig_plan.specs.Plans.{Plan, PlanOp, op_of, p_filter, p_load, plan_of}
use Rattle.pig_plan.specs.Valid.{IsPlan}
use Rattle.pig_plan.specs.declared.nodes.Node.{Node}
use Rattle.pig_plan.specs.declared.nodes.NodeOp.{NodeOp}
use Rattle.pig_moves.specs.Pushed.{AreMoves, GoesOn, IsMove, chained, conjoined, low_of, one_more}
use Rattle.pig_moves.proofs.Chains.{conjuncts_kept}
use Rattle.pig_moves.proofs.Change.{itself}
use Rattle.pig_moves.proofs.Keeps.{node_with}
use Rattle.pig_moves.proofs.Merges.{joined_plan}
use Rattle.pig_moves.proofs.Steps.{filter_passes}
use Rattle.pig_push.specs.Lone.{AreSound, is_shared}
use Rattle.pig_push.specs.Merged.{AreOver, Merges, MergesOn, OnFilter, all_conjoined, gone_as, held_as, plan_held, with_all}
use Rattle.pig_push.specs.declared.merging.Held.{Held}
use Rattle.pig_push.specs.declared.readers.ReadCount.{ReadCount}
use Rattle.pig_push.proofs.LoneMoves.{high, still_lone}
use Rattle.pig_push.proofs.LoneReaders.{only_of_lone}

-- ---- conditions joined in turn

with_filter : (more : List Typed) (x : ℕ) (c : Typed) → with_all more (p_filter x c) ≡ p_filter x (all_conjoined c more)
with_filter [] x c = refl
with_filter (m ∷ more) x c = refl

conjoined_last : (c : Typed) (more : List Typed) (m : Typed) → all_conjoined c (more ++ m ∷ []) ≡ conjoined (all_conjoined c more) m
conjoined_last c [] m = refl
conjoined_last c (n ∷ more) m = conjoined_last (conjoined c n) more m

pub conjoined_are : (c m : Typed) (more : List Typed) → all_conjoined c (m ∷ more) ≡ chained (conjuncts c ++ flat_map conjuncts (m ∷ more))
conjoined_are c m [] = ap (λ cs. chained (conjuncts c ++ cs)) (sym (append-nil (conjuncts m)))
conjoined_are c m (n ∷ more) =
    conjoined_are (conjoined c m) n more
    ∙ ap (λ cs. chained (cs ++ flat_map conjuncts (n ∷ more))) (conjuncts_kept c m)
    ∙ ap chained (append_assoc (conjuncts c) (conjuncts m) (flat_map conjuncts (n ∷ more)))

pub conjoined_some : (c : Typed) (more : List Typed) → (more ≡ [] → ⊥) → chained (conjuncts c ++ flat_map conjuncts more) ≡ all_conjoined c more
conjoined_some c [] some = absurd (some refl)
conjoined_some c (m ∷ more) some = sym (conjoined_are c m more)

-- ---- one FILTER on another

merge_sound : (p q : Plan) (valid : IsPlan p) (i k : ℕ) (m : IsMove p q i k) (x : ℕ) (first : Typed) → m.can.below.op ≡ p_filter x first → (table : List ReadCount) → AreSound p table → AreSound q table
merge_sound p q valid i k m x first e table sound n h =
    still_lone p q valid i k m n (sound n h) (ap (λ o. names (low_of (width_at p) o m.can.cond) n && names (high p q valid i k m).op n) e)

by_move : (p q : Plan) (valid : IsPlan p) (valid_q : IsPlan q) (i k : ℕ) (m : IsMove p q i k) (x : ℕ) (first : Typed) → m.can.below.op ≡ p_filter x first → (table : List ReadCount) → AreSound p table
    → MergesOn table p q
by_move p q valid valid_q i k m x first e table sound = record {
  goes = λ before moves. one_more p q i k moves valid_q m;
  valid = valid_q;
  sound = merge_sound p q valid i k m x first e table sound;
}

module _ (p q : Plan) (i k x : ℕ) (first c : Typed) (own statement : ℕ) (table : List ReadCount) (under : slice_get p i ≡ Some (node_with (p_filter x first) own))
    (above : slice_get p k ≡ Some (node_with (p_filter i c) statement)) (lone : is_shared table i ≡ false)
    (is : q ≡ slice_set (slice_set p i (node_with (p_load [] 9 []) statement)) k (node_with (p_filter x (conjoined first c)) own)) where
  merges : Merges table p q
  merges valid sound =
      by_move p q valid
      (subst IsPlan (sym is) (joined_plan p valid i k x first c own statement under above (only_of_lone p i k (node_with (p_filter i c) statement) above (itself i) (sound i lone))))
      i k
      (record {
        can = record {
          below = node_with (p_filter x first) own;
          cond = c;
          statement = statement;
          stands = under;
          above = above;
          only = only_of_lone p i k (node_with (p_filter i c) statement) above (itself i) (sound i lone);
          passes = filter_passes (width_at p) x first c;
        };
        is = is;
        nests = λ inputs e. omega arith;
      })
      x first refl table sound

module _ (table : List ReadCount) (old new : List Held) (low high : ℕ) (f : OnFilter table old low high) (a : AreOver old new low high) where
  abbrev first : Typed
  first = all_conjoined f.first (map typed f.under.more)

  same_under : f.under ≡ a.under
  same_under = some_same f.under a.under (sym f.stands ∙ a.stands)

  same_above : f.above ≡ a.above
  same_above = some_same f.above a.above (sym f.over ∙ a.over)

  under_is : held_as f.under ≡ node_with (p_filter f.input first) f.under.node.statement
  under_is = ap (λ o. node_with (with_all (map typed f.under.more) o) f.under.node.statement) f.is_under ∙ ap (λ o. node_with o f.under.node.statement) (with_filter (map typed f.under.more) f.input f.first)

  above_is : held_as f.above ≡ node_with (p_filter low f.cond) f.above.node.statement
  above_is = λ z. node_with (with_all (f.plain z) (f.is_above z)) f.above.node.statement

  more_is : map typed a.both.more ≡ map typed f.under.more ++ f.cond ∷ []
  more_is = a.is_both.more low f.cond (ap (λ h. op_of h.node.op) (sym same_above) ∙ f.is_above) ∙ ap (λ h. map typed h.more ++ f.cond ∷ []) (sym same_under)

  both_is : held_as a.both ≡ node_with (p_filter f.input (conjoined first f.cond)) f.under.node.statement
  both_is =
      (λ z. node_with (with_all (more_is z) (op_of (a.is_both.node z).op)) (a.is_both.node z).statement)
      ∙ ap (λ h. node_with (with_all (map typed f.under.more ++ f.cond ∷ []) (op_of h.node.op)) h.node.statement) (sym same_under)
      ∙ ap (λ o. node_with (with_all (map typed f.under.more ++ f.cond ∷ []) o) f.under.node.statement) f.is_under
      ∙ ap (λ o. node_with o f.under.node.statement) (with_filter (map typed f.under.more ++ f.cond ∷ []) f.input f.first)
      ∙ ap (λ c. node_with (p_filter f.input c) f.under.node.statement) (conjoined_last f.first (map typed f.under.more) f.cond)

  gone_is : held_as a.gone ≡ node_with (p_load [] 9 []) f.above.node.statement
  gone_is = a.is_gone ∙ ap (λ h. gone_as h.node.statement) (sym same_above)

  new_is : plan_held new ≡ slice_set (slice_set (plan_held old) low (node_with (p_load [] 9 []) f.above.node.statement)) high (node_with (p_filter f.input (conjoined first f.cond)) f.under.node.statement)
  new_is =
      ap plan_held a.is ∙ map-set held_as (slice_set old low a.gone) high a.both
      ∙ ap (λ xs. slice_set xs high (held_as a.both)) (map-set held_as old low a.gone)
      ∙ (λ z. slice_set (slice_set (plan_held old) low (gone_is z)) high (both_is z))

  there : (k : ℕ) (h : Held) → slice_get old k ≡ Some h → slice_get (plan_held old) k ≡ Some (held_as h)
  there k h at = get_map held_as old k ∙ ap (option_map held_as) at

  pub merges_at : Merges table (plan_held old) (plan_held new)
  merges_at =
      merges (plan_held old) (plan_held new) low high f.input first f.cond f.under.node.statement f.above.node.statement table
      (there low f.under f.stands ∙ ap Some under_is) (there high f.above f.over ∙ ap Some above_is) f.lone new_is

-- ---- the pass

pub merges_none : (table : List ReadCount) (p : Plan) → Merges table p p
merges_none table p valid sound = record { goes = λ before moves. moves; valid = valid; sound = sound }

pub merges_more : (table : List ReadCount) (p q r : Plan) → MergesOn table p q → Merges table q r → MergesOn table p r
merges_more table p q r so_far next = let more = next so_far.valid so_far.sound in record {
  goes = λ before moves. more.goes before (so_far.goes before moves);
  valid = more.valid;
  sound = more.sound;
}

-- put in one place twice
pub set_twice : {X : Type 0} (xs : List X) (k : ℕ) (y z : X) → slice_set (slice_set xs k y) k z ≡ slice_set xs k z
set_twice [] k y z = refl
set_twice (x ∷ xs) zero y z = refl
set_twice (x ∷ xs) (suc k) y z = ap (λ ys. x ∷ ys) (set_twice xs k y z)

-- ---- nodes that are held

pub gone_held : (op : NodeOp) (statement : ℕ) (more : List TExpr) → more ≡ [] → op_of op ≡ p_load [] 9 [] → held_as (record { node = record { op = op; statement = statement }; more = more }) ≡ gone_as statement
gone_held op statement more none is = λ z. node_with (with_all (map typed (none z)) (is z)) statement

abbrev cond_of : PlanOp → Typed
cond_of (p_filter x c) = c
cond_of o = x_null

pub same_cond : (x y : ℕ) (c d : Typed) → p_filter x c ≡ p_filter y d → c ≡ d
same_cond x y c d h = ap cond_of h

pub more_held : (old new : List TExpr) (x : TExpr) (c : Typed) → new ≡ old ++ x ∷ [] → typed x ≡ c → map typed new ≡ map typed old ++ c ∷ []
more_held old new x c is same = ap (map typed) is ∙ map-append typed old (x ∷ []) ∙ ap (λ d. map typed old ++ d ∷ []) same

pub under_old : (old : List Held) (low high : ℕ) (spare under : Held) → low < high → slice_get (slice_set old high spare) low ≡ Some under → slice_get old low ≡ Some under
under_old old low high spare under below at = sym (set_other old high low spare (λ e. omega (arith, e, below))) ∙ at

-- put in one place, in another and in the first one again
pub set_around : {X : Type 0} (xs : List X) (i k : ℕ) (s g b : X) → (i ≡ k → ⊥) → slice_set (slice_set (slice_set xs k s) i g) k b ≡ slice_set (slice_set xs i g) k b
set_around [] i k s g b h = refl
set_around (x ∷ xs) zero zero s g b h = absurd (h refl)
set_around (x ∷ xs) zero (suc k) s g b h = ap (λ ys. g ∷ ys) (set_twice xs k s b)
set_around (x ∷ xs) (suc i) zero s g b h = refl
set_around (x ∷ xs) (suc i) (suc k) s g b h = ap (λ ys. x ∷ ys) (set_around xs i k s g b (λ e. h (ap (λ n. suc n) e)))

pub not_same : (low high : ℕ) → low < high → low ≡ high → ⊥
not_same low high below e = omega (arith, below, e)

pub none_typed : (xs : List TExpr) → xs ≡ [] → map typed xs ≡ []
none_typed xs none = ap (map typed) none

pub some_typed : (xs : List TExpr) → (xs ≡ [] → ⊥) → map typed xs ≡ [] → ⊥
some_typed [] some h = some refl
some_typed (x ∷ xs) some h = cc

pub joined_some : (c : Typed) (more all : List Typed) → (more ≡ [] → ⊥) → all ≡ conjuncts c ++ flat_map conjuncts more → chained all ≡ all_conjoined c more
joined_some c more all some are = ap chained are ∙ conjoined_some c more some

pub merges_first : (table : List ReadCount) (p q : Plan) → q ≡ p → IsPlan p → AreSound p table → MergesOn table p q
merges_first table p q is valid sound = record {
  goes = λ before moves. subst (AreMoves before) (sym is) moves;
  valid = subst IsPlan (sym is) valid;
  sound = subst (λ r. AreSound r table) (sym is) sound;
}

pub merges_done : (r : Result (List Node) AllocError) (table : List ReadCount) (p q : Plan) (nodes : List Node) → MergesOn table p q → plan_of nodes ≡ q → IfOk r (λ m. plan_of m ≡ plan_of nodes)
    → IfOk r (λ m. GoesOn p (plan_of m))
merges_done (Ok m) table p q nodes so_far are is = λ before moves. subst (AreMoves before) (sym (is ∙ are)) (so_far.goes before moves)
merges_done (Err e) table p q nodes so_far are is = tt

pub merges_at_ok : {T : Type 0} (r : Result T AllocError) (table : List ReadCount) (old new : List Held) (low high : ℕ) → OnFilter table old low high → OnOk r (AreOver old new low high)
    → OnOk r (Merges table (plan_held old) (plan_held new))
merges_at_ok (Ok u) table old new low high found over = merges_at table old new low high found over
merges_at_ok (Err e) table old new low high found over = tt
