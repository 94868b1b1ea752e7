-- Once nodes are shared, no two live ones do the same to the same inputs.
use Rattle.std.specs.Prelude.{◌≡◌, ◌<◌, ◌==◌, ℕ, Bool, true, false, not, map, length, Some, slice_get, refl}
use Rattle.std.proofs.Common.{ap, sym, ◌∙◌, subst, arith, true≢false}
use Rattle.std.specs.List.{AllByRecursion, list_any}
use Rattle.std.proofs.lemmas.Option.{slice_get_within}
use Rattle.pig_value.proofs.list_laws.Indexing.{some_at}
use Rattle.pig_plan.proofs.Lower.{names_lower}
use Rattle.pig_plan.proofs.Meanings.{live_input}
use Rattle.pig_plan.specs.Nodes.{inputs_of, is_live, is_sorted, is_store, names}
use Rattle.pig_plan.specs.Plans.{Plan, PlanNode, PlanOp, p_load, p_filter, p_foreach, p_group_all, p_group, p_join, p_union, p_distinct, p_order, p_limit, p_store, p_assert, p_rank}
use Rattle.pig_plan.specs.Renumbered.{rename, renamed}
use Rattle.pig_plan.specs.Valid.{IsPlan, in_order}
use Rattle.pig_plan.proofs.Living.{Came, User, came, member, store_renamed, user_of}
use Rattle.pig_share.specs.Shared.{EachIsOnce, IsNamedBy, IsOne, IsShared, apart_in, is_apart}
use Rattle.pig_share.proofs.Limits.{sorted_input}
use Rattle.pig_share.proofs.Living.{Back, back, was_live}
use Rattle.pig_share.proofs.InOrder.{order_kept}
use Rattle.pig_plan.proofs.Renumbering.{inputs_renamed}
use Rattle.pig_share.proofs.Shares.{there}

store_apart : (ordered : Bool) (sorted : ℕ → Bool) (o : PlanOp) → is_store o ≡ true → is_apart ordered sorted o ≡ true
store_apart ordered sorted (p_store input path delim) h = refl
store_apart ordered sorted (p_limit input count) h = absurd (true≢false (sym h))
store_apart ordered sorted (p_assert input c message) h = absurd (true≢false (sym h))
store_apart ordered sorted (p_load path delim columns) h = h
store_apart ordered sorted (p_filter input c) h = h
store_apart ordered sorted (p_foreach input block) h = h
store_apart ordered sorted (p_group_all input) h = h
store_apart ordered sorted (p_group inputs) h = h
store_apart ordered sorted (p_join inputs side replicated) h = h
store_apart ordered sorted (p_union inputs) h = h
store_apart ordered sorted (p_distinct input) h = h
store_apart ordered sorted (p_order input keys) h = h
store_apart ordered sorted (p_rank input keys dense) h = h

module _ (p : Plan) (at : ℕ → ℕ) (valid : IsPlan p) (valid_q : IsPlan (map (renamed at) p)) (named : (k : ℕ) (v : PlanNode) → slice_get p k ≡ Some v → IsNamedBy p at k v) (one : IsOne p at) where
  -- what a node is named by is named by itself
  settles : (i : ℕ) (v : PlanNode) → slice_get p i ≡ Some v → is_live p i ≡ true → (b : Bool) → apart_in p v.op ≡ b → at (at i) ≡ at i
  settles i v stands alive true e = ap at ((named i v stands).apart e)
  settles i v stands alive false e =
      let by : IsNamedBy p at i v = named i v stands in
      sym (one i (at i) v by.first stands by.stands alive (by.lives alive) e (by.free e) (sym by.same))

  -- so each live node of the shared plan is named by itself
  itself : (k : ℕ) (v : PlanNode) → slice_get p k ≡ Some v → is_live (map (renamed at) p) k ≡ true → at k ≡ k
  itself k v stands alive = by_store (is_store v.op) refl
    where
      by_user : User (map (renamed at) p) k → at k ≡ k
      by_user user =
          let b : Back p at valid valid_q named user.m user.u = back p at valid valid_q named user.m user.u user.stands in
          let c : Came at k (inputs_of b.v.op) = came at k (inputs_of b.v.op)
          (ap (λ ns. list_any (λ i. i == k) ns) (sym (inputs_renamed at b.v.op)) ∙ ap (λ w. names w.op k) b.is ∙ user.name) in
          let lower : c.i < user.m = member (λ i. i < user.m) c.i (inputs_of b.v.op) (names_lower p valid user.m b.v b.stands) c.name in
          let within : user.m < length p = slice_get_within p user.m b.v b.stands in
          let found = some_at p c.i (omega (arith, lower, within)) in
          let lives : is_live p c.i ≡ true = live_input p user.m b.v b.stands (was_live p at valid valid_q named user.m b.v b.stands user.lives) c.i lower found.0 found.1 c.name in
          ap at (sym c.there) ∙ settles c.i found.0 found.1 lives (apart_in p found.0.op) refl ∙ c.there

      by_store : (b : Bool) → is_store v.op ≡ b → at k ≡ k
      by_store true e = (named k v stands).apart (store_apart (in_order p) (is_sorted p) v.op e)
      by_store false e = by_user (user_of (map (renamed at) p) k (renamed at v) (there p at valid valid_q named k v stands) (store_renamed at v.op ∙ e) alive)

  apart_op : (k statement : ℕ) (o : PlanOp) → slice_get p k ≡ Some (record { op = o; statement = statement }) → AllByRecursion (λ i. i < k) (inputs_of o)
      → apart_in (map (renamed at) p) (rename at o) ≡ apart_in p o
  apart_op k statement (p_limit input count) stands lower = ap not (sorted_input p at valid valid_q named k input (record { op = p_limit input count; statement = statement }) stands lower.0)
  apart_op k statement (p_load path delim columns) stands lower = refl
  apart_op k statement (p_filter input c) stands lower = refl
  apart_op k statement (p_foreach input block) stands lower = refl
  apart_op k statement (p_group_all input) stands lower = refl
  apart_op k statement (p_group inputs) stands lower = refl
  apart_op k statement (p_join inputs side replicated) stands lower = refl
  apart_op k statement (p_union inputs) stands lower = refl
  apart_op k statement (p_distinct input) stands lower = refl
  apart_op k statement (p_order input keys) stands lower = refl
  apart_op k statement (p_store input path delim) stands lower = refl
  apart_op k statement (p_assert input c message) stands lower = ap not (order_kept at p)
  apart_op k statement (p_rank input keys dense) stands lower = refl

  pub each_once : EachIsOnce (map (renamed at) p)
  each_once j k v w stands_v stands_w alive_v alive_w apart same =
      let a : Back p at valid valid_q named j v = back p at valid valid_q named j v stands_v in
      let b : Back p at valid valid_q named k w = back p at valid valid_q named k w stands_w in
      let stays : apart_in p a.v.op ≡ false =
      sym (apart_op j a.v.statement a.v.op a.stands (names_lower p valid j a.v a.stands)) ∙ ap (λ n. apart_in (map (renamed at) p) n.op) a.is ∙ apart in
      let stays_too : apart_in p b.v.op ≡ false =
      sym (apart_op k b.v.statement b.v.op b.stands (names_lower p valid k b.v b.stands)) ∙ ap (λ n. apart_in (map (renamed at) p) n.op) b.is
      ∙ ap (apart_in (map (renamed at) p)) (sym same) ∙ apart in
      sym (itself j a.v a.stands alive_v)
      ∙ one j k a.v b.v a.stands b.stands (was_live p at valid valid_q named j a.v a.stands alive_v) (was_live p at valid valid_q named k b.v b.stands alive_w) stays stays_too
      (ap (λ n. n.op) a.is ∙ same ∙ sym (ap (λ n. n.op) b.is))
      ∙ itself k b.v b.stands alive_w

pub shared_once : (p q : Plan) (at : ℕ → ℕ) → IsPlan p → IsPlan q → IsShared p q at → EachIsOnce q
shared_once p q at valid valid_q is =
    subst EachIsOnce (sym is.nodes) (each_once p at valid (subst IsPlan is.nodes valid_q) is.named is.one)
