-- Where the nodes of a plan stand in the order of their statements, and its STOREs have paths of their own, the shared plan has no two
-- live nodes alike but for bare LIMITs.
use Rattle.std.specs.Prelude.{◌≡◌, ◌≤◌, ℕ, Bool, true, false, not, List, map, Option, Some, None, slice_get, refl}
use Rattle.std.proofs.Common.{ap, sym, ◌∙◌, subst, true≢false}
use Rattle.std.specs.Option.{option_map}
use Rattle.std.proofs.lemmas.Option.{none-some}
use Rattle.std.proofs.lemmas.Slice.Eq.{bytes_eq-Decides}
use Rattle.pig_value.proofs.list_laws.Indexing.{get_map}
use Rattle.pig_value.proofs.list_laws.Listing.{some_same}
use Rattle.pig_plan.specs.Nodes.{is_bare, is_sorted, is_store}
use Rattle.pig_plan.specs.Plans.{Plan, PlanNode, PlanOp, p_limit, p_store, p_assert}
use Rattle.pig_plan.specs.Renumbered.{rename, renamed}
use Rattle.pig_plan.specs.Valid.{in_order}
use Rattle.pig_share.specs.Shared.{EachIsOnce, HaveOwnPaths, IsSharable, IsShared, NoTwoAlike, SharesAll, is_apart, stores_in}
use Rattle.pig_share.specs.Table.{Shares, at_of}
use Rattle.pig_share.proofs.InOrder.{no_later_before, order_kept}

-- ---- operators

path_of : (o : PlanOp) → is_store o ≡ true → (path : List ℕ) × (stores_in path o ≡ true)
path_of (p_store input path delim) h = (path, (bytes_eq-Decides path path).1 refl)
path_of o h = absurd (true≢false (sym h))

same_path : (at : ℕ → ℕ) (path : List ℕ) (o : PlanOp) → stores_in path (rename at o) ≡ stores_in path o
same_path at path (p_store input other delim) = refl
same_path at path o = refl

-- in order, only a bare LIMIT or a STORE stays apart
shared_else : (ordered : Bool) (sorted : ℕ → Bool) (o : PlanOp) → ordered ≡ true → is_bare sorted o ≡ false → is_store o ≡ false → is_apart ordered sorted o ≡ false
shared_else ordered sorted (p_limit input count) order bare store = bare
shared_else ordered sorted (p_store input path delim) order bare store = absurd (true≢false store)
shared_else ordered sorted (p_assert input cond message) order bare store = ap not order
shared_else ordered sorted o order bare store = refl

-- ---- nodes

module _ (p : Plan) (at : ℕ → ℕ) (own : HaveOwnPaths p) where
  -- the node that a node of the shared plan was
  record Was (k : ℕ) (w : PlanNode) : Type 0 where
    v : PlanNode
    stands : slice_get p k ≡ Some v
    is : renamed at v ≡ w

  was : (k : ℕ) (w : PlanNode) → slice_get (map (renamed at) p) k ≡ Some w → Was k w
  was k w stands = by_found (slice_get p k) refl
    where
      by_found : (o : Option PlanNode) → slice_get p k ≡ o → Was k w
      by_found None e = absurd (none-some w (ap (option_map (renamed at)) (sym e) ∙ sym (get_map (renamed at) p k) ∙ stands))
      by_found (Some v) e = record { v = v; stands = e; is = some_same (renamed at v) w (ap (option_map (renamed at)) (sym e) ∙ sym (get_map (renamed at) p k) ∙ stands) }

  paths_kept : HaveOwnPaths (map (renamed at) p)
  paths_kept j k v w path stands_v stands_w stores_v stores_w =
      let a : Was j v = was j v stands_v in
      let b : Was k w = was k w stands_w in
      own j k a.v b.v path a.stands b.stands
      (sym (same_path at path a.v.op) ∙ ap (λ n. stores_in path n.op) a.is ∙ stores_v)
      (sym (same_path at path b.v.op) ∙ ap (λ n. stores_in path n.op) b.is ∙ stores_w)

-- no two nodes are alike where those that stay apart are bare LIMITs and STOREs of paths of their own
none_alike : (q : Plan) → in_order q ≡ true → HaveOwnPaths q → EachIsOnce q → NoTwoAlike q
none_alike q order own once j k v w stands_v stands_w alive_v alive_w bare same = by_store (is_store v.op) refl
  where
    by_store : (b : Bool) → is_store v.op ≡ b → j ≡ k
    by_store true e =
        let t = path_of v.op e in
        own j k v w t.0 stands_v stands_w t.1 (ap (stores_in t.0) (sym same) ∙ t.1)
    by_store false e = once j k v w stands_v stands_w alive_v alive_w (shared_else (in_order q) (is_sorted q) v.op order bare e) same

pub ordered_share_all : (p q : Plan) (at : ℕ → ℕ) → in_order p ≡ true → HaveOwnPaths p → IsShared p q at → EachIsOnce q → NoTwoAlike q
ordered_share_all p q at order own is once =
    none_alike q (ap in_order is.nodes ∙ order_kept at p ∙ order) (subst HaveOwnPaths (sym is.nodes) (paths_kept p at own)) once

pub lower_stays : (p q : Plan) (at : ℕ → ℕ) → in_order p ≡ true → IsShared p q at → (k : ℕ) (v first : PlanNode) → slice_get p k ≡ Some v → slice_get p (at k) ≡ Some first
    → first.statement ≤ v.statement
lower_stays p q at order is k v first stands stands_first = no_later_before p order (at k) k first v (is.named k v stands).early stands_first stands

pub shares_all : (p q : Plan) → Shares p q → EachIsOnce q → IsSharable p → SharesAll p q
shares_all p q s once may = record {
  at = at_of s.table;
  is = s.is;
  once = ordered_share_all p q (at_of s.table) may.ordered may.own s.is once;
  lower = lower_stays p q (at_of s.table) may.ordered s.is;
}
