-- What is found before a node, from the tests of the code; where naming begins, and that it ends with a plan that shares its nodes.
use Rattle.std.specs.Prelude.{◌≡◌, ◌<◌, ◌≤◌, ◌+◌, ◌&&◌, not, ℕ, zero, suc, Bool, true, false, List, [], ◌∷◌, ◌++◌, map, take, length, Some, slice_get, get_or, refl}
use Rattle.std.proofs.Common.{ap, sym, ◌∙◌, subst, arith, inl, inr, append-nil, true≢false}
use Rattle.std.proofs.Math.Nat.{eq-or-lt_of_le}
use Rattle.std.specs.List.{range_with_len}
use Rattle.std.specs.Option.{option_map}
use Rattle.std.proofs.lemmas.Option.{get_or_from_slice_get, slice_get_within}
use Rattle.pig_value.proofs.list_laws.Indexing.{get_map, some_at}
use Rattle.pig_value.proofs.list_laws.Listing.{some_same}
use Rattle.pig_plan.specs.declared.nodes.Node.{Node}
use Rattle.pig_plan.specs.Nodes.{is_live, is_sorted, live_marks, sorted_marks}
use Rattle.pig_plan.specs.Plans.{Plan, PlanNode, plan_of}
use Rattle.pig_plan.specs.Renumbered.{rename, renamed}
use Rattle.pig_plan.specs.Results.{at_place}
use Rattle.pig_share.specs.Same.{columns_of, same_op}
use Rattle.pig_share.specs.Shared.{EachIsOnce, apart_in, is_apart}
use Rattle.pig_plan.specs.Valid.{IsPlan, in_order}
use Rattle.pig_share.specs.Table.{DoesSame, IsFound, IsRenamedAt, IsSoFar, Shares, apart_list, at_of, earlier, none}
use Rattle.pig_share.proofs.Steps.{goes_on, numbered}
use Rattle.pig_plan.specs.Rewrites.{SameMeaning}
use Rattle.pig_share.proofs.Meaning.{shared_means}
use Rattle.pig_share.proofs.Once.{shared_once}
use Rattle.pig_share.proofs.SameLaws.{op_same, renamed_itself}

both : (a b : Bool) → (a && b) ≡ true → (a ≡ true) × (b ≡ true)
both true b h = (refl, h)
both false b h = absurd (true≢false (sym h))

not_false : (b : Bool) → not b ≡ true → b ≡ false
not_false true h = absurd (true≢false (sym h))
not_false false h = refl

pub get_taken : {X : Type 0} (xs : List X) (k j : ℕ) → j < k → slice_get (take k xs) j ≡ slice_get xs j
get_taken xs zero j h = absurd (omega (arith, h))
get_taken [] (suc k) j h = refl
get_taken (x ∷ xs) (suc k) zero h = refl
get_taken (x ∷ xs) (suc k) (suc j) h = get_taken xs k j (omega (arith, h))

-- ---- marks

range_get : (a n i : ℕ) → i < n → slice_get (range_with_len a n) i ≡ Some (a + i)
range_get a zero i h = absurd (omega (arith, h))
range_get a (suc n) zero h = let e : a ≡ a + zero = omega arith in ap Some e
range_get a (suc n) (suc i) h = let e : (a + 1) + i ≡ a + suc i = omega arith in range_get (a + 1) n i (omega (arith, h)) ∙ ap Some e

mark_is : (p : Plan) (k : ℕ) (v : PlanNode) → slice_get p k ≡ Some v → get_or (live_marks p) k false ≡ is_live p k
mark_is p k v stands =
    let e : 0 + k ≡ k = omega arith in
    get_or_from_slice_get (live_marks p) k (is_live p k) false
    (get_map (is_live p) (range_with_len 0 (length p)) k ∙ ap (option_map (is_live p)) (range_get 0 (length p) k (slice_get_within p k v stands)) ∙ ap (λ n. Some (is_live p n)) e)

apart_is : (p : Plan) (k : ℕ) (v : PlanNode) → slice_get p k ≡ Some v → get_or (apart_list p) k false ≡ apart_in p v.op
apart_is p k v stands =
    get_or_from_slice_get (apart_list p) k (apart_in p v.op) false
    (get_map (λ node. apart_in p node.op) p k ∙ ap (option_map (λ node. apart_in p node.op)) stands)

pub open_is : (p : Plan) (live apart : List Bool) (k : ℕ) (mark own : Bool) → live ≡ live_marks p → apart ≡ apart_list p → mark ≡ get_or live k false
    → own ≡ get_or apart k false → (v : PlanNode) → slice_get p k ≡ Some v → (mark && not own) ≡ (is_live p k && not (apart_in p v.op))
open_is p live apart k mark own is_l is_a is_mark is_own v stands =
    let marked : mark ≡ is_live p k = is_mark ∙ ap (λ xs. get_or xs k false) is_l ∙ mark_is p k v stands in
    let free : own ≡ apart_in p v.op = is_own ∙ ap (λ xs. get_or xs k false) is_a ∙ apart_is p k v stands in
    λ j. marked j && not (free j)

-- the marks of nodes that stay apart, as they are made
pub apart_made : (p : Plan) (made sorted : List Bool) (ordered : Bool) → made ≡ map (λ node. is_apart ordered (at_place false sorted) node.op) p → ordered ≡ in_order p
    → sorted ≡ sorted_marks p → made ≡ apart_list p
apart_made p made sorted ordered is is_o is_s = is ∙ (λ j. map (λ node. is_apart (is_o j) (at_place false (is_s j)) node.op) p)

-- ---- the tests of two nodes

module _ (p : Plan) (table : List ℕ) (i j : ℕ) (v w : PlanNode) (stands_i : slice_get p i ≡ Some v) (stands_j : slice_get p j ≡ Some w) (a b c : Bool)
    (this_open : a ≡ (is_live p i && not (apart_in p v.op))) (that_open : b ≡ (is_live p j && not (apart_in p w.op)))
    (same : c ≡ same_op (rename (at_of table) w.op) (rename (at_of table) v.op))
    (columns : c ≡ true → columns_of (rename (at_of table) w.op) ≡ columns_of (rename (at_of table) v.op)) where
  pub does : ((a && b) && c) ≡ true → DoesSame p table i j
  does h =
      let t = both (a && b) c h in
      let u = both a b t.0 in
      let x = both (is_live p i) (not (apart_in p v.op)) (sym this_open ∙ u.0) in
      let y = both (is_live p j) (not (apart_in p w.op)) (sym that_open ∙ u.1) in
      record {
        v = v;
        w = w;
        stands_i = stands_i;
        stands_j = stands_j;
        lives_i = x.0;
        lives_j = y.0;
        free_i = not_false (apart_in p v.op) x.1;
        free_j = not_false (apart_in p w.op) y.1;
        same = op_same (rename (at_of table) w.op) (rename (at_of table) v.op) (columns t.1) (sym same ∙ t.1);
      }

  pub passes : DoesSame p table i j → ((a && b) && c) ≡ true
  passes d =
      let e : d.v ≡ v = some_same d.v v (sym d.stands_i ∙ stands_i) in
      let f : d.w ≡ w = some_same d.w w (sym d.stands_j ∙ stands_j) in
      let one : a ≡ true = this_open ∙ (λ k. d.lives_i k && not (apart_in p ((sym e k).op))) ∙ ap not d.free_i in
      let two : b ≡ true = that_open ∙ (λ k. d.lives_j k && not (apart_in p ((sym f k).op))) ∙ ap not d.free_j in
      let is : rename (at_of table) w.op ≡ rename (at_of table) v.op = ap (λ x. rename (at_of table) x.op) (sym f) ∙ d.same ∙ ap (λ x. rename (at_of table) x.op) e in
      let three : c ≡ true = same ∙ ap (λ o. same_op o (rename (at_of table) v.op)) is ∙ renamed_itself (at_of table) (in_order p) (is_sorted p) v.op (ap (λ x. apart_in p x.op) (sym e) ∙ d.free_i) in
      λ k. (one k && two k) && three k

-- ---- the beginning, and the end

take_whole : (xs : Plan) (n : ℕ) → n ≡ length xs → take n xs ≡ xs
take_whole [] zero h = refl
take_whole [] (suc n) h = refl
take_whole (x ∷ xs) zero h = absurd (let e : 0 ≡ suc (length xs) = h in omega arith)
take_whole (x ∷ xs) (suc n) h = ap (λ ys. x ∷ ys) (take_whole xs n (let e : suc n ≡ suc (length xs) = h in omega arith))

pub all_named : (p : Plan) (table : List ℕ) (made : Plan) (n : ℕ) → n ≡ length p → IsSoFar p table made n → Shares p made
all_named p table made n whole so_far = record {
  table = table ++ [];
  is = record {
    nodes = so_far.nodes [] ∙ ap (map (renamed (at_of (table ++ [])))) (take_whole p n whole);
    named = λ k v stands. let within = slice_get_within p k v stands in so_far.named [] k v (omega (arith, within, whole)) stands;
    one = λ j k v w at_j at_k.
        let within_j = slice_get_within p j v at_j in
        let within_k = slice_get_within p k w at_k in
        so_far.one [] j k v w (omega (arith, within_j, whole)) (omega (arith, within_k, whole)) at_j at_k;
  };
}

pub length_plan : (nodes : List Node) → length (plan_of nodes) ≡ length nodes
length_plan [] = refl
length_plan (node ∷ nodes) = ap (λ n. suc n) (length_plan nodes)

-- one node more
pub next_so_far : (nodes : List Node) (table longer : List ℕ) (made grown : Plan) (i n : ℕ) (node : PlanNode) → IsPlan (plan_of nodes) → i < length nodes
    → IsSoFar (plan_of nodes) table made i → IsRenamedAt (plan_of nodes) table i node → IsFound (plan_of nodes) table i n
    → longer ≡ table ++ n ∷ [] → grown ≡ made ++ node ∷ [] → IsSoFar (plan_of nodes) longer grown (i + 1)
next_so_far nodes table longer made grown i n node valid within so_far is found is_longer is_grown =
    let size = length_plan nodes in
    let at_i = some_at (plan_of nodes) i (omega (arith, within, size)) in
    let next : IsSoFar (plan_of nodes) (table ++ n ∷ []) (made ++ renamed (at_of table) at_i.0 ∷ []) (i + 1) =
    goes_on (plan_of nodes) valid table made i so_far at_i.0 at_i.1 n (numbered (plan_of nodes) table i n at_i.0 at_i.1 found) in
    subst (λ xs. IsSoFar (plan_of nodes) xs grown (i + 1)) (sym is_longer)
    (subst (λ ys. IsSoFar (plan_of nodes) (table ++ n ∷ []) ys (i + 1)) (sym (is_grown ∙ ap (λ x. made ++ x ∷ []) (is at_i.0 at_i.1))) next)

-- the tests at a place
module _ (nodes : List Node) (table : List ℕ) (made : Plan) (i j : ℕ) (node : PlanNode) (within : i < length nodes) (before : j < i)
    (so_far : IsSoFar (plan_of nodes) table made i) (is : IsRenamedAt (plan_of nodes) table i node) (a b c : Bool)
    (this_open : (v : PlanNode) → slice_get (plan_of nodes) i ≡ Some v → a ≡ (is_live (plan_of nodes) i && not (apart_in (plan_of nodes) v.op)))
    (that_open : (v : PlanNode) → slice_get (plan_of nodes) j ≡ Some v → b ≡ (is_live (plan_of nodes) j && not (apart_in (plan_of nodes) v.op)))
    (same : (u : PlanNode) → slice_get made j ≡ Some u → c ≡ same_op u.op node.op)
    (columns : (u : PlanNode) → slice_get made j ≡ Some u → c ≡ true → columns_of u.op ≡ columns_of node.op) where
  record Ready : Type 0 where
    pub v : PlanNode
    pub w : PlanNode
    pub at_i : slice_get (plan_of nodes) i ≡ Some v
    pub at_j : slice_get (plan_of nodes) j ≡ Some w
    pub is_same : c ≡ same_op (rename (at_of table) w.op) (rename (at_of table) v.op)
    pub same_columns : c ≡ true → columns_of (rename (at_of table) w.op) ≡ columns_of (rename (at_of table) v.op)

  ready : Ready
  ready =
      let size = length_plan nodes in
      let vi = some_at (plan_of nodes) i (omega (arith, within, size)) in
      let wj = some_at (plan_of nodes) j (omega (arith, within, before, size)) in
      let there : slice_get made j ≡ Some (renamed (at_of (table ++ [])) wj.0) =
      ap (λ xs. slice_get xs j) (so_far.nodes []) ∙ get_map (renamed (at_of (table ++ []))) (take i (plan_of nodes)) j
      ∙ ap (option_map (renamed (at_of (table ++ [])))) (get_taken (plan_of nodes) i j before ∙ wj.1) in
      let stands : slice_get made j ≡ Some (renamed (at_of table) wj.0) = there ∙ ap (λ xs. Some (renamed (at_of xs) wj.0)) (append-nil table) in
      let mine : node ≡ renamed (at_of table) vi.0 = is vi.0 vi.1 in
      record {
        v = vi.0;
        w = wj.0;
        at_i = vi.1;
        at_j = wj.1;
        is_same = same (renamed (at_of table) wj.0) stands ∙ ap (λ x. same_op (rename (at_of table) wj.0.op) x.op) mine;
        same_columns = λ h. columns (renamed (at_of table) wj.0) stands h ∙ ap (λ x. columns_of x.op) mine;
      }

  pub place_does : ((a && b) && c) ≡ true → DoesSame (plan_of nodes) table i j
  place_does h = let r = ready in
      does (plan_of nodes) table i j r.v r.w r.at_i r.at_j a b c (this_open r.v r.at_i) (that_open r.w r.at_j) r.is_same r.same_columns h

  pub place_passes : DoesSame (plan_of nodes) table i j → ((a && b) && c) ≡ true
  place_passes d = let r = ready in
      passes (plan_of nodes) table i j r.v r.w r.at_i r.at_j a b c (this_open r.v r.at_i) (that_open r.w r.at_j) r.is_same r.same_columns d

-- none that does the same up to a place, and none there
pub still_none : (p : Plan) (table : List ℕ) (i j : ℕ) (b : Bool) → ((k : ℕ) → k < j → DoesSame p table i k → ⊥) → (DoesSame p table i j → b ≡ true) → b ≡ false
    → (k : ℕ) → k < j + 1 → DoesSame p table i k → ⊥
still_none p table i j b none_yet tells is k below d = elim (eq-or-lt_of_le (let e : k ≤ j = omega (arith, below) in e)) [
  | inl same ↦ true≢false (sym (tells (subst (DoesSame p table i) same d)) ∙ is)
  | inr lower ↦ none_yet k lower d
]

pub found_none : (p : Plan) (table : List ℕ) (i j : ℕ) → i ≡ j → ((k : ℕ) → k < j → DoesSame p table i k → ⊥) → IsFound p table i i
found_none p table i j e never = none refl (λ k lower d. never k (omega (arith, e, lower)) d)

pub found_earlier : (p : Plan) (table : List ℕ) (i j n : ℕ) → j < i → DoesSame p table i j → n ≡ at_of table j → IsFound p table i n
found_earlier p table i j n lower d is = earlier j lower d is

-- all nodes are gone through
pub all_shared : (nodes : List Node) (table : List ℕ) (made : Plan) (n : ℕ) → n ≡ length nodes → IsSoFar (plan_of nodes) table made n → Shares (plan_of nodes) made
all_shared nodes table made n whole so_far = all_named (plan_of nodes) table made n (whole ∙ sym (length_plan nodes)) so_far

pub means_so : (p q : Plan) → IsPlan p → IsPlan q → Shares p q → SameMeaning p q
means_so p q valid valid_q s = shared_means p q (at_of s.table) valid valid_q s.is

pub once_so : (p q : Plan) → IsPlan p → IsPlan q → Shares p q → EachIsOnce q
once_so p q valid valid_q s = shared_once p q (at_of s.table) valid valid_q s.is
