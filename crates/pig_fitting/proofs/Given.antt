-- The kinds that a plan gives a node are what its operator gives by those of its inputs.
use Rattle.std.specs.Prelude.{◌≡◌, ◌<◌, ◌≤◌, ◌&&◌, ℕ, zero, suc, Bool, true, false, not, List, [], ◌∷◌, ◌++◌, length, map, take, drop, Option, Some, None}
use Rattle.std.specs.Prelude.{slice_get, refl, ⊤}
use Rattle.std.proofs.Common.{ap, sym, ◌∙◌, arith, append-nil, append_assoc, subst}
use Rattle.std.specs.List.{AllByRecursion, flat_map, list_all}
use Rattle.std.specs.Option.{is_some, option_and_then, option_map, option_map_or, unwrap_or}
use Rattle.std.proofs.lemmas.Option.{slice_get_within}
use Rattle.pig_value.specs.FieldReader.{all_of}
use Rattle.pig_value.specs.Kinds.{IsRowOf}
use Rattle.pig_value.specs.Results.{◌>>=◌}
use Rattle.pig_value.specs.Trees.{Tree}
use Rattle.pig_value.proofs.KindLaws.{rows_of_each, rows_of_from_each}
use Rattle.pig_value.proofs.OfRead.{OfRead}
use Rattle.pig_value.proofs.list_laws.Listing.{each_of_all, each_weaker, some_same}
use Rattle.pig_typed.proofs.Found.{found_is, of_found}
use Rattle.pig_typed.specs.BlockKinds.{row_kinds}
use Rattle.pig_plan.proofs.Lower.{names_lower}
use Rattle.pig_plan.proofs.OfKinds.{Each}
use Rattle.pig_plan.proofs.Unfolds.{before_is, get-front, length-results, result_before}
use Rattle.pig_plan.specs.NodeKinds.{Before, KeyedKinds, NodeGives, RowKinds, all_keyed, group_kinds, is_join, key_kinds, keyed_kinds, keys_agree, kinds_at}
use Rattle.pig_plan.specs.NodeKinds.{kinds_step, kinds_table, node_gives, only_if, union_kinds}
use Rattle.pig_plan.specs.Nodes.{inputs_of, op_at}
use Rattle.pig_plan.specs.Plans.{Keyed, Plan, PlanNode, PlanOp, p_load, p_filter, p_foreach, p_group_all, p_group, p_join, p_union, p_distinct, p_order}
use Rattle.pig_plan.specs.Plans.{p_limit, p_store, p_assert, p_rank}
use Rattle.pig_plan.specs.Results.{at_place, results, results_behind}
use Rattle.pig_plan.specs.Valid.{IsPlan}
use Rattle.pig_physical.specs.Combining.{folds}
use Rattle.pig_physical.specs.Fitting.{HasRows, given_kinds}
use Rattle.pig_physical.specs.Outs.{Form, rows_in}
use Rattle.pig_fitting.specs.Laws.{AreGiven}

-- ---- rows of kinds, where these are known

abbrev pub Has : Option RowKinds → List (List Tree) → Type 0
Has found rows = OfRead (λ ks. Each ks rows) found

pub has_given : (plan : Plan) (k : ℕ) (rows : List (List Tree)) → AreGiven plan k rows → Has (given_kinds plan k) rows
has_given plan k rows h = of_found (λ ks. Each ks rows) (given_kinds plan k) (λ ks is. rows_of_each ks rows (h ks is))

pub given_has : (plan : Plan) (k : ℕ) (rows : List (List Tree)) → Has (given_kinds plan k) rows → AreGiven plan k rows
given_has plan k rows h = λ ks is. rows_of_from_each ks rows (found_is (λ ls. Each ls rows) (given_kinds plan k) ks is h)

pub rows_have : (found : Option RowKinds) (form : Form) → HasRows found form → Has found (rows_in form)
rows_have found form h =
    subst (λ f. Has found (rows_in f)) (sym h.is) (of_found (λ ks. Each ks h.rows) found (λ ks is. rows_of_each ks h.rows (h.kinds ks is)))

pub each_read : (found : Option RowKinds) (rows : List (List Tree)) → Has found rows → AllByRecursion (λ row. OfRead (IsRowOf row) found) rows
each_read None rows h = each_of_all (λ row. ⊤) (λ row. tt) rows
each_read (Some ks) rows h = h

-- what is given for sure
pub given_of : (given : NodeGives) (rows : List (List Tree)) → OfRead (λ found. Has found rows) given → Has (unwrap_or given None) rows
given_of None rows h = tt
given_of (Some found) rows h = h

-- ---- what an operator gives goes by its inputs alone

all_same : {X Y : Type 0} (f g : X → Option Y) (xs : List X) → AllByRecursion (λ x. f x ≡ g x) xs → all_of f xs ≡ all_of g xs
all_same f g [] h = refl
all_same f g (x ∷ xs) h = λ i. option_and_then (λ y. option_map (λ ys. y ∷ ys) (all_same f g xs h.1 i)) (h.0 i)

abbrev keyed_by : Keyed → Option RowKinds → Option KeyedKinds
keyed_by input found = do
  row ← found
  keys ← key_kinds row input.keys
  Some (record { row = row; keys = keys })

keyed_same : (f g : Before) (inputs : List Keyed) → AllByRecursion (λ i. f i ≡ g i) (map (λ k. k.input) inputs) → all_keyed f inputs ≡ all_keyed g inputs
keyed_same f g inputs h =
    ap (λ found. option_and_then (λ all. only_if (keys_agree all) (Some all)) found) (all_same (keyed_kinds f) (keyed_kinds g) inputs (each inputs h))
  where
    each : (xs : List Keyed) → AllByRecursion (λ i. f i ≡ g i) (map (λ k. k.input) xs) → AllByRecursion (λ x. keyed_kinds f x ≡ keyed_kinds g x) xs
    each [] e = tt
    each (x ∷ xs) e = (ap (keyed_by x) e.0, each xs e.1)

pub gives_same : (f g : Before) (o : PlanOp) → AllByRecursion (λ i. f i ≡ g i) (inputs_of o) → node_gives f o ≡ node_gives g o
gives_same f g (p_load path delim columns) h = refl
gives_same f g (p_filter input test) h = ap (λ found. node_gives (λ i. found) (p_filter input test)) h.0
gives_same f g (p_foreach input block) h = ap (λ found. node_gives (λ i. found) (p_foreach input block)) h.0
gives_same f g (p_group_all input) h = ap (λ found. node_gives (λ i. found) (p_group_all input)) h.0
gives_same f g (p_group inputs) h = ap (λ found. option_and_then (λ all. Some (Some (group_kinds all))) found) (keyed_same f g inputs h)
gives_same f g (p_join inputs side replicated) h =
    ap (λ found. option_and_then (λ all. only_if (is_join side replicated (length all) && list_all (λ input. not input.inner) inputs)
    (Some (Some (flat_map (λ input. input.row) all)))) found)
    (keyed_same f g inputs h)
gives_same f g (p_union inputs) h =
    ap (λ found. option_and_then (λ all. option_and_then (λ given. Some (Some given)) (union_kinds all)) found) (all_same f g inputs h)
gives_same f g (p_distinct input) h = ap (λ found. node_gives (λ i. found) (p_distinct input)) h.0
gives_same f g (p_order input keys) h = ap (λ found. node_gives (λ i. found) (p_order input keys)) h.0
gives_same f g (p_limit input count) h = ap (λ found. node_gives (λ i. found) (p_limit input count)) h.0
gives_same f g (p_store input path delim) h = ap (λ found. node_gives (λ i. found) (p_store input path delim)) h.0
gives_same f g (p_assert input test message) h = ap (λ found. node_gives (λ i. found) (p_assert input test message)) h.0
gives_same f g (p_rank input keys dense) h = ap (λ found. node_gives (λ i. found) (p_rank input keys dense)) h.0

-- ---- a plan's nodes

module _ (plan : Plan) (valid : IsPlan plan) (k : ℕ) (v : PlanNode) (at : slice_get plan k ≡ Some v) where
  pub kinds_are : kinds_at plan k ≡ unwrap_or (node_gives (kinds_at plan) v.op) None
  kinds_are =
      result_before kinds_step None plan k v at
      ∙ ap (λ given. unwrap_or given None)
      (gives_same (at_place None (take k (kinds_table plan))) (kinds_at plan) v.op
      (each_weaker (λ i. i < k) (λ i. at_place None (take k (kinds_table plan)) i ≡ kinds_at plan i) (λ i less. before_is kinds_step None plan k i less)
      (inputs_of v.op) (names_lower plan valid k v at)))

-- ---- and the operator of a node gives something

module _ {N R : Type 0} (step : ℕ → N → (ℕ → R) → R) (nothing : R) where
  in_turn : (found : List R) (xs ys : List N)
      → results_behind step nothing found (xs ++ ys) ≡ results_behind step nothing (results_behind step nothing found xs) ys
  in_turn found [] ys = refl
  in_turn found (x ∷ xs) ys = in_turn (found ++ step (length found) x (at_place nothing found) ∷ []) xs ys

  stands_first : (found : List R) (nodes : List N) → (more : List R) × (results_behind step nothing found nodes ≡ found ++ more)
  stands_first found [] = ([], sym (append-nil found))
  stands_first found (node ∷ nodes) =
      let next = step (length found) node (at_place nothing found) in
      let later = stands_first (found ++ next ∷ []) nodes in
      (next ∷ later.0, later.1 ∙ append_assoc found (next ∷ []) later.0)

  -- the results of the first nodes alone are those among all
  pub first_results : (k i : ℕ) (nodes : List N) → i < length (take k nodes)
      → at_place nothing (results step nothing (take k nodes)) i ≡ at_place nothing (results step nothing nodes) i
  first_results k i nodes within =
      let firsts : List R = results step nothing (take k nodes) in
      let later = stands_first (results step nothing (take k nodes)) (drop k nodes) in
      let whole : results step nothing nodes ≡ results step nothing (take k nodes) ++ later.0 =
      ap (results step nothing) (sym (both k nodes)) ∙ in_turn [] (take k nodes) (drop k nodes) ∙ later.1 in
      let same = length-results step nothing (take k nodes) in
      sym (ap (λ all. at_place nothing all i) whole ∙ ap (λ found. unwrap_or found nothing) (get-front firsts later.0 i (omega (arith, same, within))))
    where
      both : (n : ℕ) (xs : List N) → take n xs ++ drop n xs ≡ xs
      both zero xs = refl
      both (suc n) [] = refl
      both (suc n) (x ∷ xs) = ap (λ ys. x ∷ ys) (both n xs)

length_of_taken : {X : Type 0} (k : ℕ) (xs : List X) → k ≤ length xs → length (take k xs) ≡ k
length_of_taken zero xs h = refl
length_of_taken (suc k) [] h = absurd (omega (arith, h))
length_of_taken (suc k) (x ∷ xs) h = ap suc (length_of_taken k xs (omega (arith, h)))

module _ (plan : Plan) (valid : IsPlan plan) (k : ℕ) (v : PlanNode) (at : slice_get plan k ≡ Some v) where
  pub gives_some : is_some (node_gives (kinds_at plan) v.op) ≡ true
  gives_some =
      let short : k < length plan = slice_get_within plan k v at in
      let long : length (take k plan) ≡ k = length_of_taken k plan (omega (arith, short)) in
      ap is_some (sym (gives_same (kinds_at (take k plan)) (kinds_at plan) v.op
      (each_weaker (λ i. i < k) (λ i. kinds_at (take k plan) i ≡ kinds_at plan i)
      (λ i less. first_results kinds_step None k i plan (omega (arith, long, less)))
      (inputs_of v.op) (names_lower plan valid k v at))))
      ∙ first _ _ (first _ _ (valid k v at))
    where
      first : (a b : Bool) → (a && b) ≡ true → a ≡ true
      first true b h = refl
      first false b h = h

-- ---- the same by the operator of a node

pub node_found : (plan : Plan) (k : ℕ) (o : PlanOp) → op_at plan k ≡ Some o → (v : PlanNode) × (slice_get plan k ≡ Some v) × (v.op ≡ o)
node_found plan k o at = by_node (slice_get plan k) refl
  where
    by_node : (found : Option PlanNode) → slice_get plan k ≡ found → (v : PlanNode) × (slice_get plan k ≡ Some v) × (v.op ≡ o)
    by_node None e = let none : None ≡ Some o = sym (ap (option_map (λ node. node.op)) e) ∙ at in absurd (cc)
    by_node (Some v) e = (v, e, some_same v.op o (sym (ap (option_map (λ node. node.op)) e) ∙ at))

module _ (plan : Plan) (valid : IsPlan plan) (k : ℕ) (o : PlanOp) (at : op_at plan k ≡ Some o) where
  pub kinds_by : kinds_at plan k ≡ unwrap_or (node_gives (kinds_at plan) o) None
  kinds_by = let found = node_found plan k o at in kinds_are plan valid k found.0 found.1 ∙ ap (λ p. unwrap_or (node_gives (kinds_at plan) p) None) found.2

  pub gives_by : is_some (node_gives (kinds_at plan) o) ≡ true
  gives_by = let found = node_found plan k o at in ap (λ p. is_some (node_gives (kinds_at plan) p)) (sym found.2) ∙ gives_some plan valid k found.0 found.1

-- a node that does not fold hands on rows of its own kinds
pub given_unfolded : (plan : Plan) (k : ℕ) → folds plan k ≡ None → given_kinds plan k ≡ kinds_at plan k
given_unfolded plan k none = ap (λ found. option_map_or (λ block. option_and_then (row_kinds block) (kinds_at plan k)) found (kinds_at plan k)) none
