-- Rows on their way: what a path makes of rows that its source hands on is of the kinds that the node behind it hands on.
use Rattle.std.specs.Prelude.{◌≡◌, ◌<◌, ◌==◌, ◌&&◌, ℕ, zero, suc, Bool, true, false, List, [], ◌∷◌, length, map, Option, Some, None, slice_get, nat_lt, refl}
use Rattle.std.proofs.Common.{ap, sym, ◌∙◌, arith, subst, cond, true≢false}
use Rattle.std.specs.List.{flat_map}
use Rattle.std.specs.Option.{is_some, option_and_then, option_map, option_map_or, unwrap_or}
use Rattle.std.proofs.lemmas.Bool.{eq-eqb}
use Rattle.std.proofs.lemmas.Option.{slice_get_within}
use Rattle.pig_value.specs.FieldReader.{all_of}
use Rattle.pig_value.specs.Kinds.{AreRowsOf, IsRowOf, kinds_eq}
use Rattle.pig_value.specs.Trees.{Tree, kinds_list, kinds_of}
use Rattle.pig_value.proofs.KindLaws.{kinds_same, rows_of_each}
use Rattle.pig_value.proofs.OfRead.{OfRead}
use Rattle.pig_value.proofs.TreeLaws.{kinds_back}
use Rattle.pig_value.proofs.list_laws.Indexing.{some_at}
use Rattle.pig_value.proofs.list_laws.Listing.{each-filter, each_at, each_weaker, some_same}
use Rattle.pig_typed.specs.Blocks.{foreach_all, foreach_rows}
use Rattle.pig_typed.specs.BlockKinds.{row_kinds}
use Rattle.pig_typed.specs.Evaluation.{passes}
use Rattle.pig_typed.specs.Premises.{FunctionsKeepKinds}
use Rattle.pig_typed.specs.Typed.{Typed, TypedBlock}
use Rattle.pig_typed.proofs.BlocksKept.{block_kept}
use Rattle.pig_typed.proofs.Found.{found_is, of_found, tested, then_found}
use Rattle.pig_plan.proofs.Carries.{each-flat_map}
use Rattle.pig_plan.proofs.Lower.{names_lower}
use Rattle.pig_plan.proofs.Meanings.{live_input, live_within}
use Rattle.pig_plan.proofs.OfKinds.{Each}
use Rattle.pig_plan.proofs.Paths.{paths_of_node}
use Rattle.pig_plan.proofs.Through.{through_last}
use Rattle.pig_plan.specs.NodeKinds.{Before, RowKinds, are_alike, is_test, kinds_at, node_gives, only_if, union_kinds}
use Rattle.pig_plan.specs.Nodes.{Path, and_then, inputs_of, is_live, is_source, names, op_at, paths_of}
use Rattle.pig_plan.specs.Operators.{filter_rows}
use Rattle.pig_plan.specs.Plans.{Plan, PlanNode, PlanOp, p_load, p_filter, p_foreach, p_group_all, p_group, p_join, p_union, p_distinct, p_order, p_limit}
use Rattle.pig_plan.specs.Plans.{p_store, p_assert, p_rank}
use Rattle.pig_plan.specs.Steps.{Folding, node_step, step_rows, through}
use Rattle.pig_plan.specs.Valid.{IsPlan}
use Rattle.pig_physical.specs.Combining.{folds, groups_one}
use Rattle.pig_physical.specs.Fitting.{given_kinds}
use Rattle.pig_waves.proofs.Alone.{folds_alone}
use Rattle.pig_waves.proofs.Among.{Among, any_holds, made_of, mapped_from}
use Rattle.pig_waves.proofs.Folders.{none_folds_at}
use Rattle.pig_fitting.proofs.Given.{Has, given_of, given_unfolded, kinds_by}

-- ---- elements of lists

pub the_one : {X : Type 0} (x y : X) → Among x (y ∷ []) → y ≡ x
the_one x y h = by_place h.at h.is
  where
    by_place : (i : ℕ) → slice_get (y ∷ []) i ≡ Some x → y ≡ x
    by_place zero e = some_same y x e
    by_place (suc i) e = absurd (cc)

-- what is found of an element of a list is found with the others
module _ {X Y : Type 0} (f : X → Option Y) (x : X) where
  pub record FoundAt (ys : List Y) (i : ℕ) : Type 0 where
    pub y : Y
    pub at : slice_get ys i ≡ Some y
    pub is : f x ≡ Some y

  pub found_of : (xs : List X) (ys : List Y) → all_of f xs ≡ Some ys → (i : ℕ) → slice_get xs i ≡ Some x → FoundAt ys i
  found_of [] ys h i e = absurd (cc)
  found_of (z ∷ xs) ys h i e = by_found (λ more rest j place. found_of xs more rest j place) (f z) refl (all_of f xs) refl h i e
    where
      by_found : ((more : List Y) → all_of f xs ≡ Some more → (j : ℕ) → slice_get xs j ≡ Some x → FoundAt more j)
          → (o : Option Y) → f z ≡ o → (r : Option (List Y)) → all_of f xs ≡ r
          → option_and_then (λ y. option_map (λ more. y ∷ more) r) o ≡ Some ys → (j : ℕ) → slice_get (z ∷ xs) j ≡ Some x → FoundAt ys j
      by_found later None is r rest g j place = absurd (cc)
      by_found later (Some y) is None rest g j place = absurd (cc)
      by_found later (Some y) is (Some more) rest g zero place =
          record { y = y; at = ap (λ all. slice_get all 0) (sym (some_same (y ∷ more) ys g)); is = ap f (sym (some_same z x place)) ∙ is }
      by_found later (Some y) is (Some more) rest g (suc j) place =
          let found = later more rest j place in
          record { y = found.y; at = ap (λ all. slice_get all (suc j)) (sym (some_same (y ∷ more) ys g)) ∙ found.at; is = found.is }

-- ---- one step

pub both_hold : (a b : Bool) → (a && b) ≡ true → (a ≡ true) × (b ≡ true)
both_hold true b h = (refl, h)
both_hold false b h = absurd (true≢false (sym h))

kinds_are_same : (ks ls : RowKinds) → kinds_eq (kinds_of ks) (kinds_of ls) ≡ true → ls ≡ ks
kinds_are_same ks ls h = sym (kinds_back ls) ∙ ap kinds_list (sym (kinds_same (kinds_of ks) (kinds_of ls) h)) ∙ kinds_back ks

-- the inputs of a UNION are of the kinds of the first
alike_each : (first : RowKinds) (others : List RowKinds) → are_alike first others ≡ true → (i : ℕ) (ks : RowKinds) → slice_get others i ≡ Some ks → ks ≡ first
alike_each first [] t i ks e = absurd (cc)
alike_each first (other ∷ others) t zero ks e =
    sym (some_same other ks e) ∙ kinds_are_same first other (both_hold (kinds_eq (kinds_of first) (kinds_of other)) (are_alike first others) t).0
alike_each first (other ∷ others) t (suc i) ks e =
    alike_each first others (both_hold (kinds_eq (kinds_of first) (kinds_of other)) (are_alike first others) t).1 i ks e

union_each : (first : RowKinds) (others : List RowKinds) → are_alike first others ≡ true → (i : ℕ) (ks : RowKinds) → slice_get (first ∷ others) i ≡ Some ks
    → ks ≡ first
union_each first others t zero ks e = sym (some_same first ks e)
union_each first others t (suc i) ks e = alike_each first others t i ks e

-- rows of the input at a number, which does not fold
module _ (functions : FunctionsKeepKinds) (folding : Folding) (before : Before) (i : ℕ) (unfolded : folding i ≡ None)
    (rows : List (List Tree)) (has : Has (before i) rows) where
  abbrev Gives : List (List Tree) → Option RowKinds → Type 0
  Gives made given = Has given made

  at_input : (j : ℕ) → Among i (j ∷ []) → Has (before j) rows
  at_input j among = subst (λ n. Has (before n) rows) (sym (the_one i j among)) has

  of_test : (j : ℕ) (test : Typed) (made : List (List Tree)) → ((ks : RowKinds) → Each ks rows → Each ks made) → Among i (j ∷ [])
      → Has (unwrap_or (node_gives before (p_filter j test)) None) made
  of_test j test made keeps among =
      given_of (node_gives before (p_filter j test)) made
      (then_found (λ ks. Each ks rows) (Gives made) (λ ks. only_if (is_test ks test) (Some (Some ks)))
      (λ ks is. tested (Gives made) (is_test ks test) (Some (Some ks)) (λ t. keeps ks is)) (before j) (at_input j among))

  union_is : (inputs : List ℕ) (all : List RowKinds) → all_of before inputs ≡ Some all → Among i inputs → OfRead (λ ks. Each ks rows) (union_kinds all)
  union_is inputs [] found among = tt
  union_is inputs (first ∷ others) found among =
      tested (λ ks. Each ks rows) (nat_lt 0 (length others) && are_alike first others) (Some first)
      (λ t. let at = found_of before i inputs (first ∷ others) found among.at among.is in
      let same : at.y ≡ first = union_each first others (both_hold (nat_lt 0 (length others)) (are_alike first others) t).1 among.at at.y at.at in
      subst (λ ks. Each ks rows) same (found_is (λ ks. Each ks rows) (before i) at.y at.is has))

  step_plain : (o : PlanOp) → is_source o ≡ false → Among i (inputs_of o) → Has (unwrap_or (node_gives before o) None) (step_rows folding o rows)
  step_plain (p_filter j test) h among = of_test j test (filter_rows test rows) (λ ks is. each-filter (passes test) (λ row. IsRowOf row ks) rows is) among
  step_plain (p_foreach j block) h among =
      let open_ : folding j ≡ None = ap folding (the_one i j among) ∙ unfolded in
      subst (Has (unwrap_or (node_gives before (p_foreach j block)) None)) (sym (ap (λ found. cond (is_some found) rows (foreach_all block rows)) open_))
      (given_of (node_gives before (p_foreach j block)) (foreach_all block rows)
      (then_found (λ ks. Each ks rows) (Gives (foreach_all block rows)) (λ ks. option_and_then (λ given. Some (Some given)) (row_kinds block ks))
      (λ ks is. then_found (λ given. Each given (flat_map (foreach_rows block) rows)) (Gives (foreach_all block rows)) (λ given. Some (Some given))
      (λ given are. are) (row_kinds block ks)
      (of_found (λ given. Each given (flat_map (foreach_rows block) rows)) (row_kinds block ks)
      (λ given found. each-flat_map (λ row. IsRowOf row given) (foreach_rows block) rows
      (each_weaker (λ row. IsRowOf row ks) _ (λ row is_row. rows_of_each given (foreach_rows block row)
      (found_is (AreRowsOf (foreach_rows block row)) (row_kinds block ks) given found (block_kept functions row ks is_row block))) rows is))))
      (before j) (at_input j among)))
  step_plain (p_union inputs) h among =
      given_of (node_gives before (p_union inputs)) rows
      (then_found (λ all. all_of before inputs ≡ Some all) (Gives rows) (λ all. option_and_then (λ given. Some (Some given)) (union_kinds all))
      (λ all found. then_found (λ given. Each given rows) (Gives rows) (λ given. Some (Some given)) (λ given are. are) (union_kinds all)
      (union_is inputs all found among))
      (all_of before inputs) (of_found (λ all. all_of before inputs ≡ Some all) (all_of before inputs) (λ all found. found)))
  step_plain (p_store j path delim) h among =
      given_of (node_gives before (p_store j path delim)) rows
      (then_found (λ ks. Each ks rows) (Gives rows) (λ ks. Some None) (λ ks is. tt) (before j) (at_input j among))
  step_plain (p_assert j test message) h among = of_test j test rows (λ ks is. is) among
  step_plain (p_load path delim columns) h among = absurd (true≢false h)
  step_plain (p_group_all input) h among = absurd (true≢false h)
  step_plain (p_group inputs) h among = absurd (true≢false h)
  step_plain (p_join inputs side replicated) h among = absurd (true≢false h)
  step_plain (p_distinct input) h among = absurd (true≢false h)
  step_plain (p_order input keys) h among = absurd (true≢false h)
  step_plain (p_limit input count) h among = absurd (true≢false h)
  step_plain (p_rank input keys dense) h among = absurd (true≢false h)

-- what a FOREACH gives
foreach_is : (block : TypedBlock) (found : Option RowKinds)
    → unwrap_or (option_and_then (λ row. option_and_then (λ given. Some (Some given)) (row_kinds block row)) found) None ≡ option_and_then
    (row_kinds block) found
foreach_is block None = refl
foreach_is block (Some row) = of_given (row_kinds block row)
  where
    of_given : (o : Option RowKinds) → unwrap_or (option_and_then (λ given. Some (Some given)) o) None ≡ o
    of_given None = refl
    of_given (Some given) = refl

-- a node that works row by row is no GROUP
no_group : (o : PlanOp) → is_source o ≡ false → groups_one o ≡ false
no_group (p_group_all input) h = absurd (true≢false h)
no_group (p_group []) h = refl
no_group (p_group (input ∷ [])) h = absurd (true≢false h)
no_group (p_group (input ∷ other ∷ inputs)) h = refl
no_group (p_load path delim columns) h = refl
no_group (p_filter input test) h = refl
no_group (p_foreach input block) h = refl
no_group (p_join inputs side replicated) h = refl
no_group (p_union inputs) h = refl
no_group (p_distinct input) h = refl
no_group (p_order input keys) h = refl
no_group (p_limit input count) h = refl
no_group (p_store input path delim) h = refl
no_group (p_assert input test message) h = refl
no_group (p_rank input keys dense) h = refl

-- ---- a path

module _ (functions : FunctionsKeepKinds) (plan : Plan) (valid : IsPlan plan) where
  -- one node more, which is live and works row by row
  module _ (k : ℕ) (v : PlanNode) (at : slice_get plan k ≡ Some v) (live : is_live plan k ≡ true) (row_wise : is_source v.op ≡ false)
      (i : ℕ) (among : Among i (inputs_of v.op)) (rows : List (List Tree)) where
    op_is : op_at plan k ≡ Some v.op
    op_is = ap (option_map (λ node. node.op)) at

    given_here : given_kinds plan k ≡ unwrap_or (node_gives (kinds_at plan) v.op) None
    given_here = given_unfolded plan k (none_folds_at plan k v.op op_is (no_group v.op row_wise)) ∙ kinds_by plan valid k v.op op_is

    named : names v.op i ≡ true
    named = any_holds (λ j. j == i) (inputs_of v.op) i among (eq-eqb i i refl)

    -- behind a node that folds
    step_folded : (block : TypedBlock) → folds plan i ≡ Some block → Has (given_kinds plan i) rows
        → Has (given_kinds plan k) (step_rows (folds plan) v.op rows)
    step_folded block found has =
        let is : v.op ≡ p_foreach i block = folds_alone plan i block found k v at live named in
        let on : step_rows (folds plan) v.op rows ≡ rows =
        ap (λ o. step_rows (folds plan) o rows) is ∙ ap (λ f. cond (is_some f) rows (foreach_all block rows)) found in
        let of_group : given_kinds plan i ≡ option_and_then (row_kinds block) (kinds_at plan i) =
        ap (λ f. option_map_or (λ b. option_and_then (row_kinds b) (kinds_at plan i)) f (kinds_at plan i)) found in
        let same : given_kinds plan i ≡ given_kinds plan k =
        of_group ∙ sym (foreach_is block (kinds_at plan i)) ∙ sym (given_here ∙ ap (λ o. unwrap_or (node_gives (kinds_at plan) o) None) is) in
        subst (Has (given_kinds plan k)) (sym on) (subst (λ given. Has given rows) same has)

    step_open : folds plan i ≡ None → Has (given_kinds plan i) rows → Has (given_kinds plan k) (step_rows (folds plan) v.op rows)
    step_open none has =
        subst (λ given. Has given (step_rows (folds plan) v.op rows)) (sym given_here)
        (step_plain functions (folds plan) (kinds_at plan) i none rows (subst (λ given. Has given rows) (given_unfolded plan i none) has) v.op row_wise among)

    step_is : (found : Option TypedBlock) → folds plan i ≡ found → Has (given_kinds plan i) rows → Has (given_kinds plan k) (step_rows (folds plan) v.op rows)
    step_is None e has = step_open e has
    step_is (Some block) e has = step_folded block e has

    pub step_on : Has (given_kinds plan i) rows → Has (given_kinds plan k) (node_step (folds plan) plan k rows)
    step_on has =
        subst (Has (given_kinds plan k)) (sym (ap (λ found. option_map_or (λ o. step_rows (folds plan) o rows) found rows) op_is))
        (step_is (folds plan i) refl has)

  -- A path of a live node begins at a live source, and what it makes of rows that the source hands on is of the node's kinds.
  pub record IsWay (k : ℕ) (path : Path) : Type 0 where
    pub op : PlanOp
    pub at : op_at plan path.source ≡ Some op
    pub source : is_source op ≡ true
    pub live : is_live plan path.source ≡ true
    pub goes : (rows : List (List Tree)) → Has (given_kinds plan path.source) rows → Has (given_kinds plan k) (through (folds plan) plan path.nodes rows)

  module _ (k : ℕ) (v : PlanNode) (at : slice_get plan k ≡ Some v) (live : is_live plan k ≡ true)
      (lower : (i : ℕ) → i < k → is_live plan i ≡ true → (path : Path) → Among path (paths_of plan i) → IsWay i path) where
    of_source : is_source v.op ≡ true → (path : Path) → Among path (record { source = k; nodes = [] } ∷ []) → IsWay k path
    of_source source path among =
        subst (IsWay k) (the_one path (record { source = k; nodes = [] }) among)
        (record { op = v.op; at = ap (option_map (λ node. node.op)) at; source = source; live = live; goes = λ rows has. has })

    further : is_source v.op ≡ false → (i : ℕ) → Among i (inputs_of v.op) → (first : Path) → Among first (paths_of plan i) → IsWay k (and_then k first)
    further row_wise i among first on =
        let below : i < k = each_at (λ j. j < k) (inputs_of v.op) among.at i among.is (names_lower plan valid k v at) in
        let short : k < length plan = slice_get_within plan k v at in
        let input = some_at plan i (omega (arith, below, short)) in
        let alive : is_live plan i ≡ true =
        live_input plan k v at live i below input.0 input.1 (any_holds (λ j. j == i) (inputs_of v.op) i among (eq-eqb i i refl)) in
        let way = lower i below alive first on in
        record {
          op = way.op;
          at = way.at;
          source = way.source;
          live = way.live;
          goes = λ rows has.
              subst (Has (given_kinds plan k)) (sym (through_last (folds plan) plan first.nodes k rows))
              (step_on k v at live row_wise i among (through (folds plan) plan first.nodes rows) (way.goes rows has));
        }

    of_inputs : is_source v.op ≡ false → (path : Path) → Among path (flat_map (λ i. map (and_then k) (paths_of plan i)) (inputs_of v.op)) → IsWay k path
    of_inputs row_wise path among =
        let made = made_of (λ i. map (and_then k) (paths_of plan i)) (inputs_of v.op) path among in
        let from = mapped_from (and_then k) (paths_of plan made.x) path made.made in
        subst (IsWay k) from.is (further row_wise made.x made.among from.x from.among)

    node_ways : (b : Bool) → is_source v.op ≡ b → (path : Path)
        → Among path (cond b (record { source = k; nodes = [] } ∷ []) (flat_map (λ i. map (and_then k) (paths_of plan i)) (inputs_of v.op))) → IsWay k path
    node_ways true e path among = of_source e path among
    node_ways false e path among = of_inputs e path among

  up_to : (n k : ℕ) → k < n → is_live plan k ≡ true → (path : Path) → Among path (paths_of plan k) → IsWay k path
  up_to zero k below live path among = absurd (omega (arith, below))
  up_to (suc n) k below live path among =
      let found = some_at plan k (live_within plan k live) in
      node_ways k found.0 found.1 live (λ i less alive p on. up_to n i (omega (arith, less, below)) alive p on) (is_source (found.0).op) refl path
      (subst (Among path) (paths_of_node plan valid k found.0 found.1) among)

  pub ways_are : (k : ℕ) → is_live plan k ≡ true → (path : Path) → Among path (paths_of plan k) → IsWay k path
  ways_are k live path among = up_to (suc k) k (omega arith) live path among
