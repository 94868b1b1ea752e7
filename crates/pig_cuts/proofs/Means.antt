-- A cut plan means what the plan meant.
use Rattle.std.specs.Prelude.{◌≡◌, ◌<◌, ◌+◌, ◌||◌, ℕ, suc, zero, Bool, true, false, List, [], ◌∷◌, drop, length, map, Option, Some, None, slice_get, refl}
use Rattle.std.specs.List.{AllByRecursion, list_all}
use Rattle.std.specs.Option.{option_map_or}
use Rattle.std.proofs.Common.{ap, sym, ◌∙◌, subst, arith}
use Rattle.std.proofs.lemmas.Option.{slice_get_within}
use Rattle.pig_value.proofs.list_laws.Indexing.{some_at}
use Rattle.pig_value.proofs.list_laws.Listing.{each_weaker, some_same}
use Rattle.pig_value.specs.declared.inputs.Input.{Input}
use Rattle.pig_value.specs.declared.outcomes.Kept.{Kept}
use Rattle.pig_value.specs.Kinds.{IsRowOf}
use Rattle.pig_value.specs.Orders.{bag_of}
use Rattle.pig_value.specs.Trees.{Tree}
use Rattle.pig_typed.proofs.Found.{of_found}
use Rattle.pig_typed.specs.Evaluation.{passes}
use Rattle.pig_typed.specs.Premises.{FunctionsKeepKinds}
use Rattle.pig_typed.specs.Typed.{Typed}
use Rattle.pig_plan.proofs.Lower.{meaning_of_node, names_lower}
use Rattle.pig_plan.proofs.Meanings.{each_both, each_held, live_input, live_within, named_each}
use Rattle.pig_plan.proofs.OfKinds.{Each, Held}
use Rattle.pig_plan.specs.Meaning.{AreKept, EachIsKept, kept_at, meaning, setting, width_at}
use Rattle.pig_plan.specs.NodeKinds.{RowKinds, kinds_at}
use Rattle.pig_plan.specs.Nodes.{inputs_of, is_live, is_sorted, is_store, is_used, names}
use Rattle.pig_plan.specs.Plans.{Plan, PlanNode, PlanOp, p_load, p_filter, p_foreach, p_group_all, p_group, p_join, p_union, p_distinct, p_order, p_limit, p_store, p_assert, p_rank}
use Rattle.pig_plan.specs.Rewrites.{Fails, FailsBy, Stores}
use Rattle.pig_plan.specs.Valid.{IsPlan}
use Rattle.pig_cuts.specs.Cuts.{NodeCut, cut_at, cut_row, cut_rows, cutters}
use Rattle.pig_cuts.specs.Fits.{fit, sees}
use Rattle.pig_cuts.specs.Laws.{CutNodesHaveCutRows, CutPlansMeanTheSame}
use Rattle.pig_cuts.specs.Plans.{IsCutBy, are_whole, may_fit}
use Rattle.pig_cuts.proofs.Cutters.{node_unfolds}
use Rattle.pig_cuts.proofs.Fields.{Unfolds}
use Rattle.pig_cuts.proofs.LiveCuts.{IsFrom, WasAssert, assert_was, end_was, from, limits_same, live_same}
use Rattle.pig_cuts.proofs.OfGiven.{Own, of_given}
use Rattle.pig_cuts.proofs.PlanKinds.{LeftInput, gives, inputs_left}
use Rattle.pig_cuts.proofs.PlanRows.{InputAt, IsWholeAt, lists_same, node_rows, sorted_same, suit, wholes_at}
use Rattle.pig_cuts.proofs.Rowwise.{cut_all, met_cut}

abbrev node_with : PlanOp → ℕ → PlanNode
node_with o statement = record { op = o; statement = statement }

abbrev cut_by : (List Tree → List Tree) → List (List Tree) → List (List Tree)
cut_by f rows = bag_of (map f rows)

store_lives : (p : Plan) (k : ℕ) (v : PlanNode) → slice_get p k ≡ Some v → is_store v.op ≡ true → is_live p k ≡ true
store_lives p k v stands h =
    ap (λ o. option_map_or (λ node. is_store node.op || is_used k (k + 1) (drop (k + 1) p)) o false) stands ∙ ap (λ b. b || is_used k (k + 1) (drop (k + 1) p)) h

module _ (functions : FunctionsKeepKinds) (marks : ℕ → List Bool) (cuts : List NodeCut) (p q : Plan) (valid : IsPlan p) (valid_q : IsPlan q) (cut : IsCutBy marks cuts p q) (inputs : List Input) (kept : List Kept) where
  abbrev C : ℕ → NodeCut
  C = cut_at cuts

  abbrev K : ℕ → List Tree → List Tree
  K = cutters cuts

  abbrev At : ℕ → Type 0
  At = InputAt marks cuts p q valid valid_q cut inputs kept

  abbrev Whole : ℕ → Type 0
  Whole = IsWholeAt marks cuts p q valid valid_q cut inputs kept

  -- what is known of a live node: its rows are of its kinds, and those of the cut plan are these, cut
  record Known (k : ℕ) : Type 0 where
    rows : meaning q inputs kept k ≡ cut_all K (C k) (meaning p inputs kept k)
    kinds : (ks : RowKinds) → kinds_at p k ≡ Some ks → Each ks (meaning p inputs kept k)

  -- A live bare LIMIT kept rows of its source, as far as the source has the same rows in both plans.
  abbrev LimitsKeep : Type 0
  LimitsKeep = (k statement input count : ℕ) → slice_get p k ≡ Some (node_with (p_limit input count) statement) → is_live p k ≡ true → is_sorted p input ≡ false
      → meaning q inputs kept input ≡ meaning p inputs kept input → AreKept count (meaning p inputs kept input) (kept_at kept statement)

  module _ (limits : LimitsKeep) where
    abbrev Lower : ℕ → Type 0
    Lower k = (i : ℕ) → i < k → is_live p i ≡ true → Known i

    inputs_from : (k : ℕ) (v : PlanNode) → slice_get p k ≡ Some v → is_live p k ≡ true → Lower k → AllByRecursion At (inputs_of v.op)
    inputs_from k v stands alive lower =
        let within : k < length p = slice_get_within p k v stands in
        each_both (λ i. (i < k) × (names v.op i ≡ true)) (LeftInput marks cuts p q valid valid_q (length p) (omega (arith)) (λ n u low. cut.each n u)) At
        (λ i named left.
        let low = named.0 in
        let found = some_at p i (omega (arith, low, within)) in
        let lives : is_live p i ≡ true = live_input p k v stands alive i low found.0 found.1 named.1 in
        let known = lower i low lives in
        record { left = left; each = known.kinds left.kinds left.was; rows = known.rows; within = omega (arith, low, within) })
        (inputs_of v.op)
        (each_both (λ i. i < k) (λ i. names v.op i ≡ true) (λ i. (i < k) × (names v.op i ≡ true)) (λ i low named. (low, named)) (inputs_of v.op) (names_lower p valid k v stands) (named_each (inputs_of v.op) (inputs_of v.op) (λ i e. e)))
        (inputs_left marks cuts p q valid valid_q (length p) (omega (arith)) (λ n u low. cut.each n u) k v (omega (arith, within)) stands)

    held : (i : ℕ) → At i → Held functions (kinds_at p) (width_at p) (meaning p inputs kept) i
    held i at =
        of_found (λ ks. Each ks (meaning p inputs kept i) × (width_at p i ≡ length ks)) (kinds_at p i)
        (λ ks found.
        let same : at.left.kinds ≡ ks = some_same at.left.kinds ks (sym at.left.was ∙ found) in
        (subst (λ ls. Each ls (meaning p inputs kept i)) same at.each, at.left.wide ∙ ap length same))

    own : (k statement : ℕ) (o : PlanOp) → slice_get p k ≡ Some (node_with o statement) → is_live p k ≡ true → AllByRecursion At (inputs_of o) → may_fit C (marks k) o ≡ true
        → Own functions (kinds_at p) (meaning p inputs kept) (setting p inputs kept) statement o
    own k statement (p_limit input count) stands alive all may = λ unsorted ks h.
        let whole : AllByRecursion Whole (input ∷ []) = wholes_at marks cuts p q valid valid_q cut inputs kept (input ∷ []) all may in
        each_held (λ row. IsRowOf row ks) (kept_at kept statement) (meaning p inputs kept input) (limits k statement input count stands alive unsorted whole.0.rows).held h
    own k statement (p_load path delim columns) stands alive all may = tt
    own k statement (p_filter i c) stands alive all may = tt
    own k statement (p_foreach i block) stands alive all may = tt
    own k statement (p_group_all i) stands alive all may = tt
    own k statement (p_group keyed) stands alive all may = tt
    own k statement (p_join keyed s replicated) stands alive all may = tt
    own k statement (p_union ns) stands alive all may = tt
    own k statement (p_distinct i) stands alive all may = tt
    own k statement (p_order i keys) stands alive all may = tt
    own k statement (p_store i path delim) stands alive all may = tt
    own k statement (p_assert i c message) stands alive all may = tt
    own k statement (p_rank i keys dense) stands alive all may = tt

    node_known : (k : ℕ) (v : PlanNode) → slice_get p k ≡ Some v → is_live p k ≡ true → Lower k → Known k
    node_known k v stands alive lower =
        let all = inputs_from k v stands alive lower in
        let given = gives p valid k v stands in
        record {
          rows = node_rows marks cuts p q valid valid_q cut inputs kept functions k v stands all;
          kinds = λ ks e. subst (Each ks) (sym (meaning_of_node p inputs kept valid k v stands))
              (of_given functions (kinds_at p) (meaning p inputs kept) (setting p inputs kept) v.statement v.op
              (own k v.statement v.op stands alive all (cut.each k v stands).may) (each_weaker At (Held functions (kinds_at p) (width_at p) (meaning p inputs kept)) held (inputs_of v.op) all)
              ks (given.is ∙ ap Some (sym given.kinds ∙ e)));
        }

    known_up_to : (fuel k : ℕ) → k < fuel → is_live p k ≡ true → Known k
    known_up_to zero k low alive = absurd (omega (arith, low))
    known_up_to (suc fuel) k low alive =
        let found = some_at p k (live_within p k alive) in
        node_known k found.0 found.1 alive (λ i less lives. known_up_to fuel i (omega (arith, less, low)) lives)

    all_known : (k : ℕ) → is_live p k ≡ true → Known k
    all_known k alive = known_up_to (suc k) k (omega (arith)) alive

    inputs_known : (k : ℕ) (v : PlanNode) → slice_get p k ≡ Some v → is_live p k ≡ true → AllByRecursion At (inputs_of v.op)
    inputs_known k v stands alive = inputs_from k v stands alive (λ i low lives. all_known i lives)

    whole_input : (k statement i : ℕ) (o : PlanOp) → slice_get p k ≡ Some (node_with o statement) → is_live p k ≡ true → inputs_of o ≡ i ∷ [] → are_whole C (inputs_of o) ≡ true → Whole i
    whole_input k statement i o stands alive one may =
        let all : AllByRecursion Whole (i ∷ []) = subst (AllByRecursion Whole) one (wholes_at marks cuts p q valid valid_q cut inputs kept (inputs_of o) (inputs_known k (node_with o statement) stands alive) may) in
        all.0

  -- ---- what is kept

  keeps_from : EachIsKept p inputs kept → LimitsKeep
  keeps_from each k statement input count stands alive unsorted same = each k statement input count stands alive unsorted

  keeps_back : EachIsKept q inputs kept → LimitsKeep
  keeps_back each k statement input count stands alive unsorted same =
      let within : k < length p = slice_get_within p k (node_with (p_limit input count) statement) stands in
      let lower : AllByRecursion (λ i. i < k) (input ∷ []) = names_lower p valid k (node_with (p_limit input count) statement) stands in
      let low = lower.0 in
      subst (λ rows. AreKept count rows (kept_at kept statement)) same
      (each k statement input count (cut.each k (node_with (p_limit input count) statement) stands).stands (live_same marks cuts p q valid valid_q cut k ∙ alive)
      (sorted_same marks cuts p q valid valid_q cut input (omega (arith, low, within)) ∙ unsorted))

  limit_whole : LimitsKeep → (k statement input count : ℕ) → slice_get p k ≡ Some (node_with (p_limit input count) statement) → is_live p k ≡ true → Whole input
  limit_whole limits k statement input count stands alive =
      whole_input limits k statement input (p_limit input count) stands alive refl (cut.each k (node_with (p_limit input count) statement) stands).may

  each_back : EachIsKept q inputs kept → EachIsKept p inputs kept
  each_back each k statement input count stands alive unsorted =
      keeps_back each k statement input count stands alive unsorted (limit_whole (keeps_back each) k statement input count stands alive).rows

  each_on : EachIsKept p inputs kept → EachIsKept q inputs kept
  each_on each k statement input count there alive unsorted =
      let node : IsFrom marks cuts p q valid valid_q cut k (node_with (p_limit input count) statement) = from marks cuts p q valid valid_q cut k (node_with (p_limit input count) statement) there in
      let op_is : node.v.op ≡ p_limit input count = end_was C (marks k) node.v.op (p_limit input count) refl (sym (ap (λ v. v.op) node.is)) in
      let stands : slice_get p k ≡ Some (node_with (p_limit input count) statement) = node.stands ∙ (λ d. Some (node_with (op_is d) (sym (ap (λ v. v.statement) node.is) d))) in
      let lives : is_live p k ≡ true = sym (live_same marks cuts p q valid valid_q cut k) ∙ alive in
      let whole : Whole input = limit_whole (keeps_from each) k statement input count stands lives in
      subst (λ rows. AreKept count rows (kept_at kept statement)) (sym whole.rows) (each k statement input count stands lives (sym whole.sorted ∙ unsorted))

  -- ---- what is stored

  stores_on : LimitsKeep → (path : List ℕ) (delim : ℕ) (rows : List (List Tree)) (listed : Bool) → Stores p inputs kept path delim rows listed → Stores q inputs kept path delim rows listed
  stores_on limits path delim rows listed s =
      let v : PlanNode = node_with (p_store s.input path delim) s.statement in
      let alive : is_live p s.node ≡ true = store_lives p s.node v s.stands refl in
      let within : s.node < length p = slice_get_within p s.node v s.stands in
      let lower : AllByRecursion (λ i. i < s.node) (s.input ∷ []) = names_lower p valid s.node v s.stands in
      let low = lower.0 in
      let c = cut.each s.node v s.stands in
      record {
        node = s.node;
        input = s.input;
        statement = s.statement;
        stands = c.stands;
        rows_are = (all_known limits s.node alive).rows ∙ ap (λ o. cut_all K o (meaning p inputs kept s.node)) c.own ∙ s.rows_are;
        list_is = lists_same marks cuts p q valid valid_q cut s.input (omega (arith, low, within)) ∙ s.list_is;
      }

  stores_back : LimitsKeep → (path : List ℕ) (delim : ℕ) (rows : List (List Tree)) (listed : Bool) → Stores q inputs kept path delim rows listed → Stores p inputs kept path delim rows listed
  stores_back limits path delim rows listed s =
      let w : PlanNode = node_with (p_store s.input path delim) s.statement in
      let node : IsFrom marks cuts p q valid valid_q cut s.node w = from marks cuts p q valid valid_q cut s.node w s.stands in
      let op_is : node.v.op ≡ p_store s.input path delim = end_was C (marks s.node) node.v.op (p_store s.input path delim) refl (sym (ap (λ v. v.op) node.is)) in
      let stands : slice_get p s.node ≡ Some w = node.stands ∙ (λ d. Some (node_with (op_is d) (sym (ap (λ v. v.statement) node.is) d))) in
      let alive : is_live p s.node ≡ true = store_lives p s.node w stands refl in
      let within : s.node < length p = slice_get_within p s.node w stands in
      let lower : AllByRecursion (λ i. i < s.node) (s.input ∷ []) = names_lower p valid s.node w stands in
      let low = lower.0 in
      record {
        node = s.node;
        input = s.input;
        statement = s.statement;
        stands = stands;
        rows_are = sym ((all_known limits s.node alive).rows ∙ ap (λ o. cut_all K o (meaning p inputs kept s.node)) (cut.each s.node w stands).own) ∙ s.rows_are;
        list_is = sym (lists_same marks cuts p q valid valid_q cut s.input (omega (arith, low, within))) ∙ s.list_is;
      }

  -- ---- what fails

  met_same : LimitsKeep → (k statement input : ℕ) (cond : Typed) (message : Option (List ℕ)) → slice_get p k ≡ Some (node_with (p_assert input cond message) statement) → is_live p k ≡ true
      → list_all (passes (fit C (C input) cond)) (meaning q inputs kept input) ≡ list_all (passes cond) (meaning p inputs kept input)
  met_same limits k statement input cond message stands alive =
      let v : PlanNode = node_with (p_assert input cond message) statement in
      let all : AllByRecursion At (input ∷ []) = inputs_known limits k v stands alive in
      let may : sees C (C input) cond ≡ true = (cut.each k v stands).may in
      ap (list_all (passes (fit C (C input) cond))) all.0.rows
      ∙ met_cut K C (C input) cond (meaning p inputs kept input) may (suit marks cuts p q valid valid_q cut inputs kept input all.0)

  fails_on : LimitsKeep → (statement : ℕ) → Fails p inputs kept statement → FailsBy q inputs kept statement
  fails_on limits statement f =
      let v : PlanNode = node_with (p_assert f.input f.cond f.message) statement in
      record {
        first = statement;
        no_later = omega (arith);
        fails = record {
          node = f.node;
          input = f.input;
          cond = fit C (C f.input) f.cond;
          message = f.message;
          stands = (cut.each f.node v f.stands).stands;
          lives = live_same marks cuts p q valid valid_q cut f.node ∙ f.lives;
          unmet = met_same limits f.node statement f.input f.cond f.message f.stands f.lives ∙ f.unmet;
        };
      }

  fails_back : LimitsKeep → (statement : ℕ) → Fails q inputs kept statement → FailsBy p inputs kept statement
  fails_back limits statement f =
      let w : PlanNode = node_with (p_assert f.input f.cond f.message) statement in
      let node : IsFrom marks cuts p q valid valid_q cut f.node w = from marks cuts p q valid valid_q cut f.node w f.stands in
      let was : WasAssert C (marks f.node) node.v.op f.input f.cond f.message = assert_was C (marks f.node) node.v.op f.input f.cond f.message (sym (ap (λ v. v.op) node.is)) in
      let stands : slice_get p f.node ≡ Some (node_with (p_assert f.input was.was f.message) statement) = node.stands ∙ (λ d. Some (node_with (was.op_is d) (sym (ap (λ v. v.statement) node.is) d))) in
      let lives : is_live p f.node ≡ true = sym (live_same marks cuts p q valid valid_q cut f.node) ∙ f.lives in
      record {
        first = statement;
        no_later = omega (arith);
        fails = record {
          node = f.node;
          input = f.input;
          cond = was.was;
          message = f.message;
          stands = stands;
          lives = lives;
          unmet = sym (met_same limits f.node statement f.input was.was f.message stands lives) ∙ ap (λ c. list_all (passes c) (meaning q inputs kept f.input)) (sym was.fits) ∙ f.unmet;
        };
      }

  -- ---- rows

  as_cut : (k : ℕ) → k < length p → (o : NodeCut) → C k ≡ o → (rows : List (List Tree)) → cut_all K o rows ≡ cut_rows cuts k rows
  as_cut k within None e rows = ap (λ o. option_map_or (λ left. cut_by (K k) rows) o rows) (sym e)
  as_cut k within (Some left) e rows =
      let u : Unfolds C K k = node_unfolds marks cuts p q valid cut.each k within in
      (λ d. cut_by (λ row. (ap (λ o. cut_row K o row) (sym e) ∙ sym (u row)) d) rows) ∙ ap (λ o. option_map_or (λ more. cut_by (K k) rows) o rows) (sym e)

pub cut_nodes_have_cut_rows : CutNodesHaveCutRows
cut_nodes_have_cut_rows functions marks cuts p q valid valid_q cut inputs kept each k alive =
    (all_known functions marks cuts p q valid valid_q cut inputs kept (keeps_from functions marks cuts p q valid valid_q cut inputs kept each) k alive).rows
    ∙ as_cut functions marks cuts p q valid valid_q cut inputs kept k (live_within p k alive) (cut_at cuts k) refl (meaning p inputs kept k)

pub cut_plans_mean_the_same : CutPlansMeanTheSame
cut_plans_mean_the_same functions marks cuts p q valid valid_q cut =
    let same = limits_same marks cuts p q valid valid_q cut in
    let on = λ (inputs : List Input) (kept : List Kept). each_on functions marks cuts p q valid valid_q cut inputs kept in
    let back = λ (inputs : List Input) (kept : List Kept). each_back functions marks cuts p q valid valid_q cut inputs kept in
    let limits = λ (inputs : List Input) (kept : List Kept) (each : EachIsKept p inputs kept). keeps_from functions marks cuts p q valid valid_q cut inputs kept each in
    record {
      kept_on = λ inputs kept h. record { entries = h.entries ∙ sym same; each = on inputs kept h.each };
      kept_back = λ inputs kept h. record { entries = h.entries ∙ same; each = back inputs kept h.each };
      goes = λ inputs kept h. record {
        stores = stores_on functions marks cuts p q valid valid_q cut inputs kept (limits inputs kept h.each);
        fails = fails_on functions marks cuts p q valid valid_q cut inputs kept (limits inputs kept h.each);
      };
      comes = λ inputs kept h. record {
        stores = stores_back functions marks cuts p q valid valid_q cut inputs kept (limits inputs kept (back inputs kept h.each));
        fails = fails_back functions marks cuts p q valid valid_q cut inputs kept (limits inputs kept (back inputs kept h.each));
      };
    }
