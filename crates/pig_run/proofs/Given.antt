-- What outputs of all waves give is what the script's plan means, and what its STOREs store.
use Rattle.std.proofs.Common.{◌≡◌, ◌≢◌, ◌<◌, ◌+◌, ◌++◌, ◌||◌, ◌%◌, ◌^◌, ℕ, zero, suc, Bool, true, false, List, [], ◌∷◌, length, map, Option, Some, None, slice_get, drop, refl, sym, ◌∙◌, ap, subst, arith, cond, inl, inr}
use Rattle.std.specs.List.{AllByRecursion, cons_option, filter, range_with_len}
use Rattle.std.specs.Option.{option_map, option_map_or, unwrap_or}
use Rattle.std.proofs.lemmas.Bool.{cases_lt}
use Rattle.std.proofs.lemmas.Bool.Decides.{Decides-eqb}
use Rattle.std.proofs.lemmas.List.{append-nil}
use Rattle.std.proofs.lemmas.Option.{slice_get_past}
use Rattle.std.proofs.lemmas.List.Concat.{flat_map-append}
use Rattle.pig_value.specs.declared.inputs.Input.{Input}
use Rattle.pig_value.specs.declared.outcomes.Kept.{Kept}
use Rattle.pig_value.specs.Orders.{bag_of}
use Rattle.pig_value.specs.Texts.{rows_text}
use Rattle.pig_value.specs.Valid.{IsValue}
use Rattle.pig_plan.specs.Asserts.{first_unmet}
use Rattle.pig_plan.specs.Laws.{AreOfBytes, PlanLiteralsAre}
use Rattle.pig_plan.specs.Meaning.{IsKept, meaning}
use Rattle.pig_plan.specs.Nodes.{is_live, is_store, is_used, op_at}
use Rattle.pig_plan.specs.Plans.{Plan, PlanNode, PlanOp, p_load, p_filter, p_foreach, p_group_all, p_group, p_join, p_union, p_distinct, p_order, p_limit, p_store, p_assert, p_rank}
use Rattle.pig_plan.specs.Stored.{StoresBag, StoresList}
use Rattle.pig_plan.specs.Valid.{IsPlan}
use Rattle.pig_plan.proofs.Lower.{names_lower}
use Rattle.pig_plain.specs.StoredLines.{AnswersAreStoredLines}
use Rattle.pig_reach.specs.Reach.{store_of, stores_of}
use Rattle.pig_reach.specs.declared.storing.Store.{Store}
use Rattle.pig_reach.proofs.Enough.{named_lives}
use Rattle.pig_runs.specs.Cutting.{Point}
use Rattle.pig_physical.specs.Outs.{Outs, TaskOut, bytes_in, outs_at}
use Rattle.pig_physical.specs.Running.{AreOutputs, IsRun, all_unmet, bytes_for, is_for, store_wave}
use Rattle.pig_physical.specs.Stages.{Stages, Task, heads, stores, tasks_in, tasks_of}
use Rattle.pig_work.specs.Working.{Tellings}
use Rattle.pig_cutter.specs.Laws.{GiveMeaning, StagesGiveMeaning, stores_at}
use Rattle.pig_driver.specs.Going.{HasRunAll}
use Rattle.pig_driver.specs.Left.{IsOver}
use Rattle.pig_driver.specs.Standing.{AreStanding}
use Rattle.pig_commit.specs.declared.parts.StorePart.{StorePart}
use Rattle.pig_driver.specs.Handing.{entries_handed}
use Rattle.pig_collect.specs.Collecting.{HasStoreOutputs, joined, least, lines_in, parts_for, parts_given}
use Rattle.pig_collect.specs.Laws.{RunsReadLines, RunsTellTheFirstUnmet, TellTheSame, WhatIsLeftTellsTheSame}
use Rattle.pig_counts.specs.Laws.{EntriesAreDue}
use Rattle.pig_rewrites.specs.Alike.{AllAlike, RunsAlike, StoresAlike}
use Rattle.pig_run.specs.Outputs.{AreOutputsOf, IsOutputOf}
use Rattle.pig_run.specs.Running.{GivesAll, UnmetAll}

-- ---- STOREs by number, and as they stand in a plan

abbrev store_at : Plan → ℕ → Store → Type 0
store_at plan k store = slice_get plan k ≡ Some (stores_at store.relation store.dir store.delim store.statement)

abbrev EachAt : Plan → List ℕ → List Store → Type 0
EachAt plan [] [] = Unit {0}
EachAt plan (k ∷ ks) (store ∷ stores) = store_at plan k store × EachAt plan ks stores
EachAt plan ks stores = ⊥

abbrev is_store_at : Plan → ℕ → Bool
is_store_at plan k = option_map_or is_store (op_at plan k) false

-- a STORE is live
store_lives : (plan : Plan) (k : ℕ) → is_store_at plan k ≡ true → is_live plan k ≡ true
store_lives plan k h = by_node (slice_get plan k) refl h
  where
    by_node : (o : Option PlanNode) → slice_get plan k ≡ o → option_map_or is_store (option_map (λ node. node.op) o) false ≡ true → is_live plan k ≡ true
    by_node None e g = absurd (cc)
    by_node (Some node) e g = ap (λ o. option_map_or (λ node. is_store node.op || is_used k (k + 1) (drop (k + 1) plan)) o false) e ∙ ap (λ b. b || is_used k (k + 1) (drop (k + 1) plan)) g

-- so the live STOREs among numbers are the STOREs
all_live : (plan : Plan) (ks : List ℕ) → filter (is_store_at plan) (filter (is_live plan) ks) ≡ filter (is_store_at plan) ks
all_live plan [] = refl
all_live plan (k ∷ ks) = by (all_live plan ks) (is_live plan k) (is_store_at plan k) refl refl
  where
    by : filter (is_store_at plan) (filter (is_live plan) ks) ≡ filter (is_store_at plan) ks → (a b : Bool) → is_live plan k ≡ a → is_store_at plan k ≡ b → filter (is_store_at plan) (cond (is_live plan k) (k ∷ filter (is_live plan) ks) (filter (is_live plan) ks)) ≡ cond (is_store_at plan k) (k ∷ filter (is_store_at plan) ks) (filter (is_store_at plan) ks)
    by rest true true e f =
        ap (λ c. filter (is_store_at plan) (cond c (k ∷ filter (is_live plan) ks) (filter (is_live plan) ks))) e
        ∙ (λ i. cond (is_store_at plan k) (k ∷ rest i) (rest i))
    by rest true false e f =
        ap (λ c. filter (is_store_at plan) (cond c (k ∷ filter (is_live plan) ks) (filter (is_live plan) ks))) e
        ∙ (λ i. cond (is_store_at plan k) (k ∷ rest i) (rest i))
    by rest false true e f = absurd (let lives = store_lives plan k f in let wrong = sym e ∙ lives in cc)
    by rest false false e f =
        ap (λ c. filter (is_store_at plan) (cond c (k ∷ filter (is_live plan) ks) (filter (is_live plan) ks))) e ∙ rest
        ∙ ap (λ c. cond c (k ∷ filter (is_store_at plan) ks) (filter (is_store_at plan) ks)) (sym f)

-- the numbers of the STOREs from a node on, and these
each_at : (plan : Plan) (n : ℕ) (nodes : Plan) → ((m : ℕ) (v : PlanNode) → slice_get nodes m ≡ Some v → slice_get plan (n + m) ≡ Some v)
    → EachAt plan (filter (is_store_at plan) (range_with_len n (length nodes))) (stores_of nodes)
each_at plan n [] h = tt
each_at plan n (node ∷ nodes) h =
    by_op node.op refl (each_at plan (n + 1) nodes (λ m v at. let e : n + suc m ≡ n + 1 + m = omega arith in ap (slice_get plan) (sym e) ∙ h (suc m) v at))
  where
    here : slice_get plan n ≡ Some node
    here = let z : n + 0 ≡ n = omega arith in ap (slice_get plan) (sym z) ∙ h zero node refl

    is_here : is_store_at plan n ≡ is_store node.op
    is_here = ap (λ o. option_map_or is_store (option_map (λ node. node.op) o) false) here

    Goal : PlanOp → Type 0
    Goal o = EachAt plan (cond (is_store o) (n ∷ filter (is_store_at plan) (range_with_len (n + 1) (length nodes))) (filter (is_store_at plan) (range_with_len (n + 1) (length nodes))))
        (cons_option (store_of (record { op = o; statement = node.statement })) (stores_of nodes))

    back : (o : PlanOp) → node.op ≡ o → Goal o → EachAt plan (filter (is_store_at plan) (range_with_len n (length (node ∷ nodes)))) (stores_of (node ∷ nodes))
    back o e g =
        subst (λ b. EachAt plan (cond b (n ∷ filter (is_store_at plan) (range_with_len (n + 1) (length nodes))) (filter (is_store_at plan) (range_with_len (n + 1) (length nodes)))) (stores_of (node ∷ nodes)))
        (sym is_here) (subst Goal (sym e) g)

    by_op : (o : PlanOp) → node.op ≡ o → EachAt plan (filter (is_store_at plan) (range_with_len (n + 1) (length nodes))) (stores_of nodes)
        → EachAt plan (filter (is_store_at plan) (range_with_len n (length (node ∷ nodes)))) (stores_of (node ∷ nodes))
    by_op (p_store input path delim) e rest = back (p_store input path delim) e (here ∙ ap (λ o. Some (record { op = o; statement = node.statement })) e, rest)
    by_op (p_load path delim columns) e rest = back (p_load path delim columns) e rest
    by_op (p_filter input test) e rest = back (p_filter input test) e rest
    by_op (p_foreach input block) e rest = back (p_foreach input block) e rest
    by_op (p_group_all input) e rest = back (p_group_all input) e rest
    by_op (p_group keyed) e rest = back (p_group keyed) e rest
    by_op (p_join keyed side replicated) e rest = back (p_join keyed side replicated) e rest
    by_op (p_union numbers) e rest = back (p_union numbers) e rest
    by_op (p_distinct input) e rest = back (p_distinct input) e rest
    by_op (p_order input keys) e rest = back (p_order input keys) e rest
    by_op (p_limit input count) e rest = back (p_limit input count) e rest
    by_op (p_assert input test message) e rest = back (p_assert input test message) e rest
    by_op (p_rank input keys dense) e rest = back (p_rank input keys dense) e rest

stores_listed : (plan : Plan) → EachAt plan (stores plan) (stores_of plan)
stores_listed plan =
    subst (λ ks. EachAt plan ks (stores_of plan)) (sym (all_live plan (range_with_len 0 (length plan))))
    (each_at plan 0 plan (λ m v at. let z : 0 + m ≡ m = omega arith in ap (slice_get plan) z ∙ at))

-- the relation that a STORE stores is live
relation_lives : (plan : Plan) → IsPlan plan → (k : ℕ) (store : Store) → store_at plan k store → is_live plan store.relation ≡ true
relation_lives plan valid k store at =
    let node : PlanNode = stores_at store.relation store.dir store.delim store.statement in
    let lives : is_live plan k ≡ true = ap (λ o. option_map_or (λ node. is_store node.op || is_used k (k + 1) (drop (k + 1) plan)) o false) at in
    named_lives plan k node at lives store.relation (names_lower plan valid k node at).0 (ap (λ b. b || false) ((Decides-eqb store.relation store.relation).1 refl))

-- ---- parts that are joined

joined_for : (k : ℕ) (tasks : List Task) (outs : List TaskOut) → joined (parts_for k tasks outs) ≡ bytes_for k tasks outs
joined_for k [] outs = refl
joined_for k (task ∷ tasks) [] = refl
joined_for k (task ∷ tasks) (out ∷ outs) =
    flat_map-append (λ part. part) (cond (is_for k task) (bytes_in out.form ∷ []) []) (parts_for k tasks outs)
    ∙ (λ i. one (is_for k task) i ++ joined_for k tasks outs i)
  where
    one : (b : Bool) → joined (cond b (bytes_in out.form ∷ []) []) ≡ cond b (bytes_in out.form) []
    one true = append-nil (bytes_in out.form)
    one false = refl

-- ---- what is left of outputs

stored_whole : (s : Stages) (whole : Outs) → length whole ≡ length (heads s.plan) → AreStanding s whole (length (heads s.plan)) → HasStoreOutputs s whole
stored_whole s whole size standing = elim (cases_lt 0 (length (heads s.plan))) [
  | inl some ↦ standing.counts (store_wave s.plan) (omega (arith, some))
  | inr none ↦ ap (λ o. length (unwrap_or o [])) (slice_get_past whole (store_wave s.plan) (omega (arith, none, size)))
      ∙ sym (ap (λ o. length (option_map_or (tasks_of s (store_wave s.plan)) o [])) (slice_get_past (heads s.plan) (store_wave s.plan) (omega (arith, none))))
]

pub told_same : (s : Stages) → WhatIsLeftTellsTheSame → IsPlan s.plan → (tellings : Tellings) (left : Outs) (shuffled : ℕ) (over : IsOver s tellings left shuffled)
    → TellTheSame s over.whole left
told_same s law valid tellings left shuffled over =
    law s over.whole left valid over.run.size (stored_whole s over.whole over.run.size over.run.standing) over.are

-- ---- the run

module _ (law : StagesGiveMeaning) (reads : RunsReadLines) (unmets : RunsTellTheFirstUnmet) (counts : EntriesAreDue) (lines : AnswersAreStoredLines)
    (s : Stages) (valid : IsPlan s.plan) (literals : PlanLiteralsAre IsValue s.plan) (some : 0 < s.sizing.reducers) (splits : 0 < s.sizing.split)
    (tellings : Tellings) (outs : Outs) (run : HasRunAll s tellings outs) (kept : List Kept) (kept_are : AreOutputs s.plan outs kept) where
  module _ (plan : Plan) (alike : RunsAlike plan s.plan) (inputs : List Input) (points : ℕ → List Point) (runs : IsRun s inputs points outs) where
    means : GiveMeaning s inputs kept outs
    means = law s inputs kept points outs valid some splits runs kept_are

    kept_valid : IsKept plan inputs kept
    kept_valid = alike.kept_back inputs kept means.valid

    first_is : (unmet : Option ℕ) → unmet ≡ least (all_unmet outs) → unmet ≡ first_unmet plan inputs kept
    first_is unmet found = found ∙ unmets s inputs kept points outs valid some splits runs kept_are ∙ alike.unmet inputs kept kept_valid

    module _ (bytes : AreOfBytes inputs) where
      -- a STORE of the script, by that of the plan that is cut
      output_is : (k : ℕ) (store other : Store) (part : StorePart) → StoresAlike plan s.plan store other → store_at s.plan k other → other.delim ≢ 10 → part.parts ≡ parts_given s outs k
          → IsOutputOf plan inputs kept store part
      output_is k store other part stands at no_end given =
          let answers = means.stores k other.statement other.relation other.delim other.dir at in
          let text : joined part.parts ≡ rows_text other.delim answers.rows =
          ap joined given ∙ joined_for k (tasks_in s (store_wave s.plan)) (outs_at outs (store_wave s.plan)) ∙ answers.bytes in
          let stored = lines s.plan inputs kept valid literals bytes means.valid other.relation (relation_lives s.plan valid k other at) answers.rows answers.answers other.delim no_end in
          let meant : meaning s.plan inputs kept other.relation ≡ meaning plan inputs kept store.relation = stands.rows inputs kept kept_valid in
          let whole : IsOutputOf plan inputs kept (record { statement = store.statement; relation = store.relation; dir = store.dir; delim = other.delim }) part = record {
            rows = answers.rows;
            answer = record {
              bag = answers.answers.bag ∙ ap bag_of meant;
              list = λ listed. answers.answers.list (stands.lists ∙ listed) ∙ meant;
            };
            bytes = text;
            stored = record {
              bag = subst (λ bs. StoresBag other.delim bs (meaning plan inputs kept store.relation)) (sym text)
                  (subst (StoresBag other.delim (rows_text other.delim answers.rows)) meant stored.bag);
              list = λ listed. subst (λ bs. StoresList other.delim bs (meaning plan inputs kept store.relation)) (sym text)
                  (subst (StoresList other.delim (rows_text other.delim answers.rows)) meant (stored.list (stands.lists ∙ listed)));
            };
          } in
          subst (λ delim. IsOutputOf plan inputs kept (record { statement = store.statement; relation = store.relation; dir = store.dir; delim = delim }) part) stands.delim whole

      outputs_are : (ks : List ℕ) (stores others : List Store) (parts : List StorePart) → AllAlike plan s.plan stores others → EachAt s.plan ks others → AllByRecursion (λ store. store.delim ≢ 10) others
          → map (λ part. part.parts) parts ≡ map (parts_given s outs) ks → AreOutputsOf plan inputs kept stores parts
      outputs_are [] [] [] [] stand at ends e = tt
      outputs_are [] [] [] (part ∷ parts) stand at ends e = absurd (let wrong : ◌≡◌ {A = List (List (List ℕ))} (part.parts ∷ map (λ part. part.parts) parts) [] = e in cc)
      outputs_are [] (store ∷ stores) [] parts stand at ends e = absurd stand
      outputs_are [] stores (other ∷ others) parts stand at ends e = absurd at
      outputs_are (k ∷ ks) stores [] parts stand at ends e = absurd at
      outputs_are (k ∷ ks) [] (other ∷ others) parts stand at ends e = absurd stand
      outputs_are (k ∷ ks) (store ∷ stores) (other ∷ others) [] stand at ends e = absurd (let wrong : ◌≡◌ {A = List (List (List ℕ))} [] (parts_given s outs k ∷ map (parts_given s outs) ks) = e in cc)
      outputs_are (k ∷ ks) (store ∷ stores) (other ∷ others) (part ∷ parts) stand at ends e = (
        output_is k store other part stand.0 at.0 ends.0 (head_same e),
        outputs_are ks stores others parts stand.1 at.1 ends.1 (tail_same e),
      )
        where
          head_same : {x y : List (List ℕ)} {xs ys : List (List (List ℕ))} → x ∷ xs ≡ y ∷ ys → x ≡ y
          head_same f = cc

          tail_same : {x y : List (List ℕ)} {xs ys : List (List (List ℕ))} → x ∷ xs ≡ y ∷ ys → xs ≡ ys
          tail_same f = cc

  module _ (all : List Store) (all_are : all ≡ stores_of s.plan) (others : AllByRecursion (λ store. store.delim ≢ 10) all) (parts : List StorePart)
      (parts_are : map (λ part. part.parts) parts ≡ map (parts_given s outs) (stores s.plan)) where
    pub given_all : (limit read shuffled : ℕ) (unmet : Option ℕ) → read ≡ lines_in outs % 2 ^ 64 → shuffled ≡ entries_handed s outs % 2 ^ 64 → unmet ≡ least (all_unmet outs)
        → GivesAll s limit tellings kept parts read shuffled unmet
    given_all limit read shuffled unmet read_is shuffled_is unmet_is = λ plan alike inputs tell bytes.
        let found = run.runs inputs tell in
        record {
          kept_valid = kept_valid plan alike inputs found.points found.run;
          outs_are = outputs_are plan alike inputs found.points found.run bytes (stores s.plan) (stores_of plan) (stores_of s.plan) parts alike.stores (stores_listed s.plan)
              (subst (AllByRecursion (λ store. store.delim ≢ 10)) all_are others) parts_are;
          read_is = read_is ∙ ap (λ n. n % 2 ^ 64) (reads s inputs found.points outs valid splits found.run);
          unmet_is = first_is plan alike inputs found.points found.run unmet unmet_is;
          run_of = record { points = found.points; outs = outs; run = found.run; kept_are = kept_are; parts_are = parts_are; handed = shuffled_is ∙ ap (λ n. n % 2 ^ 64) (counts s inputs found.points outs some found.run) };
        }

  -- an ASSERT that tasks tell of is the first that is not met
  pub unmet_all : (n : ℕ) → Some n ≡ least (all_unmet outs) → UnmetAll s tellings kept n
  unmet_all n told = λ plan alike inputs tell bytes.
      let found = run.runs inputs tell in
      record {
        kept_valid = kept_valid plan alike inputs found.points found.run;
        first = sym (first_is plan alike inputs found.points found.run (Some n) told);
      }
