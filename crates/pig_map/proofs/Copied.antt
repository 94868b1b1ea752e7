-- The sides of a replicated JOIN, made of what was copied, give the JOIN.
use Rattle.std.specs.Prelude.{◌≡◌, ◌≤◌, ◌==◌, ◌+◌, ℕ, zero, suc, false, List, [], ◌∷◌, ◌++◌, map, drop, take, length, Option, None, Some, slice_get, refl, if◌then◌else◌}
use Rattle.std.proofs.Common.{ap, sym, ◌∙◌, arith, subst, append-nil, append_assoc}
use Rattle.std.specs.List.{AllByRecursion}
use Rattle.std.specs.List.Sorted.{IsPermutation}
use Rattle.std.proofs.lemmas.Bool.Decides.{nat_tests}
use Rattle.std.proofs.lemmas.Bool.{eq-eqb}
use Rattle.std.proofs.lemmas.List.{map-append}
use Rattle.std.proofs.lemmas.List.Sorted.{IsPermutation-append_comm, IsPermutation-append_left, IsPermutation-append_right, IsPermutation-trans}
use Rattle.pig_value.specs.declared.operators.Side.TheVariants as side
use Rattle.pig_value.specs.Gathering.{Entry}
use Rattle.pig_value.specs.Orders.{bag_of}
use Rattle.pig_value.specs.declared.values.Value.{Value}
use Rattle.pig_value.specs.Trees.{Tree, row_tree, rows_tree}
use Rattle.pig_value.specs.Valid.{AreRows, IsRow}
use Rattle.pig_value.proofs.ValidLaws.{rows_each, valid_rows-append}
use Rattle.pig_value.proofs.list_laws.Bags.{each-sort}
use Rattle.pig_value.proofs.list_laws.Indexing.{more_taken}
use Rattle.pig_value.proofs.list_laws.Listing.{each-map, some_same}
use Rattle.pig_value.proofs.list_laws.Permutations.{IsPermutation-same}
use Rattle.pig_plan.specs.ByKey.{entries_of_input, gathered, join_of, key_of, outer_of}
use Rattle.pig_plan.specs.Entries.{entries_of}
use Rattle.pig_plan.specs.Operators.{keyed_entries, keys_of}
use Rattle.pig_plan.specs.Plans.{Keyed, PlanOp}
use Rattle.pig_plan.proofs.Gathered.{gathered_same}
use Rattle.pig_typed.specs.Typed.{Typed}
use Rattle.pig_replicated.specs.Holding.{keyed_cmp, keyed_row, lookup_of}
use Rattle.pig_replicated.specs.Joining.{probed, sides_of}
use Rattle.pig_probe.specs.Probing.{HoldsRows}
use Rattle.pig_replicated.proofs.Pieces.{one_inner, one_left}
use Rattle.pig_physical.specs.Outs.{TaskOut, rows_in}
use Rattle.pig_physical.specs.Stages.{Task, t_map, t_rank, t_reduce}
use Rattle.pig_physical.specs.Values.{handed_entries}
use Rattle.pig_map.specs.Copies.{numbered, rows_for, rows_of_task}

abbrev Rows : Type 0
Rows = List (List Tree)

abbrev pub key_by : Keyed → List Tree → Tree
key_by input row = key_of (keys_of input.keys row)

-- the entries of inputs from a place on, by the rows at each place
abbrev pub by_place : ℕ → List Keyed → (ℕ → Rows) → List Entry
by_place i inputs rows = keyed_entries i (numbered i inputs) rows

entries_both : (key : List Tree → Tree) (i : ℕ) (xs ys : Rows) → entries_of_input key i (xs ++ ys) ≡ entries_of_input key i xs ++ entries_of_input key i ys
entries_both key i xs ys = map-append (λ row. record { key = key row; input = i; row = row }) xs ys

-- no rows, no entries
none_by_place : (i : ℕ) (inputs : List Keyed) → by_place i inputs (λ j. []) ≡ []
none_by_place i [] = refl
none_by_place i (input ∷ inputs) = none_by_place (i + 1) inputs

-- rows at other places change nothing
same_by_place : (rows others : ℕ → Rows) (i : ℕ) (inputs : List Keyed) → ((j : ℕ) → i ≤ j → others j ≡ rows j) → by_place i inputs others ≡ by_place i inputs rows
same_by_place rows others i [] same = refl
same_by_place rows others i (input ∷ inputs) same =
    (λ t. entries_of_input (key_by input) i (same i (omega arith) t) ++ by_place (i + 1) inputs others)
    ∙ ap (λ es. entries_of_input (key_by input) i (rows i) ++ es) (same_by_place rows others (i + 1) inputs (λ j more. same j (omega (arith, more))))

-- entries that are moved behind others
behind_others : (xs ys zs : List Entry) → IsPermutation (xs ++ (ys ++ zs)) (ys ++ (xs ++ zs))
behind_others xs ys zs =
    subst (IsPermutation (xs ++ (ys ++ zs))) (append_assoc ys xs zs)
    (subst (λ es. IsPermutation es ((ys ++ xs) ++ zs)) (append_assoc xs ys zs) (IsPermutation-append_left zs (xs ++ ys) (ys ++ xs) (IsPermutation-append_comm xs ys)))

-- ---- rows that come to one place

-- in front of what stands there
module _ (rows more : ℕ → Rows) (new : Rows) where
  goes_to : (i m : ℕ) (inputs : List Keyed) (input : Keyed) → slice_get inputs m ≡ Some input
      → more (i + m) ≡ new ++ rows (i + m) → ((j : ℕ) → (j == i + m) ≡ false → more j ≡ rows j)
      → IsPermutation (entries_of_input (key_by input) (i + m) new ++ by_place i inputs rows) (by_place i inputs more)
  goes_to i m [] input at here other = absurd (cc)
  goes_to i zero (first ∷ inputs) input at here other =
      let at_i : i + 0 ≡ i = omega arith in
      let same : first ≡ input = some_same first input at in
      IsPermutation-same (entries_of_input (key_by input) (i + 0) new ++ by_place i (first ∷ inputs) rows) (by_place i (first ∷ inputs) more)
      ((λ t. entries_of_input (key_by (sym same t)) (at_i t) new ++ by_place i (first ∷ inputs) rows)
      ∙ sym (append_assoc (entries_of_input (key_by first) i new) (entries_of_input (key_by first) i (rows i)) (by_place (i + 1) inputs rows))
      ∙ ap (λ es. es ++ by_place (i + 1) inputs rows)
      (sym (entries_both (key_by first) i new (rows i)) ∙ ap (entries_of_input (key_by first) i) (sym (subst (λ j. more j ≡ new ++ rows j) at_i here)))
      ∙ ap (λ es. entries_of_input (key_by first) i (more i) ++ es)
      (sym (same_by_place rows more (i + 1) inputs (λ j behind. other j (grind (arith, nat_tests, behind))))))
  goes_to i (suc m) (first ∷ inputs) input at here other =
      let next : i + suc m ≡ i + 1 + m = omega arith in
      let own : more i ≡ rows i = other i (grind (arith, nat_tests)) in
      let E : List Entry = entries_of_input (key_by input) (i + suc m) new in
      let A : List Entry = entries_of_input (key_by first) i (rows i) in
      let rest = goes_to (i + 1) m inputs input at (subst (λ j. more j ≡ new ++ rows j) next here) (λ j apart. other j (ap (λ n. j == n) next ∙ apart)) in
      IsPermutation-trans (E ++ (A ++ by_place (i + 1) inputs rows)) (A ++ (E ++ by_place (i + 1) inputs rows)) (by_place i (first ∷ inputs) more)
      (behind_others E A (by_place (i + 1) inputs rows))
      (subst (IsPermutation (A ++ (E ++ by_place (i + 1) inputs rows))) (ap (λ rs. entries_of_input (key_by first) i rs ++ by_place (i + 1) inputs more) (sym own))
      (IsPermutation-append_right A (E ++ by_place (i + 1) inputs rows) (by_place (i + 1) inputs more)
      (subst (λ n. IsPermutation (entries_of_input (key_by input) n new ++ by_place (i + 1) inputs rows) (by_place (i + 1) inputs more)) (sym next) rest)))

-- ---- the entries that tasks handed on

module _ (first : Keyed) (inputs : List Keyed) (o : PlanOp) (keyed : (m : ℕ) (input : Keyed) → slice_get inputs m ≡ Some input → (rows : Rows)
    → entries_of o (1 + m) rows ≡ entries_of_input (key_by input) (1 + m) rows) where
  -- the task's input
  abbrev input_of : Task → Option ℕ
  input_of (t_map t) = Some t.way.input
  input_of (t_reduce t) = None
  input_of (t_rank t) = None

  pub record IsCopy (task : Task) : Type 0 where
    pub at : ℕ
    pub input : Keyed
    pub stands : slice_get inputs at ≡ Some input
    pub comes : input_of task ≡ Some (1 + at)

  pub handed_by_place : (tasks : List Task) (outs : List TaskOut) → AllByRecursion IsCopy tasks
      → IsPermutation (handed_entries o tasks outs) (by_place 1 inputs (λ i. rows_for i tasks outs))
  handed_by_place [] outs h = IsPermutation-same [] (by_place 1 inputs (λ i. [])) (sym (none_by_place 1 inputs))
  handed_by_place (task ∷ tasks) [] h = nothing task
    where
      nothing : (u : Task) → IsPermutation (handed_entries o (u ∷ tasks) []) (by_place 1 inputs (λ i. []))
      nothing (t_map t) = IsPermutation-same [] (by_place 1 inputs (λ i. [])) (sym (none_by_place 1 inputs))
      nothing (t_reduce t) = IsPermutation-same [] (by_place 1 inputs (λ i. [])) (sym (none_by_place 1 inputs))
      nothing (t_rank t) = IsPermutation-same [] (by_place 1 inputs (λ i. [])) (sym (none_by_place 1 inputs))
  handed_by_place (t_reduce t ∷ tasks) (out ∷ outs) h = let wrong = (h.0).comes in absurd (cc)
  handed_by_place (t_rank t ∷ tasks) (out ∷ outs) h = let wrong = (h.0).comes in absurd (cc)
  handed_by_place (t_map t ∷ tasks) (out ∷ outs) h =
      let copy = h.0 in
      let i : t.way.input ≡ 1 + copy.at = some_same t.way.input (1 + copy.at) copy.comes in
      let new : Rows = rows_in out.form in
      let before : ℕ → Rows = λ j. rows_for j tasks outs in
      let after : ℕ → Rows = λ j. rows_for j (t_map t ∷ tasks) (out ∷ outs) in
      let rest = handed_by_place tasks outs h.1 in
      let own : entries_of o t.way.input new ≡ entries_of_input (key_by copy.input) (1 + copy.at) new =
      ap (λ n. entries_of o n new) i ∙ keyed copy.at copy.input copy.stands new in
      let here : after (1 + copy.at) ≡ new ++ before (1 + copy.at) =
      ap (λ b. (if b then new else []) ++ before (1 + copy.at)) (eq-eqb t.way.input (1 + copy.at) i) in
      subst (λ es. IsPermutation (es ++ handed_entries o tasks outs) (by_place 1 inputs after)) (sym own)
      (IsPermutation-trans (entries_of_input (key_by copy.input) (1 + copy.at) new ++ handed_entries o tasks outs)
      (entries_of_input (key_by copy.input) (1 + copy.at) new ++ by_place 1 inputs before) (by_place 1 inputs after)
      (IsPermutation-append_right (entries_of_input (key_by copy.input) (1 + copy.at) new) (handed_entries o tasks outs) (by_place 1 inputs before) rest)
      (goes_to before after new 1 copy.at inputs copy.input copy.stands here
      (λ j apart. ap (λ b. (if b then new else []) ++ before j) (apart_of t.way.input j (1 + copy.at) i apart))))
    where
      apart_of : (i j k : ℕ) → i ≡ k → (j == k) ≡ false → (i == j) ≡ false
      apart_of i j k e h = grind (arith, nat_tests, e, h)

-- ---- what the sides give

length_numbered : (i : ℕ) (inputs : List Keyed) → length (numbered i inputs) ≡ length inputs
length_numbered i [] = refl
length_numbered i (input ∷ inputs) = ap suc (length_numbered (i + 1) inputs)

module _ (first second : Keyed) (rows : ℕ → Rows) (piece : Rows) where
  abbrev numbered_second : Keyed
  numbered_second = record { input = 1; keys = second.keys; inner = second.inner }

  abbrev pub all_entries : List Keyed → List Entry
  all_entries others = entries_of_input (key_by first) 0 piece ++ by_place 1 (second ∷ others) rows

  pub inner_probed : (others : List Keyed) (entries : List Entry) → IsPermutation (all_entries others) entries
      → bag_of (probed (sides_of (numbered 1 (second ∷ others)) rows) None first.keys piece) ≡ bag_of (gathered (join_of (length (first ∷ second ∷ others))) entries)
  inner_probed others entries same =
      one_inner first numbered_second (numbered 2 others) rows piece
      ∙ ap bag_of
      ((λ t. gathered (join_of (suc (suc (length_numbered 2 others t)))) (all_entries others))
      ∙ gathered_same (join_of (length (first ∷ second ∷ others))) (all_entries others) entries same)

  pub left_probed : (width : ℕ → ℕ) (entries : List Entry) → IsPermutation (all_entries []) entries
      → bag_of (probed (sides_of (numbered 1 (second ∷ [])) rows) (Some (width second.input)) first.keys piece)
      ≡ bag_of (gathered (outer_of side.Left (width first.input) (width second.input)) entries)
  left_probed width entries same =
      one_left (record first { input = 0 }) numbered_second rows (λ i. if i == 0 then width first.input else width second.input) piece
      ∙ ap bag_of (gathered_same (outer_of side.Left (width first.input) (width second.input)) (all_entries []) entries same)

-- ---- rows as they are read

pub row_added : (packed start : Rows) (at : ℕ) (found new : List (List Value)) (row : List Value) → slice_get packed at ≡ Some (row_tree row)
    → rows_tree found ≡ start ++ take at packed → new ≡ found ++ row ∷ [] → rows_tree new ≡ start ++ take (at + 1) packed
row_added packed start at found new row here so_far is =
    ap rows_tree is ∙ map-append row_tree found (row ∷ []) ∙ ap (λ l. l ++ row_tree row ∷ []) so_far
    ∙ append_assoc start (take at packed) (row_tree row ∷ []) ∙ ap (λ l. start ++ l) (sym (more_taken packed at (row_tree row) here))

pub row_valid : (found new : List (List Value)) (row : List Value) → new ≡ found ++ row ∷ [] → AreRows (rows_tree found) → IsRow (row_tree row) → AreRows (rows_tree new)
row_valid found new row is h k =
    subst (λ l. AreRows (rows_tree l)) (sym is)
    (subst AreRows (sym (map-append row_tree found (row ∷ []))) (valid_rows-append (rows_tree found) (row_tree row ∷ []) h (k, tt)))

opened : {X : Type 0} (xs : List X) (i : ℕ) (x : X) → slice_get xs i ≡ Some x → drop i xs ≡ x ∷ drop (i + 1) xs
opened [] i x h = absurd (cc)
opened (y ∷ ys) zero x h = ap (λ z. z ∷ ys) (some_same y x h)
opened (y ∷ ys) (suc i) x h = opened ys i x h ∙ (let e : suc (i + 1) ≡ suc i + 1 = omega arith in ap (λ n. x ∷ drop n (y ∷ ys)) e)

-- one output more
pub rows_more : (place : ℕ) (tasks : List Task) (outs : List TaskOut) (at : ℕ) (task : Task) (out : TaskOut) (made new all : Rows)
    → slice_get tasks at ≡ Some task → slice_get outs at ≡ Some out → made ++ rows_for place (drop at tasks) (drop at outs) ≡ all
    → new ≡ made ++ rows_of_task place task out → new ++ rows_for place (drop (at + 1) tasks) (drop (at + 1) outs) ≡ all
rows_more place tasks outs at task out made new all here there so_far is =
    ap (λ front. front ++ rows_for place (drop (at + 1) tasks) (drop (at + 1) outs)) is
    ∙ append_assoc made (rows_of_task place task out) (rows_for place (drop (at + 1) tasks) (drop (at + 1) outs))
    ∙ sym (λ i. made ++ rows_for place (opened tasks at task here i) (opened outs at out there i))
    ∙ so_far

-- behind the last task, or the last output, there is none
past : {X : Type 0} (xs : List X) (i : ℕ) → length xs ≤ i → drop i xs ≡ []
past [] zero h = refl
past [] (suc i) h = refl
past (x ∷ xs) zero h = absurd (omega (arith, h))
past (x ∷ xs) (suc i) h = past xs i (omega (arith, h))

none_over : (place : ℕ) (tasks : List Task) → rows_for place tasks [] ≡ []
none_over place [] = refl
none_over place (task ∷ tasks) = refl

pub rows_over : (place : ℕ) (tasks : List Task) (outs : List TaskOut) (at : ℕ) (made all : Rows) → length outs ≤ at
    → made ++ rows_for place (drop at tasks) (drop at outs) ≡ all → made ≡ all
rows_over place tasks outs at made all over so_far =
    sym (append-nil made) ∙ ap (λ rows. made ++ rows) (sym (none_over place (drop at tasks))) ∙ ap (λ os. made ++ rows_for place (drop at tasks) os) (sym (past outs at over)) ∙ so_far

-- ---- a lookup holds rows of values

pub lookup_holds : (keys : List Typed) (rows : Rows) → AreRows rows → HoldsRows (lookup_of keys rows)
lookup_holds keys rows h =
    each-sort keyed_cmp (λ r. IsRow r.row) (map (keyed_row keys) rows) (each-map (λ r. IsRow r.row) (keyed_row keys) rows (rows_each rows h))
