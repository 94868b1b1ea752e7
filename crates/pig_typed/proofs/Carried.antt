-- What holds of a row, of the locals and of the literals, and is kept by each operator, holds of what an expression gives and of
-- the rows that a block makes.
use Rattle.std.specs.Prelude.{ℕ, Bool, true, false, not, List, [], ◌∷◌, ◌++◌, map, take, Option, Some, None, slice_get, replicate, zero, suc, if◌then◌else◌, bytes_eq}
use Rattle.std.specs.List.{filter, find, flat_map, AllByRecursion}
use Rattle.std.specs.Option.{option_map}
use Rattle.std.proofs.Common.{cond}
use Rattle.pig_value.specs.Casts.{cast_of}
use Rattle.pig_value.specs.Functions.{apply_tree, bag_tree}
use Rattle.pig_value.specs.Orders.{row_cmp}
use Rattle.pig_value.specs.Sorts.{distinct, sort}
use Rattle.pig_value.specs.Trees.{at, or_null, Tree, Fields, Tuples, Entries, v_null, v_bool, v_int, v_long, v_chars, v_bytes, v_tuple, v_bag, v_listed, v_map, fields_list, fields_of, tuples_list, tuples_of, entries_list, KindTree}
use Rattle.pig_value.specs.declared.functions.Function.{Function}
use Rattle.pig_value.specs.declared.operators.ChainOp.{ChainOp}
use Rattle.pig_value.specs.declared.operators.ChainOp.TheVariants as op
use Rattle.pig_value.specs.declared.operators.Rel.{Rel}
use Rattle.pig_value.proofs.list_laws.Bags.{each-sort}
use Rattle.pig_value.proofs.list_laws.Listing.{each-append, each-filter, each-take}
use Rattle.pig_typed.specs.declared.blocks.SortKey.{SortKey}
use Rattle.pig_typed.specs.Blocks.{flattened, foreach_rows, from_rows, item_lists, keys_cmp, on_rows, step_value, steps_values}
use Rattle.pig_typed.specs.Evaluation.{ev, ev_args, ev_links, passes}
use Rattle.pig_typed.specs.Literals.{LiteralsAre, LinkLiteralsAre, ArgLiteralsAre, StepLiteralsAre, BlockLiteralsAre}
use Rattle.pig_typed.specs.Operators.{and_truth, arithmetic, chain_tree, chosen, compare_tree, look_tree, minus_tree, not_tree, null_test, or_truth, pick, project_tree, truth_of, truth_tree}
use Rattle.pig_typed.specs.Products.{joined, product}
use Rattle.pig_typed.specs.Typed.{Typed, TypedLinks, TypedArgs, x_null, x_bool, x_int, x_long, x_chars, x_field, x_local, x_chain, x_compare, x_is_null, x_not, x_minus, x_choose, x_cast, x_project, x_look, x_call, no_links, more_links, no_args, more_args, TypedStep, TypedItem, TypedBlock, s_filter, s_order, s_limit, s_distinct, s_take}

-- P is kept by each operator, by what values are made of, and by bags of which rows are left out
pub record IsCarried (P : Tree → Type 0) : Type 0 where
  pub null : P v_null
  pub bool : (b : Bool) → P (v_bool b)
  pub number : (operator : ChainOp) (v w : Tree) → P v → P w → P (arithmetic operator v w)
  pub minus : (v : Tree) → P v → P (minus_tree v)
  pub cast : (to : KindTree) (v : Tree) → P v → P (cast_of to v)
  pub call : (f : Function) (args : List Tree) → AllByRecursion P args → P (apply_tree f args)
  pub fields : (vs : Fields) → P (v_tuple vs) → AllByRecursion P (fields_list vs)
  pub tuple : (row : List Tree) → AllByRecursion P row → P (v_tuple (fields_of row))
  pub bag_rows : (rs : Tuples) → P (v_bag rs) → AllByRecursion (AllByRecursion P) (tuples_list rs)
  pub listed_rows : (rs : Tuples) → P (v_listed rs) → AllByRecursion (AllByRecursion P) (tuples_list rs)
  pub bag : (rows : List (List Tree)) → AllByRecursion (AllByRecursion P) rows → P (bag_tree rows)
  pub listed : (rows : List (List Tree)) → AllByRecursion (AllByRecursion P) rows → P (v_listed (tuples_of rows))
  pub map_values : (ps : Entries) → P (v_map ps) → AllByRecursion (λ p. P p.1) (entries_list ps)
  pub filtered : (p : List Tree → Bool) (rs : Tuples) → P (v_bag rs) → P (v_bag (tuples_of (filter p (tuples_list rs))))
  pub limited : (n : ℕ) (rs : Tuples) → P (v_bag rs) → P (v_bag (tuples_of (take n (tuples_list rs))))
  pub once : (rows : List (List Tree)) → AllByRecursion (AllByRecursion P) rows → P (v_bag (tuples_of (distinct row_cmp rows)))

module _ (P : Tree → Type 0) (c : IsCarried P) where
  -- ---- operators

  truth_carried : (truth : Option Bool) → P (truth_tree truth)
  truth_carried None = c.null
  truth_carried (Some b) = c.bool b

  compare_carried : (r : Rel) (v w : Tree) → P (compare_tree r v w)
  compare_carried r v_null w = c.null
  compare_carried r v v_null = c.null
  compare_carried r v w = c.bool _

  chain_carried : (operator : ChainOp) (v w : Tree) → P v → P w → P (chain_tree operator v w)
  chain_carried op.Or v w h g = truth_carried (or_truth (truth_of v) (truth_of w))
  chain_carried op.And v w h g = truth_carried (and_truth (truth_of v) (truth_of w))
  chain_carried op.Add v w h g = c.number op.Add v w h g
  chain_carried op.Sub v w h g = c.number op.Sub v w h g
  chain_carried op.Mul v w h g = c.number op.Mul v w h g
  chain_carried op.Div v w h g = c.number op.Div v w h g
  chain_carried op.Rem v w h g = c.number op.Rem v w h g

  chosen_carried : (truth : Option Bool) (v w : Tree) → P v → P w → P (chosen truth v w)
  chosen_carried (Some true) v w h g = h
  chosen_carried (Some false) v w h g = g
  chosen_carried None v w h g = c.null

  at_carried : (row : List Tree) (n : ℕ) → AllByRecursion P row → P (at n row)
  at_carried [] n h = c.null
  at_carried (v ∷ row) zero h = h.0
  at_carried (v ∷ row) (suc n) h = at_carried row n h.1

  pick_carried : (ns : List ℕ) (row : List Tree) → AllByRecursion P row → AllByRecursion P (pick ns row)
  pick_carried [] row h = tt
  pick_carried (n ∷ ns) row h = (at_carried row n h, pick_carried ns row h)

  rows_picked : (ns : List ℕ) (rows : List (List Tree)) → AllByRecursion (AllByRecursion P) rows → AllByRecursion (AllByRecursion P) (map (pick ns) rows)
  rows_picked ns [] h = tt
  rows_picked ns (row ∷ rows) h = (pick_carried ns row h.0, rows_picked ns rows h.1)

  part_carried : (single : Bool) (row : List Tree) → AllByRecursion P row → P (if single then at 0 row else v_tuple (fields_of row))
  part_carried true row h = at_carried row 0 h
  part_carried false row h = c.tuple row h

  project_carried : (ns : List ℕ) (single : Bool) (v : Tree) → P v → P (project_tree ns single v)
  project_carried ns single (v_tuple vs) h = part_carried single (pick ns (fields_list vs)) (pick_carried ns (fields_list vs) (c.fields vs h))
  project_carried ns single (v_bag rs) h = c.bag (map (pick ns) (tuples_list rs)) (rows_picked ns (tuples_list rs) (c.bag_rows rs h))
  project_carried ns single (v_listed rs) h = c.listed (map (pick ns) (tuples_list rs)) (rows_picked ns (tuples_list rs) (c.listed_rows rs h))
  project_carried ns single v h = c.null

  entry_carried : (key : List ℕ) (ps : List (List ℕ × Tree)) → AllByRecursion (λ p. P p.1) ps → P (or_null (option_map (λ p. p.1) (find (λ p. bytes_eq p.0 key) ps)))
  entry_carried key [] h = c.null
  entry_carried key (p ∷ ps) h = by_test (bytes_eq p.0 key) (find (λ q. bytes_eq q.0 key) ps) (entry_carried key ps h.1)
    where
      by_test : (b : Bool) (o : Option (List ℕ × Tree)) → P (or_null (option_map (λ q. q.1) o)) → P (or_null (option_map (λ q. q.1) (cond b (Some p) o)))
      by_test true o g = h.0
      by_test false o g = g

  look_carried : (key : List ℕ) (v : Tree) → P v → P (look_tree key v)
  look_carried key (v_map ps) h = entry_carried key (entries_list ps) (c.map_values ps h)
  look_carried key v h = c.null

  -- ---- expressions

  module _ (row locals : List Tree) (h : AllByRecursion P row) (g : AllByRecursion P locals) where
    mutual
      pub carried : (e : Typed) → LiteralsAre P e → P (ev e row locals)
      carried x_null ok = c.null
      carried (x_bool b) ok = c.bool b
      carried (x_int z) ok = ok
      carried (x_long z) ok = ok
      carried (x_chars text) ok = ok
      carried (x_field n) ok = at_carried row n h
      carried (x_local n) ok = at_carried locals n g
      carried (x_chain first links) ok = links_carried links (ev first row locals) (carried first ok.0) ok.1
      carried (x_compare r a b) ok = compare_carried r (ev a row locals) (ev b row locals)
      carried (x_is_null a negated) ok = c.bool _
      carried (x_not a) ok = truth_carried (option_map not (truth_of (ev a row locals)))
      carried (x_minus a) ok = c.minus (ev a row locals) (carried a ok)
      carried (x_choose d a b) ok = chosen_carried (truth_of (ev d row locals)) (ev a row locals) (ev b row locals) (carried a ok.1) (carried b ok.2)
      carried (x_cast to a) ok = c.cast to (ev a row locals) (carried a ok)
      carried (x_project a ns single) ok = project_carried ns single (ev a row locals) (carried a ok)
      carried (x_look a key) ok = look_carried key (ev a row locals) (carried a ok)
      carried (x_call f args) ok = c.call f (ev_args args row locals) (args_carried args ok)

      links_carried : (links : TypedLinks) (v : Tree) → P v → LinkLiteralsAre P links → P (ev_links v links row locals)
      links_carried no_links v i ok = i
      links_carried (more_links operator a links) v i ok = links_carried links (chain_tree operator v (ev a row locals)) (chain_carried operator v (ev a row locals) i (carried a ok.0)) ok.1

      args_carried : (args : TypedArgs) → ArgLiteralsAre P args → AllByRecursion P (ev_args args row locals)
      args_carried no_args ok = tt
      args_carried (more_args e args) ok = (carried e ok.0, args_carried args ok.1)

  -- ---- steps

  step_carried : (row : List Tree) → AllByRecursion P row → (s : TypedStep) (locals : List Tree) → AllByRecursion P locals → StepLiteralsAre P s → P (step_value s row locals)
  step_carried row h (s_filter from d) locals g ok = on_filter (ev from row locals) (carried row locals h g from ok.0)
    where
      on_filter : (v : Tree) → P v → P (on_rows (filter (passes d)) v)
      on_filter (v_bag rs) i = c.filtered (passes d) rs i
      on_filter (v_listed rs) i = c.listed (filter (passes d) (tuples_list rs)) (each-filter (passes d) (AllByRecursion P) (tuples_list rs) (c.listed_rows rs i))
      on_filter v i = c.null
  step_carried row h (s_order from keys) locals g ok = on_order (ev from row locals) (carried row locals h g from ok)
    where
      on_order : (v : Tree) → P v → P (from_rows (λ rows. v_listed (tuples_of (sort (keys_cmp keys) rows))) v)
      on_order (v_bag rs) i = c.listed (sort (keys_cmp keys) (tuples_list rs)) (each-sort (keys_cmp keys) (AllByRecursion P) (tuples_list rs) (c.bag_rows rs i))
      on_order (v_listed rs) i = c.listed (sort (keys_cmp keys) (tuples_list rs)) (each-sort (keys_cmp keys) (AllByRecursion P) (tuples_list rs) (c.listed_rows rs i))
      on_order v i = c.null
  step_carried row h (s_limit from count) locals g ok = on_limit (ev from row locals) (carried row locals h g from ok)
    where
      on_limit : (v : Tree) → P v → P (on_rows (take count) v)
      on_limit (v_bag rs) i = c.limited count rs i
      on_limit (v_listed rs) i = c.listed (take count (tuples_list rs)) (each-take (AllByRecursion P) count (tuples_list rs) (c.listed_rows rs i))
      on_limit v i = c.null
  step_carried row h (s_distinct from) locals g ok = on_distinct (ev from row locals) (carried row locals h g from ok)
    where
      on_distinct : (v : Tree) → P v → P (from_rows (λ rows. v_bag (tuples_of (distinct row_cmp rows))) v)
      on_distinct (v_bag rs) i = c.once (tuples_list rs) (c.bag_rows rs i)
      on_distinct (v_listed rs) i = c.once (tuples_list rs) (c.listed_rows rs i)
      on_distinct v i = c.null
  step_carried row h (s_take from) locals g ok = carried row locals h g from ok

  steps_carried : (row : List Tree) → AllByRecursion P row → (steps : List TypedStep) (locals : List Tree) → AllByRecursion P locals → AllByRecursion (StepLiteralsAre P) steps
      → AllByRecursion P (steps_values steps row locals)
  steps_carried row h [] locals g ok = g
  steps_carried row h (s ∷ steps) locals g ok =
      steps_carried row h steps (locals ++ step_value s row locals ∷ [])
      (each-append P locals (step_value s row locals ∷ []) g (step_carried row h s locals g ok.0, tt)) ok.1

  -- ---- items

  nulls_carried : (n : ℕ) → AllByRecursion P (replicate n v_null)
  nulls_carried zero = tt
  nulls_carried (suc n) = (c.null, nulls_carried n)

  flattened_carried : (width : ℕ) (v : Tree) → P v → AllByRecursion (AllByRecursion P) (flattened width v)
  flattened_carried width (v_tuple vs) i = (c.fields vs i, tt)
  flattened_carried width (v_bag rs) i = c.bag_rows rs i
  flattened_carried width (v_listed rs) i = c.listed_rows rs i
  flattened_carried width v_null i = (nulls_carried width, tt)
  flattened_carried width v i = ((i, tt), tt)

  given_carried : (flatten : Bool) (width : ℕ) (v : Tree) → P v → AllByRecursion (AllByRecursion P) (if flatten then flattened width v else (v ∷ []) ∷ [])
  given_carried true width v i = flattened_carried width v i
  given_carried false width v i = ((i, tt), tt)

  before_carried : (x : List Tree) (ys : List (List Tree)) → AllByRecursion P x → AllByRecursion (AllByRecursion P) ys → AllByRecursion (AllByRecursion P) (map (λ y. x ++ y) ys)
  before_carried x [] i j = tt
  before_carried x (y ∷ ys) i j = (each-append P x y i j.0, before_carried x ys i j.1)

  joined_carried : (xs ys : List (List Tree)) → AllByRecursion (AllByRecursion P) xs → AllByRecursion (AllByRecursion P) ys → AllByRecursion (AllByRecursion P) (joined xs ys)
  joined_carried [] ys i j = tt
  joined_carried (x ∷ xs) ys i j =
      each-append (AllByRecursion P) (map (λ y. x ++ y) ys) (joined xs ys) (before_carried x ys i.0 j) (joined_carried xs ys i.1 j)

  items_carried : (row locals : List Tree) → AllByRecursion P row → AllByRecursion P locals → (items : List TypedItem) → AllByRecursion (λ item. LiteralsAre P item.value) items
      → AllByRecursion (AllByRecursion P) (product (map (λ item. item_lists item row locals) items))
  items_carried row locals h g [] ok = (tt, tt)
  items_carried row locals h g (item ∷ items) ok =
      joined_carried (item_lists item row locals) (product (map (λ item. item_lists item row locals) items))
      (given_carried item.flatten item.width (ev item.value row locals) (carried row locals h g item.value ok.0)) (items_carried row locals h g items ok.1)

  pub block_carried : (block : TypedBlock) (row : List Tree) → BlockLiteralsAre P block → AllByRecursion P row → AllByRecursion (AllByRecursion P) (foreach_rows block row)
  block_carried block row ok h = items_carried row (steps_values block.steps row []) h (steps_carried row h block.steps [] tt ok.0) block.items ok.1
