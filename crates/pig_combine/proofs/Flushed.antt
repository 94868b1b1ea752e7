-- The entries of a table's groups are those that were combined, in another order.
use Rattle.std.proofs.Common.{◌≡◌, refl, sym, ap, ◌∙◌, subst}
use Rattle.std.specs.Prelude.{false, List, [], ◌∷◌, ◌++◌, map, if◌then◌else◌}
use Rattle.std.specs.List.{AllByRecursion, flat_map}
use Rattle.std.specs.List.Sorted.{IsPermutation}
use Rattle.std.proofs.lemmas.List.Concat.{flat_map_single}
use Rattle.std.proofs.lemmas.List.Sorted.{IsPermutation-map}
use Rattle.pig_value.specs.Functions.{column_found, column_tree, looked_at}
use Rattle.pig_value.specs.Gathering.{Entry}
use Rattle.pig_value.specs.Orders.{tree_cmp}
use Rattle.pig_value.specs.Sorts.{distinct}
use Rattle.pig_value.specs.Trees.{Tree, v_null}
use Rattle.pig_value.specs.declared.functions.Function.{Function}
use Rattle.pig_value.specs.declared.functions.Function.TheVariants as f
use Rattle.pig_value.specs.declared.operators.Dir.{Dir}
use Rattle.pig_value.proofs.list_laws.Bags.{bag_from_permutation, either_way}
use Rattle.pig_builtins.specs.Folds.{is_algebraic}
use Rattle.pig_algebra.specs.Combining.{combined, parts_at, parts_by, seen_in}
use Rattle.pig_algebra.specs.Cuts.{TypedCut, c_key, c_part, c_row}
use Rattle.pig_algebra.specs.PartLaws.{refuted}
use Rattle.pig_runs.specs.Entries.{InDirections, run_cmp, run_of}
use Rattle.pig_runs.proofs.Order.{run_same, run_total}
use Rattle.pig_combine.specs.Holdings.{AreGroups, Group, entry_of, entry_told, rows_under}
use Rattle.pig_combine.specs.Tallies.{found_by, part_told, t_found, t_other}

-- a function that is not algebraic gives null
no_part : (function : Function) → is_algebraic function ≡ false → (vs : List Tree) → column_tree function vs ≡ v_null
no_part f.Count h vs = refuted (sym h)
no_part f.CountStar h vs = refuted (sym h)
no_part f.Sum h vs = refuted (sym h)
no_part f.Min h vs = refuted (sym h)
no_part f.Max h vs = refuted (sym h)
no_part function h vs = refl

-- what is found of a cut gives its part
one_part : (key : Tree) (rows : List (List Tree)) (c : TypedCut) → part_told key (found_by rows c) ≡ parts_at key rows c
one_part key rows (c_key e) = refl
one_part key rows c_row = refl
one_part key rows (c_part function columns) =
    let vs : List Tree = map (looked_at function) (seen_in columns rows) in
    either_way (is_algebraic function)
    (λ e. ap (λ b. part_told key (if b then t_found function (column_found function vs) else t_other)) e)
    (λ e. ap (λ b. part_told key (if b then t_found function (column_found function vs) else t_other)) e ∙ ap (λ v. v ∷ []) (sym (no_part function e vs)))

all_parts : (key : Tree) (rows : List (List Tree)) (cuts : List TypedCut) → flat_map (part_told key) (map (found_by rows) cuts) ≡ parts_by cuts key rows
all_parts key rows [] = refl
all_parts key rows (c ∷ cuts) = λ i. one_part key rows c i ++ all_parts key rows cuts i

abbrev with_dirs : List Dir → List Entry → InDirections
with_dirs ds es = record { dirs = ds; entries = es }

module _ (cuts : List TypedCut) (added : List Entry) (groups : List Group) (are : AreGroups cuts added groups) where
  abbrev entry_for : Tree → Entry
  entry_for key = entry_of key (parts_by cuts key (rows_under key added))

  entries_told : (gs : List Group) → AllByRecursion (λ g. g.told ≡ map (found_by (rows_under g.key added)) cuts) gs → map entry_told gs ≡ map entry_for (map (λ g. g.key) gs)
  entries_told [] h = refl
  entries_told (g ∷ gs) h = λ i.
      entry_of g.key ((ap (flat_map (part_told g.key)) h.0 ∙ all_parts g.key (rows_under g.key added) cuts) i) ∷ entries_told gs h.1 i

  combined_in_some_order : IsPermutation (map entry_told groups) (combined (parts_by cuts) added)
  combined_in_some_order =
      subst (λ es. IsPermutation es (combined (parts_by cuts) added)) (sym (entries_told groups are.told))
      (subst (IsPermutation (map entry_for (map (λ g. g.key) groups))) (sym (flat_map_single entry_for (distinct tree_cmp (map (λ e. e.key) added))))
      (IsPermutation-map entry_for (map (λ g. g.key) groups) (distinct tree_cmp (map (λ e. e.key) added)) are.keys))

  pub run_is : (ds : List Dir) → run_of ds (map entry_told groups) ≡ run_of ds (combined (parts_by cuts) added)
  run_is ds = ap (with_dirs ds)
      (bag_from_permutation (run_cmp ds) (run_total ds) (run_same ds) (map entry_told groups) (combined (parts_by cuts) added) combined_in_some_order)
