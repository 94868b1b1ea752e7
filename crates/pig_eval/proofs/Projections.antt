-- A projection of each form of a value, and a look-up in a map.
use Rattle.std.proofs.Common.{◌≡◌, refl, sym, ap, ◌∙◌, ℕ, List, map}
use Rattle.std.specs.Prelude.{Bool, bytes_eq, if◌then◌else◌}
use Rattle.std.specs.List.{find}
use Rattle.std.specs.Option.{option_map}
use Rattle.pig_value.specs.Functions.{bag_tree}
use Rattle.pig_value.specs.Trees.{at, entry_of, fields_of, or_null, row_tree, rows_tree, tree, tuples_of, v_listed, v_tuple}
use Rattle.pig_value.specs.declared.values.Pair.{Pair}
use Rattle.pig_value.specs.declared.values.Value.{Value}
use Rattle.pig_value.specs.declared.values.Value.TheVariants as value
use Rattle.pig_value.proofs.TreeLaws.{entries_back, fields_back, tree-Bag, tree-Listed, tree-Map, tree-Tuple, tuples_back}
use Rattle.pig_typed.specs.Operators.{look_tree, pick, project_tree}

pub of_tuple : (ns : List ℕ) (single : Bool) (vs : List Value)
    → project_tree ns single (tree (value.Tuple vs)) ≡ (if single then at 0 (pick ns (row_tree vs)) else v_tuple (fields_of (pick ns (row_tree vs))))
of_tuple ns single vs =
    ap (project_tree ns single) (tree-Tuple vs)
    ∙ ap (λ fields. if single then at 0 (pick ns fields) else v_tuple (fields_of (pick ns fields))) (fields_back (row_tree vs))

pub of_bag : (ns : List ℕ) (single : Bool) (rows : List (List Value)) → project_tree ns single (tree (value.Bag rows)) ≡ bag_tree (map (pick ns) (rows_tree rows))
of_bag ns single rows = ap (project_tree ns single) (tree-Bag rows) ∙ ap (λ rs. bag_tree (map (pick ns) rs)) (tuples_back (rows_tree rows))

pub of_listed : (ns : List ℕ) (single : Bool) (rows : List (List Value))
    → project_tree ns single (tree (value.Listed rows)) ≡ v_listed (tuples_of (map (pick ns) (rows_tree rows)))
of_listed ns single rows = ap (project_tree ns single) (tree-Listed rows) ∙ ap (λ rs. v_listed (tuples_of (map (pick ns) rs))) (tuples_back (rows_tree rows))

pub of_map : (key : List ℕ) (pairs : List Pair)
    → look_tree key (tree (value.Map pairs)) ≡ or_null (option_map (λ p. p.1) (find (λ p. bytes_eq p.0 key) (map entry_of pairs)))
of_map key pairs =
    ap (look_tree key) (tree-Map pairs) ∙ ap (λ ps. or_null (option_map (λ p. p.1) (find (λ p. bytes_eq p.0 key) ps))) (entries_back (map entry_of pairs))

pub tuple_is : (vs : List Value) → tree (value.Tuple vs) ≡ v_tuple (fields_of (row_tree vs))
tuple_is vs = tree-Tuple vs

pub listed_is : (rows : List (List Value)) → tree (value.Listed rows) ≡ v_listed (tuples_of (rows_tree rows))
listed_is rows = tree-Listed rows
