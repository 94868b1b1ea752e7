-- What the tree of each form of a value is.
use Rattle.std.specs.Prelude.{◌≡◌, ℕ, ℤ, Bool, List, map}
use Rattle.std.proofs.Common.{ap, sym, ◌∙◌}
use Rattle.pig_value.specs.Trees.{Tree, v_null, v_bool, v_int, v_long, v_chars, v_bytes, v_tuple, v_bag, v_listed, v_map, fields_of, tuples_of, entries_of, tree_step, entry_step, tree, entry_of}
use Rattle.pig_value.specs.declared.values.Value.{Value}
use Rattle.pig_value.specs.declared.values.Value.TheOpen.{Value-F}
use Rattle.pig_value.specs.declared.values.Value.TheFolds.{fold-roll-Value, fold_out-Pair}
use Rattle.pig_value.specs.declared.values.Value.TheVariants as value
use Rattle.pig_value.specs.declared.values.Pair.{Pair}

pub tree-Null : tree value.Null ≡ v_null
tree-Null = ap tree (sym value.rolls-Null) ∙ fold-roll-Value Tree (List ℕ × Tree) tree_step entry_step Value-F.Null

pub tree-Bool : (b : Bool) → tree (value.Bool b) ≡ v_bool b
tree-Bool b = ap tree (sym (value.rolls-Bool b)) ∙ fold-roll-Value Tree (List ℕ × Tree) tree_step entry_step (Value-F.Bool b)

pub tree-Int : (z : ℤ) → tree (value.Int z) ≡ v_int z
tree-Int z = ap tree (sym (value.rolls-Int z)) ∙ fold-roll-Value Tree (List ℕ × Tree) tree_step entry_step (Value-F.Int z)

pub tree-Long : (z : ℤ) → tree (value.Long z) ≡ v_long z
tree-Long z = ap tree (sym (value.rolls-Long z)) ∙ fold-roll-Value Tree (List ℕ × Tree) tree_step entry_step (Value-F.Long z)

pub tree-Chars : (text : List ℕ) → tree (value.Chars text) ≡ v_chars text
tree-Chars text = ap tree (sym (value.rolls-Chars text)) ∙ fold-roll-Value Tree (List ℕ × Tree) tree_step entry_step (Value-F.Chars text)

pub tree-Bytes : (bytes : List ℕ) → tree (value.Bytes bytes) ≡ v_bytes bytes
tree-Bytes bytes = ap tree (sym (value.rolls-Bytes bytes)) ∙ fold-roll-Value Tree (List ℕ × Tree) tree_step entry_step (Value-F.Bytes bytes)

pub tree-Tuple : (vs : List Value) → tree (value.Tuple vs) ≡ v_tuple (fields_of (map tree vs))
tree-Tuple vs = ap tree (sym (value.rolls-Tuple vs)) ∙ fold-roll-Value Tree (List ℕ × Tree) tree_step entry_step (Value-F.Tuple vs)

pub tree-Bag : (rs : List (List Value)) → tree (value.Bag rs) ≡ v_bag (tuples_of (map (map tree) rs))
tree-Bag rs = ap tree (sym (value.rolls-Bag rs)) ∙ fold-roll-Value Tree (List ℕ × Tree) tree_step entry_step (Value-F.Bag rs)

pub tree-Listed : (rs : List (List Value)) → tree (value.Listed rs) ≡ v_listed (tuples_of (map (map tree) rs))
tree-Listed rs = ap tree (sym (value.rolls-Listed rs)) ∙ fold-roll-Value Tree (List ℕ × Tree) tree_step entry_step (Value-F.Listed rs)

pub tree-Map : (ps : List Pair) → tree (value.Map ps) ≡ v_map (entries_of (map entry_of ps))
tree-Map ps = ap tree (sym (value.rolls-Map ps)) ∙ fold-roll-Value Tree (List ℕ × Tree) tree_step entry_step (Value-F.Map ps)

pub entry_is : (p : Pair) → entry_of p ≡ (p.key, tree p.value)
entry_is p = fold_out-Pair Tree (List ℕ × Tree) tree_step entry_step p
