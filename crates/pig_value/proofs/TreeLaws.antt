-- What the tree of each form is, and that the lists of a tree come back.
pub use Rattle.pig_value.specs.TreeViews.{tree-Null, tree-Bool, tree-Int, tree-Long, tree-Chars, tree-Bytes, tree-Tuple, tree-Bag, tree-Listed, tree-Map, entry_is}
use Rattle.std.specs.Prelude.{◌≡◌, ℕ, List, [], ◌∷◌, map, slice_get, refl}
use Rattle.std.specs.Option.{option_map}
use Rattle.std.proofs.Common.{ap, sym, ◌∙◌}
use Rattle.pig_value.specs.Trees.{at, or_null, Tree, Fields, Tuples, Entries, no_fields, more_fields, no_tuples, more_tuples, no_entries, more_entries, fields_of, fields_list, tuples_of, tuples_list, entries_of, entries_list, tree, KindTree, k_boolean, k_int, k_long, k_chars, k_bytes, k_tuple, k_bag, k_map, kinds_of, kinds_list, kind_step, kind_tree}
use Rattle.pig_value.proofs.list_laws.Indexing.{get_map}
use Rattle.pig_value.specs.declared.values.Value.{Value}
use Rattle.pig_value.specs.declared.values.Kind.{Kind}
use Rattle.pig_value.specs.declared.values.Kind.TheOpen.{Kind-F}
use Rattle.pig_value.specs.declared.values.Kind.TheFolds.{fold-roll-Kind}
use Rattle.pig_value.specs.declared.values.Kind.TheVariants as kind

pub kind_tree-Boolean : kind_tree kind.Boolean ≡ k_boolean
kind_tree-Boolean = ap kind_tree (sym kind.rolls-Boolean) ∙ fold-roll-Kind KindTree kind_step Kind-F.Boolean

pub kind_tree-Int : kind_tree kind.Int ≡ k_int
kind_tree-Int = ap kind_tree (sym kind.rolls-Int) ∙ fold-roll-Kind KindTree kind_step Kind-F.Int

pub kind_tree-Long : kind_tree kind.Long ≡ k_long
kind_tree-Long = ap kind_tree (sym kind.rolls-Long) ∙ fold-roll-Kind KindTree kind_step Kind-F.Long

pub kind_tree-Chararray : kind_tree kind.Chararray ≡ k_chars
kind_tree-Chararray = ap kind_tree (sym kind.rolls-Chararray) ∙ fold-roll-Kind KindTree kind_step Kind-F.Chararray

pub kind_tree-Bytearray : kind_tree kind.Bytearray ≡ k_bytes
kind_tree-Bytearray = ap kind_tree (sym kind.rolls-Bytearray) ∙ fold-roll-Kind KindTree kind_step Kind-F.Bytearray

pub kind_tree-Tuple : (ks : List Kind) → kind_tree (kind.Tuple ks) ≡ k_tuple (kinds_of (map kind_tree ks))
kind_tree-Tuple ks = ap kind_tree (sym (kind.rolls-Tuple ks)) ∙ fold-roll-Kind KindTree kind_step (Kind-F.Tuple ks)

pub kind_tree-Bag : (ks : List Kind) → kind_tree (kind.Bag ks) ≡ k_bag (kinds_of (map kind_tree ks))
kind_tree-Bag ks = ap kind_tree (sym (kind.rolls-Bag ks)) ∙ fold-roll-Kind KindTree kind_step (Kind-F.Bag ks)

pub kind_tree-Map : (k : Kind) → kind_tree (kind.Map k) ≡ k_map (kind_tree k)
kind_tree-Map k = ap kind_tree (sym (kind.rolls-Map k)) ∙ fold-roll-Kind KindTree kind_step (Kind-F.Map k)

-- the lists of a tree come back
pub fields_back : (vs : List Tree) → fields_list (fields_of vs) ≡ vs
fields_back [] = refl
fields_back (v ∷ vs) = ap (λ more. v ∷ more) (fields_back vs)

pub fields_there : (vs : Fields) → fields_of (fields_list vs) ≡ vs
fields_there no_fields = refl
fields_there (more_fields v vs) = ap (λ more. more_fields v more) (fields_there vs)

pub tuples_back : (rs : List (List Tree)) → tuples_list (tuples_of rs) ≡ rs
tuples_back [] = refl
tuples_back (r ∷ rs) = ap (λ r'. r' ∷ tuples_list (tuples_of rs)) (fields_back r) ∙ ap (λ more. r ∷ more) (tuples_back rs)

pub tuples_there : (rs : Tuples) → tuples_of (tuples_list rs) ≡ rs
tuples_there no_tuples = refl
tuples_there (more_tuples r rs) = ap (λ r'. more_tuples r' (tuples_of (tuples_list rs))) (fields_there r) ∙ ap (λ more. more_tuples r more) (tuples_there rs)

pub entries_back : (ps : List (List ℕ × Tree)) → entries_list (entries_of ps) ≡ ps
entries_back [] = refl
entries_back (p ∷ ps) = ap (λ more. p ∷ more) (entries_back ps)

pub entries_there : (ps : Entries) → entries_of (entries_list ps) ≡ ps
entries_there no_entries = refl
entries_there (more_entries key v ps) = ap (λ more. more_entries key v more) (entries_there ps)

pub kinds_back : (ks : List KindTree) → kinds_list (kinds_of ks) ≡ ks
kinds_back [] = refl
kinds_back (k ∷ ks) = ap (λ more. k ∷ more) (kinds_back ks)

-- the field of a row of values at a place
pub at_map : (row : List Value) (place : ℕ) → at place (map tree row) ≡ or_null (option_map tree (slice_get row place))
at_map row place = ap or_null (get_map tree row place)
