-- Each kind is the one that is made from its tree.
use Rattle.std.proofs.Common.{◌≡◌, ◌∙◌, List, [], ◌∷◌, map, ap, sym, refl, subst}
use Rattle.pig_value.specs.Trees.{KindTree, kind_step, kind_tree, kinds_of}
use Rattle.pig_value.specs.declared.values.Kind.{Kind}
use Rattle.pig_value.specs.declared.values.Kind.TheFolds.{fold-roll-Kind, ind-Kind, map-Kind}
use Rattle.pig_value.specs.declared.values.Kind.TheOpen.{Kind-F}
use Rattle.pig_value.specs.declared.values.Kind.TheViews.{roll-Kind}
use Rattle.pig_value.specs.declared.values.Kind.TheVariants as kind
use Rattle.pig_schema.specs.FieldTrees.{FieldTree, field_step, named_tree, tree_kind}
use Rattle.pig_schema.specs.declared.schema.Field.{Field, out-Field}
use Rattle.pig_schema.specs.declared.schema.Field.TheFolds.{fold_out-Field}
use Rattle.pig_check.specs.Operators.{kind_from, kinds_from}

abbrev ComesBack : Kind → Type 0
ComesBack k = kind_from (kind_tree k) ≡ k

all_back : (ks : List ((k : Kind) × ComesBack k)) → kinds_from (kinds_of (map kind_tree (map (λ e. e.0) ks))) ≡ map (λ e. e.0) ks
all_back [] = refl
all_back (e ∷ ks) = λ i. e.1 i ∷ all_back ks i

from_layer : (x : Kind-F Kind) → kind_from (kind_tree (roll-Kind x)) ≡ kind_from (kind_step (map-Kind Kind KindTree kind_tree x))
from_layer x = ap kind_from (fold-roll-Kind KindTree kind_step x)

layer : (y : Kind-F ((k : Kind) × ComesBack k)) → ComesBack (roll-Kind (map-Kind ((k : Kind) × ComesBack k) Kind (λ e. e.0) y))
layer Kind-F.Boolean = from_layer Kind-F.Boolean ∙ sym kind.rolls-Boolean
layer Kind-F.Int = from_layer Kind-F.Int ∙ sym kind.rolls-Int
layer Kind-F.Long = from_layer Kind-F.Long ∙ sym kind.rolls-Long
layer Kind-F.Chararray = from_layer Kind-F.Chararray ∙ sym kind.rolls-Chararray
layer Kind-F.Bytearray = from_layer Kind-F.Bytearray ∙ sym kind.rolls-Bytearray
layer (Kind-F.Tuple ks) = from_layer (Kind-F.Tuple (map (λ e. e.0) ks)) ∙ ap kind.Tuple (all_back ks) ∙ sym (kind.rolls-Tuple (map (λ e. e.0) ks))
layer (Kind-F.Bag ks) = from_layer (Kind-F.Bag (map (λ e. e.0) ks)) ∙ ap kind.Bag (all_back ks) ∙ sym (kind.rolls-Bag (map (λ e. e.0) ks))
layer (Kind-F.Map e) = from_layer (Kind-F.Map e.0) ∙ ap kind.Map e.1 ∙ sym (kind.rolls-Map e.0)

pub kind_back : (k : Kind) → ComesBack k
kind_back = ind-Kind ComesBack (λ x y is. subst (λ z. ComesBack (roll-Kind z)) is (layer y))

-- so it is of the kind of a field
pub column_kind : (f : Field) → kind_from (tree_kind (named_tree f)) ≡ (out-Field f).kind
column_kind f = ap (λ t. kind_from (tree_kind t)) (fold_out-Field FieldTree field_step f) ∙ kind_back (out-Field f).kind
