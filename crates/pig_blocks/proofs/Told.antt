-- What the readers of keys, bags, steps and blocks tell holds.
use Rattle.std.proofs.Common.{◌≡◌, ℕ, Bool, true, false, List, [], ◌∷◌, refl, sym, subst}
use Rattle.std.specs.Prelude.{if◌then◌else◌}
use Rattle.std.specs.declared.result.Result.TheVariants.{Ok, Err}
use Rattle.pig_value.specs.Kinds.{has_bag_or_map}
use Rattle.pig_schema.specs.FieldTrees.{FieldTree, tree_kind}
use Rattle.pig_syntax.specs.ExprTrees.{expr_form}
use Rattle.pig_syntax.specs.declared.trees.BagRef.{BagRef}
use Rattle.pig_syntax.specs.declared.trees.Item.{Item}
use Rattle.pig_syntax.specs.declared.trees.Nested.{Nested}
use Rattle.pig_syntax.specs.declared.trees.Nested.TheVariants as nested
use Rattle.pig_syntax.specs.declared.trees.OrderField.{OrderField}
use Rattle.pig_syntax.specs.declared.trees.OrderKeys.{OrderKeys}
use Rattle.pig_syntax.specs.declared.trees.Step.{Step}
use Rattle.pig_typed.specs.declared.blocks.SortKey.{SortKey}
use Rattle.pig_typing.specs.declared.faults.CheckKind.TheVariants as kind
use Rattle.pig_typing.specs.Columns.{Place, RefersTo, refer}
use Rattle.pig_typing.specs.Conditions.{condition_on}
use Rattle.pig_items.specs.Items.{Generated, AllGenerate, items_of}
use Rattle.pig_typing.specs.Limits.{limited_row}
use Rattle.pig_typing.specs.Parts.{Typing, kind_in}
use Rattle.pig_typing.specs.Reader.{type_of}
use Rattle.pig_typing.specs.Results.{Checked, ◌>>=◌}
use Rattle.pig_typing.specs.Typing.{Types}
use Rattle.pig_typing.proofs.Chains.{then_told, then_is}
use Rattle.pig_typing.proofs.ConditionsTold.{IsConditionTold, condition_told}
use Rattle.pig_items.proofs.ItemsTold.{AreGenerated, items_told}
use Rattle.pig_typing.proofs.References.{IsReferred, referred}
use Rattle.pig_typing.proofs.Told as expr
use Rattle.pig_blocks.specs.Bags.{Bags, BagsNot, a_bag, untyped_bag, no_bag, as_bag, bag_form, bag_of, columns_in, is_bag}
use Rattle.pig_blocks.specs.Foreach.{Foreach, TypesForeach, ForeachFaults, types_foreach, in_steps, in_items, past_limits, foreach_of, within_row}
use Rattle.pig_blocks.specs.SortKeys.{KeysAre, KeysAreNot, no_keys, more_keys, no_field, bad_key, later_key, SortsBy, SortsByNot, sorts_by, by_no_field, by_no_key, as_key, key_of, keys_of, some_keys, sort_key, sorted_by, fields_meant}
use Rattle.pig_blocks.specs.Steps.{Made, made, within, row_place, Makes, MakesNot, makes_filter, makes_distinct, makes_order, makes_limit, makes_take, filter_of_none, filter_by_none, distinct_of_none, order_of_none, order_by_none, limit_of_none, take_of_none, behind, Stepped, place_behind, AllMake, AllMakeNot, none_make, more_make, step_not, later_not, made_of, column_made, step_first, step_made, steps_of}

-- ---- keys of an ORDER

abbrev KeyTold : List FieldTree → OrderField → Checked SortKey → Type 0
KeyTold columns o (Ok k) = (n : ℕ) × (c : FieldTree) × RefersTo columns o.field n c × (has_bag_or_map (tree_kind c) ≡ false) × (k ≡ sort_key n o.dir)
KeyTold columns o (Err f) = (others : List OrderField) → KeysAreNot columns (o ∷ others) f

as_key_told : (columns : List FieldTree) (o : OrderField) (p : ℕ × FieldTree) → RefersTo columns o.field p.0 p.1 → KeyTold columns o (as_key p o.dir)
unfolding as_key
as_key_told columns o p h = by (has_bag_or_map (tree_kind p.1)) refl
  where
    by : (b : Bool) → has_bag_or_map (tree_kind p.1) ≡ b → KeyTold columns o (if b then Err kind.BadKey else Ok (sort_key p.0 o.dir))
    by true e = λ others. bad_key h e
    by false e = (p.0, p.1, h, e, refl)

key_told : (columns : List FieldTree) (o : OrderField) → KeyTold columns o (key_of columns o.field o.dir)
unfolding key_of
key_told columns o =
    then_told (IsReferred columns o.field) (KeyTold columns o) _ (refer columns o.field) (referred columns o.field) (λ p h. as_key_told columns o p h) (λ f h others. no_field h)

abbrev AreKeysTold : List FieldTree → List OrderField → Checked (List SortKey) → Type 0
AreKeysTold columns fields (Ok ks) = KeysAre columns fields ks
AreKeysTold columns fields (Err f) = KeysAreNot columns fields f

keys_told : (columns : List FieldTree) (fields : List OrderField) → AreKeysTold columns fields (keys_of columns fields)
unfolding keys_of
keys_told columns [] = no_keys
keys_told columns (o ∷ others) =
    then_told (KeyTold columns o) (AreKeysTold columns (o ∷ others)) _ (key_of columns o.field o.dir) (key_told columns o)
    (λ k w. then_told (AreKeysTold columns others) (AreKeysTold columns (o ∷ others)) _ (keys_of columns others) (keys_told columns others)
    (λ ks g. subst (λ x. KeysAre columns (o ∷ others) (x ∷ ks)) (sym w.4) (more_keys w.2 w.3 g)) (λ f g. later_key g))
    (λ f w. w others)

abbrev pub IsOrderTold : List FieldTree → OrderKeys → Checked (List SortKey) → Type 0
IsOrderTold columns order (Ok ks) = SortsBy columns order ks
IsOrderTold columns order (Err f) = SortsByNot columns order f

none_meant : (columns : List FieldTree) (fields : List OrderField) → KeysAre columns fields [] → fields ≡ []
none_meant columns [] h = refl
none_meant columns (o ∷ others) h = elim h [ ]

some_told : (columns : List FieldTree) (order : OrderKeys) (ks : List SortKey) → KeysAre columns (fields_meant columns order) ks → IsOrderTold columns order (some_keys ks)
some_told columns order [] h = by_no_field (none_meant columns (fields_meant columns order) h)
some_told columns order (k ∷ ks) h = sorts_by h

pub order_told : (columns : List FieldTree) (order : OrderKeys) → IsOrderTold columns order (sorted_by columns order)
unfolding sorted_by
order_told columns order =
    then_told (AreKeysTold columns (fields_meant columns order)) (IsOrderTold columns order) _ (keys_of columns (fields_meant columns order)) (keys_told columns (fields_meant columns order))
    (λ ks h. some_told columns order ks h) (λ f h. by_no_key h)

-- ---- bags

abbrev pub IsBagTold : Place → BagRef → Checked Typing → Type 0
IsBagTold s b (Ok p) = Bags s b p
IsBagTold s b (Err f) = BagsNot s b f

as_bag_told : (s : Place) (b : BagRef) (p : Typing) → Types s (bag_form b) p → IsBagTold s b (as_bag p)
unfolding as_bag
as_bag_told s b p h = by (is_bag (kind_in p)) refl
  where
    by : (t : Bool) → is_bag (kind_in p) ≡ t → IsBagTold s b (if t then Ok p else Err kind.TypeMismatch)
    by true e = a_bag h e
    by false e = no_bag h e

pub bag_told : (s : Place) (b : BagRef) → IsBagTold s b (bag_of s b)
unfolding bag_of
bag_told s b = then_told (expr.IsTold s (bag_form b)) (IsBagTold s b) _ (type_of s (bag_form b)) (expr.told s (bag_form b)) (λ p h. as_bag_told s b p h) (λ f h. untyped_bag h)

-- ---- steps

abbrev pub IsMade : Place → Nested → Checked Made → Type 0
IsMade s n (Ok m) = Makes s n m
IsMade s n (Err f) = MakesNot s n f

pub made_told : (s : Place) (n : Nested) → IsMade s n (made_of s n)
unfolding made_of
made_told s (nested.Filter b cond) =
    then_told (IsBagTold s b) (IsMade s (nested.Filter b cond)) _ (bag_of s b) (bag_told s b)
    (λ p h. then_told (IsConditionTold (within p) (expr_form cond)) (IsMade s (nested.Filter b cond)) _ (condition_on (within p) (expr_form cond)) (condition_told (within p) (expr_form cond))
    (λ t g. makes_filter h g) (λ f g. filter_by_none h g))
    (λ f h. filter_of_none h)
made_told s (nested.Distinct b) = then_told (IsBagTold s b) (IsMade s (nested.Distinct b)) _ (bag_of s b) (bag_told s b) (λ p h. makes_distinct h) (λ f h. distinct_of_none h)
made_told s (nested.Order b keys) =
    then_told (IsBagTold s b) (IsMade s (nested.Order b keys)) _ (bag_of s b) (bag_told s b)
    (λ p h. then_told (IsOrderTold (columns_in p) keys) (IsMade s (nested.Order b keys)) _ (sorted_by (columns_in p) keys) (order_told (columns_in p) keys)
    (λ ks g. makes_order h g) (λ f g. order_by_none h g))
    (λ f h. order_of_none h)
made_told s (nested.Limit b count) = then_told (IsBagTold s b) (IsMade s (nested.Limit b count)) _ (bag_of s b) (bag_told s b) (λ p h. makes_limit h) (λ f h. limit_of_none h)
made_told s (nested.Take b) = then_told (IsBagTold s b) (IsMade s (nested.Take b)) _ (bag_of s b) (bag_told s b) (λ p h. makes_take h) (λ f h. take_of_none h)

abbrev pub AreMade : Place → List Step → Checked Stepped → Type 0
AreMade s steps (Ok ss) = AllMake s steps ss
AreMade s steps (Err f) = AllMakeNot s steps f

step_told : (s : Place) (step : Step) (steps : List Step) (m : Made) → Makes s step.nested m
    → ((c : FieldTree) → AreMade (behind s step.alias c) steps (steps_of (behind s step.alias c) steps))
    → AreMade s (step ∷ steps) (steps_of (behind s step.alias (column_made m)) steps >>= λ more. Ok (step_first (step_made m) more))
step_told s step steps (made t c) h others =
    then_told (AreMade (behind s step.alias c) steps) (AreMade s (step ∷ steps)) _ (steps_of (behind s step.alias c) steps) (others c)
    (λ more g. more_make h g) (λ f g. later_not h g)

pub steps_told : (s : Place) (steps : List Step) → AreMade s steps (steps_of s steps)
unfolding steps_of
steps_told s [] = none_make
steps_told s (step ∷ steps) =
    then_told (IsMade s step.nested) (AreMade s (step ∷ steps)) _ (made_of s step.nested) (made_told s step.nested)
    (λ m h. step_told s step steps m h (λ c. steps_told (behind s step.alias c) steps))
    (λ f h. step_not h)

-- ---- the whole

abbrev pub IsForeachTold : List FieldTree → List Step → List Item → Checked Foreach → Type 0
IsForeachTold columns steps items (Ok f) = TypesForeach columns steps items f
IsForeachTold columns steps items (Err f) = ForeachFaults columns steps items f

within_told : (columns : List FieldTree) (steps : List Step) (items : List Item) (ss : Stepped) (g : Generated)
    → AllMake (row_place columns) steps ss → AllGenerate (place_behind ss) items g → IsForeachTold columns steps items (within_row ss g)
unfolding within_row
within_told columns steps items ss g h k =
    then_is (IsForeachTold columns steps items) _ (limited_row g.columns) (λ row e. types_foreach h k e) (λ f e. past_limits h k e)

pub foreach_told : (columns : List FieldTree) (steps : List Step) (items : List Item) → IsForeachTold columns steps items (foreach_of columns steps items)
unfolding foreach_of
foreach_told columns steps items =
    then_told (AreMade (row_place columns) steps) (IsForeachTold columns steps items) _ (steps_of (row_place columns) steps) (steps_told (row_place columns) steps)
    (λ ss h. then_told (AreGenerated (place_behind ss) items) (IsForeachTold columns steps items) _ (items_of (place_behind ss) items) (items_told (place_behind ss) items)
    (λ g k. within_told columns steps items ss g h k) (λ f k. in_items h k))
    (λ f h. in_steps h)
