-- What holds of keys, bags, steps and blocks is found, so there is one typing of them, or a refusal, and never both.
use Rattle.std.proofs.Common.{◌≡◌, ◌∙◌, List, refl, sym}
use Rattle.std.specs.declared.result.Result.TheVariants.{Ok}
use Rattle.pig_schema.specs.FieldTrees.{FieldTree}
use Rattle.pig_syntax.specs.declared.trees.BagRef.{BagRef}
use Rattle.pig_syntax.specs.declared.trees.Item.{Item}
use Rattle.pig_syntax.specs.declared.trees.Nested.{Nested}
use Rattle.pig_syntax.specs.declared.trees.OrderField.{OrderField}
use Rattle.pig_syntax.specs.declared.trees.OrderKeys.{OrderKeys}
use Rattle.pig_syntax.specs.declared.trees.Step.{Step}
use Rattle.pig_typed.specs.declared.blocks.SortKey.{SortKey}
use Rattle.pig_typing.specs.declared.faults.CheckKind.{CheckKind}
use Rattle.pig_typing.specs.Columns.{Place}
use Rattle.pig_typing.specs.Parts.{Typing}
use Rattle.pig_typing.proofs.Found as expr
use Rattle.pig_typing.proofs.ConditionsFound.{condition_found, condition_fails}
use Rattle.pig_items.proofs.ItemsFound.{items_found, items_fail}
use Rattle.pig_typing.proofs.References.{Fails, failed, fails_first, fails_next, not_both, refer_is, refer_fails}
use Rattle.pig_blocks.specs.Bags.{Bags, BagsNot, a_bag, untyped_bag, no_bag, as_bag, bag_of}
use Rattle.pig_blocks.specs.Foreach.{Foreach, TypesForeach, ForeachFaults, types_foreach, in_steps, in_items, past_limits, foreach_of, within_row}
use Rattle.pig_blocks.specs.SortKeys.{KeysAre, KeysAreNot, no_keys, more_keys, no_field, bad_key, later_key, SortsBy, SortsByNot, sorts_by, by_no_field, by_no_key, as_key, key_of, keys_of, sorted_by}
use Rattle.pig_blocks.specs.Steps.{Made, Makes, MakesNot, makes_filter, makes_distinct, makes_order, makes_limit, makes_take, filter_of_none, filter_by_none, distinct_of_none, order_of_none, order_by_none, limit_of_none, take_of_none, Stepped, AllMake, AllMakeNot, none_make, more_make, step_not, later_not, made_of, steps_of}

-- ---- keys of an ORDER

keys_found : {columns : List FieldTree} {fields : List OrderField} {ks : List SortKey} → KeysAre columns fields ks → keys_of columns fields ≡ Ok ks
unfolding keys_of key_of as_key
keys_found no_keys = refl
keys_found (more_keys m e g) = rw (refer_is m, e, keys_found g) refl

keys_fail : {columns : List FieldTree} {fields : List OrderField} {f : CheckKind} → KeysAreNot columns fields f → Fails (keys_of columns fields)
unfolding keys_of key_of as_key
keys_fail (no_field m) = rw (refer_fails m) failed
keys_fail (bad_key m e) = rw (refer_is m, e) failed
keys_fail {columns = columns} (later_key {o = o} g) = fails_next _ (key_of columns o.field o.dir) (λ k. fails_first _ (keys_fail g))

pub order_found : {columns : List FieldTree} {order : OrderKeys} {ks : List SortKey} → SortsBy columns order ks → sorted_by columns order ≡ Ok ks
unfolding sorted_by
order_found (sorts_by h) = rw (keys_found h) refl

pub order_fails : {columns : List FieldTree} {order : OrderKeys} {f : CheckKind} → SortsByNot columns order f → Fails (sorted_by columns order)
unfolding sorted_by keys_of
order_fails (by_no_field e) = rw (e) failed
order_fails (by_no_key h) = fails_first _ (keys_fail h)

-- ---- bags

pub bag_found : {s : Place} {b : BagRef} {p : Typing} → Bags s b p → bag_of s b ≡ Ok p
unfolding bag_of as_bag
bag_found (a_bag h e) = rw (expr.found h, e) refl

pub bag_fails : {s : Place} {b : BagRef} {f : CheckKind} → BagsNot s b f → Fails (bag_of s b)
unfolding bag_of as_bag
bag_fails (untyped_bag h) = fails_first _ (expr.fails h)
bag_fails (no_bag h e) = rw (expr.found h, e) failed

-- ---- steps

pub made_found : {s : Place} {n : Nested} {m : Made} → Makes s n m → made_of s n ≡ Ok m
unfolding made_of
made_found (makes_filter h g) = rw (bag_found h, condition_found g) refl
made_found (makes_distinct h) = rw (bag_found h) refl
made_found (makes_order h g) = rw (bag_found h, order_found g) refl
made_found (makes_limit h) = rw (bag_found h) refl
made_found (makes_take h) = rw (bag_found h) refl

pub made_fails : {s : Place} {n : Nested} {f : CheckKind} → MakesNot s n f → Fails (made_of s n)
unfolding made_of
made_fails (filter_of_none h) = fails_first _ (bag_fails h)
made_fails (filter_by_none h g) = rw (bag_found h) (fails_first _ (condition_fails g))
made_fails (distinct_of_none h) = fails_first _ (bag_fails h)
made_fails (order_of_none h) = fails_first _ (bag_fails h)
made_fails (order_by_none h g) = rw (bag_found h) (fails_first _ (order_fails g))
made_fails (limit_of_none h) = fails_first _ (bag_fails h)
made_fails (take_of_none h) = fails_first _ (bag_fails h)

pub steps_found : {s : Place} {steps : List Step} {ss : Stepped} → AllMake s steps ss → steps_of s steps ≡ Ok ss
unfolding steps_of
steps_found none_make = refl
steps_found (more_make h g) = rw (made_found h, steps_found g) refl

pub steps_fail : {s : Place} {steps : List Step} {f : CheckKind} → AllMakeNot s steps f → Fails (steps_of s steps)
unfolding steps_of
steps_fail (step_not h) = fails_first _ (made_fails h)
steps_fail (later_not h g) = rw (made_found h) (fails_first _ (steps_fail g))

-- ---- the whole

pub foreach_found : {columns : List FieldTree} {steps : List Step} {items : List Item} {f : Foreach} → TypesForeach columns steps items f → foreach_of columns steps items ≡ Ok f
unfolding foreach_of within_row
foreach_found (types_foreach h g e) = rw (steps_found h, items_found g, e) refl

pub foreach_fails : {columns : List FieldTree} {steps : List Step} {items : List Item} {f : CheckKind} → ForeachFaults columns steps items f → Fails (foreach_of columns steps items)
unfolding foreach_of within_row
foreach_fails (in_steps h) = fails_first _ (steps_fail h)
foreach_fails (in_items h g) = rw (steps_found h) (fails_first _ (items_fail g))
foreach_fails (past_limits h g e) = rw (steps_found h, items_found g, e) failed

-- ---- so there is one, or a refusal, and never both

pub one_foreach : {columns : List FieldTree} {steps : List Step} {items : List Item} {f g : Foreach} → TypesForeach columns steps items f → TypesForeach columns steps items g → f ≡ g
one_foreach h g = let e : Ok _ ≡ Ok _ = sym (foreach_found h) ∙ foreach_found g in cc

pub no_foreach : {columns : List FieldTree} {steps : List Step} {items : List Item} {f : Foreach} {r : CheckKind}
    → TypesForeach columns steps items f → ForeachFaults columns steps items r → ⊥
no_foreach h g = not_both (foreach_found h) (foreach_fails g)

pub one_order : {columns : List FieldTree} {order : OrderKeys} {ks ls : List SortKey} → SortsBy columns order ks → SortsBy columns order ls → ks ≡ ls
one_order h g = let e : Ok _ ≡ Ok _ = sym (order_found h) ∙ order_found g in cc

pub no_order : {columns : List FieldTree} {order : OrderKeys} {ks : List SortKey} {r : CheckKind} → SortsBy columns order ks → SortsByNot columns order r → ⊥
no_order h g = not_both (order_found h) (order_fails g)
