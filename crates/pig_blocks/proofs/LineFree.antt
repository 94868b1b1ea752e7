-- Typed blocks write no line end, where none stands in the texts of their steps and items.
use Rattle.std.proofs.Common.{List, [], arith}
use Rattle.std.specs.Prelude.{Option, Some, None, IfSome}
use Rattle.std.specs.List.{All, AllByRecursion}
use Rattle.std.proofs.lemmas.List.Elements.{All-cons, All-head, All-nil, All-tail}
use Rattle.pig_value.specs.Texts.{IsLineFree}
use Rattle.pig_schema.specs.FieldTrees.{FieldTree}
use Rattle.pig_syntax.specs.ExprTrees.{e_field, expr_form}
use Rattle.pig_syntax.specs.Formed.{BagRefFormed, ExprFormed, FieldRefFormed, ItemFormed, PostStepFormed, SelectionFormed, StepFormed, NestedFormed}
use Rattle.pig_syntax.specs.declared.trees.BagRef.{BagRef}
use Rattle.pig_syntax.specs.declared.trees.FieldRef.{FieldRef}
use Rattle.pig_syntax.specs.declared.trees.Item.{Item}
use Rattle.pig_syntax.specs.declared.trees.Nested.{Nested}
use Rattle.pig_syntax.specs.declared.trees.PostStep.{PostStep}
use Rattle.pig_syntax.specs.declared.trees.PostStep.TheVariants as step
use Rattle.pig_syntax.specs.declared.trees.Step.{Step}
use Rattle.pig_typed.specs.Literals.{BlockLiteralsAre, StepLiteralsAre}
use Rattle.pig_typing.specs.Columns.{Place}
use Rattle.pig_typing.specs.Parts.{Typing, typed_of}
use Rattle.pig_typing.proofs.NoLineEnds.{IsFree, condition_free, typing_free}
use Rattle.pig_items.proofs.NoLineEnds.{items_free}
use Rattle.pig_blocks.specs.Bags.{Bags, a_bag, bag_form, projected_form}
use Rattle.pig_blocks.specs.Foreach.{Foreach, TypesForeach, types_foreach, block_in}
use Rattle.pig_blocks.specs.Steps.{Made, made, step_made, within, row_place, Makes, makes_filter, makes_distinct, makes_order, makes_limit, makes_take, behind, Stepped, steps_made, place_behind, AllMake, none_make, more_make}

-- ---- bags

step_formed : (step : PostStep) → SelectionFormed step → PostStepFormed step
step_formed (step.Project fields single) h = h
step_formed (step.Look key) h = absurd h

projected_formed : (r : FieldRef) (sel : Option PostStep) → FieldRefFormed r → IfSome sel SelectionFormed → ExprFormed (projected_form (e_field r) sel)
projected_formed r None h g = h
projected_formed r (Some step) h g = (h, record { many = omega arith; each = All-cons PostStepFormed step [] (step_formed step g) (All-nil PostStepFormed) })

bag_free : (s : Place) (b : BagRef) (p : Typing) → BagRefFormed b → Bags s b p → IsFree (typed_of p)
bag_free s b p w (a_bag h e) = typing_free s (bag_form b) p (projected_formed b.field b.sel w.field w.selection) h

-- ---- steps

abbrev StepIsFree : Made → Type 0
StepIsFree m = StepLiteralsAre IsLineFree (step_made m)

made_free : (s : Place) (n : Nested) (m : Made) → NestedFormed n → Makes s n m → StepIsFree m
made_free s n m w (makes_filter {b = b} {cond = cond} {p = p} {t = t} h g) = (bag_free s b p w.0 h, condition_free (within p) (expr_form cond) t w.1 g)
made_free s n m w (makes_distinct {b = b} {p = p} h) = bag_free s b p w h
made_free s n m w (makes_order {b = b} {p = p} h g) = bag_free s b p w.0 h
made_free s n m w (makes_limit {b = b} {p = p} h) = bag_free s b p w h
made_free s n m w (makes_take {b = b} {p = p} h) = bag_free s b p w h

steps_free : (s : Place) (steps : List Step) (ss : Stepped) → All StepFormed steps → AllMake s steps ss → AllByRecursion (StepLiteralsAre IsLineFree) (steps_made ss)
steps_free s steps ss w none_make = tt
steps_free s steps ss w (more_make {step = step} {steps = rest} {t = t} {c = c} {more = more} h g) = (
  made_free s step.nested (made t c) (All-head StepFormed step rest w).nested h,
  steps_free (behind s step.alias c) rest more (All-tail StepFormed step rest w) g,
)

-- ---- the whole

pub foreach_free : (columns : List FieldTree) (steps : List Step) (items : List Item) (f : Foreach)
    → All StepFormed steps → All ItemFormed items → TypesForeach columns steps items f → BlockLiteralsAre IsLineFree (block_in f)
foreach_free columns steps items f w v (types_foreach {ss = ss} {g = g} h k e) = (steps_free (row_place columns) steps ss w h, items_free (place_behind ss) items g v k)
