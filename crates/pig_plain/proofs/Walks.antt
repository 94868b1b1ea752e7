-- Rows that come in batches: what the steps make of some of them, and of the others behind.
use Rattle.std.specs.Prelude.{◌≡◌, List, [], ◌∷◌, ◌++◌, map, refl}
use Rattle.std.proofs.Common.{ap, sym, subst, ◌∙◌}
use Rattle.std.proofs.lemmas.Grind.{flat_map-append}
use Rattle.std.proofs.lemmas.List.{append_assoc, map-append}
use Rattle.std.proofs.lemmas.List.Elements.{filter-append}
use Rattle.pig_value.specs.Trees.{Tree}
use Rattle.pig_value.specs.Valid.{AreRows}
use Rattle.pig_value.proofs.ValidLaws.{rows_each, rows_from_each}
use Rattle.pig_value.specs.Valid.{IsRow}
use Rattle.std.specs.List.{AllByRecursion}
use Rattle.pig_typed.specs.Blocks.{foreach_rows}
use Rattle.pig_typed.specs.Evaluation.{passes}
use Rattle.pig_typed.specs.Typed.{block_typed, typed}
use Rattle.pig_plain.specs.Coming.{step_rows, steps_rows}
use Rattle.pig_plain.specs.declared.walking.RowStep.{RowStep}
use Rattle.pig_plain.specs.declared.walking.RowStep.TheVariants.{Filter, Foreach}

-- ---- steps

step-append : (step : RowStep) (xs ys : List (List Tree)) → step_rows step (xs ++ ys) ≡ step_rows step xs ++ step_rows step ys
step-append (Filter cond) xs ys = filter-append (passes (typed cond.now)) xs ys
step-append (Foreach block) xs ys = flat_map-append (foreach_rows (block_typed block.now)) xs ys

pub steps-append : (steps : List RowStep) (xs ys : List (List Tree)) → steps_rows steps (xs ++ ys) ≡ steps_rows steps xs ++ steps_rows steps ys
steps-append [] xs ys = refl
steps-append (step ∷ steps) xs ys = ap (steps_rows steps) (step-append step xs ys) ∙ steps-append steps (step_rows step xs) (step_rows step ys)

-- one step more behind the others
pub steps_more : (steps : List RowStep) (step : RowStep) (rows : List (List Tree)) → steps_rows (steps ++ step ∷ []) rows ≡ step_rows step (steps_rows steps rows)
steps_more [] step rows = refl
steps_more (first ∷ steps) step rows = steps_more steps step (step_rows first rows)

-- what is made of the first rows comes first
pub batch_is : (steps : List RowStep) (all first rest made : List (List Tree)) → all ≡ first ++ rest → made ≡ steps_rows steps first
    → steps_rows steps all ≡ made ++ steps_rows steps rest
batch_is steps all first rest made whole is = ap (steps_rows steps) whole ∙ steps-append steps first rest ∙ ap (λ rows. rows ++ steps_rows steps rest) (sym is)

-- ---- batches

each_first : (P : List Tree → Type 0) (xs ys : List (List Tree)) → AllByRecursion P (xs ++ ys) → AllByRecursion P xs
each_first P [] ys h = tt
each_first P (x ∷ xs) ys h = (h.0, each_first P xs ys h.1)

each_last : (P : List Tree → Type 0) (xs ys : List (List Tree)) → AllByRecursion P (xs ++ ys) → AllByRecursion P ys
each_last P [] ys h = h
each_last P (x ∷ xs) ys h = each_last P xs ys h.1

-- rows of values are so in each batch, and behind it
pub batch_values : (all batch rest : List (List Tree)) → all ≡ batch ++ rest → AreRows all → AreRows batch
batch_values all batch rest whole h = rows_from_each batch (each_first IsRow batch rest (rows_each (batch ++ rest) (subst AreRows whole h)))

pub rest_values : (all batch rest : List (List Tree)) → all ≡ batch ++ rest → AreRows all → AreRows rest
rest_values all batch rest whole h = rows_from_each rest (each_last IsRow batch rest (rows_each (batch ++ rest) (subst AreRows whole h)))

-- what is made of each row stands behind what was made of those before
pub goes_on : {E : Type 0} (g : List Tree → E) (now next whole : List E) (all batch rest : List (List Tree)) → all ≡ batch ++ rest → next ≡ now ++ map g batch
    → now ++ map g all ≡ whole → next ++ map g rest ≡ whole
goes_on g now next whole all batch rest parts more so_far =
    ap (λ es. es ++ map g rest) more
    ∙ append_assoc now (map g batch) (map g rest)
    ∙ ap (λ es. now ++ es) (sym (map-append g batch rest) ∙ ap (map g) (sym parts))
    ∙ so_far
