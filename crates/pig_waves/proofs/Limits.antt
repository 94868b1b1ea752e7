-- LIMIT by tasks: the first rows of tasks' first rows, and rows kept of those that tasks kept.
use Rattle.std.specs.Prelude.{◌≡◌, ℕ, true, false, List, [], ◌∷◌, map, take, refl}
use Rattle.std.proofs.Common.{ap, sym, subst, ◌∙◌}
use Rattle.std.specs.List.{flat_map}
use Rattle.std.proofs.lemmas.List.Folds.{flat_map-map}
use Rattle.pig_value.specs.Elementwise.{Each}
use Rattle.pig_value.specs.Trees.{Tree}
use Rattle.pig_value.proofs.list_laws.Elementwise.{each_flat, each_weaker_two}
use Rattle.pig_plan.proofs.ByTasks.{kept_tasks, take_tasks}
use Rattle.pig_plan.specs.Laws.{EachKept}
use Rattle.pig_plan.specs.Meaning.{AreKept}
use Rattle.pig_physical.specs.Outs.{TaskOut, rows_in}
use Rattle.pig_physical.specs.Values.{Keeps}

abbrev Rows : Type 0
Rows = List (List Tree)

module _ {T : Type 0} (count : ℕ) (rows : T → Rows) where
  -- of a sorted node: the first rows of all tasks, from the first ones of each
  pub first_together : (tasks : List T) (outs : List TaskOut) (out : TaskOut) → Each (λ t o. Keeps true count (rows t) o.form) tasks outs
      → Keeps true count (flat_map (λ o. rows_in o.form) outs) out.form → rows_in out.form ≡ take count (flat_map rows tasks)
  first_together tasks outs out each last =
      ap rows_in last.is ∙ last.first refl
      ∙ ap (take count) (sym (each_flat (λ t. take count (rows t)) (λ o. rows_in o.form) tasks outs
      (each_weaker_two (λ t o. Keeps true count (rows t) o.form) (λ t o. take count (rows t) ≡ rows_in o.form) (λ t o h. sym (ap rows_in h.is ∙ h.first refl)) tasks outs each)))
      ∙ ap (take count) (sym (flat_map-map (take count) rows tasks))
      ∙ take_tasks count (map rows tasks)
      ∙ ap (take count) (flat_map-map (λ r. r) rows tasks)

  -- of another: rows that may be kept of all tasks' rows
  each_keeps : (tasks : List T) (outs : List TaskOut) → Each (λ t o. Keeps false count (rows t) o.form) tasks outs → EachKept count (map rows tasks) (map (λ o. rows_in o.form) outs)
  each_keeps [] [] h = refl
  each_keeps [] (o ∷ outs) h = absurd h
  each_keeps (t ∷ tasks) [] h = absurd h
  each_keeps (t ∷ tasks) (o ∷ outs) h = (
    rows_in o.form,
    map (λ u. rows_in u.form) outs,
    refl,
    subst (λ form. AreKept count (rows t) (rows_in form)) (sym h.0.is) (h.0.some refl),
    each_keeps tasks outs h.1,
  )

  pub kept_together : (tasks : List T) (outs : List TaskOut) (out : TaskOut) → Each (λ t o. Keeps false count (rows t) o.form) tasks outs
      → Keeps false count (flat_map (λ o. rows_in o.form) outs) out.form → AreKept count (flat_map rows tasks) (rows_in out.form)
  kept_together tasks outs out each last =
      let kepts = map (λ o. rows_in o.form) outs in
      subst (λ all. AreKept count all (rows_in out.form)) (flat_map-map (λ r. r) rows tasks)
      (kept_tasks count (map rows tasks) kepts (rows_in out.form) (each_keeps tasks outs each)
      (subst (λ all. AreKept count all (rows_in out.form)) (sym (flat_map-map (λ r. r) (λ o. rows_in o.form) outs))
      (subst (λ form. AreKept count (flat_map (λ o. rows_in o.form) outs) (rows_in form)) (sym last.is) (last.some refl))))
