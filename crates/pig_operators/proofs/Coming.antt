-- The rows that are still to come of a run: group by group, or in their order.
use Rattle.std.proofs.Common.{◌≡◌, ◌≤◌, ℕ, List, [], ◌++◌, map, drop, sym, ◌∙◌, ap, append_assoc}
use Rattle.std.proofs.lemmas.List.{drop-map, map-append}
use Rattle.pig_value.specs.Sorts.{Ascends}
use Rattle.pig_value.specs.Trees.{Tree}
use Rattle.pig_runs.specs.Entries.{InDirections, run_cmp}
use Rattle.pig_operators.specs.declared.by_key.Gathering.{Gathering}
use Rattle.pig_operators.specs.Given.{made, run_rows, to_come}
use Rattle.pig_operators.specs.Groups.{IsGroup, bags_at, between, first_key, rows_at}
use Rattle.pig_operators.proofs.Between.{between_rest}
use Rattle.pig_operators.proofs.Stretches.{gathered_group, sorted_out}

-- those of the first group, and then those of the others
pub group_first : (operator : Gathering) (run : InDirections) (from end : ℕ) → IsGroup run from end → run.dirs ≡ []
    → ∥ Ascends (run_cmp run.dirs) run.entries ∥₁ → (old new : List (List Tree)) → new ≡ old ++ made operator (first_key run from) (bags_at run from end)
    → old ++ to_come operator run from ≡ new ++ to_come operator run end
group_first operator run from end group none up old new is =
    let here = made operator (first_key run from) (bags_at run from end) in
    let rest = to_come operator run end in
    ap (λ l. old ++ l) (gathered_group run from end group (sorted_out run.dirs run.entries up) (made operator) none)
    ∙ (sym (append_assoc old here rest) ∙ ap (λ l. l ++ rest) (sym is))

-- those up to a place, and then those from there on
pub rows_split : (run : InDirections) (a b : ℕ) → a ≤ b → drop a (run_rows run) ≡ rows_at run a b ++ drop b (run_rows run)
rows_split run a b h =
    drop-map (λ e. e.row) a run.entries
    ∙ (ap (map (λ e. e.row)) (between_rest a b run.entries h)
    ∙ (map-append (λ e. e.row) (between a b run.entries) (drop b run.entries) ∙ ap (λ l. rows_at run a b ++ l) (sym (drop-map (λ e. e.row) b run.entries))))
