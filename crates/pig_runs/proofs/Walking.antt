-- A walk over entries passes one of them.
use Rattle.std.proofs.Common.{◌≡◌, ◌+◌, ℕ, sym, ◌∙◌, ap}
use Rattle.pig_value.proofs.list_laws.Indexing.{drop-add}
use Rattle.pig_runs.specs.Entries.{InDirections, left_of}

pub one_passed : (run old : InDirections) (passed : ℕ) → left_of passed run ≡ old → left_of (passed + 1) run ≡ left_of 1 old
one_passed run old passed is = ap (λ l. record { dirs = run.dirs; entries = l }) (sym (drop-add run.entries passed 1)) ∙ ap (left_of 1) is
