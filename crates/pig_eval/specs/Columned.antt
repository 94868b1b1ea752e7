-- Which column of the rows an algebraic function of a projection reads.
use Rattle.std.specs.Prelude.{◌≡◌, ℕ, Bool, true, false, List}
use Rattle.pig_value.specs.Functions.{looked_at}
use Rattle.pig_value.specs.Trees.{Tree, at}
use Rattle.pig_value.specs.declared.functions.Function.{Function}
use Rattle.pig_value.specs.declared.functions.Function.TheVariants as f
use Rattle.pig_builtins.specs.Folds.{is_algebraic}
use Rattle.pig_typed.specs.Operators.{pick}

abbrev pub ReadsColumn : Function → List ℕ → ℕ → Type 0
ReadsColumn function ns n = (is_algebraic function ≡ true) × ((row : List Tree) → looked_at function (pick ns row) ≡ at n row)

-- which functions of a bag look at nothing but how many rows there are
abbrev pub counts_rows : Function → Bool
counts_rows f.Size = true
counts_rows f.IsEmpty = true
counts_rows function = false
