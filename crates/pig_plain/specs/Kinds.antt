-- What becomes of the rows of a live node.
use Rattle.std.specs.Prelude.{ℕ, Bool, if◌then◌else◌}
use Rattle.pig_plan.specs.Plans.{PlanOp, p_limit, p_store}
use Rattle.pig_plain.specs.declared.answering.Kind.{Kind}
use Rattle.pig_plain.specs.declared.answering.Kind.TheVariants.{Stored, Kept, Standing}

-- a LIMIT on no sorted node is bare
abbrev pub limit_kind : Bool → Kind
limit_kind sorted = if sorted then Standing else Kept

abbrev pub kind_in : (ℕ → Bool) → PlanOp → Kind
kind_in sorted (p_store input path delim) = Stored
kind_in sorted (p_limit input count) = limit_kind (sorted input)
kind_in sorted o = Standing
