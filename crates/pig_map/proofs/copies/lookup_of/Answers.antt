use Rattle.std.proofs.Common.{◌≡◌, subst, sym}
use Rattle.std.proofs.lemmas.Result.{IfOk-weaker}
use Rattle.pig_value.specs.Trees.{rows_tree}
use Rattle.pig_plan.specs.Plans.{keyed_of}
use Rattle.pig_replicated.specs.Holding.{lookup_of}
use Rattle.pig_probe.specs.Probing.{HoldsRows}
use Rattle.pig_map.proofs.Copied.{lookup_holds}
use Rattle.pig_map.proofs.copies.lookup_of.Goals as goal

pub returns-clause-rows : goal.returns-clause-rows
returns-clause-rows c =
    let keys = (keyed_of c.args.input.now).keys in
    let rows = rows_tree c.in_ok-rows.rows in
    IfOk-weaker c.build.result (λ lookup. lookup ≡ lookup_of keys rows) HoldsRows
    (λ lookup is. subst HoldsRows (sym is) (lookup_holds keys rows c.in_ok-rows.ensures.values)) c.build.ensures
