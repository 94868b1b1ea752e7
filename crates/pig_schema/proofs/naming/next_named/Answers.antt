use Rattle.std.proofs.Common.{sym, ◌∙◌}
use Rattle.pig_schema.specs.Names.{has_name}
use Rattle.pig_schema.proofs.Searching.{found_at, not_at}
use Rattle.pig_schema.proofs.naming.next_named.Goals as goal

pub returns-then-is_named-clause-found : goal.returns-then-is_named-clause-found
returns-then-is_named-clause-found c =
    found_at (has_name c.args.name.now) c.args.fields.now c.args.start c.loop-place.place c.index-fields-place.result c.loop-place.invariant c.loop-place-test.true c.index-fields-place.is (sym c.if-is_named.true ∙ c.is_named.ensures)

pub loop-place-preserved : goal.loop-place-preserved
loop-place-preserved c =
    not_at (has_name c.args.name.now) c.args.fields.now c.args.start c.loop-place.place c.index-fields-place.result c.loop-place.invariant c.loop-place-test.true c.index-fields-place.is (sym c.if-is_named.false ∙ c.is_named.ensures)
