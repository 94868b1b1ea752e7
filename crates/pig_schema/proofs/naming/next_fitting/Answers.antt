use Rattle.std.proofs.Common.{sym, ◌∙◌}
use Rattle.pig_schema.specs.Names.{fits_field}
use Rattle.pig_schema.proofs.Searching.{found_at, not_at}
use Rattle.pig_schema.proofs.naming.next_fitting.Goals as goal

pub returns-then-is_fitting-clause-found : goal.returns-then-is_fitting-clause-found
returns-then-is_fitting-clause-found c =
    found_at (fits_field c.args.name.now) c.args.fields.now c.args.start c.loop-place.place c.index-fields-place.result c.loop-place.invariant c.loop-place-test.true c.index-fields-place.is (sym c.if-is_fitting.true ∙ c.is_fitting.ensures)

pub loop-place-preserved : goal.loop-place-preserved
loop-place-preserved c =
    not_at (fits_field c.args.name.now) c.args.fields.now c.args.start c.loop-place.place c.index-fields-place.result c.loop-place.invariant c.loop-place-test.true c.index-fields-place.is (sym c.if-is_fitting.false ∙ c.is_fitting.ensures)
