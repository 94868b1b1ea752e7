use Rattle.std.proofs.Common.{ap, sym, ◌∙◌}
use Rattle.std.specs.Option.{is_some}
use Rattle.pig_combine.proofs.Coded.{place_found, place_new}
use Rattle.pig_combine.proofs.table.place_of.Goals as goal

pub returns-clause-found : goal.returns-clause-found
returns-clause-found c = place_found (λ k. k.bytes.items) c.args.bytes.now c.args.names.now.keys c.get_index_of.result c.get_index_of.ensures.index

pub returns-clause-none : goal.returns-clause-none
returns-clause-none c h = place_new (λ k. k.bytes.items) c.args.bytes.now c.args.names.now.keys (sym c.get_index_of.ensures.found ∙ ap is_some h)
