use Rattle.std.proofs.Common.{◌≡◌, ◌<◌, ◌+◌, ◌∙◌, ap, false, length, map, sym}
use Rattle.std.proofs.lemmas.Option.{slice_get_within}
use Rattle.pig_value.specs.Trees.{rows_tree}
use Rattle.pig_plan.specs.Nodes.{is_live}
use Rattle.pig_plan.specs.Plans.{node_of, plan_of}
use Rattle.pig_plain.specs.declared.relation.Relation.TheVariants.{Standing}
use Rattle.pig_plain.specs.Operating.{no_rows}
use Rattle.pig_plain.specs.Tables.{and_relation}
use Rattle.pig_plain.proofs.Steps.{dead_step, same_so_far}
use Rattle.pig_plain.proofs.Tables.{on_ok}
use Rattle.pig_plain.proofs.answering.Running.run_node.Goals as goal

pub returns : goal.returns
returns c =
    let plan = plan_of c.args.plan.now in
    let node = node_of c.args.node.now in
    let i = c.args.number in
    let before = c.args.self.now.table in
    let kept = c.args.self.now.kept in
    let stores = map rows_tree c.args.self.now.stores in
    let within : i < length plan = slice_get_within plan i node c.requires.node in
    let dead : is_live plan i ≡ false = sym (c.requires.live i within) ∙ sym c.is_live-lives.ensures ∙ c.if-lives.false in
    on_ok c.put.result c.put.ensures.table c.put.ensures.table (λ t u.
    same_so_far plan c.args.inputs.now (i + 1) (and_relation no_rows before) c.put.new.self.table kept c.put.new.self.kept stores (map rows_tree c.put.new.self.stores)
    (t ∙ ap (λ rows. and_relation (Standing rows) before) c.new.ensures) c.put.ensures.kept (ap (map rows_tree) c.put.ensures.stores)
    (dead_step plan c.requires.valid c.args.inputs.now i node c.requires.node before kept stores c.requires.so_far dead))
