use Rattle.std.proofs.Common.{◌≡◌, ◌+◌, ◌++◌, ◌∙◌, [], ◌∷◌, ap, false, map, sym}
use Rattle.pig_value.specs.Trees.{rows_tree}
use Rattle.pig_plan.specs.Nodes.{is_sorted}
use Rattle.pig_plan.specs.Plans.{node_of, plan_of}
use Rattle.pig_plan.specs.Results.{at_place}
use Rattle.pig_plain.specs.Kinds.{kind_in}
use Rattle.pig_plain.specs.Coming.{relation_rows}
use Rattle.pig_plain.specs.Operating.{no_rows}
use Rattle.pig_plain.specs.Tables.{Held, IsUsed, and_relation}
use Rattle.pig_plain.proofs.Steps.{kept_kind, keep_step, live_step, same_so_far, standing_kind, store_step, stored_kind}
use Rattle.pig_plain.proofs.Tables.{on_ok, used_both}
use Rattle.pig_plain.proofs.answering.Running.run_live_node.Goals as goal

pub returns-in-Stored : goal.returns-in-Stored
returns-in-Stored c =
    let plan = plan_of c.args.plan.now in
    let node = node_of c.args.node.now in
    let i = c.args.number in
    let before = c.args.self.now.table in
    let kept = c.args.self.now.kept in
    let stores = map rows_tree c.args.self.now.stores in
    let after : Held = c.release_inputs.new.self in
    let made = c.in_ok-made.made in
    let told = c.in_ok-made.ensures.found in
    let used : IsUsed before after = used_both before c.found.new.table after told.left c.in_ok-release_inputs.ensures in
    let sorted_is : at_place false c.args.sorted.now ≡ is_sorted plan = ap (at_place false) c.requires.sorted in
    let kind = stored_kind (is_sorted plan) node.op (ap (λ s. kind_in s node.op) (sym sorted_is) ∙ sym c.kind_of.ensures ∙ c.in-Stored.is) in
    on_ok c.put_stored.result c.put_stored.ensures.table c.put_stored.ensures.stores (λ t s.
    same_so_far plan c.args.inputs.now (i + 1) (and_relation no_rows after) c.put_stored.new.self.table kept c.put_stored.new.self.kept
    (stores ++ relation_rows made ∷ []) (map rows_tree c.put_stored.new.self.stores) t c.put_stored.ensures.kept s
    (store_step plan c.requires.valid c.args.inputs.now i node c.requires.node before kept stores c.requires.so_far
    c.requires.live after used made told.rows kind.0 kind.1 kind.2 kind.3))

pub returns-in-Kept : goal.returns-in-Kept
returns-in-Kept c =
    let plan = plan_of c.args.plan.now in
    let node = node_of c.args.node.now in
    let i = c.args.number in
    let before = c.args.self.now.table in
    let kept = c.args.self.now.kept in
    let stores = map rows_tree c.args.self.now.stores in
    let after : Held = c.release_inputs.new.self in
    let told = c.in_ok-made.ensures.found in
    let used : IsUsed before after = used_both before c.found.new.table after told.left c.in_ok-release_inputs.ensures in
    let sorted_is : at_place false c.args.sorted.now ≡ is_sorted plan = ap (at_place false) c.requires.sorted in
    let kind = kept_kind (is_sorted plan) node.op (ap (λ s. kind_in s node.op) (sym sorted_is) ∙ sym c.kind_of.ensures ∙ c.in-Kept.is) in
    on_ok c.put_kept.result c.put_kept.ensures.table c.put_kept.ensures.kept (λ t k.
    same_so_far plan c.args.inputs.now (i + 1) (and_relation t.0 after) c.put_kept.new.self.table (kept ++ k.0 ∷ []) c.put_kept.new.self.kept
    stores (map rows_tree c.put_kept.new.self.stores) t.2 k.3 (ap (map rows_tree) c.put_kept.ensures.stores)
    (keep_step plan c.requires.valid c.args.inputs.now i node c.requires.node before kept stores c.requires.so_far
    c.requires.live after used t.0 (t.1 ∙ told.rows) k.0 kind.0 kind.1 kind.2 kind.3 k.1 (k.2 ∙ sym t.1)))

pub returns-in-Standing : goal.returns-in-Standing
returns-in-Standing c =
    let plan = plan_of c.args.plan.now in
    let node = node_of c.args.node.now in
    let i = c.args.number in
    let before = c.args.self.now.table in
    let kept = c.args.self.now.kept in
    let stores = map rows_tree c.args.self.now.stores in
    let after : Held = c.release_inputs.new.self in
    let made = c.in_ok-made.made in
    let told = c.in_ok-made.ensures.found in
    let used : IsUsed before after = used_both before c.found.new.table after told.left c.in_ok-release_inputs.ensures in
    let sorted_is : at_place false c.args.sorted.now ≡ is_sorted plan = ap (at_place false) c.requires.sorted in
    let kind = standing_kind (is_sorted plan) node.op (ap (λ s. kind_in s node.op) (sym sorted_is) ∙ sym c.kind_of.ensures ∙ c.in-Standing.is) in
    on_ok c.put.result c.put.ensures.table c.put.ensures.table (λ t u.
    same_so_far plan c.args.inputs.now (i + 1) (and_relation made after) c.put.new.self.table kept c.put.new.self.kept stores (map rows_tree c.put.new.self.stores)
    t c.put.ensures.kept (ap (map rows_tree) c.put.ensures.stores)
    (live_step plan c.requires.valid c.args.inputs.now i node c.requires.node before kept stores c.requires.so_far
    c.requires.live after used made told.rows kind.0 kind.1))
