use Rattle.std.proofs.Common.{◌≡◌, sym, ◌∙◌, subst, rules}
use Rattle.std.specs.Prelude.{None, OnOk}
use Rattle.pig_packed.specs.Growth.{and_rows}
use Rattle.pig_plan.specs.Entries.{sort_keys}
use Rattle.pig_plan.specs.Meaning.{width_at}
use Rattle.pig_plan.specs.Plans.{op_of, plan_of}
use Rattle.pig_reduce.proofs.ByOperator.{goes_by_key}
use Rattle.pig_reduce.proofs.bringing.add_brought.Goals as goal

pub returns-in-None : goal.returns-in-None
returns-in-None c =
    let none : sort_keys (op_of c.args.op.now) ≡ None = search rules in
    subst (λ rows. OnOk c.add_by_key.result (c.add_by_key.new.built ≡ and_rows rows c.args.built.now))
    (goes_by_key (width_at (plan_of c.args.plan.now)) (op_of c.args.op.now) c.args.entries.now.entries
    (sym c.is_distinct.ensures ∙ c.if-is_distinct.false) none) c.add_by_key.ensures
