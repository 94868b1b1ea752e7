use Rattle.std.proofs.Common.{map}
use Rattle.std.specs.Option.{option_map}
use Rattle.pig_value.specs.Trees.{kind_tree}
use Rattle.pig_typed.specs.Typed.{typed}
use Rattle.pig_typing.proofs.CodeLaws.{row_call_kind}
use Rattle.pig_typing.proofs.calls.given_kind.Goals as goal

pub returns : goal.returns
returns c =
    row_call_kind c.args.function c.args.kinds.now c.new-locals.result c.len.result (map typed c.in_ok-args.args) (typed c.call_on-call.result) (option_map kind_tree c.in_ok-kind.kind)
    c.len.ensures c.new-locals.ensures c.in_ok-args.ensures c.call_on-call.ensures c.in_ok-kind.ensures
