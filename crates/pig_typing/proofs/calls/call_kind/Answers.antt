use Rattle.std.proofs.Common.{map}
use Rattle.std.specs.Option.{option_map}
use Rattle.pig_value.specs.Trees.{kind_tree}
use Rattle.pig_typing.specs.Views.{typing_tree}
use Rattle.pig_typing.proofs.CodeLaws.{call_kind_is}
use Rattle.pig_typing.proofs.calls.call_kind.Goals as goal

pub returns : goal.returns
returns c =
    call_kind_is c.args.function c.in_ok-called.called c.how_cast-casting.result (map typing_tree c.args.args.now) (map kind_tree c.in_ok-kinds.kinds) (option_map kind_tree c.in_ok-kind.kind)
    c.how_cast-casting.ensures c.in_ok-called.ensures c.in_ok-kinds.ensures c.in_ok-kind.ensures
