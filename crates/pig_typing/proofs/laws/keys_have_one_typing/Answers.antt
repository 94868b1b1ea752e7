use Rattle.std.specs.Prelude.{List, ◌⊎◌}
use Rattle.std.specs.declared.result.Result.TheVariants.{Ok, Err}
use Rattle.std.proofs.Common.{inl, inr}
use Rattle.pig_syntax.specs.ExprTrees.{ExprForms}
use Rattle.pig_typing.specs.Parts.{Typing}
use Rattle.pig_typing.specs.declared.faults.CheckKind.{CheckKind}
use Rattle.pig_typing.specs.Columns.{Place}
use Rattle.pig_typing.specs.Conditions.{Keys, KeysNot, keys_on}
use Rattle.pig_typing.specs.Results.{Checked}
use Rattle.pig_typing.proofs.ConditionsFound.{one_list_of_keys, no_list_of_keys}
use Rattle.pig_typing.proofs.ConditionsTold.{AreKeysTold, keys_told}
use Rattle.pig_typing.proofs.laws.keys_have_one_typing.Goals as goal

either : (s : Place) (es : ExprForms) (r : Checked (List Typing)) → AreKeysTold s es r → ((ps : List Typing) × Keys s es ps) ⊎ ((kind : CheckKind) × KeysNot s es kind)
either s es (Ok ps) w = inl (ps, w)
either s es (Err kind) w = inr (kind, w)

pub returns : goal.returns
returns c = record {
  one = λ s es ps qs v w. one_list_of_keys v w;
  some = λ s es. either s es (keys_on s es) (keys_told s es);
  never_both = λ s es ps kind v w. no_list_of_keys v w;
}
