use Rattle.pig_check.proofs.ScriptsTold.{no_plan, one_plan, one_refusal, some_answer}
use Rattle.pig_check.proofs.laws.a_script_has_one_plan.Goals as goal

pub returns : goal.returns
returns c = record {
  one = λ ss p q h g. one_plan h g;
  some = λ ss. some_answer ss;
  never_both = λ ss p n f h g. no_plan h g;
  one_statement = λ ss m n j k h g. one_refusal h g;
}
