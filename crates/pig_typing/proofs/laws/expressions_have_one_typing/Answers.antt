use Rattle.std.specs.Prelude.{◌⊎◌}
use Rattle.std.specs.declared.result.Result.TheVariants.{Ok, Err}
use Rattle.std.proofs.Common.{inl, inr}
use Rattle.pig_syntax.specs.ExprTrees.{ExprForm}
use Rattle.pig_typing.specs.declared.faults.CheckKind.{CheckKind}
use Rattle.pig_typing.specs.Columns.{Place}
use Rattle.pig_typing.specs.Faults.{Faults}
use Rattle.pig_typing.specs.Parts.{Typing}
use Rattle.pig_typing.specs.Reader.{type_of}
use Rattle.pig_typing.specs.Results.{Checked}
use Rattle.pig_typing.specs.Typing.{Types}
use Rattle.pig_typing.proofs.Found.{one_typing, never_both}
use Rattle.pig_typing.proofs.Told.{IsTold, told}
use Rattle.pig_typing.proofs.laws.expressions_have_one_typing.Goals as goal

either : (s : Place) (a : ExprForm) (r : Checked Typing) → IsTold s a r → ((p : Typing) × Types s a p) ⊎ ((kind : CheckKind) × Faults s a kind)
either s a (Ok p) h = inl (p, h)
either s a (Err kind) h = inr (kind, h)

pub returns : goal.returns
returns c = record {
  one = λ s a p q h g. one_typing h g;
  some = λ s a. either s a (type_of s a) (told s a);
  never_both = λ s a p kind h g. never_both h g;
}
