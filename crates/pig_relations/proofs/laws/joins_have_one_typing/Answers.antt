use Rattle.std.proofs.Common.{◌≡◌, ◌∙◌, ℕ, List, sym, inl, inr}
use Rattle.std.specs.Prelude.{◌⊎◌, Option}
use Rattle.std.specs.declared.result.Result.TheVariants.{Ok, Err}
use Rattle.pig_typing.specs.declared.faults.CheckKind.{CheckKind}
use Rattle.pig_typing.specs.Results.{Checked}
use Rattle.pig_typing.proofs.References.{not_both}
use Rattle.pig_relations.specs.Aliases.{Aliases}
use Rattle.pig_value.specs.declared.operators.Side.{Side}
use Rattle.pig_relations.specs.Keyed.{KeyedForm}
use Rattle.pig_relations.specs.Operators.{Joins, JoinsNot, TypedOp, join_of}
use Rattle.pig_relations.proofs.OperatorsTold.{IsJoinTold, join_told, join_found, join_fails}
use Rattle.pig_relations.proofs.laws.joins_have_one_typing.Goals as goal

either : (aliases : Aliases) (is : List KeyedForm) (side : Side) (hint : Option (List ℕ)) (r : Checked TypedOp) → IsJoinTold aliases is side hint r
    → ((t : TypedOp) × Joins aliases is side hint t) ⊎ ((kind : CheckKind) × JoinsNot aliases is side hint kind)
either aliases is side hint (Ok t) h = inl (t, h)
either aliases is side hint (Err kind) h = inr (kind, h)

same : (aliases : Aliases) (is : List KeyedForm) (side : Side) (hint : Option (List ℕ)) (t u : TypedOp) → Joins aliases is side hint t → Joins aliases is side hint u → t ≡ u
same aliases is side hint t u h g = let e : Ok t ≡ Ok u = sym (join_found h) ∙ join_found g in cc

pub returns : goal.returns
returns c = record {
  one = λ aliases is side hint t u h g. same aliases is side hint t u h g;
  some = λ aliases is side hint. either aliases is side hint (join_of aliases is side hint) (join_told aliases is side hint);
  never_both = λ aliases is side hint t kind h g. not_both (join_found h) (join_fails g);
}
