use Rattle.std.proofs.Common.{◌≡◌, ◌∙◌, ℕ, List, sym, inl, inr}
use Rattle.std.specs.Prelude.{◌⊎◌, Option}
use Rattle.std.specs.declared.result.Result.TheVariants.{Ok, Err}
use Rattle.pig_typing.specs.declared.faults.CheckKind.{CheckKind}
use Rattle.pig_typing.specs.Results.{Checked}
use Rattle.pig_typing.proofs.References.{not_both}
use Rattle.pig_relations.specs.Aliases.{Aliases}
use Rattle.pig_relations.specs.Operators.{GroupsAll, GroupsAllNot, TypedOp, group_all_of}
use Rattle.pig_relations.proofs.OperatorsTold.{IsGroupAllTold, group_all_told, group_all_found, group_all_fails}
use Rattle.pig_relations.proofs.laws.groups_of_all_have_one_typing.Goals as goal

either : (aliases : Aliases) (alias : List ℕ) (hint : Option (List ℕ)) (r : Checked TypedOp) → IsGroupAllTold aliases alias hint r
    → ((t : TypedOp) × GroupsAll aliases alias hint t) ⊎ ((kind : CheckKind) × GroupsAllNot aliases alias hint kind)
either aliases alias hint (Ok t) h = inl (t, h)
either aliases alias hint (Err kind) h = inr (kind, h)

same : (aliases : Aliases) (alias : List ℕ) (hint : Option (List ℕ)) (t u : TypedOp) → GroupsAll aliases alias hint t → GroupsAll aliases alias hint u → t ≡ u
same aliases alias hint t u h g = let e : Ok t ≡ Ok u = sym (group_all_found h) ∙ group_all_found g in cc

pub returns : goal.returns
returns c = record {
  one = λ aliases alias hint t u h g. same aliases alias hint t u h g;
  some = λ aliases alias hint. either aliases alias hint (group_all_of aliases alias hint) (group_all_told aliases alias hint);
  never_both = λ aliases alias hint t kind h g. not_both (group_all_found h) (group_all_fails g);
}
