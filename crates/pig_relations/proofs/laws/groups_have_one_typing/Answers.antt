use Rattle.std.proofs.Common.{◌≡◌, ◌∙◌, ℕ, List, sym, inl, inr}
use Rattle.std.specs.Prelude.{◌⊎◌, Option}
use Rattle.std.specs.declared.result.Result.TheVariants.{Ok, Err}
use Rattle.pig_typing.specs.declared.faults.CheckKind.{CheckKind}
use Rattle.pig_typing.specs.Results.{Checked}
use Rattle.pig_typing.proofs.References.{not_both}
use Rattle.pig_relations.specs.Aliases.{Aliases}
use Rattle.pig_relations.specs.Keyed.{KeyedForm}
use Rattle.pig_relations.specs.Operators.{Groups, GroupsNot, TypedOp, group_of}
use Rattle.pig_relations.proofs.OperatorsTold.{IsGroupTold, group_told, group_found, group_fails}
use Rattle.pig_relations.proofs.laws.groups_have_one_typing.Goals as goal

either : (aliases : Aliases) (is : List KeyedForm) (hint : Option (List ℕ)) (r : Checked TypedOp) → IsGroupTold aliases is hint r
    → ((t : TypedOp) × Groups aliases is hint t) ⊎ ((kind : CheckKind) × GroupsNot aliases is hint kind)
either aliases is hint (Ok t) h = inl (t, h)
either aliases is hint (Err kind) h = inr (kind, h)

same : (aliases : Aliases) (is : List KeyedForm) (hint : Option (List ℕ)) (t u : TypedOp) → Groups aliases is hint t → Groups aliases is hint u → t ≡ u
same aliases is hint t u h g = let e : Ok t ≡ Ok u = sym (group_found h) ∙ group_found g in cc

pub returns : goal.returns
returns c = record {
  one = λ aliases is hint t u h g. same aliases is hint t u h g;
  some = λ aliases is hint. either aliases is hint (group_of aliases is hint) (group_told aliases is hint);
  never_both = λ aliases is hint t kind h g. not_both (group_found h) (group_fails g);
}
