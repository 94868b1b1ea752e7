use Rattle.std.proofs.Common.{◌≡◌, ◌∙◌, ℕ, Bool, List, sym, inl, inr}
use Rattle.std.specs.Prelude.{◌⊎◌}
use Rattle.std.specs.declared.result.Result.TheVariants.{Ok, Err}
use Rattle.pig_typing.specs.declared.faults.CheckKind.{CheckKind}
use Rattle.pig_typing.specs.Results.{Checked}
use Rattle.pig_typing.proofs.References.{not_both}
use Rattle.pig_relations.specs.Aliases.{Aliases}
use Rattle.pig_relations.specs.Unions.{Unions, UnionsNot, TypedUnion, union_of}
use Rattle.pig_relations.proofs.OperatorsTold.{IsUnionTold, union_told, union_found, union_fails}
use Rattle.pig_relations.proofs.laws.unions_have_one_typing.Goals as goal

either : (aliases : Aliases) (onschema : Bool) (names : List (List ℕ)) (r : Checked TypedUnion) → IsUnionTold aliases onschema names r
    → ((t : TypedUnion) × Unions aliases onschema names t) ⊎ ((kind : CheckKind) × UnionsNot aliases onschema names kind)
either aliases onschema names (Ok t) h = inl (t, h)
either aliases onschema names (Err kind) h = inr (kind, h)

same : (aliases : Aliases) (onschema : Bool) (names : List (List ℕ)) (t u : TypedUnion) → Unions aliases onschema names t → Unions aliases onschema names u → t ≡ u
same aliases onschema names t u h g = let e : Ok t ≡ Ok u = sym (union_found h) ∙ union_found g in cc

pub returns : goal.returns
returns c = record {
  one = λ aliases onschema names t u h g. same aliases onschema names t u h g;
  some = λ aliases onschema names. either aliases onschema names (union_of aliases onschema names) (union_told aliases onschema names);
  never_both = λ aliases onschema names t kind h g. not_both (union_found h) (union_fails g);
}
