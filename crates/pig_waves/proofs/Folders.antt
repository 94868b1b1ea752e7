-- Which nodes fold.
use Rattle.std.specs.Prelude.{◌≡◌, ◌==◌, ◌&&◌, ℕ, Bool, true, false, Option, None, Some, refl}
use Rattle.std.proofs.Common.{ap, sym, ◌∙◌, cond}
use Rattle.std.specs.Option.{option_and_then, option_map_or}
use Rattle.pig_value.proofs.list_laws.Listing.{some_same}
use Rattle.pig_typed.specs.Typed.{TypedBlock}
use Rattle.pig_algebra.specs.Cuts.{is_combinable}
use Rattle.pig_plan.specs.Nodes.{op_at, uses}
use Rattle.pig_plan.specs.Plans.{Plan, PlanOp}
use Rattle.pig_physical.specs.Combining.{blocks_on, folds, groups_one, only, where_combinable}

module _ (plan : Plan) (k : ℕ) where
  if_folds : (b : Bool) (found : Option TypedBlock) (block : TypedBlock) → cond b (option_and_then where_combinable found) None ≡ Some block → (b ≡ true) × (found ≡ Some block) × (is_combinable block ≡ true)
  if_folds false found block h = absurd (cc)
  if_folds true None block h = absurd (cc)
  if_folds true (Some b) block h = by_test (is_combinable b) refl h
    where
      by_test : (t : Bool) → is_combinable b ≡ t → cond t (Some b) None ≡ Some block → (true ≡ true) × (Some b ≡ Some block) × (is_combinable block ≡ true)
      by_test true e g = (refl, g, ap is_combinable (sym (some_same b block g)) ∙ e)
      by_test false e g = absurd (cc)

  pub folds_is : (block : TypedBlock) → folds plan k ≡ Some block → ((option_map_or groups_one (op_at plan k) false && (uses plan k == 1)) ≡ true) × (only (blocks_on plan k) ≡ Some block) × (is_combinable block ≡ true)
  folds_is block h = if_folds (option_map_or groups_one (op_at plan k) false && (uses plan k == 1)) (only (blocks_on plan k)) block h

  -- a node that is no GROUP of one input does not fold
  pub none_folds_at : (o : PlanOp) → op_at plan k ≡ Some o → groups_one o ≡ false → folds plan k ≡ None
  none_folds_at o at other =
      ap (λ b. cond (b && (uses plan k == 1)) (option_and_then where_combinable (only (blocks_on plan k))) None)
      (ap (λ found. option_map_or groups_one found false) at ∙ other)
