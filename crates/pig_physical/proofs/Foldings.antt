-- The nodes that nodes fold into, told node by node, are those of the definition.
use Rattle.std.specs.Prelude.{◌≡◌, ◌<◌, ◌≤◌, ◌+◌, ◌==◌, ◌&&◌, ℕ, true, false, List, [], ◌∷◌, ◌++◌, length, map, get_or, Option, Some, None, slice_get, refl}
use Rattle.std.proofs.Common.{ap, sym, ◌∙◌, arith, cond, inl, inr, subst, true≢false}
use Rattle.std.specs.Option.{is_some, option_and_then, option_map, option_map_or}
use Rattle.std.proofs.Math.ListN.{get_or-map}
use Rattle.std.proofs.Math.Nat.{eq-or-lt_of_le}
use Rattle.std.proofs.lemmas.Bool.{cases_lt}
use Rattle.std.proofs.lemmas.List.{get_or_append_left, get_or_past, get_or_push, length-append}
use Rattle.std.proofs.lemmas.Option.{slice_get_past}
use Rattle.pig_typed.specs.Typed.{TypedBlock}
use Rattle.pig_plan.specs.Nodes.{live, op_at, uses}
use Rattle.pig_plan.specs.Plans.{Plan, PlanOp}
use Rattle.pig_physical.specs.Combining.{block_at, blocks_on, folds, groups_one, only, where_combinable}
use Rattle.pig_physical.specs.Foldings.{AreFolders, IsFolder}
use Rattle.pig_physical.specs.Naming.{block_by, naming_by, user_of}
use Rattle.pig_physical.specs.declared.folding.Folders.{Folders}
use Rattle.pig_physical.specs.declared.namings.Naming.{Naming}
use Rattle.pig_physical.specs.declared.namings.Naming.TheVariants as namings
use Rattle.pig_physical.proofs.Named.{folds_by}

-- ---- of one node

module _ (plan : Plan) (k : ℕ) where
  -- there is no such node
  no_op : op_at plan k ≡ None → folds plan k ≡ None
  no_op none =
      ap (λ p. cond (option_map_or groups_one p false && (uses plan k == 1)) (option_and_then where_combinable (only (blocks_on plan k))) None) none

  none_there : slice_get plan k ≡ None → IsFolder plan k None
  none_there none = record { mark = ap is_some (sym (no_op (ap (option_map (λ node. node.op)) none))); block = sym (no_op (ap (option_map (λ node. node.op)) none)) }

  none_folded : (found : Option TypedBlock) → false ≡ is_some found → None ≡ found
  none_folded None h = refl
  none_folded (Some block) h = absurd (true≢false (sym h))

  pub is_not : false ≡ is_some (folds plan k) → IsFolder plan k None
  is_not h = record { mark = h; block = none_folded (folds plan k) h }

  block_is : (naming : Naming) → option_and_then (block_at plan k) (user_of naming) ≡ block_by plan k naming
  block_is namings.Never = refl
  block_is (namings.Once user) = refl
  block_is namings.Often = refl

  named : (naming : Naming) → is_some (block_by plan k naming) ≡ true → is_some (user_of naming) ≡ true
  named namings.Never h = h
  named (namings.Once user) h = refl
  named namings.Often h = h

  pub is_user : (o : PlanOp) (naming : Naming) → op_at plan k ≡ Some o → naming ≡ naming_by plan k (live plan) namings.Never
      → true ≡ is_some (folds plan k) → IsFolder plan k (user_of naming)
  is_user o naming at is on =
      let found : block_by plan k naming ≡ folds plan k = folds_by k plan o naming at is (sym on) in
      record { mark = named naming (ap is_some found ∙ sym on) ∙ on; block = block_is naming ∙ found }

-- ---- of those before a node

module _ (plan : Plan) where
  pub record AreUpTo (n : ℕ) (users : List (Option ℕ)) : Type 0 where
    pub size : length users ≡ n
    pub each : (k : ℕ) → k < n → IsFolder plan k (get_or users k None)

  pub none_yet : AreUpTo 0 []
  none_yet = record { size = refl; each = λ k h. absurd (omega (arith, h)) }

  pub one_more : (n : ℕ) (users : List (Option ℕ)) (user : Option ℕ) → AreUpTo n users → IsFolder plan n user → AreUpTo (n + 1) (users ++ user ∷ [])
  one_more n users user so_far is = record {
    size = length-append users (user ∷ []) ∙ ap (λ m. m + 1) so_far.size;
    each = λ k h. let below : k ≤ n = omega (arith, h) in elim (eq-or-lt_of_le below) [
      | inl same ↦ subst (IsFolder plan k) (sym (get_or_push users user None k (so_far.size ∙ sym same))) (subst (λ m. IsFolder plan m user) (sym same) is)
      | inr less ↦ (let size = so_far.size in
          subst (IsFolder plan k) (sym (get_or_append_left users (user ∷ []) None k (omega (arith, less, size)))) (so_far.each k less))
    ];
  }

  module _ (n : ℕ) (users : List (Option ℕ)) (so_far : AreUpTo n users) (size : n ≡ length plan) where
    past : (k : ℕ) → n ≤ k → slice_get plan k ≡ None
    past k h = slice_get_past plan k (omega (arith, h, size))

    each : (k : ℕ) → IsFolder plan k (get_or users k None)
    each k = elim (cases_lt k n) [
      | inl less ↦ so_far.each k less
      | inr over ↦ (let full = so_far.size in
          subst (IsFolder plan k) (sym (get_or_past users k None (omega (arith, over, full)))) (none_there plan k (past k over)))
    ]

    pub are_folders : (f : Folders) → f.users ≡ users → f.marks ≡ map is_some users → AreFolders plan f
    are_folders f us ms = record {
      marks = λ k. ap (λ bs. get_or bs k false) ms ∙ get_or-map is_some users k None ∙ (each k).mark;
      blocks = λ k. ap (λ os. option_and_then (block_at plan k) (get_or os k None)) us ∙ (each k).block;
    }
