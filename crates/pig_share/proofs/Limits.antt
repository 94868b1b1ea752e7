-- The live bare LIMITs are the same once nodes are shared, in their order.
use Rattle.std.specs.Prelude.{◌≡◌, ◌<◌, ℕ, Bool, true, false, not, List, [], ◌∷◌, ◌++◌, map, length, Option, Some, None, slice_get, refl}
use Rattle.std.proofs.Common.{ap, suc, sym, ◌∙◌, subst, arith}
use Rattle.std.specs.List.{AllByRecursion, range_with_len}
use Rattle.std.specs.Option.{option_map}
use Rattle.std.proofs.lemmas.Option.{slice_get_within}
use Rattle.pig_value.proofs.list_laws.Indexing.{get_map, some_at}
use Rattle.pig_plan.proofs.Lower.{names_lower}
use Rattle.pig_plan.specs.Nodes.{bare_limits, inputs_of, is_bare, is_live, is_sorted}
use Rattle.pig_plan.specs.Plans.{Plan, PlanNode, PlanOp, p_load, p_filter, p_foreach, p_group_all, p_group, p_join, p_union, p_distinct, p_order, p_limit, p_store, p_assert, p_rank}
use Rattle.pig_plan.specs.Renumbered.{rename, renamed}
use Rattle.pig_plan.specs.Valid.{IsPlan, in_order}
use Rattle.pig_share.specs.Shared.{IsNamedBy, apart_in}
use Rattle.pig_share.proofs.Living.{stays_live, was_live}
use Rattle.pig_share.proofs.Shares.{bare_apart, same_at, there}
use Rattle.pig_plan.proofs.BareListed.{adds, is_bare_one, listing, next, none_adds, not_bare}

same_truth : (a b : Bool) → (a ≡ true → b ≡ true) → (b ≡ true → a ≡ true) → a ≡ b
same_truth true b f g = sym (f refl)
same_truth false true f g = g refl
same_truth false false f g = refl

module _ (p : Plan) (at : ℕ → ℕ) (valid : IsPlan p) (valid_q : IsPlan (map (renamed at) p)) (named : (k : ℕ) (v : PlanNode) → slice_get p k ≡ Some v → IsNamedBy p at k v) where
  -- the inputs of a node are sorted where those that stand for them are
  pub sorted_input : (k i : ℕ) (v : PlanNode) → slice_get p k ≡ Some v → i < k → is_sorted (map (renamed at) p) (at i) ≡ is_sorted p i
  sorted_input k i v stands lower =
      let within : k < length p = slice_get_within p k v stands in
      let found = some_at p i (omega (arith, lower, within)) in
      (same_at p at valid valid_q named [] [] i found.0 found.1).sorted

  bare_op : (k statement : ℕ) (o : PlanOp) → slice_get p k ≡ Some (record { op = o; statement = statement }) → AllByRecursion (λ i. i < k) (inputs_of o)
      → is_bare (is_sorted (map (renamed at) p)) (rename at o) ≡ is_bare (is_sorted p) o
  bare_op k statement (p_limit input count) stands lower = ap not (sorted_input k input (record { op = p_limit input count; statement = statement }) stands lower.0)
  bare_op k statement (p_load path delim columns) stands lower = refl
  bare_op k statement (p_filter input c) stands lower = refl
  bare_op k statement (p_foreach input block) stands lower = refl
  bare_op k statement (p_group_all input) stands lower = refl
  bare_op k statement (p_group inputs) stands lower = refl
  bare_op k statement (p_join inputs side replicated) stands lower = refl
  bare_op k statement (p_union inputs) stands lower = refl
  bare_op k statement (p_distinct input) stands lower = refl
  bare_op k statement (p_order input keys) stands lower = refl
  bare_op k statement (p_store input path delim) stands lower = refl
  bare_op k statement (p_assert input c message) stands lower = refl
  bare_op k statement (p_rank input keys dense) stands lower = refl

  pub bare_same : (k : ℕ) (v : PlanNode) → slice_get p k ≡ Some v → is_bare (is_sorted (map (renamed at) p)) (rename at v.op) ≡ is_bare (is_sorted p) v.op
  bare_same k v stands = bare_op k v.statement v.op stands (names_lower p valid k v stands)

  -- what stays apart is live in both
  pub live_same : (k : ℕ) (v : PlanNode) → slice_get p k ≡ Some v → apart_in p v.op ≡ true → is_live (map (renamed at) p) k ≡ is_live p k
  live_same k v stands apart =
      same_truth (is_live (map (renamed at) p) k) (is_live p k) (was_live p at valid valid_q named k v stands)
      (λ alive. subst (λ n. is_live (map (renamed at) p) n ≡ true) ((named k v stands).apart apart) (stays_live p at valid valid_q named k v stands alive))

  abbrev bare_p : PlanNode → Bool
  bare_p node = is_bare (is_sorted p) node.op

  abbrev bare_q : PlanNode → Bool
  bare_q node = is_bare (is_sorted (map (renamed at) p)) node.op

  abbrev statement_of : PlanNode → ℕ
  statement_of node = node.statement

  adds_some : (k : ℕ) (v : PlanNode) → slice_get p k ≡ Some v → (live : Bool) → is_live p k ≡ live → (b : Bool) → is_bare (is_sorted p) v.op ≡ b
      → adds (is_live (map (renamed at) p)) (slice_get (map (renamed at) p)) bare_q statement_of (is_live (map (renamed at) p) k) (Some (renamed at v)) ≡ adds (is_live p) (slice_get p) bare_p statement_of live (Some v)
  adds_some k v stands live e false b =
      not_bare (is_live (map (renamed at) p)) (slice_get (map (renamed at) p)) bare_q statement_of (is_live (map (renamed at) p) k) (renamed at v) (bare_same k v stands ∙ b)
      ∙ sym (not_bare (is_live p) (slice_get p) bare_p statement_of live v b)
  adds_some k v stands false e true b =
      ap (λ l. adds (is_live (map (renamed at) p)) (slice_get (map (renamed at) p)) bare_q statement_of l (Some (renamed at v))) (live_same k v stands (bare_apart (in_order p) (is_sorted p) v.op b) ∙ e)
  adds_some k v stands true e true b =
      ap (λ l. adds (is_live (map (renamed at) p)) (slice_get (map (renamed at) p)) bare_q statement_of l (Some (renamed at v))) (live_same k v stands (bare_apart (in_order p) (is_sorted p) v.op b) ∙ e)
      ∙ is_bare_one (is_live (map (renamed at) p)) (slice_get (map (renamed at) p)) bare_q statement_of (renamed at v) (bare_same k v stands ∙ b)
      ∙ sym (is_bare_one (is_live p) (slice_get p) bare_p statement_of v b)

  adds_same : (k : ℕ) (o : Option PlanNode) → slice_get p k ≡ o
      → adds (is_live (map (renamed at) p)) (slice_get (map (renamed at) p)) bare_q statement_of (is_live (map (renamed at) p) k) (slice_get (map (renamed at) p) k) ≡ adds (is_live p) (slice_get p) bare_p statement_of (is_live p k) (slice_get p k)
  adds_same k None e =
      ap (λ o. adds (is_live (map (renamed at) p)) (slice_get (map (renamed at) p)) bare_q statement_of (is_live (map (renamed at) p) k) o) (get_map (renamed at) p k ∙ ap (option_map (renamed at)) e)
      ∙ none_adds (is_live (map (renamed at) p)) (slice_get (map (renamed at) p)) bare_q statement_of (is_live (map (renamed at) p) k)
      ∙ sym (none_adds (is_live p) (slice_get p) bare_p statement_of (is_live p k))
      ∙ ap (λ o. adds (is_live p) (slice_get p) bare_p statement_of (is_live p k) o) (sym e)
  adds_same k (Some v) e =
      ap (λ o. adds (is_live (map (renamed at) p)) (slice_get (map (renamed at) p)) bare_q statement_of (is_live (map (renamed at) p) k) o) (there p at valid valid_q named k v e)
      ∙ adds_some k v e (is_live p k) refl (is_bare (is_sorted p) v.op) refl
      ∙ ap (λ o. adds (is_live p) (slice_get p) bare_p statement_of (is_live p k) o) (sym e)

  listed_same : (ns : List ℕ) → listing (is_live (map (renamed at) p)) (slice_get (map (renamed at) p)) bare_q statement_of ns ≡ listing (is_live p) (slice_get p) bare_p statement_of ns
  listed_same [] = refl
  listed_same (n ∷ ns) =
      next (is_live (map (renamed at) p)) (slice_get (map (renamed at) p)) bare_q statement_of n ns
      ∙ (λ j. adds_same n (slice_get p n) refl j ++ listed_same ns j)
      ∙ sym (next (is_live p) (slice_get p) bare_p statement_of n ns)

  length_same : (xs : Plan) → length (map (renamed at) xs) ≡ length xs
  length_same [] = refl
  length_same (x ∷ xs) = ap (λ n. suc n) (length_same xs)

  pub limits_same : map (λ node. node.statement) (bare_limits (map (renamed at) p)) ≡ map (λ node. node.statement) (bare_limits p)
  limits_same =
      ap (λ n. listing (is_live (map (renamed at) p)) (slice_get (map (renamed at) p)) bare_q statement_of (range_with_len 0 n)) (length_same p)
      ∙ listed_same (range_with_len 0 (length p))
