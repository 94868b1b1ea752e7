-- A live node stays what it was: its kinds, its rows, whether it is sorted or a list, and live.
use Rattle.std.specs.Prelude.{◌≡◌, ◌<◌, ◌≤◌, ◌+◌, ◌==◌, ℕ, zero, suc, Bool, true, false, List, [], length, take, Some, None, slice_get, refl}
use Rattle.std.proofs.Common.{ap, sym, ◌∙◌, subst, arith}
use Rattle.std.specs.List.{AllByRecursion, list_any}
use Rattle.std.specs.Option.{option_map_or, unwrap_or}
use Rattle.std.proofs.lemmas.Option.{slice_get_within}
use Rattle.pig_value.proofs.list_laws.Listing.{each_weaker}
use Rattle.pig_value.specs.declared.inputs.Input.{Input}
use Rattle.pig_value.specs.declared.outcomes.Kept.{Kept}
use Rattle.pig_plan.proofs.Listed.{list_of_node, sorted_of_node}
use Rattle.pig_plan.proofs.Lower.{meaning_of_node, names_lower}
use Rattle.pig_plan.proofs.Meanings.{each_both, live_input}
use Rattle.pig_plan.proofs.Unfolds.{before_is, result_before}
use Rattle.pig_plan.specs.Meaning.{kept_at, meaning, width_at}
use Rattle.pig_plan.specs.NodeKinds.{kinds_at, kinds_step}
use Rattle.pig_plan.specs.Nodes.{inputs_of, is_list, is_live, is_sorted, is_store, names}
use Rattle.pig_plan.specs.Plans.{Plan, PlanNode}
use Rattle.pig_plan.specs.Renumbered.{IsSame, rename, renamed}
use Rattle.pig_plan.specs.Results.{at_place, results}
use Rattle.pig_plan.specs.Valid.{IsPlan}
use Rattle.pig_plan.proofs.Living.{User, goes, member, store_lives, store_renamed, user_of}
use Rattle.pig_plan.proofs.Renumbering.{gives_moved, inputs_renamed, lists_moved, rows_moved, sorts_moved}
use Rattle.pig_plan.proofs.Living.{each_mapped}
use Rattle.pig_moves.proofs.Keeps.{IsInput, inputs_live}
use Rattle.pig_alive.specs.Alive.{EachLives, alive, new_number}
use Rattle.pig_alive.proofs.Places.{Came, came, there}

module _ (p : Plan) (valid : IsPlan p) (valid_q : IsPlan (alive p)) where
  abbrev at : ℕ → ℕ
  at = new_number p

  abbrev q : Plan
  q = alive p

  inputs_before : (k : ℕ) (v : PlanNode) → slice_get p k ≡ Some v → is_live p k ≡ true → AllByRecursion (λ i. at i < at k) (inputs_of v.op)
  inputs_before k v stands lives =
      each_mapped (λ i. i < at k) at (inputs_of v.op)
      (subst (AllByRecursion (λ i. i < at k)) (inputs_renamed at v.op) (names_lower q valid_q (at k) (renamed at v) (there p k v stands lives)))

  kinds_of : (k : ℕ) (v : PlanNode) → slice_get p k ≡ Some v → is_live p k ≡ true → AllByRecursion (λ i. kinds_at q (at i) ≡ kinds_at p i) (inputs_of v.op) → kinds_at q (at k) ≡ kinds_at p k
  kinds_of k v stands lives same =
      let one = each_both (λ i. i < k) (λ i. kinds_at q (at i) ≡ kinds_at p i) (λ i. (i < k) × (kinds_at q (at i) ≡ kinds_at p i)) (λ i a b. (a, b)) (inputs_of v.op) (names_lower p valid k v stands) same in
      let all : AllByRecursion (λ i. at_place None (take (at k) (results kinds_step None q)) (at i) ≡ at_place None (take k (results kinds_step None p)) i) (inputs_of v.op) =
      each_both (λ i. at i < at k) (λ i. (i < k) × (kinds_at q (at i) ≡ kinds_at p i))
      (λ i. at_place None (take (at k) (results kinds_step None q)) (at i) ≡ at_place None (take k (results kinds_step None p)) i)
      (λ i a b. before_is kinds_step None q (at k) (at i) a ∙ b.1 ∙ sym (before_is kinds_step None p k i b.0)) (inputs_of v.op) (inputs_before k v stands lives) one in
      result_before kinds_step None q (at k) (renamed at v) (there p k v stands lives)
      ∙ ap (λ o. unwrap_or o None) (gives_moved at (at_place None (take (at k) (results kinds_step None q))) (at_place None (take k (results kinds_step None p))) v.op all)
      ∙ sym (result_before kinds_step None p k v stands)

  module _ (inputs : List Input) (kept : List Kept) where
    abbrev Same : ℕ → Type 0
    Same i = IsSame p q at inputs kept i

    node_same : (k : ℕ) (v : PlanNode) → slice_get p k ≡ Some v → is_live p k ≡ true → AllByRecursion Same (inputs_of v.op) → Same k
    node_same k v stands lives all =
        let is_there : slice_get q (at k) ≡ Some (renamed at v) = there p k v stands lives in
        record {
          kinds = kinds_of k v stands lives (each_weaker Same (λ i. kinds_at q (at i) ≡ kinds_at p i) (λ i s. s.kinds) (inputs_of v.op) all);
          sorted = sorted_of_node q valid_q (at k) (renamed at v) is_there
              ∙ sorts_moved at (is_sorted q) (is_sorted p) v.op (each_weaker Same (λ i. is_sorted q (at i) ≡ is_sorted p i) (λ i s. s.sorted) (inputs_of v.op) all)
              ∙ sym (sorted_of_node p valid k v stands);
          rows = meaning_of_node q inputs kept valid_q (at k) (renamed at v) is_there
              ∙ rows_moved at inputs (kept_at kept) (width_at q) (width_at p) (is_sorted q) (is_sorted p) (meaning q inputs kept) (meaning p inputs kept) v.statement v.statement v.op
              (λ bare. refl)
              (each_weaker Same _ (λ i s. record { width = ap (λ o. option_map_or length o 0) s.kinds; sorted = s.sorted; rows = s.rows }) (inputs_of v.op) all)
              ∙ sym (meaning_of_node p inputs kept valid k v stands);
        }

    up_to : (n k : ℕ) (v : PlanNode) → k < n → slice_get p k ≡ Some v → is_live p k ≡ true → Same k
    up_to zero k v below stands lives = absurd (omega (arith, below))
    up_to (suc n) k v below stands lives = node_same k v stands lives
        (each_weaker (IsInput p k) Same (λ i i_is. let lower = i_is.lower in up_to n i i_is.node (omega (arith, lower, below)) i_is.stands i_is.lives)
        (inputs_of v.op) (inputs_live p valid k v stands lives))

    pub same_at : (k : ℕ) (v : PlanNode) → slice_get p k ≡ Some v → is_live p k ≡ true → Same k
    same_at k v stands lives = up_to (suc k) k v (omega arith) stands lives

  -- ---- whether it is a list

  abbrev SameList : ℕ → Type 0
  SameList i = (is_sorted q (at i) ≡ is_sorted p i) × (is_list q (at i) ≡ is_list p i)

  list_same : (k : ℕ) (v : PlanNode) → slice_get p k ≡ Some v → is_live p k ≡ true → AllByRecursion SameList (inputs_of v.op) → is_list q (at k) ≡ is_list p k
  list_same k v stands lives all =
      list_of_node q valid_q (at k) (renamed at v) (there p k v stands lives)
      ∙ lists_moved at (is_list q) (is_list p) (is_sorted q) (is_sorted p) v.op
      (each_weaker SameList (λ i. is_sorted q (at i) ≡ is_sorted p i) (λ i s. s.0) (inputs_of v.op) all)
      (each_weaker SameList (λ i. is_list q (at i) ≡ is_list p i) (λ i s. s.1) (inputs_of v.op) all)
      ∙ sym (list_of_node p valid k v stands)

  lists_up_to : (n k : ℕ) (v : PlanNode) → k < n → slice_get p k ≡ Some v → is_live p k ≡ true → is_list q (at k) ≡ is_list p k
  lists_up_to zero k v below stands lives = absurd (omega (arith, below))
  lists_up_to (suc n) k v below stands lives = list_same k v stands lives
      (each_weaker (IsInput p k) SameList
      (λ i i_is. let lower = i_is.lower in ((same_at [] [] i i_is.node i_is.stands i_is.lives).sorted, lists_up_to n i i_is.node (omega (arith, lower, below)) i_is.stands i_is.lives))
      (inputs_of v.op) (inputs_live p valid k v stands lives))

  pub lists_at : (k : ℕ) (v : PlanNode) → slice_get p k ≡ Some v → is_live p k ≡ true → is_list q (at k) ≡ is_list p k
  lists_at k v stands lives = lists_up_to (suc k) k v (omega arith) stands lives

  -- ---- live

  to_user : (fuel k : ℕ) (v : PlanNode) → slice_get p k ≡ Some v → is_live p k ≡ true → length p ≤ k + suc fuel
      → ((m : ℕ) (u : PlanNode) → length p ≤ m + fuel → slice_get p m ≡ Some u → is_live p m ≡ true → is_live q (at m) ≡ true) → User p k → is_live q (at k) ≡ true
  to_user fuel k v stands lives enough onwards user =
      let behind = user.behind in
      let alive_m : is_live q (at user.m) ≡ true = onwards user.m user.u (omega (arith, enough, behind)) user.stands user.lives in
      let lower : at k < at user.m = member (λ i. at i < at user.m) k (inputs_of user.u.op) (inputs_before user.m user.u user.stands user.lives) user.name in
      let name : names (rename at user.u.op) (at k) ≡ true =
      ap (λ ns. list_any (λ i. i == at k) ns) (inputs_renamed at user.u.op) ∙ goes at k (inputs_of user.u.op) user.name in
      live_input q (at user.m) (renamed at user.u) (there p user.m user.u user.stands user.lives) alive_m (at k) lower (renamed at v) (there p k v stands lives) name

  lives_on : (fuel k : ℕ) (v : PlanNode) → length p ≤ k + fuel → slice_get p k ≡ Some v → is_live p k ≡ true → is_live q (at k) ≡ true
  lives_on zero k v enough stands lives = let within = slice_get_within p k v stands in absurd (omega (arith, within, enough))
  lives_on (suc fuel) k v enough stands lives = by_store (lives_on fuel) (is_store v.op) refl
    where
      by_store : ((m : ℕ) (u : PlanNode) → length p ≤ m + fuel → slice_get p m ≡ Some u → is_live p m ≡ true → is_live (alive p) (new_number p m) ≡ true) → (b : Bool) → is_store v.op ≡ b
          → is_live (alive p) (new_number p k) ≡ true
      by_store onwards true e = store_lives q (at k) (renamed at v) (there p k v stands lives) (store_renamed at v.op ∙ e)
      by_store onwards false e = to_user fuel k v stands lives enough onwards (user_of p k v stands e lives)

  pub stays_live : (k : ℕ) (v : PlanNode) → slice_get p k ≡ Some v → is_live p k ≡ true → is_live q (at k) ≡ true
  stays_live k v stands lives = lives_on (length p) k v (omega arith) stands lives

  pub each_lives : EachLives (alive p)
  each_lives j w there_j =
      let c : Came p j w = came p j w there_j in
      subst (λ n. is_live (alive p) n ≡ true) c.number (stays_live c.k c.v c.stands c.lives)
