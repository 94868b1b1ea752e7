-- Which nodes are live once nodes are shared: those that stand for live ones, and they were live before.
use Rattle.std.specs.Prelude.{◌≡◌, ◌<◌, ◌≤◌, ◌+◌, ◌==◌, ℕ, zero, suc, Bool, true, false, map, length, Option, Some, None, slice_get, refl}
use Rattle.std.proofs.Common.{ap, sym, ◌∙◌, subst, arith}
use Rattle.std.specs.List.{list_any}
use Rattle.std.specs.Option.{option_map}
use Rattle.std.proofs.lemmas.Option.{none-some, slice_get_within}
use Rattle.pig_value.proofs.list_laws.Indexing.{get_map, some_at}
use Rattle.pig_value.proofs.list_laws.Listing.{some_same}
use Rattle.pig_plan.proofs.Lower.{names_lower}
use Rattle.pig_plan.proofs.Meanings.{live_input}
use Rattle.pig_plan.specs.Nodes.{inputs_of, is_live, is_store, names}
use Rattle.pig_plan.specs.Plans.{Plan, PlanNode}
use Rattle.pig_plan.specs.Renumbered.{rename, renamed}
use Rattle.pig_plan.specs.Valid.{IsPlan}
use Rattle.pig_share.specs.Shared.{IsNamedBy}
use Rattle.pig_plan.proofs.Renumbering.{inputs_renamed}
use Rattle.pig_share.proofs.Shares.{first_there, inputs_before, there}
use Rattle.pig_plan.proofs.Living.{Came, User, came, goes, member, store_lives, store_renamed, user_of}

module _ (p : Plan) (at : ℕ → ℕ) (valid : IsPlan p) (valid_q : IsPlan (map (renamed at) p)) (named : (k : ℕ) (v : PlanNode) → slice_get p k ≡ Some v → IsNamedBy p at k v) where
  -- a node of the shared plan is one of the other, over the mapped inputs
  pub record Back (k : ℕ) (w : PlanNode) : Type 0 where
    pub v : PlanNode
    pub stands : slice_get p k ≡ Some v
    pub is : renamed at v ≡ w

  pub back : (k : ℕ) (w : PlanNode) → slice_get (map (renamed at) p) k ≡ Some w → Back k w
  back k w stands = by_found (slice_get p k) refl
    where
      by_found : (o : Option PlanNode) → slice_get p k ≡ o → Back k w
      by_found None e = absurd (none-some w (ap (option_map (renamed at)) (sym e) ∙ sym (get_map (renamed at) p k) ∙ stands))
      by_found (Some v) e = record { v = v; stands = e; is = some_same (renamed at v) w (ap (option_map (renamed at)) (sym e) ∙ sym (get_map (renamed at) p k) ∙ stands) }

  -- what a live node of the other plan names is live there, and so is what stands for it
  input_lives : (m : ℕ) (u : PlanNode) → slice_get p m ≡ Some u → is_live p m ≡ true → (i : ℕ) → names u.op i ≡ true → is_live p (at i) ≡ true
  input_lives m u stands alive i name =
      let lower : i < m = member (λ i. i < m) i (inputs_of u.op) (names_lower p valid m u stands) name in
      let within : m < length p = slice_get_within p m u stands in
      let found = some_at p i (omega (arith, lower, within)) in
      (named i found.0 found.1).lives (live_input p m u stands alive i lower found.0 found.1 name)

  by_user : (fuel k : ℕ) → length p ≤ k + suc fuel → ((m : ℕ) (u : PlanNode) → length p ≤ m + fuel → slice_get p m ≡ Some u → is_live (map (renamed at) p) m ≡ true → is_live p m ≡ true)
      → User (map (renamed at) p) k → is_live p k ≡ true
  by_user fuel k enough onwards user =
      let b : Back user.m user.u = back user.m user.u user.stands in
      let behind = user.behind in
      let alive : is_live p user.m ≡ true = onwards user.m b.v (omega (arith, enough, behind)) b.stands user.lives in
      let name : list_any (λ i. i == k) (map at (inputs_of b.v.op)) ≡ true =
      ap (λ ns. list_any (λ i. i == k) ns) (sym (inputs_renamed at b.v.op)) ∙ ap (λ w. names w.op k) b.is ∙ user.name in
      let c : Came at k (inputs_of b.v.op) = came at k (inputs_of b.v.op) name in
      subst (λ n. is_live p n ≡ true) c.there (input_lives user.m b.v b.stands alive c.i c.name)

  lives_back : (fuel k : ℕ) (v : PlanNode) → length p ≤ k + fuel → slice_get p k ≡ Some v → is_live (map (renamed at) p) k ≡ true → is_live p k ≡ true
  lives_back zero k v enough stands alive = let within = slice_get_within p k v stands in absurd (omega (arith, within, enough))
  lives_back (suc fuel) k v enough stands alive = by_store (lives_back fuel) (is_store v.op) refl
    where
      by_store : ((m : ℕ) (u : PlanNode) → length p ≤ m + fuel → slice_get p m ≡ Some u → is_live (map (renamed at) p) m ≡ true → is_live p m ≡ true) → (b : Bool) → is_store v.op ≡ b → is_live p k ≡ true
      by_store onwards true e = store_lives p k v stands e
      by_store onwards false e =
          by_user fuel k enough onwards
          (user_of (map (renamed at) p) k (renamed at v) (there p at valid valid_q named k v stands) (store_renamed at v.op ∙ e) alive)

  pub was_live : (k : ℕ) (v : PlanNode) → slice_get p k ≡ Some v → is_live (map (renamed at) p) k ≡ true → is_live p k ≡ true
  was_live k v stands alive = lives_back (length p) k v (omega arith) stands alive

  to_user : (fuel k : ℕ) (v : PlanNode) → slice_get p k ≡ Some v → length p ≤ k + suc fuel → ((m : ℕ) (u : PlanNode) → length p ≤ m + fuel → slice_get p m ≡ Some u → is_live p m ≡ true → is_live (map (renamed at) p) (at m) ≡ true)
      → User p k → is_live (map (renamed at) p) (at k) ≡ true
  to_user fuel k v stands enough onwards user =
      let behind = user.behind in
      let alive : is_live (map (renamed at) p) (at user.m) ≡ true = onwards user.m user.u (omega (arith, enough, behind)) user.stands user.lives in
      let lower : at k < at user.m = member (λ i. at i < at user.m) k (inputs_of user.u.op) (inputs_before p at valid valid_q named user.m user.u user.stands) user.name in
      let name : names (rename at user.u.op) (at k) ≡ true =
      ap (λ ns. list_any (λ i. i == at k) ns) (inputs_renamed at user.u.op) ∙ goes at k (inputs_of user.u.op) user.name in
      live_input (map (renamed at) p) (at user.m) (record { op = rename at user.u.op; statement = (named user.m user.u user.stands).first.statement }) (first_there p at valid valid_q named user.m user.u user.stands) alive
      (at k) lower (record { op = rename at v.op; statement = (named k v stands).first.statement }) (first_there p at valid valid_q named k v stands) name

  lives_on : (fuel k : ℕ) (v : PlanNode) → length p ≤ k + fuel → slice_get p k ≡ Some v → is_live p k ≡ true → is_live (map (renamed at) p) (at k) ≡ true
  lives_on zero k v enough stands alive = let within = slice_get_within p k v stands in absurd (omega (arith, within, enough))
  lives_on (suc fuel) k v enough stands alive = by_store (lives_on fuel) (is_store v.op) refl
    where
      by_store : ((m : ℕ) (u : PlanNode) → length p ≤ m + fuel → slice_get p m ≡ Some u → is_live p m ≡ true → is_live (map (renamed at) p) (at m) ≡ true) → (b : Bool) → is_store v.op ≡ b
          → is_live (map (renamed at) p) (at k) ≡ true
      by_store onwards true e =
          store_lives (map (renamed at) p) (at k) (record { op = rename at v.op; statement = (named k v stands).first.statement }) (first_there p at valid valid_q named k v stands) (store_renamed at v.op ∙ e)
      by_store onwards false e = to_user fuel k v stands enough onwards (user_of p k v stands e alive)

  pub stays_live : (k : ℕ) (v : PlanNode) → slice_get p k ≡ Some v → is_live p k ≡ true → is_live (map (renamed at) p) (at k) ≡ true
  stays_live k v stands alive = lives_on (length p) k v (omega arith) stands alive
