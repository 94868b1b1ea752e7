-- A plan means the same as itself, both ways and onwards; and that live nodes stay the same is shown node by node.
use Rattle.std.specs.Prelude.{◌≡◌, ◌<◌, ℕ, zero, suc, Bool, true, false, List, Some, slice_get}
use Rattle.std.proofs.Common.{arith}
use Rattle.pig_value.specs.declared.inputs.Input.{Input}
use Rattle.pig_value.specs.declared.outcomes.Kept.{Kept}
use Rattle.pig_value.proofs.list_laws.Indexing.{some_at}
use Rattle.pig_plan.proofs.Meanings.{live_within}
use Rattle.pig_plan.specs.Nodes.{is_live}
use Rattle.pig_plan.specs.Plans.{Plan, PlanNode}
use Rattle.pig_plan.specs.Renumbered.{IsSame}
use Rattle.pig_plan.specs.Rewrites.{FailsBy, Goes, SameMeaning}

pub same_itself : (p : Plan) → SameMeaning p p
same_itself p = record {
  kept_on = λ inputs kept h. h;
  kept_back = λ inputs kept h. h;
  goes = λ inputs kept h. itself inputs kept;
  comes = λ inputs kept h. itself inputs kept;
}
  where
    itself : (inputs : List Input) (kept : List Kept) → Goes p p inputs kept
    itself inputs kept = record {
      stores = λ path delim rows listed s. s;
      fails = λ statement f. record { first = statement; no_later = omega arith; fails = f };
    }

goes_on : (p q r : Plan) (inputs : List Input) (kept : List Kept) → Goes p q inputs kept → Goes q r inputs kept → Goes p r inputs kept
goes_on p q r inputs kept first then_on = record {
  stores = λ path delim rows listed s. then_on.stores path delim rows listed (first.stores path delim rows listed s);
  fails = λ statement f.
      let by : FailsBy q inputs kept statement = first.fails statement f in
      let next : FailsBy r inputs kept by.first = then_on.fails by.first by.fails in
      let one = by.no_later in
      let two = next.no_later in
      record { first = next.first; no_later = omega (arith, one, two); fails = next.fails };
}

pub same_on : (p q r : Plan) → SameMeaning p q → SameMeaning q r → SameMeaning p r
same_on p q r a b = record {
  kept_on = λ inputs kept h. b.kept_on inputs kept (a.kept_on inputs kept h);
  kept_back = λ inputs kept h. a.kept_back inputs kept (b.kept_back inputs kept h);
  goes = λ inputs kept h. goes_on p q r inputs kept (a.goes inputs kept h) (b.goes inputs kept (a.kept_on inputs kept h));
  comes = λ inputs kept h. goes_on r q p inputs kept (b.comes inputs kept h) (a.comes inputs kept (b.kept_back inputs kept h));
}

-- Each live node that is not gone stays the same, where a node does whose earlier ones do.
module _ (p q : Plan) (at : ℕ → ℕ) (inputs : List Input) (kept : List Kept) (gone : ℕ → Bool) where
  abbrev pub Earlier : ℕ → Type 0
  Earlier k = (i : ℕ) → i < k → is_live p i ≡ true → gone i ≡ false → IsSame p q at inputs kept i

  module _ (step : (k : ℕ) (v : PlanNode) → slice_get p k ≡ Some v → is_live p k ≡ true → gone k ≡ false → Earlier k → IsSame p q at inputs kept k) where
    up_to : (n k : ℕ) (v : PlanNode) → k < n → slice_get p k ≡ Some v → is_live p k ≡ true → gone k ≡ false → IsSame p q at inputs kept k
    up_to zero k v below stands lives stays = absurd (omega (arith, below))
    up_to (suc n) k v below stands lives stays = step k v stands lives stays (λ i lower live_i stays_i.
        let found = some_at p i (live_within p i live_i) in
        up_to n i found.0 (omega (arith, lower, below)) found.1 live_i stays_i)

    pub each_same : (k : ℕ) (v : PlanNode) → slice_get p k ≡ Some v → is_live p k ≡ true → gone k ≡ false → IsSame p q at inputs kept k
    each_same k v stands lives stays = up_to (suc k) k v (omega arith) stands lives stays
