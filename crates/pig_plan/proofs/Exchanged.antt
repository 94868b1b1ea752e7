-- Two nodes in the place of two others, of which the first is read by the second alone: where the second gives what was given there, the nodes
-- are a plan, and each other node gives what it gave.
use Rattle.std.specs.Prelude.{◌≡◌, ◌<◌, ◌≤◌, ◌+◌, ◌==◌, ◌||◌, ℕ, zero, suc, Bool, true, false, not, ◌&&◌, List, [], ◌∷◌, ◌++◌, length, map, take, Err, IfOk, Ok, Option, Result, Some, None, slice_get, slice_set, refl}
use Rattle.std.proofs.Common.{ap, sym, ◌∙◌, subst, arith, append_assoc, append-nil, true≢false}
use Rattle.std.specs.List.{AllByRecursion, list_any}
use Rattle.std.specs.Option.{is_some, unwrap_or}
use Rattle.std.proofs.lemmas.Bool.{eq-eqb, eqb-true}
use Rattle.std.proofs.lemmas.List.{length-append, length-map, map-set, take-map}
use Rattle.std.proofs.lemmas.Option.{none-some, slice_get_within}
use Rattle.pig_value.proofs.list_laws.Bags.{either_way}
use Rattle.pig_value.proofs.list_laws.Indexing.{some_at}
use Rattle.pig_value.proofs.list_laws.Listing.{each_weaker, some_same}
use Rattle.pig_value.specs.declared.values.Kind.{Kind}
use Rattle.pig_value.specs.Kinds.{kinds_eq}
use Rattle.pig_value.specs.Trees.{kind_tree, kinds_list, kinds_of}
use Rattle.pig_value.proofs.KindLaws.{kinds_itself, kinds_same}
use Rattle.pig_value.proofs.TreeLaws.{kinds_back}
use Rattle.std.specs.declared.alloc.AllocError.{AllocError}
use Rattle.pig_value.specs.Valid.{IsValue}
use Rattle.pig_plan.specs.Exchanged.{GivesThere, IsGivenFor, MayBeGiven, MayExchange, MayStand, StillGives, may_be_twin}
use Rattle.pig_plan.specs.Given.{before_of, kinds_of_given}
use Rattle.pig_plan.specs.Laws.{OpLiteralsAre, PlanLiteralsAre}
use Rattle.pig_plan.specs.NodeKinds.{NodeGives, RowKinds, kinds_at, kinds_step, kinds_table, node_gives}
use Rattle.pig_plan.specs.Nodes.{IsOnlyUse, inputs_of, names}
use Rattle.pig_plan.specs.Plans.{Plan, PlanNode, PlanOp, node_of, op_of, p_limit, p_assert, plan_of}
use Rattle.pig_plan.specs.Results.{at_place, results, results_behind}
use Rattle.pig_plan.specs.Valid.{AreUpTo, IsPlan, are_twins, is_twin, op_writes_lf}
use Rattle.pig_plan.specs.declared.given.Given.{Given}
use Rattle.pig_plan.specs.declared.given.Given.TheVariants as given
use Rattle.pig_plan.specs.declared.nodes.Node.{Node}
use Rattle.pig_plan.proofs.Renumbering.{gives_agree}
use Rattle.pig_plan.proofs.Unfolds.{behind_is, length-results, result_before, take-front}

-- ---- lists with one element changed

pub either_false : (a b : Bool) → (a || b) ≡ false → (a ≡ false) × (b ≡ false)
either_false true b h = absurd (true≢false h)
either_false false b h = (refl, h)

module _ {X : Type 0} where
  pub set_there : (xs : List X) (j : ℕ) (y : X) → j < length xs → slice_get (slice_set xs j y) j ≡ Some y
  set_there [] j y h = absurd (omega (arith, h))
  set_there (x ∷ xs) zero y h = refl
  set_there (x ∷ xs) (suc j) y h = set_there xs j y (omega (arith, h))

  pub set_other : (xs : List X) (j n : ℕ) (y : X) → (n ≡ j → ⊥) → slice_get (slice_set xs j y) n ≡ slice_get xs n
  set_other [] j n y h = refl
  set_other (x ∷ xs) zero zero y h = absurd (h refl)
  set_other (x ∷ xs) zero (suc n) y h = refl
  set_other (x ∷ xs) (suc j) zero y h = refl
  set_other (x ∷ xs) (suc j) (suc n) y h = set_other xs j n y (λ e. h (ap (λ m. suc m) e))

  pub set_length : (xs : List X) (j : ℕ) (y : X) → length (slice_set xs j y) ≡ length xs
  set_length [] j y = refl
  set_length (x ∷ xs) zero y = refl
  set_length (x ∷ xs) (suc j) y = ap (λ m. suc m) (set_length xs j y)

  -- what stands there in its own place
  pub set_same : (xs : List X) (j : ℕ) (x : X) → slice_get xs j ≡ Some x → slice_set xs j x ≡ xs
  set_same [] j x h = refl
  set_same (w ∷ xs) zero x h = ap (λ z. z ∷ xs) (sym (some_same w x h))
  set_same (w ∷ xs) (suc j) x h = ap (λ zs. w ∷ zs) (set_same xs j x h)

  -- put back what stood there
  pub put_back : (xs : List X) (j : ℕ) (y x back : X) → slice_get xs j ≡ Some x → back ≡ x → slice_set (slice_set xs j y) j back ≡ xs
  put_back [] j y x back h e = refl
  put_back (w ∷ xs) zero y x back h e = ap (λ z. z ∷ xs) (e ∙ sym (some_same w x h))
  put_back (w ∷ xs) (suc j) y x back h e = ap (λ zs. w ∷ zs) (put_back xs j y x back h e)

  take_before : (xs : List X) (j n : ℕ) (y : X) → n ≤ j → take n (slice_set xs j y) ≡ take n xs
  take_before [] j zero y h = refl
  take_before [] j (suc n) y h = refl
  take_before (x ∷ xs) zero zero y h = refl
  take_before (x ∷ xs) zero (suc n) y h = absurd (omega (arith, h))
  take_before (x ∷ xs) (suc j) zero y h = refl
  take_before (x ∷ xs) (suc j) (suc n) y h = ap (λ zs. x ∷ zs) (take_before xs j n y (omega (arith, h)))

  take_set : (xs : List X) (j n : ℕ) (y : X) → take n (slice_set xs j y) ≡ slice_set (take n xs) j y
  take_set [] j zero y = refl
  take_set [] j (suc n) y = refl
  take_set (x ∷ xs) zero zero y = refl
  take_set (x ∷ xs) zero (suc n) y = refl
  take_set (x ∷ xs) (suc j) zero y = refl
  take_set (x ∷ xs) (suc j) (suc n) y = ap (λ zs. x ∷ zs) (take_set xs j n y)

  each_set : (P : X → Type 0) (xs : List X) (j : ℕ) (y : X) → P y → AllByRecursion P xs → AllByRecursion P (slice_set xs j y)
  each_set P [] j y h all = tt
  each_set P (x ∷ xs) zero y h all = (h, all.1)
  each_set P (x ∷ xs) (suc j) y h all = (all.0, each_set P xs j y h all.1)

  none_set : (p : X → Bool) (xs : List X) (j : ℕ) (y : X) → p y ≡ false → list_any p xs ≡ false → list_any p (slice_set xs j y) ≡ false
  none_set p [] j y h none = none
  none_set p (x ∷ xs) zero y h none = ap (λ b. b || list_any p xs) h ∙ (either_false (p x) (list_any p xs) none).1
  none_set p (x ∷ xs) (suc j) y h none =
      let both = either_false (p x) (list_any p xs) none in
      ap (λ b. b || list_any p (slice_set xs j y)) both.0 ∙ none_set p xs j y h both.1

  take_all : (xs : List X) (k : ℕ) → length xs ≤ k → take k xs ≡ xs
  take_all [] zero h = refl
  take_all [] (suc k) h = refl
  take_all (x ∷ xs) zero h = absurd (omega (arith, h))
  take_all (x ∷ xs) (suc k) h = ap (λ zs. x ∷ zs) (take_all xs k (omega (arith, h)))

-- ---- results of the first nodes, and what is the results of all

module _ {N R : Type 0} (step : ℕ → N → (ℕ → R) → R) (nothing : R) where
  behind_take : (found : List R) (nodes : List N) (k at : ℕ) → at ≡ length found + k → results_behind step nothing found (take k nodes) ≡ take at (results_behind step nothing found nodes)
  behind_take found [] zero at e = sym (take_all found at (omega (arith, e)))
  behind_take found [] (suc k) at e = sym (take_all found at (omega (arith, e)))
  behind_take found (node ∷ nodes) zero at e =
      let later = behind_is step nothing found (node ∷ nodes) in
      let here : at ≡ length found = omega (arith, e) in
      sym (ap (take at) later.1 ∙ ap (λ n. take n (found ++ later.0)) here ∙ take-front found later.0)
  behind_take found (node ∷ nodes) (suc k) at e =
      let next = step (length found) node (at_place nothing found) in
      let one = length-append found (next ∷ []) in
      behind_take (found ++ next ∷ []) nodes k at (omega (arith, e, one))

  pub results_take : (nodes : List N) (k : ℕ) → results step nothing (take k nodes) ≡ take k (results step nothing nodes)
  results_take nodes k = behind_take [] nodes k k (omega arith)

  -- each of these is the step of its node on those before it
  abbrev AreResults : List R → List N → List R → Type 0
  AreResults found nodes rest = (k at : ℕ) (node : N) → slice_get nodes k ≡ Some node → at ≡ length found + k → slice_get rest k ≡ Some (step at node (at_place nothing (found ++ take k rest)))

  behind_are : (found : List R) (nodes : List N) (rest : List R) → length rest ≡ length nodes → AreResults found nodes rest → results_behind step nothing found nodes ≡ found ++ rest
  behind_are found [] [] long are = sym (append-nil found)
  behind_are found [] (r ∷ rest) long are = absurd (omega (arith, long))
  behind_are found (node ∷ nodes) [] long are = absurd (omega (arith, long))
  behind_are found (node ∷ nodes) (r ∷ rest) long are =
      let next : R = step (length found) node (at_place nothing found) in
      let first : r ≡ step (length found) node (at_place nothing (found ++ [])) = some_same r (step (length found) node (at_place nothing (found ++ []))) (are zero (length found) node refl (omega arith)) in
      let same : r ≡ next = first ∙ ap (λ all. step (length found) node (at_place nothing all)) (append-nil found) in
      let one : length (found ++ r ∷ []) ≡ length found + 1 = length-append found (r ∷ []) in
      ap (λ x. results_behind step nothing (found ++ x ∷ []) nodes) (sym same)
      ∙ behind_are (found ++ r ∷ []) nodes rest (omega (arith, long)) (λ k at other stands e. are (suc k) at other stands (omega (arith, e, one)) ∙ ap (λ all. Some (step at other (at_place nothing all))) (sym (append_assoc found (r ∷ []) (take k rest))))
      ∙ append_assoc found (r ∷ []) rest

  pub results_are : (nodes : List N) (all : List R) → length all ≡ length nodes → ((k : ℕ) (node : N) → slice_get nodes k ≡ Some node → slice_get all k ≡ Some (step k node (at_place nothing (take k all)))) → results step nothing nodes ≡ all
  results_are nodes all long are = behind_are [] nodes all long (λ k at node stands e. are k node stands ∙ (let same : k ≡ at = omega (arith, e) in ap (λ n. Some (step n node (at_place nothing (take k all)))) same))

-- ---- what is asked of a node in three parts

pub parts_of : (a b c : Bool) → (a && not b && not c) ≡ true → (a ≡ true) × (b ≡ false) × (c ≡ false)
parts_of true false false h = (refl, refl, refl)
parts_of true false true h = absurd (true≢false (sym h))
parts_of true true c h = absurd (true≢false (sym h))
parts_of false b c h = absurd (true≢false (sym h))

pub from_parts : (a b c : Bool) → a ≡ true → b ≡ false → c ≡ false → (a && not b && not c) ≡ true
from_parts a b c h g e = λ i. h i && not (g i) && not (e i)

abbrev pub Kinds : Type 0
Kinds = List (Option RowKinds)

abbrev pub GivesIn : Kinds → ℕ → PlanOp → Type 0
GivesIn table k o = node_gives (at_place None (take k table)) o ≡ Some (at_place None table k)

some_back : (o : NodeGives) (x : Option RowKinds) → is_some o ≡ true → x ≡ unwrap_or o None → o ≡ Some x
some_back None x h e = absurd (true≢false (sym h))
some_back (Some y) x h e = ap Some (sym e)

-- each node of a plan gives what the table of kinds has
pub gives_its : (p : Plan) → IsPlan p → (k : ℕ) (v : PlanNode) → slice_get p k ≡ Some v → GivesIn (kinds_table p) k v.op
gives_its p valid k v stands =
    let parts = parts_of (is_some (node_gives (kinds_at (take k p)) v.op)) (op_writes_lf v.op) (list_any (is_twin v) (take k p)) (valid k v stands) in
    some_back (node_gives (at_place None (take k (kinds_table p))) v.op) (at_place None (kinds_table p) k)
    (ap (λ t. is_some (node_gives (at_place None t) v.op)) (sym (results_take kinds_step None p k)) ∙ parts.0)
    (result_before kinds_step None p k v stands)

pub placed : (table : Kinds) (k : ℕ) → k < length table → slice_get table k ≡ Some (at_place None table k)
placed table k within = let found = some_at table k within in found.1 ∙ ap Some (sym (ap (λ o. unwrap_or o None) found.1))

not_named : (k : ℕ) (inputs : List ℕ) → list_any (λ i. i == k) inputs ≡ false → AllByRecursion (λ i. i ≡ k → ⊥) inputs
not_named k [] h = tt
not_named k (i ∷ inputs) h =
    let both = either_false (i == k) (list_any (λ i. i == k) inputs) h in
    (λ e. true≢false (sym (eq-eqb i k e) ∙ both.0), not_named k inputs both.1)

-- ---- twins

twins_first : (o u : PlanOp) → are_twins o u ≡ true → may_be_twin o ≡ true
twins_first (p_limit i m) (p_limit j n) h = refl
twins_first (p_assert i c m) (p_assert j d n) h = refl
twins_first o u h = absurd (cc)

twins_second : (o u : PlanOp) → are_twins o u ≡ true → may_be_twin u ≡ true
twins_second (p_limit i m) (p_limit j n) h = refl
twins_second (p_assert i c m) (p_assert j d n) h = refl
twins_second o u h = absurd (cc)

never_first : (v w : PlanNode) → may_be_twin v.op ≡ false → is_twin v w ≡ false
never_first v w h =
    ap (λ b. b && w.statement == v.statement)
    (either_way (are_twins v.op w.op) (λ e. absurd (true≢false (sym (twins_first v.op w.op e) ∙ h))) (λ e. e))

pub never_second : (v w : PlanNode) → may_be_twin w.op ≡ false → is_twin v w ≡ false
never_second v w h =
    ap (λ b. b && w.statement == v.statement)
    (either_way (are_twins v.op w.op) (λ e. absurd (true≢false (sym (twins_second v.op w.op e) ∙ h))) (λ e. e))

pub none_first : (v : PlanNode) (p : Plan) → may_be_twin v.op ≡ false → list_any (is_twin v) p ≡ false
none_first v [] h = refl
none_first v (w ∷ p) h = ap (λ b. b || list_any (is_twin v) p) (never_first v w h) ∙ none_first v p h

-- ---- the plan with both nodes in their places

module _ (p : Plan) (valid : IsPlan p) (low high : ℕ) (lower upper : PlanNode) (row : Option RowKinds) (only : IsOnlyUse p low high) (below : low < high) (within : high < length p) where
  abbrev changed : Plan
  changed = slice_set (slice_set p low lower) high upper

  abbrev table : Kinds
  table = slice_set (kinds_table p) low row

  data Place (k : ℕ) (v : PlanNode) : Type 0 where
    at_low : k ≡ low → lower ≡ v → Place k v
    at_high : k ≡ high → upper ≡ v → Place k v
    elsewhere : (k ≡ low → ⊥) → (k ≡ high → ⊥) → slice_get p k ≡ Some v → Place k v

  place : (k : ℕ) (v : PlanNode) → slice_get changed k ≡ Some v → Place k v
  place k v at =
      either_way (k == high)
      (λ e.
      let is : k ≡ high = eqb-true k high e in
      let long = set_length p low lower in
      at_high is (some_same upper v (sym (set_there (slice_set p low lower) high upper (omega (arith, long, within))) ∙ ap (slice_get changed) (sym is) ∙ at)))
      (λ d.
      let other : k ≡ high → ⊥ = λ is. true≢false (sym (eq-eqb k high is) ∙ d) in
      let before : slice_get (slice_set p low lower) k ≡ Some v = sym (set_other (slice_set p low lower) high k upper other) ∙ at in
      either_way (k == low)
      (λ e.
      let is : k ≡ low = eqb-true k low e in
      at_low is (some_same lower v (sym (set_there p low lower (omega (arith, below, within))) ∙ ap (slice_get (slice_set p low lower)) (sym is) ∙ before)))
      (λ n.
      let apart : k ≡ low → ⊥ = λ is. true≢false (sym (eq-eqb k low is) ∙ n) in
      elsewhere apart other (sym (set_other p low k lower apart) ∙ before)))

  stays : (k : ℕ) (v : PlanNode) → (k ≡ low → ⊥) → (k ≡ high → ⊥) → slice_get p k ≡ Some v → GivesIn table k v.op
  stays k v apart other stands =
      let unnamed : names v.op low ≡ false = either_way (names v.op low) (λ e. absurd (other (only k v stands e))) (λ e. e) in
      gives_agree (at_place None (take k table)) (at_place None (take k (kinds_table p))) v.op
      (each_weaker (λ i. i ≡ low → ⊥) (λ i. at_place None (take k table) i ≡ at_place None (take k (kinds_table p)) i)
      (λ i differ. ap (λ t. at_place None t i) (take_set (kinds_table p) low k row) ∙ ap (λ o. unwrap_or o None) (set_other (take k (kinds_table p)) low i row differ))
      (inputs_of v.op) (not_named low (inputs_of v.op) unnamed))
      ∙ gives_its p valid k v stands
      ∙ ap (λ o. Some (unwrap_or o None)) (sym (set_other (kinds_table p) low k row apart))

  module _ (lower_gives : GivesIn table low lower.op) (upper_gives : GivesIn table high upper.op) where
    gives_in : (k : ℕ) (v : PlanNode) → Place k v → GivesIn table k v.op
    gives_in k v (at_low is same) = subst (λ n. GivesIn table n v.op) (sym is) (subst (λ w. GivesIn table low w.op) same lower_gives)
    gives_in k v (at_high is same) = subst (λ n. GivesIn table n v.op) (sym is) (subst (λ w. GivesIn table high w.op) same upper_gives)
    gives_in k v (elsewhere apart other stands) = stays k v apart other stands

    changed_length : length changed ≡ length p
    changed_length = set_length (slice_set p low lower) high upper ∙ set_length p low lower

    pub changed_table : kinds_table changed ≡ table
    changed_table =
        results_are kinds_step None changed table
        (set_length (kinds_table p) low row ∙ length-results kinds_step None p ∙ sym changed_length)
        (λ k v at.
        let inside = slice_get_within changed k v at in
        let long = changed_length in
        let size = set_length (kinds_table p) low row in
        let whole = length-results kinds_step None p in
        placed table k (omega (arith, inside, long, size, whole))
        ∙ ap Some (sym (ap (λ o. unwrap_or o None) (gives_in k v (place k v at)))))

    module _ (latest : ℕ) (lower_may : MayStand latest lower) (upper_may : MayStand latest upper) where
      writes_none : (k : ℕ) (v : PlanNode) → Place k v → op_writes_lf v.op ≡ false
      writes_none k v (at_low is same) = ap (λ w. op_writes_lf w.op) (sym same) ∙ lower_may.writes
      writes_none k v (at_high is same) = ap (λ w. op_writes_lf w.op) (sym same) ∙ upper_may.writes
      writes_none k v (elsewhere apart other stands) =
          (parts_of (is_some (node_gives (kinds_at (take k p)) v.op)) (op_writes_lf v.op) (list_any (is_twin v) (take k p)) (valid k v stands)).1

      has_none : (k : ℕ) (v : PlanNode) → Place k v → list_any (is_twin v) (take k changed) ≡ false
      has_none k v (at_low is same) = none_first v (take k changed) (ap (λ w. may_be_twin w.op) (sym same) ∙ lower_may.alone)
      has_none k v (at_high is same) = none_first v (take k changed) (ap (λ w. may_be_twin w.op) (sym same) ∙ upper_may.alone)
      has_none k v (elsewhere apart other stands) =
          ap (list_any (is_twin v)) (take_set (slice_set p low lower) high k upper ∙ ap (λ xs. slice_set xs high upper) (take_set p low k lower))
          ∙ none_set (is_twin v) (slice_set (take k p) low lower) high upper (never_second v upper upper_may.alone)
          (none_set (is_twin v) (take k p) low lower (never_second v lower lower_may.alone)
          (parts_of (is_some (node_gives (kinds_at (take k p)) v.op)) (op_writes_lf v.op) (list_any (is_twin v) (take k p)) (valid k v stands)).2)

      pub changed_plan : IsPlan changed
      changed_plan k v at =
          from_parts (is_some (node_gives (kinds_at (take k changed)) v.op)) (op_writes_lf v.op) (list_any (is_twin v) (take k changed))
          (ap (λ t. is_some (node_gives (at_place None t) v.op)) (results_take kinds_step None changed k ∙ ap (take k) changed_table) ∙ ap is_some (gives_in k v (place k v at)))
          (writes_none k v (place k v at)) (has_none k v (place k v at))

-- ---- what is given

pub rows_same : (b : Bool) (g : Given) (kinds found : List Kind) → g ≡ given.Rows found → b ≡ kinds_eq (kinds_of (map kind_tree kinds)) (kinds_of (map kind_tree found)) → b ≡ true
    → kinds_of_given g ≡ Some (map kind_tree kinds)
rows_same b g kinds found is told same =
    ap kinds_of_given is
    ∙ ap Some (sym (kinds_back (map kind_tree found))
    ∙ ap kinds_list (sym (kinds_same (kinds_of (map kind_tree kinds)) (kinds_of (map kind_tree found)) (sym told ∙ same)))
    ∙ kinds_back (map kind_tree kinds))

pub rows_differ : (b : Bool) (g : Given) (kinds found : List Kind) → g ≡ given.Rows found → b ≡ kinds_eq (kinds_of (map kind_tree kinds)) (kinds_of (map kind_tree found)) → b ≡ false
    → kinds_of_given g ≡ Some (map kind_tree kinds) → ⊥
rows_differ b g kinds found is told differ same =
    let rows : map kind_tree found ≡ map kind_tree kinds = some_same (map kind_tree found) (map kind_tree kinds) (sym (ap kinds_of_given is) ∙ same) in
    true≢false (sym (kinds_itself (kinds_of (map kind_tree kinds))) ∙ ap (λ ks. kinds_eq (kinds_of (map kind_tree kinds)) (kinds_of ks)) (sym rows) ∙ sym told ∙ differ)

-- What may be given there is given: the lower one gives, and over what it gives so does the upper one.
module _ (old : List Given) (low high : ℕ) (lower upper : PlanOp) (may : MayBeGiven old low lower high upper) where
  pub no_lower : None ≡ node_gives (before_of (take low old)) lower → ⊥
  no_lower e = none-some may.row (e ∙ may.lower_gives)

  abbrev kinds : List (Option RowKinds)
  kinds = map kinds_of_given old

  pub gives_upper : (first : Given) → Some (kinds_of_given first) ≡ node_gives (before_of (take low old)) lower → GivesThere (slice_set old low first) high upper
  gives_upper first told =
      let row : kinds_of_given first ≡ may.row = some_same (kinds_of_given first) may.row (told ∙ may.lower_gives) in
      let set : map kinds_of_given (slice_set old low first) ≡ slice_set kinds low may.row = map-set kinds_of_given old low first ∙ ap (slice_set kinds low) row in
      let below = may.below in
      ap (λ t. node_gives (at_place None t) upper) (sym (take-map kinds_of_given high (slice_set old low first)) ∙ ap (take high) set)
      ∙ may.upper_gives
      ∙ ap (λ o. Some (unwrap_or o None)) (sym (set_other kinds low high may.row (λ e. omega (arith, below, e))) ∙ ap (λ t. slice_get t high) (sym set))

pub none_given : (old : List Given) (low high : ℕ) (lower upper : PlanOp) (first : Given) (r : Result Bool AllocError)
    → Some (kinds_of_given first) ≡ node_gives (before_of (take low old)) lower → IfOk r (λ done. done ≡ false → GivesThere (slice_set old low first) high upper → ⊥)
    → IfOk r (λ done. done ≡ false → MayBeGiven old low lower high upper → ⊥)
none_given old low high lower upper first (Ok b) told refused = λ no may. refused no (gives_upper old low high lower upper may first told)
none_given old low high lower upper first (Err e) told refused = tt

module _ (old new : List Given) (low high : ℕ) (lower upper : PlanOp) (first : Given) (below : low < high) (within : high < length old)
    (told : Some (kinds_of_given first) ≡ node_gives (before_of (take low old)) lower) where
  gives_first : new ≡ slice_set old low first → GivesThere new low lower
  gives_first is =
      let mapped = length-map old kinds_of_given in
      ap (λ xs. node_gives (before_of xs) lower) (ap (take low) is ∙ take_before old low low first (omega arith))
      ∙ sym told
      ∙ ap Some (sym (ap (λ xs. before_of xs low) is ∙ ap (λ t. at_place None t low) (map-set kinds_of_given old low first)
      ∙ ap (λ o. unwrap_or o None) (set_there (map kinds_of_given old) low (kinds_of_given first) (omega (arith, below, within, mapped)))))

  pub given_for : (r : Result Bool AllocError) → IfOk r (λ done. done ≡ true → new ≡ slice_set old low first) → IfOk r (λ done. done ≡ true → GivesThere new high upper)
      → IfOk r (λ done. done ≡ true → IsGivenFor old new low lower high upper)
  given_for (Ok b) put gives = λ did. record {
    first = first;
    is = put did;
    below = below;
    within = within;
    lower_gives = gives_first (put did);
    upper_gives = gives did;
  }
  given_for (Err e) put gives = tt

-- ---- nodes, and what is kept beside them

abbrev pub Holds : ℕ → List Node → List Given → Type 0
Holds latest nodes kept =
    IsPlan (plan_of nodes) × (map kinds_of_given kept ≡ kinds_table (plan_of nodes)) × PlanLiteralsAre IsValue (plan_of nodes) × AreUpTo latest (plan_of nodes)

module _ (old new : List Given) (low high : ℕ) (lower upper : PlanOp) (found : IsGivenFor old new low lower high upper) where
  kinds_are : map kinds_of_given new ≡ slice_set (map kinds_of_given old) low (kinds_of_given found.first)
  kinds_are = ap (map kinds_of_given) found.is ∙ map-set kinds_of_given old low found.first

  in_table : (k : ℕ) (o : PlanOp) → GivesThere new k o → GivesIn (slice_set (map kinds_of_given old) low (kinds_of_given found.first)) k o
  in_table k o h =
      subst (λ t. GivesIn t k o) kinds_are (ap (λ t. node_gives (at_place None t) o) (take-map kinds_of_given k new) ∙ h)

module _ (nodes : List Node) (old new : List Given) (low high : ℕ) (lower upper : PlanOp) (table_is : map kinds_of_given old ≡ kinds_table (plan_of nodes))
    (found : IsGivenFor old new low lower high upper) where
  pub high_within : high < length nodes
  high_within =
      let size : length (map kinds_of_given old) ≡ length (kinds_table (plan_of nodes)) = ap (λ t. length t) table_is in
      let mapped = length-map old kinds_of_given in
      let whole = length-results kinds_step None (plan_of nodes) in
      let same = length-map nodes node_of in
      let within = found.within in
      omega (arith, size, mapped, whole, same, within)

  pub low_within : low < length nodes
  low_within = let high_in = high_within in let below = found.below in omega (arith, high_in, below)

module _ (nodes made : List Node) (old new : List Given) (latest low high : ℕ) (lower upper : Node) (holds : Holds latest nodes old) (only : IsOnlyUse (plan_of nodes) low high)
    (lower_may : MayStand latest (node_of lower)) (upper_may : MayStand latest (node_of upper))
    (lower_known : OpLiteralsAre IsValue (op_of lower.op)) (upper_known : OpLiteralsAre IsValue (op_of upper.op))
    (found : IsGivenFor old new low (op_of lower.op) high (op_of upper.op)) (is : made ≡ slice_set (slice_set nodes low lower) high upper) where
  abbrev plan : Plan
  plan = plan_of nodes

  abbrev given_first : Option RowKinds
  given_first = kinds_of_given found.first

  plan_is : plan_of made ≡ slice_set (slice_set plan low (node_of lower)) high (node_of upper)
  plan_is =
      ap plan_of is ∙ map-set node_of (slice_set nodes low lower) high upper
      ∙ ap (λ xs. slice_set xs high (node_of upper)) (map-set node_of nodes low lower)

  table_is : map kinds_of_given new ≡ slice_set (kinds_table plan) low given_first
  table_is = kinds_are old new low high (op_of lower.op) (op_of upper.op) found ∙ ap (λ t. slice_set t low given_first) holds.1

  there : (k : ℕ) (o : PlanOp) → GivesThere new k o → GivesIn (slice_set (kinds_table plan) low given_first) k o
  there k o h = subst (λ t. GivesIn (slice_set t low given_first) k o) holds.1 (in_table old new low high (op_of lower.op) (op_of upper.op) found k o h)

  inside : high < length plan
  inside =
      let within = high_within nodes old new low high (op_of lower.op) (op_of upper.op) holds.1 found in
      let same = length-map nodes node_of in
      omega (arith, within, same)

  pub exchanged : Holds latest made new
  exchanged = (
    subst IsPlan (sym plan_is)
        (changed_plan plan holds.0 low high (node_of lower) (node_of upper) given_first only found.below inside (there low (op_of lower.op) found.lower_gives) (there high (op_of upper.op) found.upper_gives)
        latest lower_may upper_may),
    table_is
        ∙ sym (changed_table plan holds.0 low high (node_of lower) (node_of upper) given_first only found.below inside (there low (op_of lower.op) found.lower_gives) (there high (op_of upper.op) found.upper_gives))
        ∙ ap kinds_table (sym plan_is),
    subst (PlanLiteralsAre IsValue) (sym plan_is)
        (each_set (λ node. OpLiteralsAre IsValue node.op) (slice_set plan low (node_of lower)) high (node_of upper) upper_known
        (each_set (λ node. OpLiteralsAre IsValue node.op) plan low (node_of lower) lower_known holds.2)),
    subst (AreUpTo latest) (sym plan_is)
        (each_set (λ node. node.statement ≤ latest) (slice_set plan low (node_of lower)) high (node_of upper) upper_may.no_later
        (each_set (λ node. node.statement ≤ latest) plan low (node_of lower) lower_may.no_later holds.3)),
  )

-- what may stand in a plan may be given for what is kept beside its nodes
pub may_be_given : (nodes : List Node) (old : List Given) (low high : ℕ) (lower upper : PlanNode) → map kinds_of_given old ≡ kinds_table (plan_of nodes)
    → MayExchange (plan_of nodes) low lower high upper → MayBeGiven old low lower.op high upper.op
may_be_given nodes old low high lower upper table_is may = record {
  below = may.below;
  within =
      (let size : length (map kinds_of_given old) ≡ length (kinds_table (plan_of nodes)) = ap (λ t. length t) table_is in
      let mapped = length-map old kinds_of_given in
      let whole = length-results kinds_step None (plan_of nodes) in
      let inside = may.within in
      omega (arith, size, mapped, whole, inside));
  row = may.row;
  lower_gives =
      ap (λ t. node_gives (at_place None t) lower.op)
      (sym (take-map kinds_of_given low old) ∙ ap (take low) table_is ∙ sym (results_take kinds_step None (plan_of nodes) low))
      ∙ may.lower_gives;
  upper_gives = subst (λ t. StillGives t low may.row high upper.op) (sym table_is) may.upper_gives;
}
