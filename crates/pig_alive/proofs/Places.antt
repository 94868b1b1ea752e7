-- Where the live nodes stand once the dead ones are left out.
use Rattle.std.specs.Prelude.{◌≡◌, ◌<◌, ◌+◌, ℕ, zero, suc, Bool, true, false, List, [], ◌∷◌, ◌++◌, map, length, Option, Some, None, slice_get, get_or, refl, if◌then◌else◌}
use Rattle.std.proofs.Common.{ap, sym, ◌∙◌, arith, cond}
use Rattle.std.specs.List.{AllByRecursion, cons_option, filter, filter_map, range_with_len}
use Rattle.std.specs.Option.{option_and_then, option_map}
use Rattle.std.proofs.lemmas.List.{append-nil, length-append, map-append}
use Rattle.std.proofs.lemmas.List.Elements.{filter-append, filter_map-append}
use Rattle.std.proofs.lemmas.List.FromFn.{get_or-map-range_with_len, map-range_with_len_more}
use Rattle.std.proofs.lemmas.Option.{none-some, slice_get-map, slice_get_within}
use Rattle.pig_value.proofs.list_laws.Indexing.{get_map, some_at}
use Rattle.pig_value.proofs.list_laws.Listing.{some_same}
use Rattle.pig_plan.proofs.Marking.{range_more}
use Rattle.pig_plan.proofs.Meanings.{live_within}
use Rattle.pig_plan.specs.Nodes.{is_live, live, live_marks}
use Rattle.pig_plan.specs.declared.nodes.Node.{Node}
use Rattle.pig_plan.specs.Plans.{Plan, PlanNode, node_of, plan_of}
use Rattle.pig_plan.specs.Renumbered.{renamed}
use Rattle.pig_alive.specs.Alive.{alive, new_number, rank}

-- ---- numbers that pass a test

module _ (f : ℕ → Bool) where
  abbrev passed : ℕ → ℕ → List ℕ
  passed a n = filter f (range_with_len a n)

  -- each of them stands behind those that pass before it
  pub placed_at : (a n j : ℕ) → j < n → f (a + j) ≡ true → slice_get (filter f (range_with_len a n)) (length (filter f (range_with_len a j))) ≡ Some (a + j)
  placed_at a zero j below passes = absurd (omega (arith, below))
  placed_at a (suc n) zero below passes =
      let here : a + zero ≡ a = omega arith in
      ap (λ b. slice_get (cond b (a ∷ passed (a + 1) n) (passed (a + 1) n)) 0) (ap f (sym here) ∙ passes) ∙ ap Some (sym here)
  placed_at a (suc n) (suc j) below passes =
      let over : a + 1 + j ≡ a + suc j = omega arith in
      by_first (f a) (placed_at (a + 1) n j (omega (arith, below)) (ap f over ∙ passes) ∙ ap Some over)
    where
      by_first : (b : Bool) → slice_get (passed (a + 1) n) (length (passed (a + 1) j)) ≡ Some (a + suc j)
          → slice_get (cond b (a ∷ passed (a + 1) n) (passed (a + 1) n)) (length (cond b (a ∷ passed (a + 1) j) (passed (a + 1) j))) ≡ Some (a + suc j)
      by_first true rest = rest
      by_first false rest = rest

  pub record Found (a n place x : ℕ) : Type 0 where
    pub steps : ℕ
    pub is : a + steps ≡ x
    pub below : steps < n
    pub passes : f x ≡ true
    pub place_is : length (filter f (range_with_len a steps)) ≡ place

  counted : (c : Bool) (a s m : ℕ) → length (filter f (range_with_len (a + 1) s)) ≡ m
      → length (cond c (a ∷ filter f (range_with_len (a + 1) s)) (filter f (range_with_len (a + 1) s))) ≡ length (cond c (a ∷ []) []) + m
  counted true a s m same = ap (λ k. suc k) same ∙ omega arith
  counted false a s m same = same ∙ omega arith

  found_next : (a n m place x : ℕ) (b : Bool) → f a ≡ b → Found (a + 1) n m x → length (cond b (a ∷ []) []) + m ≡ place → Found a (suc n) place x
  found_next a n m place x b e h size = record {
    steps = suc h.steps;
    is = (let same = h.is in omega (arith, same));
    below = (let less = h.below in omega (arith, less));
    passes = h.passes;
    place_is = ap (λ c. length (cond c (a ∷ passed (a + 1) h.steps) (passed (a + 1) h.steps))) e ∙ counted b a h.steps m h.place_is ∙ size;
  }

  pub found_at : (a n place x : ℕ) → slice_get (filter f (range_with_len a n)) place ≡ Some x → Found a n place x
  found_at a zero place x at = absurd (none-some x at)
  found_at a (suc n) place x at = by_first (λ m h. found_at (a + 1) n m x h) (f a) refl place at
    where
      by_first : ((m : ℕ) → slice_get (filter f (range_with_len (a + 1) n)) m ≡ Some x → Found (a + 1) n m x) → (b : Bool) → f a ≡ b → (m : ℕ)
          → slice_get (cond b (a ∷ filter f (range_with_len (a + 1) n)) (filter f (range_with_len (a + 1) n))) m ≡ Some x → Found a (suc n) m x
      by_first again true e zero h = record {
        steps = 0;
        is = (let here : a + 0 ≡ a = omega arith in here) ∙ some_same a x h;
        below = omega arith;
        passes = ap f (sym (some_same a x h)) ∙ e;
        place_is = refl;
      }
      by_first again true e (suc m) h = found_next a n m (suc m) x true e (again m h) (omega arith)
      by_first again false e m h = found_next a n m m x false e (again m h) (omega arith)

-- ---- what is found at numbers

module _ {X : Type 0} (get : ℕ → Option X) where
  abbrev pub IsThere : ℕ → Type 0
  IsThere n = (x : X) × (get n ≡ Some x)

  -- where each number has something, the places stay
  pub found_there : (ns : List ℕ) (m : ℕ) → AllByRecursion IsThere ns → slice_get (filter_map get ns) m ≡ option_and_then get (slice_get ns m)
  found_there [] m h = refl
  found_there (n ∷ ns) zero h = ap (λ o. slice_get (cons_option o (filter_map get ns)) 0) h.0.1 ∙ sym h.0.1
  found_there (n ∷ ns) (suc m) h = ap (λ o. slice_get (cons_option o (filter_map get ns)) (suc m)) h.0.1 ∙ found_there ns m h.1

each_passed : (f : ℕ → Bool) (P : ℕ → Type 0) (ns : List ℕ) → ((n : ℕ) → f n ≡ true → P n) → AllByRecursion P (filter f ns)
each_passed f P [] h = tt
each_passed f P (n ∷ ns) h = by_test (f n) refl (each_passed f P ns h)
  where
    by_test : (b : Bool) → f n ≡ b → AllByRecursion P (filter f ns) → AllByRecursion P (cond b (n ∷ filter f ns) (filter f ns))
    by_test true e rest = (h n e, rest)
    by_test false e rest = rest

module _ (p : Plan) where
  live_there : (ns : List ℕ) → AllByRecursion (IsThere (slice_get p)) (filter (is_live p) ns)
  live_there ns = each_passed (is_live p) (IsThere (slice_get p)) ns (λ n lives. some_at p n (live_within p n lives))

  -- a live node at its new number
  pub number_is : (k : ℕ) → k < length p → new_number p k ≡ rank p k
  number_is k within = get_or-map-range_with_len (rank p) 0 (length p) k k 0 within (omega arith)

  pub there : (k : ℕ) (v : PlanNode) → slice_get p k ≡ Some v → is_live p k ≡ true → slice_get (alive p) (new_number p k) ≡ Some (renamed (new_number p) v)
  there k v stands lives =
      let within : k < length p = slice_get_within p k v stands in
      let over : 0 + k ≡ k = omega arith in
      let at : slice_get (live p) (rank p k) ≡ Some k = placed_at (is_live p) 0 (length p) k within (ap (is_live p) over ∙ lives) ∙ ap Some over in
      ap (slice_get (alive p)) (number_is k within)
      ∙ get_map (renamed (new_number p)) (filter_map (slice_get p) (live p)) (rank p k)
      ∙ ap (option_map (renamed (new_number p))) (found_there (slice_get p) (live p) (rank p k) (live_there (range_with_len 0 (length p))) ∙ ap (option_and_then (slice_get p)) at ∙ stands)

  -- and each node is one
  pub record Came (j : ℕ) (w : PlanNode) : Type 0 where
    pub k : ℕ
    pub v : PlanNode
    pub stands : slice_get p k ≡ Some v
    pub lives : is_live p k ≡ true
    pub number : new_number p k ≡ j
    pub is : renamed (new_number p) v ≡ w

  pub came : (j : ℕ) (w : PlanNode) → slice_get (alive p) j ≡ Some w → Came j w
  came j w at = by_number (slice_get (live p) j) refl
    where
      opened : option_map (renamed (new_number p)) (option_and_then (slice_get p) (slice_get (live p) j)) ≡ Some w
      opened =
          ap (option_map (renamed (new_number p))) (sym (found_there (slice_get p) (live p) j (live_there (range_with_len 0 (length p)))))
          ∙ sym (get_map (renamed (new_number p)) (filter_map (slice_get p) (live p)) j) ∙ at

      by_number : (o : Option ℕ) → slice_get (live p) j ≡ o → Came j w
      by_number None e = absurd (none-some w (ap (λ o. option_map (renamed (new_number p)) (option_and_then (slice_get p) o)) (sym e) ∙ opened))
      by_number (Some k) e =
          let f : Found (is_live p) 0 (length p) j k = found_at (is_live p) 0 (length p) j k e in
          let found = some_at p k (live_within p k f.passes) in
          let same = f.is in
          let steps : f.steps ≡ k = omega (arith, same) in
          record {
            k = k;
            v = found.0;
            stands = found.1;
            lives = f.passes;
            number = number_is k (live_within p k f.passes) ∙ ap (rank p) (sym steps) ∙ f.place_is;
            is = some_same (renamed (new_number p) found.0) w
                (ap (option_map (renamed (new_number p))) (sym found.1) ∙ ap (λ o. option_map (renamed (new_number p)) (option_and_then (slice_get p) o)) (sym e) ∙ opened);
          }

-- ---- the code's loops

pub rank_more : (p : Plan) (n : ℕ) → rank p (n + 1) ≡ (if is_live p n then rank p n + 1 else rank p n)
rank_more p n =
    let here : 0 + n ≡ n = omega arith in
    ap (λ ns. length (filter (is_live p) ns)) (range_more 0 n)
    ∙ ap (λ m. length (filter (is_live p) (range_with_len 0 n ++ m ∷ []))) here
    ∙ ap length (filter-append (is_live p) (range_with_len 0 n) (n ∷ []))
    ∙ length-append (filter (is_live p) (range_with_len 0 n)) (filter (is_live p) (n ∷ []))
    ∙ by_test (is_live p n)
  where
    by_test : (b : Bool) → rank p n + length (cond b (n ∷ []) []) ≡ (if b then rank p n + 1 else rank p n)
    by_test true = refl
    by_test false = omega arith

pub mark_is : (p : Plan) (marks : List Bool) (k : ℕ) → marks ≡ live_marks p → k < length p → get_or marks k false ≡ is_live p k
mark_is p marks k are within = ap (λ bs. get_or bs k false) are ∙ get_or-map-range_with_len (is_live p) 0 (length p) k k false within (omega arith)

pub counted_on : (p : Plan) (marks : List Bool) (n count more : ℕ) → marks ≡ live_marks p → n < length p → count ≡ rank p n
    → more ≡ (if get_or marks n false then count + 1 else count) → more ≡ rank p (n + 1)
counted_on p marks n count more are within so_far is =
    is ∙ (λ j. if mark_is p marks n are within j then so_far j + 1 else so_far j) ∙ sym (rank_more p n)

pub table_on : (p : Plan) (n : ℕ) (table new : List ℕ) (count : ℕ) → table ≡ map (rank p) (range_with_len 0 n) → count ≡ rank p n → new ≡ table ++ count ∷ []
    → new ≡ map (rank p) (range_with_len 0 (n + 1))
table_on p n table new count so_far is grown =
    grown ∙ (λ j. so_far j ++ is j ∷ []) ∙ sym (map-range_with_len_more (rank p) 0 n n (omega arith))

abbrev picked : (ℕ → ℕ) → Plan → List ℕ → Plan
picked at p ns = map (renamed at) (filter_map (slice_get p) (filter (is_live p) ns))

pub made_on : (at : ℕ → ℕ) (p made new : Plan) (n : ℕ) → made ≡ map (renamed at) (filter_map (slice_get p) (filter (is_live p) (range_with_len 0 n)))
    → new ≡ made ++ map (renamed at) (filter_map (slice_get p) (filter (is_live p) (n ∷ [])))
    → new ≡ map (renamed at) (filter_map (slice_get p) (filter (is_live p) (range_with_len 0 (n + 1))))
made_on at p made new n so_far grown =
    let here : 0 + n ≡ n = omega arith in
    grown ∙ ap (λ xs. xs ++ picked at p (n ∷ [])) so_far
    ∙ sym (map-append (renamed at) (filter_map (slice_get p) (filter (is_live p) (range_with_len 0 n))) (filter_map (slice_get p) (filter (is_live p) (n ∷ []))))
    ∙ ap (map (renamed at)) (sym (filter_map-append (slice_get p) (filter (is_live p) (range_with_len 0 n)) (filter (is_live p) (n ∷ []))))
    ∙ ap (λ ns. map (renamed at) (filter_map (slice_get p) ns)) (sym (filter-append (is_live p) (range_with_len 0 n) (n ∷ [])))
    ∙ ap (λ m. picked at p (range_with_len 0 n ++ m ∷ [])) (sym here)
    ∙ ap (picked at p) (sym (range_more 0 n))

pub picked_dead : (at : ℕ → ℕ) (p old : Plan) (k : ℕ) → is_live p k ≡ false → old ≡ old ++ map (renamed at) (filter_map (slice_get p) (filter (is_live p) (k ∷ [])))
picked_dead at p old k dead =
    sym (append-nil old) ∙ ap (λ b. old ++ map (renamed at) (filter_map (slice_get p) (cond b (k ∷ []) []))) (sym dead)

pub picked_live : (at : ℕ → ℕ) (p : Plan) (k : ℕ) (v : PlanNode) → slice_get p k ≡ Some v → is_live p k ≡ true
    → renamed at v ∷ [] ≡ map (renamed at) (filter_map (slice_get p) (filter (is_live p) (k ∷ [])))
picked_live at p k v stands lives =
    ap (λ o. map (renamed at) (cons_option o [])) (sym stands)
    ∙ ap (λ b. map (renamed at) (filter_map (slice_get p) (cond b (k ∷ []) []))) (sym lives)

pub node_there : (nodes : List Node) (k : ℕ) (x : Node) → slice_get nodes k ≡ Some x → slice_get (plan_of nodes) k ≡ Some (node_of x)
node_there nodes k x at = slice_get-map node_of nodes k ∙ ap (option_map node_of) at
