-- The result of a node is its step on the results of the nodes before it, and further nodes change none.
use Rattle.std.specs.Prelude.{◌≡◌, ◌<◌, ◌+◌, ℕ, List, [], ◌∷◌, ◌++◌, length, take, Some, slice_get, refl}
use Rattle.std.specs.Option.{unwrap_or}
use Rattle.std.proofs.Common.{ap, sym, ◌∙◌, subst, arith, suc, zero, append_assoc, append-nil}
use Rattle.std.proofs.lemmas.List.{length-append}
use Rattle.std.proofs.lemmas.Option.{none-some}
use Rattle.pig_plan.specs.Results.{at_place, results_behind, results, result_at}

module _ {R : Type 0} where
  -- what stands within a list stands there also with more behind it
  pub get-front : (xs ys : List R) (k : ℕ) → k < length xs → slice_get (xs ++ ys) k ≡ slice_get xs k
  get-front [] ys k h = absurd (omega (arith, h))
  get-front (x ∷ xs) ys zero h = refl
  get-front (x ∷ xs) ys (suc k) h = get-front xs ys k (omega (arith, h))

  get-next : (xs : List R) (x : R) (ys : List R) → slice_get (xs ++ x ∷ ys) (length xs) ≡ Some x
  get-next [] x ys = refl
  get-next (w ∷ xs) x ys = get-next xs x ys

  pub take-front : (xs ys : List R) → take (length xs) (xs ++ ys) ≡ xs
  take-front [] [] = refl
  take-front [] (y ∷ ys) = refl
  take-front (x ∷ xs) ys = ap (λ zs. x ∷ zs) (take-front xs ys)

  pub get-take : (xs : List R) (k j : ℕ) → j < k → slice_get (take k xs) j ≡ slice_get xs j
  get-take xs zero j h = absurd (omega (arith, h))
  get-take [] (suc k) j h = refl
  get-take (x ∷ xs) (suc k) zero h = refl
  get-take (x ∷ xs) (suc k) (suc j) h = get-take xs k j (omega (arith, h))

some_inj : {A : Type 0} {a b : A} → Some a ≡ Some b → a ≡ b
some_inj {A} {a} {b} h = ap (λ o. unwrap_or o a) h

module _ {N R : Type 0} (step : ℕ → N → (ℕ → R) → R) (nothing : R) where
  -- the results that are found stand first
  pub behind_is : (found : List R) (nodes : List N) → (more : List R) × (results_behind step nothing found nodes ≡ found ++ more)
  behind_is found [] = ([], sym (append-nil found))
  behind_is found (node ∷ nodes) =
      let next = step (length found) node (at_place nothing found) in
      let later = behind_is (found ++ next ∷ []) nodes in
      (next ∷ later.0, later.1 ∙ append_assoc found (next ∷ []) later.0)

  -- one more node has one more result, and changes none before it
  pub behind-append : (found : List R) (nodes : List N) (node : N)
      → results_behind step nothing found (nodes ++ node ∷ [])
      ≡ results_behind step nothing found nodes ++ step (length (results_behind step nothing found nodes)) node (at_place nothing (results_behind step nothing found nodes)) ∷ []
  behind-append found [] node = refl
  behind-append found (first ∷ nodes) node = behind-append (found ++ step (length found) first (at_place nothing found) ∷ []) nodes node

  pub results-append : (nodes : List N) (node : N)
      → results step nothing (nodes ++ node ∷ []) ≡ results step nothing nodes ++ step (length (results step nothing nodes)) node (result_at step nothing nodes) ∷ []
  results-append nodes node = behind-append [] nodes node

  length-behind : (found : List R) (nodes : List N) → length (results_behind step nothing found nodes) ≡ length found + length nodes
  length-behind found [] = omega (arith)
  length-behind found (node ∷ nodes) =
      let next = step (length found) node (at_place nothing found) in
      length-behind (found ++ next ∷ []) nodes ∙ ap (λ n. n + length nodes) (length-append found (next ∷ [])) ∙ omega (arith)

  pub length-results : (nodes : List N) → length (results step nothing nodes) ≡ length nodes
  length-results nodes = length-behind [] nodes ∙ omega (arith)

  -- what a node's result is of those that stand before it
  abbrev IsResult : List R → ℕ → N → Type 0
  IsResult all k node = slice_get all k ≡ Some (step k node (at_place nothing (take k all)))

  result_behind : (found : List R) (nodes : List N) (k at : ℕ) (node : N) → slice_get nodes k ≡ Some node → at ≡ length found + k
      → IsResult (results_behind step nothing found nodes) at node
  result_behind found [] k at node h e = absurd (none-some node h)
  result_behind found (first ∷ nodes) zero at node h e =
      let next = step (length found) first (at_place nothing found) in
      let later = behind_is (found ++ next ∷ []) nodes in
      let whole : results_behind step nothing found (first ∷ nodes) ≡ found ++ next ∷ later.0 = later.1 ∙ append_assoc found (next ∷ []) later.0 in
      let here : at ≡ length found = e ∙ omega (arith) in
      let same : first ≡ node = some_inj h in
      subst (λ n. IsResult (results_behind step nothing found (first ∷ nodes)) n node) (sym here)
      (subst (λ all. IsResult all (length found) node) (sym whole)
      (get-next found next later.0 ∙ ap Some ((λ i. step (length found) (same i) (at_place nothing found)) ∙ ap (λ f. step (length found) node (at_place nothing f)) (sym (take-front found (next ∷ later.0))))))
  result_behind found (first ∷ nodes) (suc k) at node h e =
      let next = step (length found) first (at_place nothing found) in
      result_behind (found ++ next ∷ []) nodes k at node h (e ∙ (let one = length-append found (next ∷ []) in omega (arith, one)))

  -- a node whose step looks at the results before it alone has the step's result on the results of all nodes
  pub result_is : (nodes : List N) (k : ℕ) (node : N) → slice_get nodes k ≡ Some node
      → ((f g : ℕ → R) → ((j : ℕ) → j < k → f j ≡ g j) → step k node f ≡ step k node g)
      → result_at step nothing nodes k ≡ step k node (result_at step nothing nodes)
  result_is nodes k node h looks =
      ap (λ r. unwrap_or r nothing) (result_behind [] nodes k k node h (omega (arith)))
      ∙ looks (at_place nothing (take k (results step nothing nodes))) (result_at step nothing nodes)
      (λ j below. ap (λ r. unwrap_or r nothing) (get-take (results step nothing nodes) k j below))

  -- a node's result is its step on the results of the nodes before it alone
  pub result_before : (nodes : List N) (k : ℕ) (node : N) → slice_get nodes k ≡ Some node
      → result_at step nothing nodes k ≡ step k node (at_place nothing (take k (results step nothing nodes)))
  result_before nodes k node h = ap (λ r. unwrap_or r nothing) (result_behind [] nodes k k node h (omega (arith)))

  -- which stand there as among all
  pub before_is : (nodes : List N) (k j : ℕ) → j < k → at_place nothing (take k (results step nothing nodes)) j ≡ result_at step nothing nodes j
  before_is nodes k j below = ap (λ r. unwrap_or r nothing) (get-take (results step nothing nodes) k j below)

  -- further nodes change no result
  pub result-append : (nodes : List N) (node : N) (k : ℕ) → k < length nodes → result_at step nothing (nodes ++ node ∷ []) k ≡ result_at step nothing nodes k
  result-append nodes node k h =
      let all = results step nothing nodes in
      ap (λ found. at_place nothing found k) (results-append nodes node)
      ∙ ap (λ r. unwrap_or r nothing) (get-front all (step (length all) node (result_at step nothing nodes) ∷ []) k (let is = length-results nodes in omega (arith, is, h)))
