-- Going back over the nodes: what is marked behind one, and what one node adds.
use Rattle.std.specs.Prelude.{◌≡◌, ◌<◌, ◌≤◌, ◌+◌, ◌&&◌, ◌||◌, ◌==◌, ℕ, zero, suc, Bool, true, false, List, [], ◌∷◌, ◌++◌, length, drop, map, replicate, Some, slice_get, get_or, refl}
use Rattle.std.proofs.Common.{ap, sym, subst, ◌∙◌, arith, inl, inr, cond, add-one}
use Rattle.std.specs.List.{AllByRecursion, filter, list_any, range_with_len}
use Rattle.std.specs.Option.{option_map, option_map_or}
use Rattle.std.proofs.lemmas.Bool.{ne_eqb}
use Rattle.std.proofs.lemmas.Bool.Decides.{Decides-eqb}
use Rattle.std.proofs.lemmas.List.Elements.{filter-append}
use Rattle.std.proofs.Math.Nat.{eq-or-lt_of_le}
use Rattle.std.proofs.lemmas.Option.{slice_get-get_or, slice_get-map}
use Rattle.pig_value.proofs.list_laws.Indexing.{dropped}
use Rattle.pig_plan.specs.declared.nodes.Node.{Node}
use Rattle.pig_plan.specs.Nodes.{inputs_of, is_live, is_store, is_used, live, live_marks, names}
use Rattle.pig_plan.specs.Plans.{Plan, PlanNode, node_of, plan_of}
use Rattle.pig_plan.specs.Marks.{AreMarks, IsMarked}

-- the node at a place of a plan, from the code's list
pub node_at : (nodes : List Node) (i : ℕ) (d : Node) → i < length nodes → slice_get (plan_of nodes) i ≡ Some (node_of (get_or nodes i d))
node_at nodes i d h = slice_get-map node_of nodes i ∙ ap (option_map node_of) (slice_get-get_or nodes i d h)

unmarked : (n k : ℕ) → get_or (replicate n false) k false ≡ false
unmarked zero k = refl
unmarked (suc n) zero = refl
unmarked (suc n) (suc k) = unmarked n k

and_swapped : (a b : Bool) → (a && b) ≡ (b && a)
and_swapped true true = refl
and_swapped true false = refl
and_swapped false true = refl
and_swapped false false = refl

module _ (plan : Plan) (i : ℕ) (node : PlanNode) (at : slice_get plan i ≡ Some node) (marks new : List Bool) (so_far : AreMarks plan (i + 1) marks)
    (told : IsMarked i (is_store node.op) (inputs_of node.op) marks new) where
  behind_it : drop i plan ≡ node ∷ drop (i + 1) plan
  behind_it = dropped plan i node at

  used_at : (k : ℕ) → k < i + 1 → get_or marks k false ≡ is_used k (i + 1) (drop (i + 1) plan)
  used_at k below = so_far.before k below

  own_is : get_or new i false ≡ is_live plan i
  own_is = told.own ∙ ap (λ b. is_store node.op || b) (used_at i (omega arith))
      ∙ sym (ap (λ o. option_map_or (λ n. is_store n.op || is_used i (i + 1) (drop (i + 1) plan)) o false) at)

  behind_is : (k : ℕ) → i ≤ k → k < length plan → get_or new k false ≡ is_live plan k
  behind_is k from below = elim (eq-or-lt_of_le from) [
    | inl same ↦ subst (λ n. get_or new n false ≡ is_live plan n) same own_is
    | inr more ↦ told.behind k more ∙ so_far.behind k (omega (arith, more)) below
  ]

  before_is : (k : ℕ) → k < i → get_or new k false ≡ is_used k i (drop i plan)
  before_is k below = told.before k below
      ∙ ap (λ b. ((is_store node.op || get_or marks i false) && names node.op k) || b) (used_at k (omega (arith, below)))
      ∙ ap (λ b. b || is_used k (i + 1) (drop (i + 1) plan)) (and_swapped (is_store node.op || get_or marks i false) (names node.op k))
      ∙ ap (λ b. (names node.op k && (is_store node.op || b)) || is_used k (i + 1) (drop (i + 1) plan)) (used_at i (omega arith))
      ∙ sym (ap (λ nodes. is_used k i nodes) behind_it)

  pub marked : AreMarks plan i new
  marked = record { size = told.size ∙ so_far.size; behind = behind_is; before = before_is }

-- ---- one node

none_above : (i k : ℕ) (inputs : List ℕ) → AllByRecursion (λ j. j < i) inputs → i ≤ k → list_any (λ j. j == k) inputs ≡ false
none_above i k [] h above = refl
none_above i k (j ∷ inputs) h above =
    let low = h.0 in
    ap (λ b. b || list_any (λ m. m == k) inputs) (ne_eqb j k (λ e. omega (arith, e, low, above))) ∙ none_above i k inputs h.1 above

other_one : (i k : ℕ) → (i ≡ k → ⊥) → (i == k) ≡ false
other_one i k h = ne_eqb i k h

or_true : (b : Bool) → (b || true) ≡ true
or_true true = refl
or_true false = refl

eq_itself : (i : ℕ) → (i == i) ≡ true
eq_itself i = (Decides-eqb i i).1 refl

-- a live node: it is marked, and then its inputs are
pub then_marked : (i : ℕ) (stores : Bool) (inputs : List ℕ) (old mid new : List Bool) → AllByRecursion (λ j. j < i) inputs → (stores || get_or old i false) ≡ true
    → length mid ≡ length old → ((k : ℕ) → get_or mid k false ≡ ((i == k) || get_or old k false))
    → length new ≡ length mid → ((k : ℕ) → get_or new k false ≡ (list_any (λ j. j == k) inputs || get_or mid k false)) → IsMarked i stores inputs old new
then_marked i stores inputs old mid new lower live size each size_again again = record {
  size = size_again ∙ size;
  own = again i ∙ ap (λ b. list_any (λ j. j == i) inputs || b) (each i ∙ ap (λ b. b || get_or old i false) (eq_itself i)) ∙ or_true (list_any (λ j. j == i) inputs) ∙ sym live;
  behind = λ k above.
      again k ∙ ap (λ b. b || get_or mid k false) (none_above i k inputs lower (omega (arith, above)))
      ∙ each k ∙ ap (λ b. b || get_or old k false) (other_one i k (λ e. omega (arith, e, above)));
  before = λ k below.
      again k ∙ ap (λ b. list_any (λ j. j == k) inputs || b) (each k ∙ ap (λ b. b || get_or old k false) (other_one i k (λ e. omega (arith, e, below))))
      ∙ sym (ap (λ b. (b && list_any (λ j. j == k) inputs) || get_or old k false) live);
}

-- ---- the numbers that are marked

pub range_more : (a n : ℕ) → range_with_len a (n + 1) ≡ range_with_len a n ++ (a + n) ∷ []
range_more a n = ap (range_with_len a) (add-one n) ∙ more a n
  where
    more : (a n : ℕ) → range_with_len a (suc n) ≡ range_with_len a n ++ (a + n) ∷ []
    more a zero = let e : a + zero ≡ a = omega arith in ap (λ k. k ∷ []) (sym e)
    more a (suc n) = let e : (a + 1) + n ≡ a + suc n = omega arith in ap (λ ks. a ∷ ks) (more (a + 1) n) ∙ ap (λ k. a ∷ range_with_len (a + 1) n ++ k ∷ []) e

pub one_kept : (p : ℕ → Bool) (numbers new : List ℕ) (n : ℕ) → numbers ≡ filter p (range_with_len 0 n) → new ≡ numbers ++ filter p (n ∷ []) → new ≡ filter p (range_with_len 0 (n + 1))
one_kept p numbers new n so_far is =
    is ∙ ap (λ ks. ks ++ filter p (n ∷ [])) so_far ∙ sym (filter-append p (range_with_len 0 n) (n ∷ []))
    ∙ ap (filter p) (let e : 0 + n ≡ n = omega arith in ap (λ k. range_with_len 0 n ++ k ∷ []) (sym e)) ∙ ap (filter p) (sym (range_more 0 n))

same_within : (p q : ℕ → Bool) (a n : ℕ) → ((k : ℕ) → a ≤ k → k < a + n → p k ≡ q k) → filter p (range_with_len a n) ≡ filter q (range_with_len a n)
same_within p q a zero h = refl
same_within p q a (suc n) h =
    ap (λ b. cond b (a ∷ filter p (range_with_len (a + 1) n)) (filter p (range_with_len (a + 1) n))) (h a (omega arith) (omega arith))
    ∙ ap (λ ks. cond (q a) (a ∷ ks) ks) (same_within p q (a + 1) n (λ k from below. h k (omega (arith, from)) (omega (arith, below))))

pub are_live : (plan : Plan) (marks : List Bool) (numbers : List ℕ) (n : ℕ) → AreMarks plan 0 marks → n ≡ length marks
    → numbers ≡ filter (λ k. get_or marks k false) (range_with_len 0 n) → numbers ≡ live plan
are_live plan marks numbers n told end so_far =
    so_far ∙ ap (λ m. filter (λ k. get_or marks k false) (range_with_len 0 m)) (end ∙ told.size)
    ∙ same_within (λ k. get_or marks k false) (is_live plan) 0 (length plan) (λ k from below. told.behind k from (omega (arith, below)))

-- a list by what stands at its places
by_places : (p : ℕ → Bool) (a n : ℕ) (marks : List Bool) → length marks ≡ n → ((k : ℕ) → k < n → get_or marks k false ≡ p (a + k)) → marks ≡ map p (range_with_len a n)
by_places p a zero [] size each = refl
by_places p a zero (b ∷ marks) size each = absurd (omega (arith, size))
by_places p a (suc n) [] size each = absurd (omega (arith, size))
by_places p a (suc n) (b ∷ marks) size each =
    let here : a + 0 ≡ a = omega arith in
    ap (λ c. c ∷ marks) (each 0 (omega arith) ∙ ap p here)
    ∙ ap (λ more. p a ∷ more) (by_places p (a + 1) n marks (omega (arith, size))
    (λ k below. each (suc k) (omega (arith, below)) ∙ (let e : a + suc k ≡ a + 1 + k = omega arith in ap p e)))

pub marks_are : (plan : Plan) (marks : List Bool) → AreMarks plan 0 marks → marks ≡ live_marks plan
marks_are plan marks told =
    by_places (is_live plan) 0 (length plan) marks told.size
    (λ k below. told.behind k (omega arith) below ∙ (let e : k ≡ 0 + k = omega arith in ap (is_live plan) e))
