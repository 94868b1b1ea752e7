-- One node more: it is named, and the table and the made nodes keep what they are.
use Rattle.std.specs.Prelude.{◌≡◌, ◌<◌, ◌≤◌, ◌+◌, ℕ, zero, suc, true, false, List, [], ◌∷◌, ◌++◌, map, take, length, Some, slice_get, get_or, refl}
use Rattle.std.proofs.Common.{ap, sym, ◌∙◌, subst, arith, inl, inr, append_assoc, true≢false}
use Rattle.std.specs.List.{AllByRecursion}
use Rattle.std.proofs.Math.Nat.{eq-or-lt_of_le}
use Rattle.std.proofs.lemmas.List.{length-append, map-append}
use Rattle.pig_value.proofs.list_laws.Indexing.{more_taken}
use Rattle.pig_value.proofs.list_laws.Listing.{each_weaker, some_same}
use Rattle.pig_plan.proofs.Lower.{names_lower}
use Rattle.pig_plan.specs.Nodes.{inputs_of, is_live}
use Rattle.pig_plan.specs.Plans.{Keyed, Plan, PlanNode, PlanOp, p_load, p_filter, p_foreach, p_group_all, p_group, p_join, p_union, p_distinct, p_order, p_limit, p_store, p_assert, p_rank}
use Rattle.pig_plan.specs.Renumbered.{rename, rename_keyed, renamed}
use Rattle.pig_plan.specs.Valid.{IsPlan}
use Rattle.pig_share.specs.Shared.{IsNamedBy, apart_in}
use Rattle.pig_share.specs.Table.{IsFound, IsNumber, IsSoFar, at_of, earlier, none, other, own}

-- ---- tables

get_before : (xs ys : List ℕ) (i : ℕ) → i < length xs → get_or (xs ++ ys) i 0 ≡ get_or xs i 0
get_before [] ys i h = absurd (omega (arith, h))
get_before (x ∷ xs) ys zero h = refl
get_before (x ∷ xs) ys (suc i) h = get_before xs ys i (omega (arith, h))

get_there : (xs : List ℕ) (y : ℕ) (ys : List ℕ) (i : ℕ) → i ≡ length xs → get_or (xs ++ y ∷ ys) i 0 ≡ y
get_there [] y ys zero h = refl
get_there [] y ys (suc i) h = absurd (omega (arith, h))
get_there (x ∷ xs) y ys zero h = absurd (omega (arith, h))
get_there (x ∷ xs) y ys (suc i) h = get_there xs y ys i (omega (arith, h))

-- an operator over mapped inputs goes by the mapped inputs alone
module _ (f g : ℕ → ℕ) where
  abbrev Agree : List ℕ → Type 0
  Agree ns = AllByRecursion (λ i. f i ≡ g i) ns

  keyed_agree : (ks : List Keyed) → Agree (map (λ k. k.input) ks) → map (rename_keyed f) ks ≡ map (rename_keyed g) ks
  keyed_agree [] h = refl
  keyed_agree (k ∷ ks) h = λ j. record { input = h.0 j; keys = k.keys; inner = k.inner } ∷ keyed_agree ks h.1 j

  numbers_agree : (ns : List ℕ) → Agree ns → map f ns ≡ map g ns
  numbers_agree [] h = refl
  numbers_agree (n ∷ ns) h = λ j. h.0 j ∷ numbers_agree ns h.1 j

  pub rename_agrees : (o : PlanOp) → Agree (inputs_of o) → rename f o ≡ rename g o
  rename_agrees (p_load path delim columns) h = refl
  rename_agrees (p_filter input c) h = ap (λ i. p_filter i c) h.0
  rename_agrees (p_foreach input block) h = ap (λ i. p_foreach i block) h.0
  rename_agrees (p_group_all input) h = ap p_group_all h.0
  rename_agrees (p_group ks) h = ap p_group (keyed_agree ks h)
  rename_agrees (p_join ks side replicated) h = ap (λ ls. p_join ls side replicated) (keyed_agree ks h)
  rename_agrees (p_union ns) h = ap p_union (numbers_agree ns h)
  rename_agrees (p_distinct input) h = ap p_distinct h.0
  rename_agrees (p_order input keys) h = ap (λ i. p_order i keys) h.0
  rename_agrees (p_limit input count) h = ap (λ i. p_limit i count) h.0
  rename_agrees (p_store input path delim) h = ap (λ i. p_store i path delim) h.0
  rename_agrees (p_assert input c message) h = ap (λ i. p_assert i c message) h.0
  rename_agrees (p_rank input keys dense) h = ap (λ i. p_rank i keys dense) h.0

module _ (p : Plan) (valid : IsPlan p) (table : List ℕ) (made : Plan) (i : ℕ) (so_far : IsSoFar p table made i) (v : PlanNode) (stands : slice_get p i ≡ Some v) (n : ℕ)
    (number : IsNumber p table i v n) where
  abbrev later : List ℕ → ℕ → ℕ
  later more = at_of (table ++ n ∷ more)

  -- a node up to this one is renamed as the table so far does
  as_before : (more : List ℕ) (k : ℕ) (w : PlanNode) → k ≤ i → slice_get p k ≡ Some w → rename (later more) w.op ≡ rename (at_of table) w.op
  as_before more k w below at_k =
      let size = so_far.size in
      rename_agrees (later more) (at_of table) w.op
      (each_weaker (λ j. j < k) (λ j. later more j ≡ at_of table j)
      (λ j lower. get_before table (n ∷ more) j (omega (arith, lower, below, size)))
      (inputs_of w.op) (names_lower p valid k w at_k))

  own_number : (more : List ℕ) → later more i ≡ n
  own_number more = get_there table n more i (sym so_far.size)

  lower_number : (more : List ℕ) (j : ℕ) → j < i → later more j ≡ at_of table j
  lower_number more j lower = let size = so_far.size in get_before table (n ∷ more) j (omega (arith, lower, size))

  named_own : (more : List ℕ) → IsNumber p table i v n → IsNamedBy p (later more) i v
  named_own more (own is never) = record {
    first = v;
    stands = ap (slice_get p) (own_number more ∙ is) ∙ stands;
    same = refl;
    lives = λ alive. ap (is_live p) (own_number more ∙ is) ∙ alive;
    early = let e : later more i ≡ i = own_number more ∙ is in omega (arith, e);
    apart = λ h. own_number more ∙ is;
    free = λ h. h;
  }
  named_own more (other j w lower at_j alive_j free_j shareable same is) =
      let by : IsNamedBy p (later more) j w = so_far.named (n ∷ more) j w lower at_j in
      let here : later more i ≡ later more j = own_number more ∙ is ∙ sym (lower_number more j lower) in
      let early = by.early in
      record {
        first = by.first;
        stands = ap (slice_get p) here ∙ by.stands;
        same = by.same ∙ as_before more j w (omega (arith, lower)) at_j ∙ same ∙ sym (as_before more i v (omega arith) stands);
        lives = λ alive. ap (is_live p) here ∙ by.lives alive_j;
        early = omega (arith, here, early, lower);
        apart = λ h. absurd (true≢false (sym h ∙ shareable));
        free = λ h. by.free free_j;
      }

  -- a node before this one that does the same has the same number
  meets : (more : List ℕ) (j : ℕ) (w : PlanNode) → j < i → slice_get p j ≡ Some w → is_live p j ≡ true → is_live p i ≡ true → apart_in p w.op ≡ false → apart_in p v.op ≡ false
      → rename (later more) w.op ≡ rename (later more) v.op → IsNumber p table i v n → later more j ≡ later more i
  meets more j w lower at_j alive_j alive free_j shareable same (own is never) =
      absurd (never j w lower at_j alive_j alive free_j shareable (sym (as_before more j w (omega (arith, lower)) at_j) ∙ same ∙ as_before more i v (omega arith) stands))
  meets more j w lower at_j alive_j alive free_j shareable same (other k u below at_k alive_k free_k apart alike is) =
      so_far.one (n ∷ more) j k w u lower below at_j at_k alive_j alive_k free_j free_k
      (same ∙ as_before more i v (omega arith) stands ∙ sym alike ∙ sym (as_before more k u (omega (arith, below)) at_k))
      ∙ lower_number more k below ∙ sym is ∙ sym (own_number more)

  named_next : (more : List ℕ) (k : ℕ) (w : PlanNode) → k < i + 1 → slice_get p k ≡ Some w → IsNamedBy p (later more) k w
  named_next more k w below at_k = elim (eq-or-lt_of_le (let e : k ≤ i = omega (arith, below) in e)) [
    | inl same ↦ subst (λ m. IsNamedBy p (later more) m w) (sym same)
        (subst (IsNamedBy p (later more) i) (some_same v w (sym stands ∙ ap (slice_get p) (sym same) ∙ at_k)) (named_own more number))
    | inr lower ↦ so_far.named (n ∷ more) k w lower at_k
  ]

  abbrev Meet : List ℕ → ℕ → ℕ → Type 0
  Meet more j k = (u w : PlanNode) → slice_get p j ≡ Some u → slice_get p k ≡ Some w → is_live p j ≡ true → is_live p k ≡ true
      → apart_in p u.op ≡ false → apart_in p w.op ≡ false → rename (later more) u.op ≡ rename (later more) w.op → later more j ≡ later more k

  with_own : (more : List ℕ) (j : ℕ) → j < i → Meet more j i
  with_own more j lower u w at_j at_i alive_j alive free_j free same =
      let is : v ≡ w = some_same v w (sym stands ∙ at_i) in
      meets more j u lower at_j alive_j alive free_j (ap (λ x. apart_in p x.op) is ∙ free) (same ∙ ap (λ x. rename (later more) x.op) (sym is)) number

  own_with : (more : List ℕ) (k : ℕ) → k < i → Meet more i k
  own_with more k lower u w at_i at_k alive alive_k free free_k same = sym (with_own more k lower w u at_k at_i alive_k alive free_k free (sym same))

  one_next : (more : List ℕ) (j k : ℕ) → j < i + 1 → k < i + 1 → Meet more j k
  one_next more j k below_j below_k = elim (eq-or-lt_of_le (let e : j ≤ i = omega (arith, below_j) in e)) [
    | inl is_j ↦ elim (eq-or-lt_of_le (let e : k ≤ i = omega (arith, below_k) in e)) [
      | inl is_k ↦ λ u w a b c d e f g. ap (later more) (is_j ∙ sym is_k)
      | inr lower_k ↦ subst (λ m. Meet more m k) (sym is_j) (own_with more k lower_k)
    ]
    | inr lower_j ↦ elim (eq-or-lt_of_le (let e : k ≤ i = omega (arith, below_k) in e)) [
      | inl is_k ↦ subst (λ m. Meet more j m) (sym is_k) (with_own more j lower_j)
      | inr lower_k ↦ λ u w. so_far.one (n ∷ more) j k u w lower_j lower_k
    ]
  ]

  made_next : (more : List ℕ) → made ++ renamed (at_of table) v ∷ [] ≡ map (renamed (later more)) (take (i + 1) p)
  made_next more =
      (λ j. so_far.nodes (n ∷ more) j ++ record { op = sym (as_before more i v (omega arith) stands) j; statement = v.statement } ∷ [])
      ∙ sym (map-append (renamed (later more)) (take i p) (v ∷ []))
      ∙ ap (map (renamed (later more))) (sym (more_taken p i v stands))

  pub goes_on : IsSoFar p (table ++ n ∷ []) (made ++ renamed (at_of table) v ∷ []) (i + 1)
  goes_on =
      let size = so_far.size in
      let longer = length-append table (n ∷ []) in
      record {
        size = omega (arith, size, longer);
        nodes = λ more. subst (λ xs. made ++ renamed (at_of table) v ∷ [] ≡ map (renamed (at_of xs)) (take (i + 1) p)) (sym (append_assoc table (n ∷ []) more)) (made_next more);
        named = λ more k w below at_k. subst (λ xs. IsNamedBy p (at_of xs) k w) (sym (append_assoc table (n ∷ []) more)) (named_next more k w below at_k);
        one = λ more j k u w below_j below_k.
            subst (λ xs. slice_get p j ≡ Some u → slice_get p k ≡ Some w → is_live p j ≡ true → is_live p k ≡ true
            → apart_in p u.op ≡ false → apart_in p w.op ≡ false → rename (at_of xs) u.op ≡ rename (at_of xs) w.op → at_of xs j ≡ at_of xs k)
            (sym (append_assoc table (n ∷ []) more)) (one_next more j k below_j below_k u w);
      }

-- what is found before a node is a number for it
pub numbered : (p : Plan) (table : List ℕ) (i n : ℕ) (v : PlanNode) → slice_get p i ≡ Some v → IsFound p table i n → IsNumber p table i v n
numbered p table i n v stands (none is never) = own is (λ j w lower at_j alive_j alive free_j free same. never j lower (record {
  v = v;
  w = w;
  stands_i = stands;
  stands_j = at_j;
  lives_i = alive;
  lives_j = alive_j;
  free_i = free;
  free_j = free_j;
  same = same;
}))
numbered p table i n v stands (earlier j lower d is) =
    let e : d.v ≡ v = some_same d.v v (sym d.stands_i ∙ stands) in
    other j d.w lower d.stands_j d.lives_j d.free_j (ap (λ x. apart_in p x.op) (sym e) ∙ d.free_i) (d.same ∙ ap (λ x. rename (at_of table) x.op) e) is
