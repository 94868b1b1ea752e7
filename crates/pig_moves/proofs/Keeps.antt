-- A plan in which nodes were changed in place means what it meant, where each live node but those that are gone gives what it gave, and its ends
-- (LIMITs, STOREs, ASSERTs) are as they were.
use Rattle.std.specs.Prelude.{◌≡◌, ◌<◌, ◌⊎◌, ℕ, Bool, true, false, not, List, [], ◌∷◌, ◌++◌, map, length, Option, Some, None, slice_get, refl}
use Rattle.std.proofs.Common.{ap, sym, ◌∙◌, subst, arith, true≢false, inl, inr}
use Rattle.std.specs.List.{AllByRecursion, list_all, range_with_len}
use Rattle.std.proofs.lemmas.Option.{none-some}
use Rattle.pig_value.proofs.list_laws.Indexing.{some_at}
use Rattle.pig_value.proofs.list_laws.Listing.{some_same}
use Rattle.pig_value.specs.declared.inputs.Input.{Input}
use Rattle.pig_value.specs.declared.outcomes.Kept.{Kept}
use Rattle.pig_value.specs.Trees.{Tree}
use Rattle.pig_typed.specs.Evaluation.{passes}
use Rattle.pig_plan.proofs.Lower.{names_lower}
use Rattle.pig_plan.proofs.Meanings.{each_both, live_input, live_within, named_each}
use Rattle.pig_plan.specs.Meaning.{AreKept, EachIsKept, IsKept, kept_at}
use Rattle.pig_plan.specs.Nodes.{bare_limits, inputs_of, is_bare, is_list, is_live, is_sorted, names}
use Rattle.pig_plan.specs.Plans.{Plan, PlanNode, PlanOp, p_load, p_filter, p_foreach, p_group_all, p_group, p_join, p_union, p_distinct, p_order, p_limit, p_store, p_assert, p_rank}
use Rattle.pig_plan.specs.Renumbered.{IsSame}
use Rattle.pig_plan.specs.Rewrites.{Fails, SameMeaning, Stores}
use Rattle.pig_plan.specs.Valid.{IsPlan}
use Rattle.pig_plan.proofs.Living.{store_lives}
use Rattle.pig_plan.proofs.BareListed.{adds, is_bare_one, listing, next, not_bare}

abbrev pub is_end : PlanOp → Bool
is_end (p_limit input count) = true
is_end (p_store input path delim) = true
is_end (p_assert input cond message) = true
is_end o = false

not_bare_op : (sorted : ℕ → Bool) (o : PlanOp) → is_end o ≡ false → is_bare sorted o ≡ false
not_bare_op sorted (p_limit input count) h = absurd (true≢false h)
not_bare_op sorted (p_load path delim columns) h = refl
not_bare_op sorted (p_filter input c) h = refl
not_bare_op sorted (p_foreach input block) h = refl
not_bare_op sorted (p_group_all input) h = refl
not_bare_op sorted (p_group inputs) h = refl
not_bare_op sorted (p_join inputs side replicated) h = refl
not_bare_op sorted (p_union inputs) h = refl
not_bare_op sorted (p_distinct input) h = refl
not_bare_op sorted (p_order input keys) h = refl
not_bare_op sorted (p_store input path delim) h = refl
not_bare_op sorted (p_assert input c message) h = refl
not_bare_op sorted (p_rank input keys dense) h = refl

-- whether it is bare goes by whether its inputs are sorted
pub bare_goes : (f g : ℕ → Bool) (o : PlanOp) → AllByRecursion (λ i. f i ≡ g i) (inputs_of o) → is_bare f o ≡ is_bare g o
bare_goes f g (p_limit input count) h = ap not h.0
bare_goes f g (p_load path delim columns) h = refl
bare_goes f g (p_filter input c) h = refl
bare_goes f g (p_foreach input block) h = refl
bare_goes f g (p_group_all input) h = refl
bare_goes f g (p_group inputs) h = refl
bare_goes f g (p_join inputs side replicated) h = refl
bare_goes f g (p_union inputs) h = refl
bare_goes f g (p_distinct input) h = refl
bare_goes f g (p_order input keys) h = refl
bare_goes f g (p_store input path delim) h = refl
bare_goes f g (p_assert input c message) h = refl
bare_goes f g (p_rank input keys dense) h = refl

abbrev pub node_with : PlanOp → ℕ → PlanNode
node_with o statement = record { op = o; statement = statement }

-- the inputs of a live node are live, and stand before it
pub record IsInput (p : Plan) (n i : ℕ) : Type 0 where
  pub lower : i < n
  pub name : (v : PlanNode) → slice_get p n ≡ Some v → names v.op i ≡ true
  pub node : PlanNode
  pub stands : slice_get p i ≡ Some node
  pub lives : is_live p i ≡ true

pub inputs_live : (p : Plan) → IsPlan p → (n : ℕ) (v : PlanNode) → slice_get p n ≡ Some v → is_live p n ≡ true → AllByRecursion (IsInput p n) (inputs_of v.op)
inputs_live p valid n v stands alive =
    each_both (λ i. i < n) (λ i. names v.op i ≡ true) (IsInput p n)
    (λ i lower name.
    let within : n < length p = live_within p n alive in
    let found = some_at p i (omega (arith, lower, within)) in
    record {
      lower = lower;
      name = λ w at. ap (λ u. names u.op i) (some_same w v (sym at ∙ stands)) ∙ name;
      node = found.0;
      stands = found.1;
      lives = live_input p n v stands alive i lower found.0 found.1 name;
    })
    (inputs_of v.op) (names_lower p valid n v stands) (named_each (inputs_of v.op) (inputs_of v.op) (λ i e. e))

-- what was kept is valid for the one plan, or for the other
abbrev pub Allowed : Plan → Plan → List Input → List Kept → Type 0
Allowed p q inputs kept = EachIsKept p inputs kept ⊎ EachIsKept q inputs kept

module _ (p q : Plan) (gone : ℕ → Bool) where
  pub record StaysEnd (n : ℕ) (v : PlanNode) : Type 0 where
    pub there : slice_get q n ≡ Some v
    pub lives : is_live q n ≡ true
    pub inputs : AllByRecursion (λ i. gone i ≡ false) (inputs_of v.op)

  pub record Keeps : Type 0 where
    pub size : length q ≡ length p
    pub same : (inputs : List Input) (kept : List Kept) → Allowed p q inputs kept → (n : ℕ) (v : PlanNode) → slice_get p n ≡ Some v → is_live p n ≡ true → gone n ≡ false
        → IsSame p q (λ k. k) inputs kept n
    pub sorted : (n : ℕ) (v : PlanNode) → slice_get p n ≡ Some v → is_live p n ≡ true → gone n ≡ false → is_sorted q n ≡ is_sorted p n
    pub lists : (n : ℕ) (v : PlanNode) → slice_get p n ≡ Some v → is_live p n ≡ true → gone n ≡ false → is_list q n ≡ is_list p n
    pub stays : (n : ℕ) (v : PlanNode) → slice_get p n ≡ Some v → is_live p n ≡ true → is_end v.op ≡ true → StaysEnd n v
    pub came : (n : ℕ) (w : PlanNode) → slice_get q n ≡ Some w → is_live q n ≡ true → is_end w.op ≡ true → (slice_get p n ≡ Some w) × (is_live p n ≡ true)

module _ (p q : Plan) (valid : IsPlan p) (gone : ℕ → Bool) (k : Keeps p q gone) where
  record InputSame (inputs : List Input) (kept : List Kept) (i : ℕ) : Type 0 where
    pub same : IsSame p q (λ n. n) inputs kept i
    pub listed : is_list q i ≡ is_list p i

  inputs_same : (inputs : List Input) (kept : List Kept) → Allowed p q inputs kept → (n : ℕ) (v : PlanNode) → slice_get p n ≡ Some v → is_live p n ≡ true → is_end v.op ≡ true
      → AllByRecursion (InputSame inputs kept) (inputs_of v.op)
  inputs_same inputs kept allowed n v stands alive e =
      each_both (IsInput p n) (λ i. gone i ≡ false) (InputSame inputs kept)
      (λ i input stays. record {
        same = k.same inputs kept allowed i input.node input.stands input.lives stays;
        listed = k.lists i input.node input.stands input.lives stays;
      })
      (inputs_of v.op) (inputs_live p valid n v stands alive) (k.stays n v stands alive e).inputs

  -- ---- what is kept

  each_on : (inputs : List Input) (kept : List Kept) → EachIsKept p inputs kept → EachIsKept q inputs kept
  each_on inputs kept each n statement input count there alive unsorted =
      let was = k.came n (node_with (p_limit input count) statement) there alive refl in
      let same : AllByRecursion (InputSame inputs kept) (input ∷ []) = inputs_same inputs kept (inl each) n (node_with (p_limit input count) statement) was.0 was.1 refl in
      subst (λ rows. AreKept count rows (kept_at kept statement)) (sym same.0.same.rows)
      (each n statement input count was.0 was.1 (sym same.0.same.sorted ∙ unsorted))

  each_back : (inputs : List Input) (kept : List Kept) → EachIsKept q inputs kept → EachIsKept p inputs kept
  each_back inputs kept each n statement input count stands alive unsorted =
      let end : StaysEnd p q gone n (node_with (p_limit input count) statement) = k.stays n (node_with (p_limit input count) statement) stands alive refl in
      let same : AllByRecursion (InputSame inputs kept) (input ∷ []) = inputs_same inputs kept (inr each) n (node_with (p_limit input count) statement) stands alive refl in
      subst (λ rows. AreKept count rows (kept_at kept statement)) same.0.same.rows
      (each n statement input count end.there end.lives (same.0.same.sorted ∙ unsorted))

  abbrev bare_p : PlanNode → Bool
  bare_p node = is_bare (is_sorted p) node.op

  abbrev bare_q : PlanNode → Bool
  bare_q node = is_bare (is_sorted q) node.op

  abbrev statement_of : PlanNode → ℕ
  statement_of node = node.statement

  -- what is no live end adds nothing
  nothing : (r : Plan) (n : ℕ) (b : Bool) (o : Option PlanNode) → is_live r n ≡ b → slice_get r n ≡ o
      → ((w : PlanNode) → slice_get r n ≡ Some w → is_live r n ≡ true → is_end w.op ≡ true → ⊥)
      → adds (is_live r) (slice_get r) (λ node. is_bare (is_sorted r) node.op) statement_of b o ≡ []
  nothing r n false o e f never = refl
  nothing r n true None e f never = refl
  nothing r n true (Some w) e f never = by_end (is_end w.op) refl
    where
      by_end : (b : Bool) → is_end w.op ≡ b → adds (is_live r) (slice_get r) (λ node. is_bare (is_sorted r) node.op) statement_of true (Some w) ≡ []
      by_end true g = absurd (never w f e g)
      by_end false g = not_bare (is_live r) (slice_get r) (λ node. is_bare (is_sorted r) node.op) statement_of true w (not_bare_op (is_sorted r) w.op g)

  abbrev adds_p : Bool → Option PlanNode → List ℕ
  adds_p b o = adds (is_live p) (slice_get p) bare_p statement_of b o

  abbrev adds_q : Bool → Option PlanNode → List ℕ
  adds_q b o = adds (is_live q) (slice_get q) bare_q statement_of b o

  same_bare : (n : ℕ) (v : PlanNode) → slice_get p n ≡ Some v → is_live p n ≡ true → is_end v.op ≡ true → is_bare (is_sorted q) v.op ≡ is_bare (is_sorted p) v.op
  same_bare n v stands alive e =
      bare_goes (is_sorted q) (is_sorted p) v.op
      (each_both (IsInput p n) (λ i. gone i ≡ false) (λ i. is_sorted q i ≡ is_sorted p i) (λ i input stays. k.sorted i input.node input.stands input.lives stays)
      (inputs_of v.op) (inputs_live p valid n v stands alive) (k.stays n v stands alive e).inputs)

  one_same : (n : ℕ) (v : PlanNode) (b c : Bool) → b ≡ c → bare_q v ≡ b → bare_p v ≡ c → adds_q true (Some v) ≡ adds_p true (Some v)
  one_same n v true true e f g =
      is_bare_one (is_live q) (slice_get q) bare_q statement_of v f ∙ sym (is_bare_one (is_live p) (slice_get p) bare_p statement_of v g)
  one_same n v false false e f g =
      not_bare (is_live q) (slice_get q) bare_q statement_of true v f ∙ sym (not_bare (is_live p) (slice_get p) bare_p statement_of true v g)
  one_same n v true false e f g = absurd (true≢false e)
  one_same n v false true e f g = absurd (true≢false (sym e))

  adds_same : (n : ℕ) (b : Bool) (o : Option PlanNode) → is_live p n ≡ b → slice_get p n ≡ o → adds_q (is_live q n) (slice_get q n) ≡ adds_p (is_live p n) (slice_get p n)
  adds_same n false o e f =
      nothing q n (is_live q n) (slice_get q n) refl refl (λ w there alive g. true≢false (sym (k.came n w there alive g).1 ∙ e))
      ∙ sym (nothing p n (is_live p n) (slice_get p n) refl refl (λ w there alive g. true≢false (sym alive ∙ e)))
  adds_same n true None e f =
      nothing q n (is_live q n) (slice_get q n) refl refl (λ w there alive g. none-some w (sym f ∙ (k.came n w there alive g).0))
      ∙ sym (nothing p n (is_live p n) (slice_get p n) refl refl (λ w there alive g. none-some w (sym f ∙ there)))
  adds_same n true (Some v) e f = by_end (is_end v.op) refl
    where
      by_end : (b : Bool) → is_end v.op ≡ b → adds_q (is_live q n) (slice_get q n) ≡ adds_p (is_live p n) (slice_get p n)
      by_end true g =
          let end : StaysEnd p q gone n v = k.stays n v f e g in
          (λ i. adds_q (end.lives i) (end.there i))
          ∙ one_same n v (bare_q v) (bare_p v) (same_bare n v f e g) refl refl
          ∙ (λ i. adds_p (sym e i) (sym f i))
      by_end false g =
          nothing q n (is_live q n) (slice_get q n) refl refl
          (λ w there alive h. true≢false (sym h ∙ ap (λ u. is_end u.op) (some_same w v (sym (k.came n w there alive h).0 ∙ f)) ∙ g))
          ∙ sym (nothing p n (is_live p n) (slice_get p n) refl refl
          (λ w there alive h. true≢false (sym h ∙ ap (λ u. is_end u.op) (some_same w v (sym there ∙ f)) ∙ g)))

  listed_same : (ns : List ℕ) → listing (is_live q) (slice_get q) bare_q statement_of ns ≡ listing (is_live p) (slice_get p) bare_p statement_of ns
  listed_same [] = refl
  listed_same (n ∷ ns) =
      next (is_live q) (slice_get q) bare_q statement_of n ns
      ∙ (λ j. adds_same n (is_live p n) (slice_get p n) refl refl j ++ listed_same ns j)
      ∙ sym (next (is_live p) (slice_get p) bare_p statement_of n ns)

  limits_same : map (λ node. node.statement) (bare_limits q) ≡ map (λ node. node.statement) (bare_limits p)
  limits_same =
      ap (λ n. listing (is_live q) (slice_get q) bare_q statement_of (range_with_len 0 n)) k.size
      ∙ listed_same (range_with_len 0 (length p))

  kept_on : (inputs : List Input) (kept : List Kept) → IsKept p inputs kept → IsKept q inputs kept
  kept_on inputs kept h = record { entries = h.entries ∙ sym limits_same; each = each_on inputs kept h.each }

  kept_back : (inputs : List Input) (kept : List Kept) → IsKept q inputs kept → IsKept p inputs kept
  kept_back inputs kept h = record { entries = h.entries ∙ limits_same; each = each_back inputs kept h.each }

  -- ---- what is stored, and what fails

  module _ (stay : (n : ℕ) (v : PlanNode) → slice_get p n ≡ Some v → is_live p n ≡ true → is_end v.op ≡ true → gone n ≡ false) where
    stores_on : (inputs : List Input) (kept : List Kept) → Allowed p q inputs kept → (path : List ℕ) (delim : ℕ) (rows : List (List Tree)) (listed : Bool) → Stores p inputs kept path delim rows listed → Stores q inputs kept path delim rows listed
    stores_on inputs kept allowed path delim rows listed s =
        let alive : is_live p s.node ≡ true = store_lives p s.node (node_with (p_store s.input path delim) s.statement) s.stands refl in
        let end : StaysEnd p q gone s.node (node_with (p_store s.input path delim) s.statement) = k.stays s.node (node_with (p_store s.input path delim) s.statement) s.stands alive refl in
        let same : AllByRecursion (InputSame inputs kept) (s.input ∷ []) = inputs_same inputs kept allowed s.node (node_with (p_store s.input path delim) s.statement) s.stands alive refl in
        let own : IsSame p q (λ n. n) inputs kept s.node =
        k.same inputs kept allowed s.node (node_with (p_store s.input path delim) s.statement) s.stands alive (stay s.node (node_with (p_store s.input path delim) s.statement) s.stands alive refl) in
        record {
          node = s.node;
          input = s.input;
          statement = s.statement;
          stands = end.there;
          rows_are = own.rows ∙ s.rows_are;
          list_is = same.0.listed ∙ s.list_is;
        }

    stores_back : (inputs : List Input) (kept : List Kept) → Allowed p q inputs kept → (path : List ℕ) (delim : ℕ) (rows : List (List Tree)) (listed : Bool) → Stores q inputs kept path delim rows listed → Stores p inputs kept path delim rows listed
    stores_back inputs kept allowed path delim rows listed s =
        let was = k.came s.node (node_with (p_store s.input path delim) s.statement) s.stands (store_lives q s.node (node_with (p_store s.input path delim) s.statement) s.stands refl) refl in
        let same : AllByRecursion (InputSame inputs kept) (s.input ∷ []) = inputs_same inputs kept allowed s.node (node_with (p_store s.input path delim) s.statement) was.0 was.1 refl in
        let own : IsSame p q (λ n. n) inputs kept s.node =
        k.same inputs kept allowed s.node (node_with (p_store s.input path delim) s.statement) was.0 was.1 (stay s.node (node_with (p_store s.input path delim) s.statement) was.0 was.1 refl) in
        record {
          node = s.node;
          input = s.input;
          statement = s.statement;
          stands = was.0;
          rows_are = sym own.rows ∙ s.rows_are;
          list_is = sym same.0.listed ∙ s.list_is;
        }

    fails_on : (inputs : List Input) (kept : List Kept) → Allowed p q inputs kept → (statement : ℕ) → Fails p inputs kept statement → Fails q inputs kept statement
    fails_on inputs kept allowed statement f =
        let end : StaysEnd p q gone f.node (node_with (p_assert f.input f.cond f.message) statement) = k.stays f.node (node_with (p_assert f.input f.cond f.message) statement) f.stands f.lives refl in
        let same : AllByRecursion (InputSame inputs kept) (f.input ∷ []) = inputs_same inputs kept allowed f.node (node_with (p_assert f.input f.cond f.message) statement) f.stands f.lives refl in
        record {
          node = f.node;
          input = f.input;
          cond = f.cond;
          message = f.message;
          stands = end.there;
          lives = end.lives;
          unmet = ap (list_all (passes f.cond)) same.0.same.rows ∙ f.unmet;
        }

    fails_back : (inputs : List Input) (kept : List Kept) → Allowed p q inputs kept → (statement : ℕ) → Fails q inputs kept statement → Fails p inputs kept statement
    fails_back inputs kept allowed statement f =
        let was = k.came f.node (node_with (p_assert f.input f.cond f.message) statement) f.stands f.lives refl in
        let same : AllByRecursion (InputSame inputs kept) (f.input ∷ []) = inputs_same inputs kept allowed f.node (node_with (p_assert f.input f.cond f.message) statement) was.0 was.1 refl in
        record {
          node = f.node;
          input = f.input;
          cond = f.cond;
          message = f.message;
          stands = was.0;
          lives = was.1;
          unmet = ap (list_all (passes f.cond)) (sym same.0.same.rows) ∙ f.unmet;
        }

    pub keeps_meaning : SameMeaning p q
    keeps_meaning = record {
      kept_on = kept_on;
      kept_back = kept_back;
      goes = λ inputs kept h. record {
        stores = stores_on inputs kept (inl h.each);
        fails = λ statement f. record { first = statement; no_later = omega arith; fails = fails_on inputs kept (inl h.each) statement f };
      };
      comes = λ inputs kept h. record {
        stores = stores_back inputs kept (inr h.each);
        fails = λ statement f. record { first = statement; no_later = omega arith; fails = fails_back inputs kept (inr h.each) statement f };
      };
    }
