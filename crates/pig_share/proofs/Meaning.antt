-- A plan that shares nodes means what the plan meant: its outputs, its first ASSERT that fails, and what its bare LIMITs may keep.
use Rattle.std.specs.Prelude.{◌≡◌, ◌≤◌, ◌<◌, ℕ, Bool, true, false, not, List, [], ◌∷◌, map, length, Option, Some, slice_get, refl}
use Rattle.std.proofs.Common.{ap, sym, ◌∙◌, subst, arith}
use Rattle.std.specs.List.{AllByRecursion, list_all}
use Rattle.std.proofs.lemmas.Option.{slice_get_within}
use Rattle.pig_value.proofs.list_laws.Indexing.{some_at}
use Rattle.pig_value.specs.declared.inputs.Input.{Input}
use Rattle.pig_value.specs.declared.outcomes.Kept.{Kept}
use Rattle.pig_value.specs.Trees.{Tree}
use Rattle.pig_typed.specs.Evaluation.{passes}
use Rattle.pig_typed.specs.Typed.{Typed}
use Rattle.pig_plan.proofs.Lower.{names_lower}
use Rattle.pig_plan.specs.Meaning.{AreKept, EachIsKept, IsKept, kept_at, meaning}
use Rattle.pig_plan.specs.Nodes.{inputs_of, is_list, is_live, is_sorted}
use Rattle.pig_plan.specs.Plans.{Plan, PlanNode, PlanOp, p_load, p_filter, p_foreach, p_group_all, p_group, p_join, p_union, p_distinct, p_order, p_limit, p_store, p_assert, p_rank}
use Rattle.pig_plan.specs.Renumbered.{IsSame, rename, renamed}
use Rattle.pig_plan.specs.Rewrites.{Fails, SameMeaning, Stores}
use Rattle.pig_plan.specs.Valid.{IsPlan, in_order}
use Rattle.pig_share.specs.Shared.{IsNamedBy, IsShared, apart_in}
use Rattle.pig_share.proofs.InOrder.{no_later_before}
use Rattle.pig_share.proofs.Limits.{limits_same, live_same}
use Rattle.pig_share.proofs.Living.{Back, back, stays_live, was_live}
use Rattle.pig_share.proofs.Shares.{first_there, its_own, lists_at, same_at, there}

-- ---- what an operator was before its inputs were mapped

abbrev on : ℕ → PlanOp → PlanOp
on n (p_limit input count) = p_limit n count
on n (p_store input path delim) = p_store n path delim
on n (p_assert input cond message) = p_assert n cond message
on n o = o

abbrev input_of : PlanOp → ℕ
input_of (p_limit input count) = input
input_of (p_store input path delim) = input
input_of (p_assert input cond message) = input
input_of o = 0

module _ (at : ℕ → ℕ) where
  pub was_limit : (o : PlanOp) (i count : ℕ) → rename at o ≡ p_limit i count → (j : ℕ) × (o ≡ p_limit j count) × (at j ≡ i)
  was_limit (p_limit j n) i count h = (j, ap (on j) h, ap input_of h)
  was_limit (p_load path delim columns) i count h = absurd (cc)
  was_limit (p_filter input c) i count h = absurd (cc)
  was_limit (p_foreach input block) i count h = absurd (cc)
  was_limit (p_group_all input) i count h = absurd (cc)
  was_limit (p_group inputs) i count h = absurd (cc)
  was_limit (p_join inputs side replicated) i count h = absurd (cc)
  was_limit (p_union inputs) i count h = absurd (cc)
  was_limit (p_distinct input) i count h = absurd (cc)
  was_limit (p_order input keys) i count h = absurd (cc)
  was_limit (p_store input path delim) i count h = absurd (cc)
  was_limit (p_assert input c message) i count h = absurd (cc)
  was_limit (p_rank input keys dense) i count h = absurd (cc)

  pub was_store : (o : PlanOp) (i : ℕ) (path : List ℕ) (delim : ℕ) → rename at o ≡ p_store i path delim → (j : ℕ) × (o ≡ p_store j path delim) × (at j ≡ i)
  was_store (p_store j p d) i path delim h = (j, ap (on j) h, ap input_of h)
  was_store (p_load p d columns) i path delim h = absurd (cc)
  was_store (p_filter input c) i path delim h = absurd (cc)
  was_store (p_foreach input block) i path delim h = absurd (cc)
  was_store (p_group_all input) i path delim h = absurd (cc)
  was_store (p_group inputs) i path delim h = absurd (cc)
  was_store (p_join inputs side replicated) i path delim h = absurd (cc)
  was_store (p_union inputs) i path delim h = absurd (cc)
  was_store (p_distinct input) i path delim h = absurd (cc)
  was_store (p_order input keys) i path delim h = absurd (cc)
  was_store (p_limit input count) i path delim h = absurd (cc)
  was_store (p_assert input c message) i path delim h = absurd (cc)
  was_store (p_rank input keys dense) i path delim h = absurd (cc)

  pub was_assert : (o : PlanOp) (i : ℕ) (test : Typed) (message : Option (List ℕ)) → rename at o ≡ p_assert i test message → (j : ℕ) × (o ≡ p_assert j test message) × (at j ≡ i)
  was_assert (p_assert j c m) i test message h = (j, ap (on j) h, ap input_of h)
  was_assert (p_load p d columns) i test message h = absurd (cc)
  was_assert (p_filter input c) i test message h = absurd (cc)
  was_assert (p_foreach input block) i test message h = absurd (cc)
  was_assert (p_group_all input) i test message h = absurd (cc)
  was_assert (p_group inputs) i test message h = absurd (cc)
  was_assert (p_join inputs side replicated) i test message h = absurd (cc)
  was_assert (p_union inputs) i test message h = absurd (cc)
  was_assert (p_distinct input) i test message h = absurd (cc)
  was_assert (p_order input keys) i test message h = absurd (cc)
  was_assert (p_limit input count) i test message h = absurd (cc)
  was_assert (p_store input path delim) i test message h = absurd (cc)
  was_assert (p_rank input keys dense) i test message h = absurd (cc)

module _ (p : Plan) (at : ℕ → ℕ) (valid : IsPlan p) (valid_q : IsPlan (map (renamed at) p)) (named : (k : ℕ) (v : PlanNode) → slice_get p k ≡ Some v → IsNamedBy p at k v) where
  abbrev node_with : PlanOp → ℕ → PlanNode
  node_with o statement = record { op = o; statement = statement }

  -- a node's only input, and what stands for it
  input_same : (inputs : List Input) (kept : List Kept) (k i : ℕ) (v : PlanNode) → slice_get p k ≡ Some v → i < k → IsSame p (map (renamed at) p) at inputs kept i
  input_same inputs kept k i v stands lower =
      let within : k < length p = slice_get_within p k v stands in
      let found = some_at p i (omega (arith, lower, within)) in
      same_at p at valid valid_q named inputs kept i found.0 found.1

  input_lists : (k i : ℕ) (v : PlanNode) → slice_get p k ≡ Some v → i < k → is_list (map (renamed at) p) (at i) ≡ is_list p i
  input_lists k i v stands lower =
      let within : k < length p = slice_get_within p k v stands in
      let found = some_at p i (omega (arith, lower, within)) in
      lists_at p at valid valid_q named i found.0 found.1

  -- a node of the shared plan that has one input, as it was
  record Was (k statement : ℕ) (o : PlanOp) : Type 0 where
    pub stands : slice_get p k ≡ Some (node_with o statement)
    pub lower : AllByRecursion (λ i. i < k) (inputs_of o)

  was : (k : ℕ) (w : PlanNode) (b : Back p at valid valid_q named k w) (o : PlanOp) → b.v.op ≡ o → Was k w.statement o
  was k w b o e =
      let stands : slice_get p k ≡ Some (node_with o w.statement) =
      b.stands ∙ (λ i. Some (node_with (e i) ((b.is i).statement))) in
      record { stands = stands; lower = names_lower p valid k (node_with o w.statement) stands }

  -- ---- what is kept

  each_on : (inputs : List Input) (kept : List Kept) → EachIsKept p inputs kept → EachIsKept (map (renamed at) p) inputs kept
  each_on inputs kept each k statement input count stands alive unsorted =
      let b : Back p at valid valid_q named k (node_with (p_limit input count) statement) = back p at valid valid_q named k (node_with (p_limit input count) statement) stands in
      let limit = was_limit at b.v.op input count (ap (λ w. w.op) b.is) in
      let own : Was k statement (p_limit limit.0 count) = was k (node_with (p_limit input count) statement) b (p_limit limit.0 count) limit.1 in
      let same : IsSame p (map (renamed at) p) at inputs kept limit.0 = input_same inputs kept k limit.0 (node_with (p_limit limit.0 count) statement) own.stands own.lower.0 in
      let bare : is_sorted p limit.0 ≡ false = sym same.sorted ∙ ap (is_sorted (map (renamed at) p)) limit.2 ∙ unsorted in
      let lives : is_live p k ≡ true = sym (live_same p at valid valid_q named k (node_with (p_limit limit.0 count) statement) own.stands (ap not bare)) ∙ alive in
      subst (λ rows. AreKept count rows (kept_at kept statement)) (sym same.rows ∙ ap (meaning (map (renamed at) p) inputs kept) limit.2)
      (each k statement limit.0 count own.stands lives bare)

  each_back : (inputs : List Input) (kept : List Kept) → EachIsKept (map (renamed at) p) inputs kept → EachIsKept p inputs kept
  each_back inputs kept each k statement input count stands alive unsorted =
      let v : PlanNode = node_with (p_limit input count) statement in
      let lower : AllByRecursion (λ i. i < k) (input ∷ []) = names_lower p valid k (node_with (p_limit input count) statement) stands in
      let same : IsSame p (map (renamed at) p) at inputs kept input = input_same inputs kept k input (node_with (p_limit input count) statement) stands lower.0 in
      let lives : is_live (map (renamed at) p) k ≡ true = live_same p at valid valid_q named k (node_with (p_limit input count) statement) stands (ap not unsorted) ∙ alive in
      subst (λ rows. AreKept count rows (kept_at kept statement)) same.rows
      (each k statement (at input) count (there p at valid valid_q named k (node_with (p_limit input count) statement) stands) lives (same.sorted ∙ unsorted))

  kept_same : (inputs : List Input) (kept : List Kept) → IsKept p inputs kept → IsKept (map (renamed at) p) inputs kept
  kept_same inputs kept h = record { entries = h.entries ∙ sym (limits_same p at valid valid_q named); each = each_on inputs kept h.each }

  kept_again : (inputs : List Input) (kept : List Kept) → IsKept (map (renamed at) p) inputs kept → IsKept p inputs kept
  kept_again inputs kept h = record { entries = h.entries ∙ limits_same p at valid valid_q named; each = each_back inputs kept h.each }

  -- ---- what is stored, and what fails

  own_rows : (inputs : List Input) (kept : List Kept) (k : ℕ) (v : PlanNode) → slice_get p k ≡ Some v → apart_in p v.op ≡ true
      → meaning (map (renamed at) p) inputs kept k ≡ meaning p inputs kept k
  own_rows inputs kept k v stands apart =
      ap (meaning (map (renamed at) p) inputs kept) (sym ((named k v stands).apart apart)) ∙ (same_at p at valid valid_q named inputs kept k v stands).rows

  stores_on : (inputs : List Input) (kept : List Kept) (path : List ℕ) (delim : ℕ) (rows : List (List Tree)) (listed : Bool) → Stores p inputs kept path delim rows listed → Stores (map (renamed at) p) inputs kept path delim rows listed
  stores_on inputs kept path delim rows listed s =
      let v : PlanNode = node_with (p_store s.input path delim) s.statement in
      let lower : AllByRecursion (λ i. i < s.node) (s.input ∷ []) = names_lower p valid s.node (node_with (p_store s.input path delim) s.statement) s.stands in
      record {
        node = s.node;
        input = at s.input;
        statement = s.statement;
        stands = there p at valid valid_q named s.node (node_with (p_store s.input path delim) s.statement) s.stands;
        rows_are = own_rows inputs kept s.node (node_with (p_store s.input path delim) s.statement) s.stands refl ∙ s.rows_are;
        list_is = input_lists s.node s.input (node_with (p_store s.input path delim) s.statement) s.stands lower.0 ∙ s.list_is;
      }

  stores_back : (inputs : List Input) (kept : List Kept) (path : List ℕ) (delim : ℕ) (rows : List (List Tree)) (listed : Bool) → Stores (map (renamed at) p) inputs kept path delim rows listed → Stores p inputs kept path delim rows listed
  stores_back inputs kept path delim rows listed s =
      let b : Back p at valid valid_q named s.node (node_with (p_store s.input path delim) s.statement) = back p at valid valid_q named s.node (node_with (p_store s.input path delim) s.statement) s.stands in
      let store = was_store at b.v.op s.input path delim (ap (λ w. w.op) b.is) in
      let own : Was s.node s.statement (p_store store.0 path delim) = was s.node (node_with (p_store s.input path delim) s.statement) b (p_store store.0 path delim) store.1 in
      record {
        node = s.node;
        input = store.0;
        statement = s.statement;
        stands = own.stands;
        rows_are = sym (own_rows inputs kept s.node (node_with (p_store store.0 path delim) s.statement) own.stands refl) ∙ s.rows_are;
        list_is = sym (input_lists s.node store.0 (node_with (p_store store.0 path delim) s.statement) own.stands own.lower.0) ∙ ap (is_list (map (renamed at) p)) store.2 ∙ s.list_is;
      }

  -- the ASSERT that stands for one has no later statement
  first_no_later : (k : ℕ) (v : PlanNode) (stands : slice_get p k ≡ Some v) → apart_in p v.op ≡ not (in_order p) → (named k v stands).first.statement ≤ v.statement
  first_no_later k v stands is = by_order (in_order p) refl
    where
      by_order : (b : Bool) → in_order p ≡ b → (named k v stands).first.statement ≤ v.statement
      by_order true e = no_later_before p e (at k) k (named k v stands).first v (named k v stands).early (named k v stands).stands stands
      by_order false e =
          let same : (named k v stands).first.statement ≡ v.statement = ap (λ n. n.statement) (its_own p at valid valid_q named k v stands (is ∙ ap not e)) in
          omega (arith, same)

  fails_on : (inputs : List Input) (kept : List Kept) (statement : ℕ) (f : Fails p inputs kept statement)
      → Fails (map (renamed at) p) inputs kept (named f.node (node_with (p_assert f.input f.cond f.message) statement) f.stands).first.statement
  fails_on inputs kept statement f =
      let lower : AllByRecursion (λ i. i < f.node) (f.input ∷ []) = names_lower p valid f.node (node_with (p_assert f.input f.cond f.message) statement) f.stands in
      let same : IsSame p (map (renamed at) p) at inputs kept f.input = input_same inputs kept f.node f.input (node_with (p_assert f.input f.cond f.message) statement) f.stands lower.0 in
      record {
        node = at f.node;
        input = at f.input;
        cond = f.cond;
        message = f.message;
        stands = first_there p at valid valid_q named f.node (node_with (p_assert f.input f.cond f.message) statement) f.stands;
        lives = stays_live p at valid valid_q named f.node (node_with (p_assert f.input f.cond f.message) statement) f.stands f.lives;
        unmet = ap (list_all (passes f.cond)) same.rows ∙ f.unmet;
      }

  fails_back : (inputs : List Input) (kept : List Kept) (statement : ℕ) → Fails (map (renamed at) p) inputs kept statement → Fails p inputs kept statement
  fails_back inputs kept statement f =
      let b : Back p at valid valid_q named f.node (node_with (p_assert f.input f.cond f.message) statement) = back p at valid valid_q named f.node (node_with (p_assert f.input f.cond f.message) statement) f.stands in
      let test = was_assert at b.v.op f.input f.cond f.message (ap (λ w. w.op) b.is) in
      let own : Was f.node statement (p_assert test.0 f.cond f.message) = was f.node (node_with (p_assert f.input f.cond f.message) statement) b (p_assert test.0 f.cond f.message) test.1 in
      let same : IsSame p (map (renamed at) p) at inputs kept test.0 = input_same inputs kept f.node test.0 (node_with (p_assert test.0 f.cond f.message) statement) own.stands own.lower.0 in
      record {
        node = f.node;
        input = test.0;
        cond = f.cond;
        message = f.message;
        stands = own.stands;
        lives = was_live p at valid valid_q named f.node (node_with (p_assert test.0 f.cond f.message) statement) own.stands f.lives;
        unmet = ap (list_all (passes f.cond)) (sym same.rows ∙ ap (meaning (map (renamed at) p) inputs kept) test.2) ∙ f.unmet;
      }

  pub means_the_same : SameMeaning p (map (renamed at) p)
  means_the_same = record {
    kept_on = kept_same;
    kept_back = kept_again;
    goes = λ inputs kept h. record {
      stores = stores_on inputs kept;
      fails = λ statement f. record {
        first = (named f.node (node_with (p_assert f.input f.cond f.message) statement) f.stands).first.statement;
        no_later = first_no_later f.node (node_with (p_assert f.input f.cond f.message) statement) f.stands refl;
        fails = fails_on inputs kept statement f;
      };
    };
    comes = λ inputs kept h. record {
      stores = stores_back inputs kept;
      fails = λ statement f. record { first = statement; no_later = omega arith; fails = fails_back inputs kept statement f };
    };
  }

pub shared_means : (p q : Plan) (at : ℕ → ℕ) → IsPlan p → IsPlan q → IsShared p q at → SameMeaning p q
shared_means p q at valid valid_q is =
    subst (SameMeaning p) (sym is.nodes) (means_the_same p at valid (subst IsPlan is.nodes valid_q) is.named)
