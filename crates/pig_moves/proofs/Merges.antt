-- A FILTER becomes one with the FILTER that it alone reads: the nodes are a plan still, and no two nodes read what no two did.
use Rattle.std.specs.Prelude.{◌≡◌, ◌<◌, ◌+◌, ◌&&◌, ◌||◌, not, ℕ, zero, suc, Bool, true, false, List, [], ◌∷◌, ◌++◌, length, take, Option, Some, None, slice_get, slice_set, refl}
use Rattle.std.proofs.Common.{ap, sym, ◌∙◌, subst, arith, cond, true≢false}
use Rattle.std.specs.List.{AllByRecursion, list_any}
use Rattle.std.specs.Option.{is_some, option_and_then, option_map_or, unwrap_or}
use Rattle.std.proofs.lemmas.Option.{none-some, slice_get_within}
use Rattle.pig_value.proofs.KindLaws.{kind_same}
use Rattle.pig_value.proofs.list_laws.Listing.{each-append, some_same}
use Rattle.pig_value.specs.declared.operators.ChainOp.TheVariants as op
use Rattle.pig_value.specs.Kinds.{kind_eq}
use Rattle.pig_value.specs.Trees.{KindTree, k_boolean}
use Rattle.pig_typed.specs.ExprKinds.{chain_kind, expr_kind, links_kind, truth_kind}
use Rattle.pig_typed.specs.Typed.{Typed, TypedLinks, x_null, x_bool, x_int, x_long, x_chars, x_field, x_local, x_chain, x_compare, x_is_null, x_not, x_minus, x_choose, x_cast, x_project, x_look, x_call, no_links, more_links}
use Rattle.pig_plan.proofs.Exchanged.{changed_plan}
use Rattle.pig_plan.proofs.Exchanged.{set_other, set_there}
use Rattle.pig_plan.proofs.Lower.{names_lower}
use Rattle.pig_plan.proofs.Unfolds.{before_is, length-results}
use Rattle.pig_plan.specs.Conjuncts.{all_and, conjuncts, link_conjuncts}
use Rattle.pig_plan.specs.Exchanged.{MayStand}
use Rattle.pig_plan.specs.NodeKinds.{RowKinds, is_test, kinds_at, kinds_step, kinds_table, node_gives, only_if, tested_gives}
use Rattle.pig_plan.specs.Nodes.{IsOnlyUse}
use Rattle.pig_plan.specs.Plans.{Plan, PlanNode, p_load, p_filter}
use Rattle.pig_plan.specs.Results.{at_place}
use Rattle.pig_plan.specs.Valid.{IsPlan, is_twin, op_writes_lf}
use Rattle.pig_plan.specs.Written.{links_write_lf, writes_lf}
use Rattle.pig_moves.specs.Pushed.{and_links, chained, conjoined}
use Rattle.pig_moves.proofs.Keeps.{node_with}
use Rattle.pig_moves.proofs.Kept.{filter_kinds, gives_some}

-- ---- conditions joined are a condition

truth_both : (k l n : KindTree) → truth_kind k l ≡ Some n → (k ≡ k_boolean) × (l ≡ k_boolean) × (n ≡ k_boolean)
truth_both k_boolean k_boolean n h = (refl, refl, sym (some_same k_boolean n h))
truth_both k l n h = absurd (cc)

module _ (row : RowKinds) where
  abbrev IsBool : Typed → Type 0
  IsBool c = expr_kind c row [] ≡ Some k_boolean

  abbrev AllBool : List Typed → Type 0
  AllBool cs = AllByRecursion IsBool cs

  bool_of : (c : Typed) → is_test row c ≡ true → IsBool c
  bool_of c h = by_kind (expr_kind c row []) h
    where
      by_kind : (o : Option KindTree) → option_map_or (kind_eq k_boolean) o false ≡ true → o ≡ Some k_boolean
      by_kind None e = absurd (true≢false (sym e))
      by_kind (Some k) e = ap Some (sym (kind_same k_boolean k e))

  test_of : (c : Typed) → IsBool c → is_test row c ≡ true
  test_of c h = ap (λ o. option_map_or (kind_eq k_boolean) o false) h

  -- a link's own kind, where the chain is boolean
  link_bool : (k : KindTree) (o : Option KindTree) (links : TypedLinks) → option_and_then (λ l. option_and_then (λ n. links_kind n links row []) (truth_kind k l)) o ≡ Some k_boolean
      → ((n : KindTree) → links_kind n links row [] ≡ Some k_boolean → (n ≡ k_boolean) × AllBool (link_conjuncts links)) → (k ≡ k_boolean) × (o ≡ Some k_boolean) × AllBool (link_conjuncts links)
  link_bool k None links h rest = absurd (none-some k_boolean h)
  link_bool k (Some l) links h rest = by_truth (truth_kind k l) refl h
    where
      by_truth : (t : Option KindTree) → truth_kind k l ≡ t → option_and_then (λ n. links_kind n links row []) t ≡ Some k_boolean → (k ≡ k_boolean) × (Some l ≡ Some k_boolean) × AllBool (link_conjuncts links)
      by_truth None e g = absurd (none-some k_boolean g)
      by_truth (Some n) e g = let both = truth_both k l n e in (both.0, ap Some both.1, (rest n g).1)

  chain_bool : (o : Option KindTree) (first : Typed) (links : TypedLinks) (b : Bool) → all_and links ≡ b → expr_kind first row [] ≡ o → IsBool (x_chain first links)
      → option_and_then (λ k. links_kind k links row []) o ≡ Some k_boolean → (IsBool first → AllBool (conjuncts first))
      → (all_and links ≡ true → (k : KindTree) → links_kind k links row [] ≡ Some k_boolean → (k ≡ k_boolean) × AllBool (link_conjuncts links))
      → AllBool (cond b (conjuncts first ++ link_conjuncts links) (x_chain first links ∷ []))
  chain_bool None first links b e is whole h front rest = absurd (none-some k_boolean h)
  chain_bool (Some k) first links false e is whole h front rest = (whole, tt)
  chain_bool (Some k) first links true e is whole h front rest =
      let both = rest e k h in
      each-append IsBool (conjuncts first) (link_conjuncts links) (front (is ∙ ap Some both.0)) both.1

  mutual
    conjuncts_bool : (e : Typed) → IsBool e → AllBool (conjuncts e)
    conjuncts_bool (x_chain first links) h = chain_bool (expr_kind first row []) first links (all_and links) refl refl h h (conjuncts_bool first) (links_bool links)
    conjuncts_bool x_null h = (h, tt)
    conjuncts_bool (x_bool b) h = (h, tt)
    conjuncts_bool (x_int z) h = (h, tt)
    conjuncts_bool (x_long z) h = (h, tt)
    conjuncts_bool (x_chars text) h = (h, tt)
    conjuncts_bool (x_field n) h = (h, tt)
    conjuncts_bool (x_local n) h = (h, tt)
    conjuncts_bool (x_compare r a b) h = (h, tt)
    conjuncts_bool (x_is_null a negated) h = (h, tt)
    conjuncts_bool (x_not a) h = (h, tt)
    conjuncts_bool (x_minus a) h = (h, tt)
    conjuncts_bool (x_choose test a b) h = (h, tt)
    conjuncts_bool (x_cast to a) h = (h, tt)
    conjuncts_bool (x_project a ns single) h = (h, tt)
    conjuncts_bool (x_look a key) h = (h, tt)
    conjuncts_bool (x_call function args) h = (h, tt)

    links_bool : (links : TypedLinks) → all_and links ≡ true → (k : KindTree) → links_kind k links row [] ≡ Some k_boolean → (k ≡ k_boolean) × AllBool (link_conjuncts links)
    links_bool no_links h k e = (some_same k k_boolean e, tt)
    links_bool (more_links op.And a links) h k e = by_link (link_bool k (expr_kind a row []) links e (links_bool links h)) (conjuncts_bool a)
      where
        by_link : (k ≡ k_boolean) × (expr_kind a row [] ≡ Some k_boolean) × AllBool (link_conjuncts links) → (IsBool a → AllBool (conjuncts a))
            → (k ≡ k_boolean) × AllBool (conjuncts a ++ link_conjuncts links)
        by_link three own = (three.0, each-append IsBool (conjuncts a) (link_conjuncts links) (own three.1) three.2)
    links_bool (more_links op.Or a links) h k e = absurd (true≢false (sym h))
    links_bool (more_links op.Add a links) h k e = absurd (true≢false (sym h))
    links_bool (more_links op.Sub a links) h k e = absurd (true≢false (sym h))
    links_bool (more_links op.Mul a links) h k e = absurd (true≢false (sym h))
    links_bool (more_links op.Div a links) h k e = absurd (true≢false (sym h))
    links_bool (more_links op.Rem a links) h k e = absurd (true≢false (sym h))

  and_bool : (cs : List Typed) → AllBool cs → links_kind k_boolean (and_links cs) row [] ≡ Some k_boolean
  and_bool [] h = refl
  and_bool (c ∷ cs) h = ap (λ o. option_and_then (λ l. option_and_then (λ n. links_kind n (and_links cs) row []) (chain_kind op.And k_boolean l)) o) h.0 ∙ and_bool cs h.1

  chained_bool : (cs : List Typed) → AllBool cs → IsBool (chained cs)
  chained_bool [] h = refl
  chained_bool (c ∷ []) h = h.0
  chained_bool (c ∷ d ∷ cs) h = ap (λ o. option_and_then (λ k. links_kind k (and_links (d ∷ cs)) row []) o) h.0 ∙ and_bool (d ∷ cs) h.1

  joined_test : (first c : Typed) → is_test row first ≡ true → is_test row c ≡ true → is_test row (conjoined first c) ≡ true
  joined_test first c f g =
      test_of (conjoined first c)
      (chained_bool (conjuncts first ++ conjuncts c)
      (each-append IsBool (conjuncts first) (conjuncts c) (conjuncts_bool first (bool_of first f)) (conjuncts_bool c (bool_of c g))))

-- ---- and hold no line end where neither does

either_false : (a b : Bool) → (a || b) ≡ false → (a ≡ false) × (b ≡ false)
either_false true b h = absurd (true≢false h)
either_false false b h = (refl, h)

abbrev IsFree : Typed → Type 0
IsFree c = writes_lf c ≡ false

chain_free : (b : Bool) (first : Typed) (links : TypedLinks) → IsFree (x_chain first links) → AllByRecursion IsFree (conjuncts first) → AllByRecursion IsFree (link_conjuncts links)
    → AllByRecursion IsFree (cond b (conjuncts first ++ link_conjuncts links) (x_chain first links ∷ []))
chain_free true first links h front rest = each-append IsFree (conjuncts first) (link_conjuncts links) front rest
chain_free false first links h front rest = (h, tt)

mutual
  conjuncts_free : (e : Typed) → IsFree e → AllByRecursion IsFree (conjuncts e)
  conjuncts_free (x_chain first links) h =
      chain_free (all_and links) first links h (conjuncts_free first (either_false (writes_lf first) (links_write_lf links) h).0) (links_free links (either_false (writes_lf first) (links_write_lf links) h).1)
  conjuncts_free x_null h = (h, tt)
  conjuncts_free (x_bool b) h = (h, tt)
  conjuncts_free (x_int z) h = (h, tt)
  conjuncts_free (x_long z) h = (h, tt)
  conjuncts_free (x_chars text) h = (h, tt)
  conjuncts_free (x_field n) h = (h, tt)
  conjuncts_free (x_local n) h = (h, tt)
  conjuncts_free (x_compare r a b) h = (h, tt)
  conjuncts_free (x_is_null a negated) h = (h, tt)
  conjuncts_free (x_not a) h = (h, tt)
  conjuncts_free (x_minus a) h = (h, tt)
  conjuncts_free (x_choose test a b) h = (h, tt)
  conjuncts_free (x_cast to a) h = (h, tt)
  conjuncts_free (x_project a ns single) h = (h, tt)
  conjuncts_free (x_look a key) h = (h, tt)
  conjuncts_free (x_call function args) h = (h, tt)

  links_free : (links : TypedLinks) → links_write_lf links ≡ false → AllByRecursion IsFree (link_conjuncts links)
  links_free no_links h = tt
  links_free (more_links operator a links) h =
      each-append IsFree (conjuncts a) (link_conjuncts links) (conjuncts_free a (either_false (writes_lf a) (links_write_lf links) h).0) (links_free links (either_false (writes_lf a) (links_write_lf links) h).1)

and_free : (cs : List Typed) → AllByRecursion IsFree cs → links_write_lf (and_links cs) ≡ false
and_free [] h = refl
and_free (c ∷ cs) h = ap (λ b. b || links_write_lf (and_links cs)) h.0 ∙ and_free cs h.1

chained_free : (cs : List Typed) → AllByRecursion IsFree cs → IsFree (chained cs)
chained_free [] h = refl
chained_free (c ∷ []) h = h.0
chained_free (c ∷ d ∷ cs) h = ap (λ b. b || links_write_lf (and_links (d ∷ cs))) h.0 ∙ and_free (d ∷ cs) h.1

joined_free : (first c : Typed) → IsFree first → IsFree c → IsFree (conjoined first c)
joined_free first c f g =
    chained_free (conjuncts first ++ conjuncts c) (each-append IsFree (conjuncts first) (conjuncts c) (conjuncts_free first f) (conjuncts_free c g))

-- ---- the plan

writes_part : (a b c : Bool) → (a && not b && not c) ≡ true → b ≡ false
writes_part true false c h = refl
writes_part true true c h = absurd (true≢false (sym h))
writes_part false b c h = absurd (true≢false (sym h))

take_set : {X : Type 0} (xs : List X) (j n : ℕ) (y : X) → take n (slice_set xs j y) ≡ slice_set (take n xs) j y
take_set [] j zero y = refl
take_set [] j (suc n) y = refl
take_set (x ∷ xs) zero zero y = refl
take_set (x ∷ xs) zero (suc n) y = refl
take_set (x ∷ xs) (suc j) zero y = refl
take_set (x ∷ xs) (suc j) (suc n) y = ap (λ zs. x ∷ zs) (take_set xs j n y)

-- the rows that a condition is asked of
record Tested (o : Option RowKinds) (c : Typed) : Type 0 where
  row : RowKinds
  are : o ≡ Some row
  test : is_test row c ≡ true

tested : (o : Option RowKinds) (c : Typed) → is_some (tested_gives (λ n. o) 0 c) ≡ true → Tested o c
tested None c h = absurd (true≢false (sym h))
tested (Some row) c h = by_test (is_test row c) refl h
  where
    by_test : (b : Bool) → is_test row c ≡ b → is_some (only_if b (Some (Some row))) ≡ true → Tested (Some row) c
    by_test true e g = record { row = row; are = refl; test = e }
    by_test false e g = absurd (true≢false (sym g))

gives_tested : (o : Option RowKinds) (row : RowKinds) (c : Typed) → o ≡ Some row → is_test row c ≡ true → tested_gives (λ n. o) 0 c ≡ Some (Some row)
gives_tested o row c is test = ap (λ r. tested_gives (λ n. r) 0 c) is ∙ ap (λ b. only_if b (Some (Some row))) test

module _ (p : Plan) (valid : IsPlan p) (i k x : ℕ) (first c : Typed) (own statement : ℕ) (under : slice_get p i ≡ Some (node_with (p_filter x first) own))
    (above : slice_get p k ≡ Some (node_with (p_filter i c) statement)) (only : IsOnlyUse p i k) where
  abbrev pub joined : Plan
  joined = slice_set (slice_set p i (node_with (p_load [] 9 []) statement)) k (node_with (p_filter x (conjoined first c)) own)

  down : i < k
  down = (names_lower p valid k (node_with (p_filter i c) statement) above).0

  lower : x < i
  lower = (names_lower p valid i (node_with (p_filter x first) own) under).0

  within : k < length p
  within = slice_get_within p k (node_with (p_filter i c) statement) above

  abbrev table : List (Option RowKinds)
  table = slice_set (kinds_table p) i (Some [])

  low : Tested (kinds_at p x) first
  low = tested (kinds_at p x) first (gives_some p valid i (node_with (p_filter x first) own) under)

  high : Tested (kinds_at p i) c
  high = tested (kinds_at p i) c (gives_some p valid k (node_with (p_filter i c) statement) above)

  kinds_i : kinds_at p i ≡ kinds_at p x
  kinds_i = filter_kinds p valid i x first own under

  same_row : high.row ≡ low.row
  same_row = some_same high.row low.row (sym high.are ∙ kinds_i ∙ low.are)

  lower_gives : node_gives (at_place None (take i table)) (p_load [] 9 []) ≡ Some (at_place None table i)
  lower_gives =
      let long = length-results kinds_step None p in
      let less = down in
      let inside = within in
      ap (λ o. Some (unwrap_or o None)) (sym (set_there (kinds_table p) i (Some []) (omega (arith, long, less, inside))))

  before_x : at_place None (take k table) x ≡ Some low.row
  before_x =
      let less = lower in
      let more = down in
      ap (λ t. at_place None t x) (take_set (kinds_table p) i k (Some []))
      ∙ ap (λ o. unwrap_or o None) (set_other (take k (kinds_table p)) i x (Some []) (λ e. omega (arith, e, less)))
      ∙ before_is kinds_step None p k x (omega (arith, less, more))
      ∙ low.are

  at_k : at_place None table k ≡ Some low.row
  at_k =
      let more = down in
      ap (λ o. unwrap_or o None) (set_other (kinds_table p) i k (Some []) (λ e. omega (arith, e, more)))
      ∙ filter_kinds p valid k i c statement above ∙ kinds_i ∙ low.are

  upper_gives : node_gives (at_place None (take k table)) (p_filter x (conjoined first c)) ≡ Some (at_place None table k)
  upper_gives =
      gives_tested (at_place None (take k table) x) low.row (conjoined first c) before_x
      (joined_test low.row first c low.test (subst (λ row. is_test row c ≡ true) same_row high.test))
      ∙ ap Some (sym at_k)

  free_at : (n : ℕ) (v : PlanNode) → slice_get p n ≡ Some v → op_writes_lf v.op ≡ false
  free_at n v stands = writes_part (is_some (node_gives (kinds_at (take n p)) v.op)) (op_writes_lf v.op) (list_any (is_twin v) (take n p)) (valid n v stands)

  lower_may : MayStand (own + statement) (node_with (p_load [] 9 []) statement)
  lower_may = record { writes = refl; alone = refl; no_later = omega arith }

  upper_may : MayStand (own + statement) (node_with (p_filter x (conjoined first c)) own)
  upper_may = record {
    writes = joined_free first c (free_at i (node_with (p_filter x first) own) under) (free_at k (node_with (p_filter i c) statement) above);
    alone = refl;
    no_later = omega arith;
  }

  pub joined_plan : IsPlan joined
  joined_plan =
      changed_plan p valid i k (node_with (p_load [] 9 []) statement) (node_with (p_filter x (conjoined first c)) own) (Some []) only down within lower_gives upper_gives
      (own + statement) lower_may upper_may
