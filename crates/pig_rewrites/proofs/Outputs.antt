-- Where two plans mean the same and show the same STOREs in turn, the STOREs are alike.
use Rattle.std.specs.Prelude.{◌≡◌, ℕ, zero, suc, Bool, true, false, not, ◌&&◌, ◌||◌, List, [], ◌∷◌, map, Some, bytes_eq, slice_get, refl}
use Rattle.std.proofs.Common.{ap, sym, ◌∙◌, true≢false}
use Rattle.std.specs.List.{AllByRecursion}
use Rattle.std.proofs.lemmas.Slice.Eq.{bytes_eq-Decides}
use Rattle.pig_value.specs.declared.inputs.Input.{Input}
use Rattle.pig_value.specs.declared.outcomes.Kept.{Kept}
use Rattle.pig_value.proofs.list_laws.Listing.{each_at, some_same}
use Rattle.pig_plan.specs.Meaning.{IsKept, meaning}
use Rattle.pig_plan.specs.Nodes.{is_list}
use Rattle.pig_plan.specs.Plans.{Plan, PlanNode, PlanOp, p_load, p_filter, p_foreach, p_group_all, p_group, p_join, p_union, p_distinct, p_order, p_limit, p_store, p_assert, p_rank}
use Rattle.pig_plan.specs.Rewrites.{SameMeaning, Stores}
use Rattle.pig_plan.specs.Valid.{IsPlan}
use Rattle.pig_plan.proofs.Lower.{meaning_of_node}
use Rattle.pig_reach.specs.Reach.{store_of, stores_of}
use Rattle.pig_reach.specs.declared.storing.Store.{Store}
use Rattle.pig_rewrites.specs.Alike.{AllAlike, StoresAlike, are_apart, is_stored_in}
use Rattle.pig_rewrites.specs.Ends.{End, end_of, ends_of}
use Rattle.pig_rewrites.proofs.Taken.{each_placed, each_taken, taken_held}

-- ---- a directory has one STORE

both_parts : (a b : Bool) → (a && b) ≡ true → (a ≡ true) × (b ≡ true)
both_parts true b h = (refl, h)
both_parts false b h = absurd (true≢false (sym h))

stored_there : (dir : List ℕ) (stores : List Store) (i : ℕ) (store : Store) → slice_get stores i ≡ Some store → store.dir ≡ dir → is_stored_in dir stores ≡ true
stored_there dir [] i store at is = absurd (cc)
stored_there dir (first ∷ stores) zero store at is =
    ap (λ b. b || is_stored_in dir stores) (ap (λ s. bytes_eq s.dir dir) (some_same first store at) ∙ ap (λ d. bytes_eq d dir) is ∙ (bytes_eq-Decides dir dir).1 refl)
stored_there dir (first ∷ stores) (suc i) store at is = later (bytes_eq first.dir dir) (stored_there dir stores i store at is)
  where
    later : (b : Bool) → is_stored_in dir stores ≡ true → (b || is_stored_in dir stores) ≡ true
    later true h = refl
    later false h = h

never : (b : Bool) → not b ≡ true → b ≡ true → ⊥
never true h e = true≢false (sym h)
never false h e = true≢false (sym e)

one_store : (stores : List Store) → are_apart stores ≡ true → (i j : ℕ) (store other : Store) → slice_get stores i ≡ Some store → slice_get stores j ≡ Some other
    → store.dir ≡ other.dir → store ≡ other
one_store [] apart i j store other at at_other same = absurd (cc)
one_store (first ∷ stores) apart zero zero store other at at_other same = sym (some_same first store at) ∙ some_same first other at_other
one_store (first ∷ stores) apart zero (suc j) store other at at_other same =
    absurd (never (is_stored_in first.dir stores) (both_parts (not (is_stored_in first.dir stores)) (are_apart stores) apart).0
    (stored_there first.dir stores j other at_other (sym same ∙ ap (λ s. s.dir) (sym (some_same first store at)))))
one_store (first ∷ stores) apart (suc i) zero store other at at_other same =
    absurd (never (is_stored_in first.dir stores) (both_parts (not (is_stored_in first.dir stores)) (are_apart stores) apart).0
    (stored_there first.dir stores i store at (same ∙ ap (λ s. s.dir) (sym (some_same first other at_other)))))
one_store (first ∷ stores) apart (suc i) (suc j) store other at at_other same =
    one_store stores (both_parts (not (is_stored_in first.dir stores)) (are_apart stores) apart).1 i j store other at at_other same

-- ---- STOREs that show the same are apart alike

first_end : {x y : End} {xs ys : List End} → x ∷ xs ≡ y ∷ ys → x ≡ y
first_end e = cc

other_ends : {x y : End} {xs ys : List End} → x ∷ xs ≡ y ∷ ys → xs ≡ ys
other_ends e = cc

module _ (f g : ℕ → Bool) where
  stored_same : (dir : List ℕ) (stores others : List Store) → map (end_of g) others ≡ map (end_of f) stores → is_stored_in dir others ≡ is_stored_in dir stores
  stored_same dir [] [] e = refl
  stored_same dir [] (other ∷ others) e = absurd (cc)
  stored_same dir (store ∷ stores) [] e = absurd (cc)
  stored_same dir (store ∷ stores) (other ∷ others) e =
      (λ i. bytes_eq (first_end e i).dir dir || stored_same dir stores others (other_ends e) i)

  apart_same : (stores others : List Store) → map (end_of g) others ≡ map (end_of f) stores → are_apart others ≡ are_apart stores
  apart_same [] [] e = refl
  apart_same [] (other ∷ others) e = absurd (cc)
  apart_same (store ∷ stores) [] e = absurd (cc)
  apart_same (store ∷ stores) (other ∷ others) e =
      (λ i. not (is_stored_in (first_end e i).dir others) && are_apart others)
      ∙ (λ i. not (stored_same store.dir stores others (other_ends e) i) && apart_same stores others (other_ends e) i)

-- ---- each STORE stands in its plan

-- the node of a STORE
abbrev node_of_store : Store → PlanNode
node_of_store store = record { op = p_store store.relation store.dir store.delim; statement = store.statement }

record IsStoreOf (plan : Plan) (store : Store) : Type 0 where
  node : ℕ
  stands : slice_get plan node ≡ Some (node_of_store store)

store_stands : (plan : Plan) (k statement : ℕ) (o : PlanOp) (store : Store) → slice_get plan k ≡ Some (record { op = o; statement = statement })
    → store_of (record { op = o; statement = statement }) ≡ Some store → IsStoreOf plan store
store_stands plan k statement (p_store input path delim) store at is = record { node = k; stands = at ∙ ap (λ s. Some (node_of_store s)) (some_same (record { statement = statement; relation = input; dir = path; delim = delim }) store is) }
store_stands plan k statement (p_load path delim columns) store at is = absurd (cc)
store_stands plan k statement (p_filter input test) store at is = absurd (cc)
store_stands plan k statement (p_foreach input block) store at is = absurd (cc)
store_stands plan k statement (p_group_all input) store at is = absurd (cc)
store_stands plan k statement (p_group keyed) store at is = absurd (cc)
store_stands plan k statement (p_join keyed side replicated) store at is = absurd (cc)
store_stands plan k statement (p_union numbers) store at is = absurd (cc)
store_stands plan k statement (p_distinct input) store at is = absurd (cc)
store_stands plan k statement (p_order input keys) store at is = absurd (cc)
store_stands plan k statement (p_limit input count) store at is = absurd (cc)
store_stands plan k statement (p_assert input test message) store at is = absurd (cc)
store_stands plan k statement (p_rank input keys dense) store at is = absurd (cc)

each_stands : (plan : Plan) → AllByRecursion (IsStoreOf plan) (stores_of plan)
each_stands plan = each_taken (IsStoreOf plan) store_of plan (λ k node store at is. store_stands plan k node.statement node.op store at is)

-- a STORE of the list that has its directory is it
abbrev IsOnlyOne : List Store → Store → Type 0
IsOnlyOne stores other = AllByRecursion (λ store. store.dir ≡ other.dir → store ≡ other) stores

each_only : (stores : List Store) → are_apart stores ≡ true → AllByRecursion (IsOnlyOne stores) stores
each_only stores apart =
    each_placed (IsOnlyOne stores) stores
    (λ j other at_other. each_placed (λ store. store.dir ≡ other.dir → store ≡ other) stores (λ i store at same. one_store stores apart i j store other at at_other same))

-- ---- alike

module _ (p q : Plan) (valid : IsPlan p) (valid_q : IsPlan q) (same : SameMeaning p q) where
  rows_alike : (store other : Store) → other.dir ≡ store.dir → IsStoreOf p store → IsOnlyOne (stores_of q) other → (inputs : List Input) (kept : List Kept) → IsKept p inputs kept
      → meaning q inputs kept other.relation ≡ meaning p inputs kept store.relation
  rows_alike store other dir own only inputs kept is =
      let here : Stores p inputs kept store.dir store.delim (meaning p inputs kept own.node) (is_list p store.relation) =
      record { node = own.node; input = store.relation; statement = store.statement; stands = own.stands; rows_are = refl; list_is = refl } in
      let there : Stores q inputs kept store.dir store.delim (meaning p inputs kept own.node) (is_list p store.relation) =
      (same.goes inputs kept is).stores store.dir store.delim (meaning p inputs kept own.node) (is_list p store.relation) here in
      let found : Store = record { statement = there.statement; relation = there.input; dir = store.dir; delim = store.delim } in
      let one : found ≡ other =
      each_at (λ node. (s : Store) → store_of node ≡ Some s → s.dir ≡ other.dir → s ≡ other) q there.node (node_of_store found) there.stands
      (taken_held (λ s. s.dir ≡ other.dir → s ≡ other) store_of q only) found refl (sym dir) in
      ap (λ s. meaning q inputs kept s.relation) (sym one)
      ∙ sym (meaning_of_node q inputs kept valid_q there.node (node_of_store found) there.stands)
      ∙ there.rows_are
      ∙ meaning_of_node p inputs kept valid own.node (node_of_store store) own.stands

  one_alike : (store other : Store) → end_of (is_list q) other ≡ end_of (is_list p) store → IsStoreOf p store → IsOnlyOne (stores_of q) other → StoresAlike p q store other
  one_alike store other e own only = record {
    statement = ap (λ x. x.statement) e;
    dir = ap (λ x. x.dir) e;
    delim = ap (λ x. x.delim) e;
    lists = ap (λ x. x.listed) e;
    rows = rows_alike store other (ap (λ x. x.dir) e) own only;
  }

  all_alike : (stores others : List Store) → map (end_of (is_list q)) others ≡ map (end_of (is_list p)) stores → AllByRecursion (IsStoreOf p) stores
      → AllByRecursion (IsOnlyOne (stores_of q)) others → AllAlike p q stores others
  all_alike [] [] e own only = tt
  all_alike [] (other ∷ others) e own only = absurd (cc)
  all_alike (store ∷ stores) [] e own only = absurd (cc)
  all_alike (store ∷ stores) (other ∷ others) e own only = (one_alike store other (first_end e) own.0 only.0, all_alike stores others (other_ends e) own.1 only.1)

  pub stores_alike : are_apart (stores_of p) ≡ true → ends_of q ≡ ends_of p → AllAlike p q (stores_of p) (stores_of q)
  stores_alike apart e =
      all_alike (stores_of p) (stores_of q) e (each_stands p)
      (each_only (stores_of q) (apart_same (is_list p) (is_list q) (stores_of p) (stores_of q) e ∙ apart))
