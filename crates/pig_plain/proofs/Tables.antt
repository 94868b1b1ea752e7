-- The rows of nodes, taken and put.
use Rattle.std.specs.Prelude.{◌≡◌, ◌≢◌, ◌<◌, ◌≤◌, ◌+◌, ◌==◌, ◌||◌, ℕ, Bool, true, false, List, [], ◌∷◌, ◌++◌, ◌-◌, drop, length, min, take, slice_get, slice_set}
use Rattle.std.specs.Prelude.{Option, Some, None, get_or, IfOk, OnOk, refl}
use Rattle.std.proofs.Common.{ap, sym, subst, arith, inl, inr, ◌∙◌, true≢false}
use Rattle.std.specs.List.{flat_map, list_any}
use Rattle.std.proofs.lemmas.Bool.{cases_lt, eq-eqb}
use Rattle.std.proofs.lemmas.Bool.Decides.{eqb_tells}
use Rattle.std.proofs.lemmas.List.{append_assoc, get_or_append_left, get_or-set_other, get_or-set_same, length-append, length-set, take_all, take_min, take-map}
use Rattle.std.proofs.Math.Nat.{eq-or-lt_of_le}
use Rattle.std.proofs.Math.Seq.{get_or-append_seam}
use Rattle.std.proofs.lemmas.Option.{slice_get_past, slice_get-map, unwrap_or-slice_get}
use Rattle.std.specs.declared.result.Result.{Result}
use Rattle.std.specs.declared.result.Result.TheVariants.{Ok, Err}
use Rattle.std.specs.Option.{option_map, unwrap_or}
use Rattle.pig_value.specs.declared.values.Value.{Value}
use Rattle.pig_value.specs.Trees.{Tree, row_tree, rows_tree}
use Rattle.pig_plain.specs.Coming.{relation_rows, rows_standing}
use Rattle.pig_plain.specs.declared.relation.Relation.{Relation}
use Rattle.pig_plain.specs.declared.relation.Relation.TheVariants.{Standing}
use Rattle.pig_plain.specs.Operating.{AreValues, standing_rows, table_rows}
use Rattle.pig_plain.specs.Tables.{Held, IsLeft, IsUsed, put_at, rows_of}
use Rattle.pig_value.specs.Valid.{AreRows}

-- ---- names

or_true : (b : Bool) → (b || true) ≡ true
or_true true = refl
or_true false = refl

pub first_named : (x : ℕ) (xs : List ℕ) → list_any (λ i. i == x) (x ∷ xs) ≡ true
first_named x xs = ap (λ b. b || list_any (λ i. i == x) xs) (eq-eqb x x refl)

pub named_behind : (x k : ℕ) (xs : List ℕ) → list_any (λ i. i == k) xs ≡ true → list_any (λ i. i == k) (x ∷ xs) ≡ true
named_behind x k xs named = ap (λ b. (x == k) || b) named ∙ or_true (x == k)

-- ---- tables

unwrap_map : (o : Option Relation) → unwrap_or (option_map relation_rows o) [] ≡ relation_rows (unwrap_or o (Standing []))
unwrap_map None = refl
unwrap_map (Some x) = refl

pub table_is : (table : List Relation) (k : ℕ) → table_rows table k ≡ relation_rows (get_or table k (Standing []))
table_is table k = ap (λ o. unwrap_or o []) (slice_get-map relation_rows table k) ∙ unwrap_map (slice_get table k) ∙ ap relation_rows (unwrap_or-slice_get table k (Standing []))

pub others_stand : (table : List Relation) (i k : ℕ) (rows : Relation) → k ≢ i → table_rows (slice_set table i rows) k ≡ table_rows table k
others_stand table i k rows other =
    table_is (slice_set table i rows) k ∙ ap relation_rows (get_or-set_other table i k rows (Standing []) other) ∙ sym (table_is table k)

pub none_past : (table : List Relation) (k : ℕ) → length table ≤ k → table_rows table k ≡ []
none_past table k h = ap (λ o. unwrap_or o []) (slice_get-map relation_rows table k ∙ ap (option_map relation_rows) (slice_get_past table k h))

pub put_is : (table : List Relation) (i : ℕ) (rows : Relation) → i < length table → table_rows (slice_set table i rows) i ≡ relation_rows rows
put_is table i rows h = table_is (slice_set table i rows) i ∙ ap relation_rows (get_or-set_same table i rows (Standing []) h)

pub taken_is : (table : List Relation) (i : ℕ) (rows : List (List Value)) → i < length table → rows ≡ [] → table_rows (slice_set table i (Standing rows)) i ≡ []
taken_is table i rows h none = put_is table i (Standing rows) h ∙ ap rows_tree none

pub first_is : (rows : List (List Value)) (count end : ℕ) → end ≡ min (length rows) count → rows_tree (take end rows) ≡ take count (rows_tree rows)
first_is rows count end e = ap (λ n. rows_tree (take n rows)) e ∙ by_min
  where
    by_min : rows_tree (take (min (length rows) count) rows) ≡ take count (rows_tree rows)
    by_min = ap (λ n. rows_tree (take n rows)) (let c : min (length rows) count ≡ min count (length rows) = omega arith in c)
        ∙ ap rows_tree (take_min count rows) ∙ sym (take-map row_tree count rows)

pub values_stand : (table : List Relation) (i : ℕ) (rows : List (List Value)) → i < length table → rows ≡ [] → AreValues table → AreValues (slice_set table i (Standing rows))
values_stand table i rows h none values k = elim (eqb_tells k i) [
  | inl same ↦ subst AreRows (sym (ap (table_rows (slice_set table i (Standing rows))) same.1 ∙ taken_is table i rows h none)) tt
  | inr other ↦ subst AreRows (sym (others_stand table i k (Standing rows) other.1)) (values k)
]

standing_map : (o : Option Relation) → unwrap_or (option_map rows_standing o) [] ≡ rows_standing (unwrap_or o (Standing []))
standing_map None = refl
standing_map (Some x) = refl

standing_is : (table : List Relation) (k : ℕ) → standing_rows table k ≡ rows_standing (get_or table k (Standing []))
standing_is table k = ap (λ o. unwrap_or o []) (slice_get-map rows_standing table k) ∙ standing_map (slice_get table k)
    ∙ ap rows_standing (unwrap_or-slice_get table k (Standing []))

none_standing : (table : List Relation) (k : ℕ) → length table ≤ k → standing_rows table k ≡ []
none_standing table k h = ap (λ o. unwrap_or o []) (slice_get-map rows_standing table k ∙ ap (option_map rows_standing) (slice_get_past table k h))

-- other rows of values stand at a node
pub values_put : (table : List Relation) (i : ℕ) (rows : List (List Value)) → AreValues table → AreRows (rows_tree rows) → AreValues (slice_set table i (Standing rows))
values_put table i rows values good k = elim (eqb_tells k i) [
  | inl same ↦ subst AreRows (sym (ap (table_rows (slice_set table i (Standing rows))) same.1)) (elim (cases_lt i (length table)) [
    | inl within ↦ subst AreRows (sym (put_is table i (Standing rows) within)) good
    | inr past ↦
        let long = length-set table i (Standing rows) in
        subst AreRows (sym (none_past (slice_set table i (Standing rows)) i (omega (arith, long, past)))) tt
  ])
  | inr other ↦ subst AreRows (sym (others_stand table i k (Standing rows) other.1)) (values k)
]

-- one node more
pub at_front : (table : List Relation) (rows : Relation) (k : ℕ) → k < length table → table_rows (table ++ rows ∷ []) k ≡ table_rows table k
at_front table rows k h = table_is (table ++ rows ∷ []) k ∙ ap relation_rows (get_or_append_left table (rows ∷ []) (Standing []) k h) ∙ sym (table_is table k)

pub at_end : (table : List Relation) (rows : Relation) (i : ℕ) → length table ≡ i → table_rows (table ++ rows ∷ []) i ≡ relation_rows rows
at_end table rows i long =
    ap (table_rows (table ++ rows ∷ [])) (sym long) ∙ table_is (table ++ rows ∷ []) (length table) ∙ ap relation_rows (get_or-append_seam table rows [] (Standing []))

past_end : (table : List Relation) (rows : Relation) (k : ℕ) → length table < k → table_rows (table ++ rows ∷ []) k ≡ []
past_end table rows k h =
    let long = length-append table (rows ∷ []) in
    none_past (table ++ rows ∷ []) k (omega (arith, h, long))

pub values_more : (table : List Relation) (rows : Relation) → AreValues table → AreRows (relation_rows rows) → AreValues (table ++ rows ∷ [])
values_more table rows values good k = elim (cases_lt k (length table)) [
  | inl front ↦ subst AreRows (sym (at_front table rows k front)) (values k)
  | inr from ↦ elim (eq-or-lt_of_le from) [
    | inl same ↦ subst AreRows (sym (at_end table rows k same)) good
    | inr past ↦ subst AreRows (sym (past_end table rows k past)) tt
  ]
]

-- a test that is passed tells
told_equal : (b : Bool) (m n : ℕ) → b ≡ (m == n) → b ≡ true → m ≡ n
told_equal b m n is passed = elim (eqb_tells m n) [
  | inl same ↦ same.1
  | inr other ↦ absurd (true≢false (sym passed ∙ is ∙ other.0))
]

-- ---- uses

-- rows that were taken, and are put back as they were made, are the same, and stand
module _ (before taken : Held) (i : ℕ) (rows : List (List Value)) (left : IsLeft true i before taken) (same : rows_tree rows ≡ rows_of before i) where
  longer : length before.relations ≤ i → length (slice_set taken.relations i (Standing rows)) ≤ i
  longer past = let e = length-set taken.relations i (Standing rows) in let size = left.size in omega (arith, e, size, past)

  at_node : rows_of (put_at i rows taken) i ≡ rows_of before i
  at_node = elim (cases_lt i (length before.relations)) [
    | inl within ↦ put_is taken.relations i (Standing rows) (let size = left.size in omega (arith, within, size)) ∙ same
    | inr past ↦ none_past (slice_set taken.relations i (Standing rows)) i (longer past) ∙ sym (none_past before.relations i past)
  ]

  back : (k : ℕ) → rows_of (put_at i rows taken) k ≡ rows_of before k
  back k = elim (eqb_tells k i) [
    | inl here ↦ ap (rows_of (put_at i rows taken)) here.1 ∙ at_node ∙ sym (ap (rows_of before) here.1)
    | inr other ↦ others_stand taken.relations i k (Standing rows) other.1 ∙ left.others k other.1
  ]

  pub put_back : (last : Bool) → IsLeft last i before (put_at i rows taken)
  put_back last = record {
    size = length-set taken.relations i (Standing rows) ∙ left.size;
    ends = left.ends;
    others = λ k other. back k;
    kept = λ e. back;
  }

  pub put_stands : standing_rows (slice_set taken.relations i (Standing rows)) i ≡ rows_of before i
  put_stands = elim (cases_lt i (length before.relations)) [
    | inl within ↦
        standing_is (slice_set taken.relations i (Standing rows)) i
        ∙ ap rows_standing (get_or-set_same taken.relations i (Standing rows) (Standing []) (let size = left.size in omega (arith, within, size))) ∙ same
    | inr past ↦ none_standing (slice_set taken.relations i (Standing rows)) i (longer past) ∙ sym (none_past before.relations i past)
  ]

-- after a use of a node's rows those of another node are as before, and its own where the use is not the last
stands_at : (last : Bool) (node k : ℕ) (before after : Held) → IsLeft last node before after → (last ≡ true → k ≢ node) → rows_of after k ≡ rows_of before k
stands_at true node k before after left other = left.others k (other refl)
stands_at false node k before after left other = left.kept refl k

-- one use after another
pub used_both : (first next last : Held) → IsUsed first next → IsUsed next last → IsUsed first last
used_both first next last h g = record {
  size = g.size ∙ h.size;
  ends = g.ends ∙ h.ends;
  later = λ k other. g.later k (λ e. other (sym (ap (λ ends. get_or ends k 0) h.ends) ∙ e ∙ ap (λ n. n + 1) h.size)) ∙ h.later k other;
}

-- a use, of which is known whether it is the last
pub one_used : (last : Bool) (node : ℕ) (before after : Held) → (last ≡ true → get_or before.ends node 0 ≡ length before.relations + 1) → IsLeft last node before after
    → IsUsed before after
one_used last node before after is_last left = record {
  size = left.size;
  ends = left.ends;
  later = λ k later. stands_at last node k before after left (λ e same. later (ap (λ m. get_or before.ends m 0) same ∙ is_last e));
}

-- a use of which the table tells whether it is the last
pub told_used : (last : Bool) (node : ℕ) (before after : Held) → last ≡ (get_or before.ends node 0 == length before.relations + 1) → IsLeft last node before after → IsUsed before after
told_used last node before after is = one_used last node before after (told_equal last (get_or before.ends node 0) (length before.relations + 1) is)

-- those that are named later here are so too
pub named_stand : (last : Bool) (node : ℕ) (rest : List ℕ) (before after : Held) → (last ≡ true → list_any (λ i. i == node) rest ≡ false) → IsLeft last node before after
    → (k : ℕ) → list_any (λ i. i == k) rest ≡ true → rows_of after k ≡ rows_of before k
named_stand last node rest before after unnamed left k named =
    stands_at last node k before after left (λ e same. true≢false (sym named ∙ ap (λ m. list_any (λ i. i == m) rest) same ∙ unnamed e))

-- rows of relations go by those that are named
pub flat_map_named : (f g : ℕ → List (List Tree)) (xs : List ℕ) → ((k : ℕ) → list_any (λ i. i == k) xs ≡ true → f k ≡ g k) → flat_map f xs ≡ flat_map g xs
flat_map_named f g [] same = refl
flat_map_named f g (x ∷ xs) same = (λ i. same x (first_named x xs) i ++ flat_map_named f g xs (λ k named. same k (named_behind x k xs named)) i)

-- the rows of one relation more
pub union_goes_on : (left : List ℕ) → 1 ≤ length left → (f g : ℕ → List (List Tree)) (done more whole : List (List Tree)) → more ≡ done ++ f (get_or left 0 0)
    → done ++ flat_map f left ≡ whole → ((k : ℕ) → list_any (λ i. i == k) (take (length left - 1) (drop 1 left)) ≡ true → g k ≡ f k)
    → more ++ flat_map g (take (length left - 1) (drop 1 left)) ≡ whole
union_goes_on [] some f g done more whole told so_far same = absurd (omega (arith, some))
union_goes_on (x ∷ left) some f g done more whole told so_far same =
    let rest : List ℕ = take (length (x ∷ left) - 1) left in
    let all : rest ≡ left = take_all (length (x ∷ left) - 1) left (omega arith) in
    (λ i. told i ++ flat_map g rest)
    ∙ append_assoc done (f x) (flat_map g rest)
    ∙ ap (λ rows. done ++ (f x ++ rows)) (flat_map_named g f rest same ∙ ap (flat_map f) all)
    ∙ so_far

-- what holds of an answer gives another thing of it
pub if_ok : {T E : Type 0} {P Q : T → Type 0} (r : Result T E) → IfOk r P → ((x : T) → P x → Q x) → IfOk r Q
if_ok (Ok x) h f = f x h
if_ok (Err e) h f = h

-- two things that hold where the answer is one give a third
pub on_ok : {T E : Type 0} {P Q R : Type 0} (r : Result T E) → OnOk r P → OnOk r Q → (P → Q → R) → OnOk r R
on_ok (Ok x) h g f = f h g
on_ok (Err e) h g f = h
