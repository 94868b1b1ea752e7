-- The test of being of a kind decides it, and that on kinds decides whether they are the same.
use Rattle.std.specs.Prelude.{◌≡◌, ◌++◌, ℕ, length, take, replicate, Bool, true, false, ◌&&◌, List, [], ◌∷◌, refl}
use Rattle.std.proofs.Common.{ap, subst, ◌∙◌, pos}
use Rattle.pig_value.specs.Trees.{Tree, Fields, Tuples, Entries, v_null, v_bool, v_int, v_long, v_chars, v_bytes, v_tuple, v_bag, v_listed, v_map, no_fields, more_fields, no_tuples, more_tuples, no_entries, more_entries, KindTree, KindTrees, k_boolean, k_int, k_long, k_chars, k_bytes, k_tuple, k_bag, k_map, no_kinds, more_kinds}
use Rattle.std.specs.List.{filter, AllByRecursion}
use Rattle.pig_value.proofs.list_laws.Bags.{each-sort}
use Rattle.pig_value.specs.Casts.{CanCast, CastsTo, may_cast}
use Rattle.pig_value.proofs.list_laws.Listing.{each-append, each-filter, each-take}
use Rattle.pig_value.specs.Orders.{row_cmp, bag_of}
use Rattle.pig_value.specs.Kinds.{IsRowOf, AreRowsOf, IsOf, FieldsOf, TuplesOf, EntriesOf, is_of_kind, fields_of_kinds, tuples_of_kinds, entries_of_kind, kind_eq, kinds_eq}

both_true : (a b : Bool) → (a && b) ≡ true → (a ≡ true) × (b ≡ true)
both_true true b h = (refl, h)
both_true false b h = absurd (cc)

mutual
  pub passes_is_of : (v : Tree) (k : KindTree) → is_of_kind v k ≡ true → IsOf v k
  passes_is_of v_null k h = tt
  passes_is_of (v_bool b) k_boolean h = tt
  passes_is_of (v_int z) k_int h = tt
  passes_is_of (v_long z) k_long h = tt
  passes_is_of (v_chars text) k_chars h = tt
  passes_is_of (v_bytes bytes) k_bytes h = tt
  passes_is_of (v_tuple vs) (k_tuple ks) h = passes_fields vs ks h
  passes_is_of (v_bag rs) (k_bag ks) h = passes_tuples rs ks h
  passes_is_of (v_listed rs) (k_bag ks) h = passes_tuples rs ks h
  passes_is_of (v_map ps) (k_map k) h = passes_entries ps k h
  passes_is_of v k h = absurd (cc)

  passes_fields : (vs : Fields) (ks : KindTrees) → fields_of_kinds vs ks ≡ true → FieldsOf vs ks
  passes_fields no_fields no_kinds h = tt
  passes_fields no_fields (more_kinds k ks) h = absurd (cc)
  passes_fields (more_fields v vs) no_kinds h = absurd (cc)
  passes_fields (more_fields v vs) (more_kinds k ks) h =
      let both = both_true (is_of_kind v k) (fields_of_kinds vs ks) h in
      (passes_is_of v k both.0, passes_fields vs ks both.1)

  passes_tuples : (rs : Tuples) (ks : KindTrees) → tuples_of_kinds rs ks ≡ true → TuplesOf rs ks
  passes_tuples no_tuples ks h = tt
  passes_tuples (more_tuples r rs) ks h =
      let both = both_true (fields_of_kinds r ks) (tuples_of_kinds rs ks) h in
      (passes_fields r ks both.0, passes_tuples rs ks both.1)

  passes_entries : (ps : Entries) (k : KindTree) → entries_of_kind ps k ≡ true → EntriesOf ps k
  passes_entries no_entries k h = tt
  passes_entries (more_entries key v ps) k h =
      let both = both_true (is_of_kind v k) (entries_of_kind ps k) h in
      (passes_is_of v k both.0, passes_entries ps k both.1)

mutual
  pub is_of_passes : (v : Tree) (k : KindTree) → IsOf v k → is_of_kind v k ≡ true
  is_of_passes v_null k h = refl
  is_of_passes (v_bool b) k_boolean h = refl
  is_of_passes (v_int z) k_int h = refl
  is_of_passes (v_long z) k_long h = refl
  is_of_passes (v_chars text) k_chars h = refl
  is_of_passes (v_bytes bytes) k_bytes h = refl
  is_of_passes (v_tuple vs) (k_tuple ks) h = fields_pass vs ks h
  is_of_passes (v_bag rs) (k_bag ks) h = tuples_pass rs ks h
  is_of_passes (v_listed rs) (k_bag ks) h = tuples_pass rs ks h
  is_of_passes (v_map ps) (k_map k) h = entries_pass ps k h
  is_of_passes v k h = absurd h

  fields_pass : (vs : Fields) (ks : KindTrees) → FieldsOf vs ks → fields_of_kinds vs ks ≡ true
  fields_pass no_fields no_kinds h = refl
  fields_pass no_fields (more_kinds k ks) h = absurd h
  fields_pass (more_fields v vs) no_kinds h = absurd h
  fields_pass (more_fields v vs) (more_kinds k ks) h = λ i. is_of_passes v k h.0 i && fields_pass vs ks h.1 i

  tuples_pass : (rs : Tuples) (ks : KindTrees) → TuplesOf rs ks → tuples_of_kinds rs ks ≡ true
  tuples_pass no_tuples ks h = refl
  tuples_pass (more_tuples r rs) ks h = λ i. fields_pass r ks h.0 i && tuples_pass rs ks h.1 i

  entries_pass : (ps : Entries) (k : KindTree) → EntriesOf ps k → entries_of_kind ps k ≡ true
  entries_pass no_entries k h = refl
  entries_pass (more_entries key v ps) k h = λ i. is_of_passes v k h.0 i && entries_pass ps k h.1 i

mutual
  pub kind_same : (k l : KindTree) → kind_eq k l ≡ true → k ≡ l
  kind_same k_boolean k_boolean h = refl
  kind_same k_int k_int h = refl
  kind_same k_long k_long h = refl
  kind_same k_chars k_chars h = refl
  kind_same k_bytes k_bytes h = refl
  kind_same (k_tuple ks) (k_tuple ls) h = ap k_tuple (kinds_same ks ls h)
  kind_same (k_bag ks) (k_bag ls) h = ap k_bag (kinds_same ks ls h)
  kind_same (k_map k) (k_map l) h = ap k_map (kind_same k l h)
  kind_same k l h = absurd (cc)

  pub kinds_same : (ks ls : KindTrees) → kinds_eq ks ls ≡ true → ks ≡ ls
  kinds_same no_kinds no_kinds h = refl
  kinds_same no_kinds (more_kinds l ls) h = absurd (cc)
  kinds_same (more_kinds k ks) no_kinds h = absurd (cc)
  kinds_same (more_kinds k ks) (more_kinds l ls) h =
      let both = both_true (kind_eq k l) (kinds_eq ks ls) h in
      λ i. more_kinds (kind_same k l both.0 i) (kinds_same ks ls both.1 i)

mutual
  pub kind_itself : (k : KindTree) → kind_eq k k ≡ true
  kind_itself k_boolean = refl
  kind_itself k_int = refl
  kind_itself k_long = refl
  kind_itself k_chars = refl
  kind_itself k_bytes = refl
  kind_itself (k_tuple ks) = kinds_itself ks
  kind_itself (k_bag ks) = kinds_itself ks
  kind_itself (k_map k) = kind_itself k

  pub kinds_itself : (ks : KindTrees) → kinds_eq ks ks ≡ true
  kinds_itself no_kinds = refl
  kinds_itself (more_kinds k ks) = λ i. kind_itself k i && kinds_itself ks i

-- rows of a kind, row by row, and that they stay so when they are sorted
pub rows_of_each : (kinds : List KindTree) (rows : List (List Tree)) → AreRowsOf rows kinds → AllByRecursion (λ row. IsRowOf row kinds) rows
rows_of_each kinds [] h = tt
rows_of_each kinds (row ∷ rows) h = (h.0, rows_of_each kinds rows h.1)

pub rows_of_from_each : (kinds : List KindTree) (rows : List (List Tree)) → AllByRecursion (λ row. IsRowOf row kinds) rows → AreRowsOf rows kinds
rows_of_from_each kinds [] h = tt
rows_of_from_each kinds (row ∷ rows) h = (h.0, rows_of_from_each kinds rows h.1)

pub rows_of_sorted : (kinds : List KindTree) (rows : List (List Tree)) → AreRowsOf rows kinds → AreRowsOf (bag_of rows) kinds
rows_of_sorted kinds rows h = rows_of_from_each kinds (bag_of rows) (each-sort row_cmp (λ row. IsRowOf row kinds) rows (rows_of_each kinds rows h))

pub rows_of-append : (kinds : List KindTree) (xs ys : List (List Tree)) → AreRowsOf xs kinds → AreRowsOf ys kinds → AreRowsOf (xs ++ ys) kinds
rows_of-append kinds xs ys h k =
    rows_of_from_each kinds (xs ++ ys) (each-append (λ row. IsRowOf row kinds) xs ys (rows_of_each kinds xs h) (rows_of_each kinds ys k))

pub rows_of-take : (kinds : List KindTree) (n : ℕ) (rows : List (List Tree)) → AreRowsOf rows kinds → AreRowsOf (take n rows) kinds
rows_of-take kinds n rows h = rows_of_from_each kinds (take n rows) (each-take (λ row. IsRowOf row kinds) n rows (rows_of_each kinds rows h))

pub rows_of-filter : (kinds : List KindTree) (p : List Tree → Bool) (rows : List (List Tree)) → AreRowsOf rows kinds → AreRowsOf (filter p rows) kinds
rows_of-filter kinds p rows h = rows_of_from_each kinds (filter p rows) (each-filter p (λ row. IsRowOf row kinds) rows (rows_of_each kinds rows h))

-- joined rows have the kinds of both, so many nulls are of as many kinds, and a field is of the kind at its place
pub row_of-append : (xs ys : List Tree) (ks ls : List KindTree) → IsRowOf xs ks → IsRowOf ys ls → IsRowOf (xs ++ ys) (ks ++ ls)
row_of-append [] ys [] ls h k = k
row_of-append [] ys (l ∷ ks) ls h k = absurd h
row_of-append (x ∷ xs) ys [] ls h k = absurd h
row_of-append (x ∷ xs) ys (l ∷ ks) ls h k = (h.0, row_of-append xs ys ks ls h.1 k)

pub row_of_nulls : (kinds : List KindTree) → IsRowOf (replicate (length kinds) v_null) kinds
row_of_nulls [] = tt
row_of_nulls (k ∷ kinds) = (tt, row_of_nulls kinds)

-- the test of casts decides which kinds cast to which, and then each value of the kind may be cast
casts_same : (k : KindTree) → CastsTo k k
casts_same k_boolean = refl
casts_same k_int = refl
casts_same k_long = refl
casts_same k_chars = refl
casts_same k_bytes = tt
casts_same (k_tuple ks) = refl
casts_same (k_bag ks) = refl
casts_same (k_map k) = refl

casts_itself : (from to : KindTree) → kind_eq from to ≡ true → CastsTo from to
casts_itself from to h = subst (CastsTo from) (kind_same from to h) (casts_same from)

pub passes_casts : (from to : KindTree) → may_cast from to ≡ true → CastsTo from to
passes_casts k_bytes to h = tt
passes_casts k_chars k_boolean h = tt
passes_casts k_chars k_int h = tt
passes_casts k_chars k_long h = tt
passes_casts k_int k_long h = tt
passes_casts k_long k_int h = tt
passes_casts k_boolean k_chars h = tt
passes_casts k_int k_chars h = tt
passes_casts k_long k_chars h = tt
passes_casts from to h = casts_itself from to h

pub casts_pass : (from to : KindTree) → CastsTo from to → may_cast from to ≡ true
casts_pass k_bytes to h = refl
casts_pass k_chars k_boolean h = refl
casts_pass k_chars k_int h = refl
casts_pass k_chars k_long h = refl
casts_pass k_int k_long h = refl
casts_pass k_long k_int h = refl
casts_pass k_boolean k_chars h = refl
casts_pass k_int k_chars h = refl
casts_pass k_long k_chars h = refl
casts_pass from to h = subst (λ k. kind_eq from k ≡ true) h (kind_itself from)

can_itself : (k : KindTree) (v : Tree) → IsOf v k → CanCast k v
can_itself k v_null h = tt
can_itself k (v_bytes bytes) h = tt
can_itself k_boolean (v_chars text) h = tt
can_itself k_int (v_chars text) h = tt
can_itself k_long (v_chars text) h = tt
can_itself k_long (v_int z) h = tt
can_itself k_int (v_long z) h = tt
can_itself k_chars (v_bool b) h = tt
can_itself k_chars (v_int z) h = tt
can_itself k_chars (v_long z) h = tt
can_itself k v h = h

pub value_casts : (from to : KindTree) (v : Tree) → CastsTo from to → IsOf v from → CanCast to v
value_casts from to v_null h k = tt
value_casts from to (v_bytes bytes) h k = tt
value_casts k_bytes to v h k = absurd k
value_casts k_boolean k_chars (v_bool b) h k = tt
value_casts k_boolean k_chars v h k = absurd k
value_casts k_chars k_boolean (v_chars text) h k = tt
value_casts k_chars k_boolean v h k = absurd k
value_casts k_chars k_int (v_chars text) h k = tt
value_casts k_chars k_int v h k = absurd k
value_casts k_chars k_long (v_chars text) h k = tt
value_casts k_chars k_long v h k = absurd k
value_casts k_int k_long (v_int z) h k = tt
value_casts k_int k_long v h k = absurd k
value_casts k_int k_chars (v_int z) h k = tt
value_casts k_int k_chars v h k = absurd k
value_casts k_long k_int (v_long z) h k = tt
value_casts k_long k_int v h k = absurd k
value_casts k_long k_chars (v_long z) h k = tt
value_casts k_long k_chars v h k = absurd k
value_casts from to v h k = subst (λ l. CanCast l v) h (can_itself from v k)

-- a value of a kind with no null in it, which is of no other kind
abbrev mutual
  witness : KindTree → Tree
  witness k_boolean = v_bool true
  witness k_int = v_int (pos 0)
  witness k_long = v_long (pos 0)
  witness k_chars = v_chars []
  witness k_bytes = v_bytes []
  witness (k_tuple ks) = v_tuple (witnesses ks)
  witness (k_bag ks) = v_bag (more_tuples (witnesses ks) no_tuples)
  witness (k_map k) = v_map (more_entries [] (witness k) no_entries)

  witnesses : KindTrees → Fields
  witnesses no_kinds = no_fields
  witnesses (more_kinds k ks) = more_fields (witness k) (witnesses ks)

mutual
  witness_is : (k : KindTree) → IsOf (witness k) k
  witness_is k_boolean = tt
  witness_is k_int = tt
  witness_is k_long = tt
  witness_is k_chars = tt
  witness_is k_bytes = tt
  witness_is (k_tuple ks) = witnesses_are ks
  witness_is (k_bag ks) = (witnesses_are ks, tt)
  witness_is (k_map k) = (witness_is k, tt)

  witnesses_are : (ks : KindTrees) → FieldsOf (witnesses ks) ks
  witnesses_are no_kinds = tt
  witnesses_are (more_kinds k ks) = (witness_is k, witnesses_are ks)

mutual
  witness_tells : (k l : KindTree) → IsOf (witness k) l → k ≡ l
  witness_tells k_boolean k_boolean h = refl
  witness_tells k_int k_int h = refl
  witness_tells k_long k_long h = refl
  witness_tells k_chars k_chars h = refl
  witness_tells k_bytes k_bytes h = refl
  witness_tells (k_tuple ks) (k_tuple ls) h = ap k_tuple (witnesses_tell ks ls h)
  witness_tells (k_bag ks) (k_bag ls) h = ap k_bag (witnesses_tell ks ls h.0)
  witness_tells (k_map k) (k_map l) h = ap k_map (witness_tells k l h.0)
  witness_tells k l h = absurd h

  witnesses_tell : (ks ls : KindTrees) → FieldsOf (witnesses ks) ls → ks ≡ ls
  witnesses_tell no_kinds no_kinds h = refl
  witnesses_tell (more_kinds k ks) (more_kinds l ls) h = ap (λ m. more_kinds m ks) (witness_tells k l h.0) ∙ ap (more_kinds l) (witnesses_tell ks ls h.1)
  witnesses_tell ks ls h = absurd h

-- where each value of a kind may be cast to another, the kind casts to it
pub casts_of_values : (from to : KindTree) → ((v : Tree) → IsOf v from → CanCast to v) → CastsTo from to
casts_of_values from to each = told from to (each (witness from) (witness_is from))
  where
    told : (k l : KindTree) → CanCast l (witness k) → CastsTo k l
    told k_bytes l can = tt
    told k_chars k_boolean can = tt
    told k_chars k_int can = tt
    told k_chars k_long can = tt
    told k_int k_long can = tt
    told k_long k_int can = tt
    told k_boolean k_chars can = tt
    told k_int k_chars can = tt
    told k_long k_chars can = tt
    told k l can = witness_tells k l can
