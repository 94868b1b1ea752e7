-- A law of everything that is read: where it holds of each form, it holds of what the bytes of any field read as.
use Rattle.std.proofs.Common.{◌-◌, ◌==◌, ℕ, ℤ, inl, inr, FitsSigned, Bool, true, false, cond, if◌then◌else◌, List, [], ◌∷◌, length, drop, Option, None, Some, sym, subst}
use Rattle.std.specs.Bool.{⊤}
use Rattle.std.specs.BTreeMap.{insert_entry}
use Rattle.std.specs.Int.{Width, w32, w64}
use Rattle.std.specs.List.{All, AllByRecursion, onto_first}
use Rattle.std.specs.Option.{option_and_then, option_map}
use Rattle.std.specs.Ordering.{match_ordering}
use Rattle.std.specs.Str.Lossy.{utf8_lossy}
use Rattle.std.specs.declared.cmp.Ordering.{Ordering}
use Rattle.std.specs.declared.cmp.Ordering.TheVariants.{Less, Equal, Greater}
use Rattle.std.proofs.lemmas.List.Elements.{All-cons, All-drop, All-head, All-nil, All-tail, All-take}
use Rattle.pig_value.specs.Brackets.{body_of, depth_after, inside, is_bracketed, is_separator, items, items_at, items_or_none}
use Rattle.pig_value.specs.Fields.{entries_by_key, put_pairs}
use Rattle.pig_value.specs.FieldReader.{all_of, bool_of, case_of, cut_at, field_value, fields_in, number_of, pair_in, pairs_in, row_in, rows_in, value_in}
use Rattle.pig_value.specs.Orders.{bag_of, text_cmp}
use Rattle.pig_value.specs.Trees.{Tree, v_null, v_bool, v_int, v_long, v_chars, v_bytes, v_tuple, v_bag, v_map, fields_of, tuples_of, entries_of, KindTree, KindTrees, k_boolean, k_int, k_long, k_chars, k_bytes, k_tuple, k_bag, k_map, no_kinds, more_kinds}
use Rattle.pig_value.proofs.NumberTexts.{number_cases}
use Rattle.pig_value.proofs.OfRead.{OfRead, of_made, of_any, of_items, of_value}

-- what holds of each element of a list holds of each of its pieces
pub onto_first_keeps : {X : Type 0} (P : X → Type 0) (x : X) (parts : List (List X)) → P x → All (All P) parts → All (All P) (onto_first x parts)
onto_first_keeps P x [] here rest = All-cons (All P) (x ∷ []) [] (All-cons P x [] here (All-nil P)) (All-nil (All P))
onto_first_keeps P x (part ∷ parts) here rest = All-cons (All P) (x ∷ part) parts (All-cons P x part here (All-head (All P) part parts rest)) (All-tail (All P) part parts rest)

-- a law G of bytes: it holds of a body between brackets, of its items, and of a key and its value
module _ (G : ℕ → Type 0) where
  body_keeps : (opening closing : ℕ) (bs : List ℕ) → All G bs → OfRead (All G) (body_of opening closing bs)
  body_keeps opening closing bs given = by_test (is_bracketed opening closing bs)
    where
      by_test : (t : Bool) → OfRead (All G) (if t then Some (inside bs) else None)
      by_test true = All-take G (length bs - 1 - 1) (drop 1 bs) (All-drop G 1 bs given)
      by_test false = tt

  items_by : (b : ℕ) (here later : List (List ℕ)) → G b → All (All G) here → All (All G) later → (t : Bool) → All (All G) (cond t ([] ∷ here) (onto_first b later))
  items_by b here later own h l true = All-cons (All G) [] here (All-nil G) h
  items_by b here later own h l false = onto_first_keeps G b later own l

  items_keep : (d : ℕ) (bs : List ℕ) → All G bs → All (All G) (items_at d bs)
  items_keep d [] given = All-cons (All G) [] [] (All-nil G) (All-nil (All G))
  items_keep d (b ∷ bs) given =
      let rest : All G bs = All-tail G b bs given in
      items_by b (items_at d bs) (items_at (depth_after d b) bs) (All-head G b bs given) (items_keep d bs rest) (items_keep (depth_after d b) bs rest) (is_separator d b)

  any_items_keep : (bs : List ℕ) → All G bs → All (All G) (items_or_none bs)
  any_items_keep [] given = All-nil (All G)
  any_items_keep (b ∷ bs) given = items_keep 0 (b ∷ bs) given

  listed_keeps : {Y : Type 0} (P : Y → Type 0) (f : List ℕ → Option Y) (opening closing : ℕ) → ((x : List ℕ) → All G x → OfRead P (f x)) → (bs : List ℕ) → All G bs → OfRead (AllByRecursion P) (option_and_then (λ body. all_of f (items_or_none body)) (body_of opening closing bs))
  listed_keeps P f opening closing each bs given = of_items (All G) P f each (body_of opening closing bs) (by_body (body_of opening closing bs) (body_keeps opening closing bs given))
    where
      by_body : (o : Option (List ℕ)) → OfRead (All G) o → OfRead (λ body. All (All G) (items_or_none body)) o
      by_body None h = tt
      by_body (Some body) h = any_items_keep body h

  abbrev IsCut : List ℕ × List ℕ → Type 0
  IsCut p = All G p.0 × All G p.1

  cut_keeps : (bs : List ℕ) → All G bs → OfRead IsCut (cut_at 35 bs)
  cut_keeps [] given = tt
  cut_keeps (b ∷ bs) given = by_test (cut_at 35 bs) (cut_keeps bs (All-tail G b bs given)) (b == 35)
    where
      by_test : (o : Option (List ℕ × List ℕ)) → OfRead IsCut o → (t : Bool) → OfRead IsCut (if t then Some ([], bs) else option_map (λ p. (b ∷ p.0, p.1)) o)
      by_test o h true = (All-nil G, All-tail G b bs given)
      by_test o h false = of_made IsCut IsCut (λ (p : List ℕ × List ℕ). (b ∷ p.0, p.1)) (λ p k. (All-cons G b p.0 (All-head G b bs given) k.0, k.1)) o h

-- a law P of kinds and values: of a row, each field by its kind
abbrev pub EachOf : (KindTree → Tree → Type 0) → KindTrees → List Tree → Type 0
EachOf P no_kinds [] = ⊤
EachOf P (more_kinds k ks) (v ∷ row) = P k v × EachOf P ks row
EachOf P no_kinds (v ∷ row) = ⊥
EachOf P (more_kinds k ks) [] = ⊥

-- and of a pair, K of its key and P of its value
abbrev pub PairOf : (List ℕ → Type 0) → (Tree → Type 0) → List ℕ × Tree → Type 0
PairOf K P p = K p.0 × P p.1

-- the law holds of each form that bytes with G are read as
pub record HoldsOfForms (G : ℕ → Type 0) (K : List ℕ → Type 0) (P : KindTree → Tree → Type 0) : Type 0 where
  pub null : (k : KindTree) → P k v_null
  pub bool : (b : Bool) → P k_boolean (v_bool b)
  pub int : (z : ℤ) → FitsSigned w32 z → P k_int (v_int z)
  pub long : (z : ℤ) → FitsSigned w64 z → P k_long (v_long z)
  pub chars : (bs : List ℕ) → All G bs → P k_chars (v_chars (utf8_lossy bs))
  pub bytes : (bs : List ℕ) → All G bs → P k_bytes (v_bytes bs)
  pub tuple : (ks : KindTrees) (row : List Tree) → EachOf P ks row → P (k_tuple ks) (v_tuple (fields_of row))
  pub bag : (ks : KindTrees) (rows : List (List Tree)) → AllByRecursion (EachOf P ks) rows → P (k_bag ks) (v_bag (tuples_of (bag_of rows)))
  pub key : (bs : List ℕ) → All G bs → K (utf8_lossy bs)
  pub map : (k : KindTree) (ps : List (List ℕ × Tree)) → AllByRecursion (PairOf K (P k)) ps → P (k_map k) (v_map (entries_of (entries_by_key ps)))

-- a number is in range
pub number_fits : (w : Width) (bs : List ℕ) → OfRead (FitsSigned w) (number_of w bs)
number_fits w bs = elim (number_cases w bs) [
  | inl some ↦ subst (OfRead (FitsSigned w)) (sym some.1) some.0.1
  | inr none ↦ subst (OfRead (FitsSigned w)) (sym none.1) tt
]

module _ (G : ℕ → Type 0) (K : List ℕ → Type 0) (P : KindTree → Tree → Type 0) (law : HoldsOfForms G K P) where
  row_read : (ks : KindTrees) → ((texts : List (List ℕ)) → All (All G) texts → EachOf P ks (fields_in ks texts)) → (bs : List ℕ) → All G bs → OfRead (EachOf P ks) (row_in (fields_in ks) bs)
  row_read ks each bs given = of_made (All G) (EachOf P ks) (λ body. fields_in ks (items body)) (λ body h. each (items body) (items_keep G 0 body h)) (body_of 40 41 bs) (body_keeps G 40 41 bs given)

  value_read : (k : KindTree) → ((bs : List ℕ) → All G bs → OfRead (P k) (case_of k bs)) → (bs : List ℕ) → All G bs → P k (value_in (case_of k) bs)
  value_read k each bs given = of_value (P k) (case_of k) bs (law.null k) (each bs given)

  pair_read : (k : KindTree) → ((bs : List ℕ) → All G bs → OfRead (P k) (case_of k bs)) → (bs : List ℕ) → All G bs → OfRead (PairOf K (P k)) (pair_in (value_in (case_of k)) bs)
  pair_read k each bs given = of_made (IsCut G) (PairOf K (P k)) (λ p. (utf8_lossy p.0, value_in (case_of k) p.1)) (λ p h. (law.key p.0 h.0, value_read k each p.1 h.1)) (cut_at 35 bs) (cut_keeps G bs given)

  mutual
    case_read : (k : KindTree) (bs : List ℕ) → All G bs → OfRead (P k) (case_of k bs)
    case_read k_bytes bs given = law.bytes bs given
    case_read k_chars bs given = law.chars bs given
    case_read k_int bs given = of_made (FitsSigned w32) (P k_int) v_int law.int (number_of w32 bs) (number_fits w32 bs)
    case_read k_long bs given = of_made (FitsSigned w64) (P k_long) v_long law.long (number_of w64 bs) (number_fits w64 bs)
    case_read k_boolean bs given = of_any (P k_boolean) v_bool law.bool (bool_of bs)
    case_read (k_tuple ks) bs given = of_made (EachOf P ks) (P (k_tuple ks)) (λ row. v_tuple (fields_of row)) (law.tuple ks) (row_in (fields_in ks) bs) (row_read ks (fields_read ks) bs given)
    case_read (k_bag ks) bs given = of_made (AllByRecursion (EachOf P ks)) (P (k_bag ks)) (λ rows. v_bag (tuples_of (bag_of rows))) (law.bag ks) (rows_in (row_in (fields_in ks)) bs) (listed_keeps G (EachOf P ks) (row_in (fields_in ks)) 123 125 (row_read ks (fields_read ks)) bs given)
    case_read (k_map k) bs given = of_made (AllByRecursion (PairOf K (P k))) (P (k_map k)) (λ pairs. v_map (entries_of (entries_by_key pairs))) (law.map k) (pairs_in (pair_in (value_in (case_of k))) bs) (listed_keeps G (PairOf K (P k)) (pair_in (value_in (case_of k))) 91 93 (pair_read k (case_read k)) bs given)

    fields_read : (ks : KindTrees) (texts : List (List ℕ)) → All (All G) texts → EachOf P ks (fields_in ks texts)
    fields_read no_kinds texts given = tt
    fields_read (more_kinds k ks) [] given = (law.null k, fields_read ks [] given)
    fields_read (more_kinds k ks) (text ∷ texts) given = (value_read k (case_read k) text (All-head (All G) text texts given), fields_read ks texts (All-tail (All G) text texts given))

  pub field_read : (k : KindTree) (bs : List ℕ) → All G bs → P k (field_value k bs)
  field_read k bs given = value_read k (case_read k) bs given

-- what holds of each pair that is put into a map holds of each of its pairs
module _ (K : List ℕ → Type 0) (P : Tree → Type 0) where
  insert_keeps : (es : List (List ℕ × Tree)) (p : List ℕ × Tree) → AllByRecursion (PairOf K P) es → PairOf K P p → AllByRecursion (PairOf K P) (insert_entry text_cmp es p.0 p.1)
  insert_keeps [] p h own = (own, tt)
  insert_keeps (e ∷ es) p h own = by_order (insert_entry text_cmp es p.0 p.1) (insert_keeps es p h.1 own) (text_cmp p.0 e.0)
    where
      by_order : (rest : List (List ℕ × Tree)) → AllByRecursion (PairOf K P) rest → (o : Ordering) → AllByRecursion (PairOf K P) (match_ordering o ((p.0, p.1) ∷ e ∷ es) ((e.0, p.1) ∷ es) (e ∷ rest))
      by_order rest r Less = (own, h)
      by_order rest r Equal = ((h.0.0, own.1), h.1)
      by_order rest r Greater = (h.0, r)

  put_keeps : (es ps : List (List ℕ × Tree)) → AllByRecursion (PairOf K P) es → AllByRecursion (PairOf K P) ps → AllByRecursion (PairOf K P) (put_pairs es ps)
  put_keeps es [] h k = h
  put_keeps es (p ∷ ps) h k = put_keeps (insert_entry text_cmp es p.0 p.1) ps (insert_keeps es p h k.0) k.1

  pub by_key_keeps : (ps : List (List ℕ × Tree)) → AllByRecursion (PairOf K P) ps → AllByRecursion (PairOf K P) (entries_by_key ps)
  by_key_keeps ps h = put_keeps [] ps tt h
