-- A value of each form by its content, and what rules out that there is one.
use Rattle.std.proofs.Common.{◌≡◌, ◌<◌, ◌≤◌, ◌+◌, ℕ, Bool, true, false, List, [], ◌∷◌, ◌++◌, length, refl, sym, ◌∙◌, ap, subst, arith}
use Rattle.std.specs.Prelude.{◌^◌, FitsSigned}
use Rattle.std.specs.Int.{w32, w64, to_be_bytes}
use Rattle.std.specs.List.{AllByRecursion}
use Rattle.std.specs.Str.{IsUtf8}
use Rattle.std.proofs.lemmas.List.{append_assoc, length-append}
use Rattle.pig_value.specs.Trees.{Tree, Fields, Tuples, Entries, v_null, v_bool, v_int, v_long, v_chars, v_bytes, v_tuple, v_bag, v_listed, v_map, no_fields, no_tuples, no_entries, fields_of, fields_list, tuples_of, tuples_list, entries_of, entries_list}
use Rattle.pig_value.proofs.TreeLaws.{fields_back, fields_there, tuples_back, tuples_there, entries_back, entries_there}
use Rattle.pig_value.specs.Orders.{rank, row_cmp, bag_of, entries_cmp}
use Rattle.pig_value.specs.Sorts.{Ascends}
use Rattle.pig_value.proofs.list_laws.Bags.{sorted_is, sort_ascends}
use Rattle.pig_value.proofs.OrderLaws.{tree_same, row_total}
use Rattle.pig_value.specs.Valid.{AreTuples, AreEntries, TextsAscend}
use Rattle.pig_keycode.specs.Codes.{bool_code, biased, text_code, code, fields_code, tuples_code, entries_code}
use Rattle.pig_value.specs.Valid.{IsValue}
use Rattle.pig_value.specs.Leaves.{AreBytes}
use Rattle.pig_keycode.specs.Reading.{StandsFirst, NoneFirst, mark_code, AnyMark, row_code, fields_part, rows_part, pair_code, IsCodedPair, pairs_part, AreCodedPairs, pair_keys}
use Rattle.pig_value.specs.Valid.{IsRow, AreRows}
use Rattle.pig_keycode.proofs.CodeOrder.{entries_order}
use Rattle.pig_keycode.proofs.Sequences.{list_code, ListGoes, list_ends, list_off, item_off, heads, tails}
use Rattle.pig_keycode.proofs.Unique.{code_told, text_told, parts_equal}

-- what is behind the tag
abbrev behind : List ℕ → List ℕ
behind [] = []
behind (x ∷ xs) = xs

abbrev pub content_of : Tree → List ℕ
content_of v = behind (code v)

pub code_is : (v : Tree) → code v ≡ rank v ∷ content_of v
code_is v_null = refl
code_is (v_bool b) = refl
code_is (v_int z) = refl
code_is (v_long z) = refl
code_is (v_chars text) = refl
code_is (v_bytes bytes) = refl
code_is (v_tuple vs) = refl
code_is (v_bag rs) = refl
code_is (v_listed rs) = refl
code_is (v_map ps) = refl

pub none_by_tag : (tag : ℕ) (content : List ℕ) → ((v : Tree) (rest : List ℕ) → rank v ≡ tag → IsValue v → content ≡ content_of v ++ rest → ⊥) → NoneFirst code IsValue (tag ∷ content)
none_by_tag tag content none v rest h =
    let whole : tag ∷ content ≡ rank v ∷ (content_of v ++ rest) = h.is ∙ ap (λ l. l ++ rest) (code_is v) in
    none v rest (sym (heads tag (rank v) content (content_of v ++ rest) whole)) h.good (tails tag (rank v) content (content_of v ++ rest) whole)

-- lengths
pub not_longer : {X : Type 0} (write : X → List ℕ) (Good : X → Type 0) (bytes : List ℕ) (x : X) (rest : List ℕ) → StandsFirst write Good bytes x rest → length rest ≤ length bytes
not_longer write Good bytes x rest h =
    let e : length bytes ≡ length (write x) + length rest = ap length h.is ∙ length-append (write x) rest in
    omega (arith, e)

pub one_shorter : (bytes : List ℕ) (b : Bool) (rest : List ℕ) → StandsFirst mark_code AnyMark bytes b rest → length bytes ≡ length rest + 1
one_shorter bytes b rest h = let e : length bytes ≡ length (bool_code b ∷ rest) = ap length h.is in omega (arith, e)

-- ---- forms without parts

pub none_bool : (content : List ℕ) → NoneFirst mark_code AnyMark content → NoneFirst code IsValue (1 ∷ content)
none_bool content none = none_by_tag 1 content by
  where
    by : (v : Tree) (rest : List ℕ) → rank v ≡ 1 → IsValue v → content ≡ content_of v ++ rest → ⊥
    by (v_bool b) rest e good is = none b rest (record { is = is; good = tt })
    by v rest e good is = omega (arith, e)

pub none_int : (content : List ℕ) → NoneFirst (λ z. to_be_bytes w32 (biased (2 ^ 31) z)) (FitsSigned w32) content → NoneFirst code IsValue (2 ∷ content)
none_int content none = none_by_tag 2 content by
  where
    by : (v : Tree) (rest : List ℕ) → rank v ≡ 2 → IsValue v → content ≡ content_of v ++ rest → ⊥
    by (v_int z) rest e good is = none z rest (record { is = is; good = good })
    by v rest e good is = omega (arith, e)

pub none_chars : (content : List ℕ) → NoneFirst text_code IsUtf8 content → NoneFirst code IsValue (4 ∷ content)
none_chars content none = none_by_tag 4 content by
  where
    by : (v : Tree) (rest : List ℕ) → rank v ≡ 4 → IsValue v → content ≡ content_of v ++ rest → ⊥
    by (v_chars text) rest e good is = none text rest (record { is = is; good = good })
    by v rest e good is = omega (arith, e)

pub none_bytes : (content : List ℕ) → NoneFirst text_code AreBytes content → NoneFirst code IsValue (5 ∷ content)
none_bytes content none = none_by_tag 5 content by
  where
    by : (v : Tree) (rest : List ℕ) → rank v ≡ 5 → IsValue v → content ≡ content_of v ++ rest → ⊥
    by (v_bytes bytes) rest e good is = none bytes rest (record { is = is; good = good })
    by v rest e good is = omega (arith, e)

-- ---- lists of parts

module _ {X : Type 0} (item : X → List ℕ) (Good : X → Type 0) (write : List X → List ℕ) (Fine : List X → Type 0)
    (written : (xs : List X) → write xs ≡ list_code item xs) (there : (xs : List X) → AllByRecursion Good xs → Fine xs) (back : (xs : List X) → Fine xs → AllByRecursion Good xs) where
  list_none : (bytes : List ℕ) → NoneFirst (list_code item) (AllByRecursion Good) bytes → NoneFirst write Fine bytes
  list_none bytes none xs rest h = none xs rest (record { is = h.is ∙ ap (λ l. l ++ rest) (written xs); good = back xs h.good })

  part_ends : (bytes rest left : List ℕ) (done : List X) → ListGoes item Good bytes rest done → StandsFirst mark_code AnyMark rest false left → StandsFirst write Fine bytes done left
  part_ends bytes rest left done g h =
      let whole = list_ends item Good bytes rest left done g h in
      record { is = whole.is ∙ ap (λ l. l ++ left) (sym (written done)); good = there done whole.good }

  part_off : (bytes rest : List ℕ) (done : List X) → ListGoes item Good bytes rest done → NoneFirst mark_code AnyMark rest → NoneFirst write Fine bytes
  part_off bytes rest done g none = list_none bytes (list_off item Good bytes rest done g none)

  part_item_off : (bytes rest left : List ℕ) (done : List X) → ListGoes item Good bytes rest done → StandsFirst mark_code AnyMark rest true left → NoneFirst item Good left → NoneFirst write Fine bytes
  part_item_off bytes rest left done g h none = list_none bytes (item_off item Good bytes rest left done g h none)

-- ---- tuples

fields_written : (vs : List Tree) → fields_part vs ≡ list_code code vs
fields_written [] = refl
fields_written (v ∷ vs) = ap (λ l. 1 ∷ (code v ++ l)) (fields_written vs)

fields_good : (vs : List Tree) → AllByRecursion IsValue vs → IsRow vs
fields_good [] h = tt
fields_good (v ∷ vs) h = (h.0, fields_good vs h.1)

fields_back_good : (vs : List Tree) → IsRow vs → AllByRecursion IsValue vs
fields_back_good [] h = tt
fields_back_good (v ∷ vs) h = (h.0, fields_back_good vs h.1)

pub fields_end : (bytes rest left : List ℕ) (done : List Tree) → ListGoes code IsValue bytes rest done → StandsFirst mark_code AnyMark rest false left → StandsFirst fields_part IsRow bytes done left
fields_end = part_ends code IsValue fields_part IsRow fields_written fields_good fields_back_good

pub fields_off : (bytes rest : List ℕ) (done : List Tree) → ListGoes code IsValue bytes rest done → NoneFirst mark_code AnyMark rest → NoneFirst fields_part IsRow bytes
fields_off = part_off code IsValue fields_part IsRow fields_written fields_good fields_back_good

pub fields_item_off : (bytes rest left : List ℕ) (done : List Tree) → ListGoes code IsValue bytes rest done → StandsFirst mark_code AnyMark rest true left → NoneFirst code IsValue left → NoneFirst fields_part IsRow bytes
fields_item_off = part_item_off code IsValue fields_part IsRow fields_written fields_good fields_back_good

pub none_tuple : (content : List ℕ) → NoneFirst fields_part IsRow content → NoneFirst code IsValue (6 ∷ content)
none_tuple content none = none_by_tag 6 content by
  where
    by : (v : Tree) (rest : List ℕ) → rank v ≡ 6 → IsValue v → content ≡ content_of v ++ rest → ⊥
    by (v_tuple vs) rest e good is =
        none (fields_list vs) rest (record { is = is ∙ ap (λ w. fields_code w ++ rest) (sym (fields_there vs)); good = subst (λ w. IsValue (v_tuple w)) (sym (fields_there vs)) good })
    by v rest e good is = omega (arith, e)

-- the fields in a tuple
abbrev fields_held : Tree → Fields
fields_held (v_tuple vs) = vs
fields_held v = no_fields

pub row_told : (x y : List Tree) (s t : List ℕ) → IsRow x → IsRow y → row_code x ++ s ≡ row_code y ++ t → (x ≡ y) × (s ≡ t)
row_told x y s t h k e =
    let both = code_told (v_tuple (fields_of x)) (v_tuple (fields_of y)) s t h k e in
    (sym (fields_back x) ∙ (ap (λ v. fields_list (fields_held v)) both.0 ∙ fields_back y), both.1)

-- ---- bags

rows_written : (rs : List (List Tree)) → rows_part rs ≡ list_code row_code rs
rows_written [] = refl
rows_written (r ∷ rs) = ap (λ l. 1 ∷ 6 ∷ (fields_code (fields_of r) ++ l)) (rows_written rs)

rows_good : (rs : List (List Tree)) → AllByRecursion IsRow rs → AreRows rs
rows_good [] h = tt
rows_good (r ∷ rs) h = (h.0, rows_good rs h.1)

rows_back_good : (rs : List (List Tree)) → AreRows rs → AllByRecursion IsRow rs
rows_back_good [] h = tt
rows_back_good (r ∷ rs) h = (h.0, rows_back_good rs h.1)

pub rows_end : (bytes rest left : List ℕ) (done : List (List Tree)) → ListGoes row_code IsRow bytes rest done → StandsFirst mark_code AnyMark rest false left → StandsFirst rows_part AreRows bytes done left
rows_end = part_ends row_code IsRow rows_part AreRows rows_written rows_good rows_back_good

pub rows_off : (bytes rest : List ℕ) (done : List (List Tree)) → ListGoes row_code IsRow bytes rest done → NoneFirst mark_code AnyMark rest → NoneFirst rows_part AreRows bytes
rows_off = part_off row_code IsRow rows_part AreRows rows_written rows_good rows_back_good

pub rows_item_off : (bytes rest left : List ℕ) (done : List (List Tree)) → ListGoes row_code IsRow bytes rest done → StandsFirst mark_code AnyMark rest true left → NoneFirst row_code IsRow left → NoneFirst rows_part AreRows bytes
rows_item_off = part_item_off row_code IsRow rows_part AreRows rows_written rows_good rows_back_good

rows_from : (content : List ℕ) (rs : Tuples) (rest : List ℕ) → AreTuples rs → content ≡ tuples_code rs ++ rest → StandsFirst rows_part AreRows content (tuples_list rs) rest
rows_from content rs rest h is = record {
  is = is ∙ ap (λ w. tuples_code w ++ rest) (sym (tuples_there rs));
  good = subst (λ w. AreTuples w) (sym (tuples_there rs)) h;
}

pub stands_bag : (content : List ℕ) (rs : List (List Tree)) (rest : List ℕ) → Ascends row_cmp rs → StandsFirst rows_part AreRows content rs rest → StandsFirst code IsValue (7 ∷ content) (v_bag (tuples_of rs)) rest
stands_bag content rs rest rises h = record {
  is = ap (λ l. 7 ∷ l) h.is;
  good = (ap bag_of (tuples_back rs) ∙ (sorted_is row_cmp rs rises ∙ sym (tuples_back rs)), h.good);
}

pub none_bag : (content : List ℕ) → NoneFirst rows_part AreRows content → NoneFirst code IsValue (7 ∷ content)
none_bag content none = none_by_tag 7 content by
  where
    by : (v : Tree) (rest : List ℕ) → rank v ≡ 7 → IsValue v → content ≡ content_of v ++ rest → ⊥
    by (v_bag rs) rest e good is = none (tuples_list rs) rest (rows_from content rs rest good.1 is)
    by v rest e good is = omega (arith, e)

pub none_listed : (content : List ℕ) → NoneFirst rows_part AreRows content → NoneFirst code IsValue (8 ∷ content)
none_listed content none = none_by_tag 8 content by
  where
    by : (v : Tree) (rest : List ℕ) → rank v ≡ 8 → IsValue v → content ≡ content_of v ++ rest → ⊥
    by (v_listed rs) rest e good is = none (tuples_list rs) rest (rows_from content rs rest good is)
    by v rest e good is = omega (arith, e)

abbrev rows_in : Tree → Tuples
rows_in (v_listed rs) = rs
rows_in v = no_tuples

-- rows that are no bag
pub off_bag : (content : List ℕ) (rs : List (List Tree)) (left : List ℕ) → ¬ (Ascends row_cmp rs) → StandsFirst rows_part AreRows content rs left → NoneFirst code IsValue (7 ∷ content)
off_bag content rs left unsorted h = none_by_tag 7 content by
  where
    by : (v : Tree) (rest : List ℕ) → rank v ≡ 7 → IsValue v → content ≡ content_of v ++ rest → ⊥
    by (v_bag ts) rest e good is =
        let both = code_told (v_listed (tuples_of rs)) (v_listed ts) left rest h.good good.1 (ap (λ l. 8 ∷ l) (sym h.is ∙ is)) in
        let same : tuples_list ts ≡ rs = sym (ap (λ v. tuples_list (rows_in v)) both.0) ∙ tuples_back rs in
        let sorted : bag_of rs ≡ rs = sym (ap bag_of same) ∙ (good.0 ∙ same) in
        unsorted (subst (Ascends row_cmp) sorted (sort_ascends row_cmp row_total rs))
    by v rest e good is = omega (arith, e)

-- ---- maps

pairs_written : (ps : List (List ℕ × Tree)) → pairs_part ps ≡ list_code pair_code ps
pairs_written [] = refl
pairs_written (p ∷ ps) = ap (λ l. 1 ∷ 4 ∷ (text_code p.0 ++ (code p.1 ++ l))) (pairs_written ps) ∙ ap (λ l. 1 ∷ 4 ∷ l) (sym (append_assoc (text_code p.0) (code p.1) (list_code pair_code ps)))

pairs_good : (ps : List (List ℕ × Tree)) → AllByRecursion IsCodedPair ps → AreCodedPairs ps
pairs_good [] h = tt
pairs_good (p ∷ ps) h = (h.0.0, h.0.1, pairs_good ps h.1)

pairs_back_good : (ps : List (List ℕ × Tree)) → AreCodedPairs ps → AllByRecursion IsCodedPair ps
pairs_back_good [] h = tt
pairs_back_good (p ∷ ps) h = ((h.0, h.1), pairs_back_good ps h.2)

pub pairs_end : (bytes rest left : List ℕ) (done : List (List ℕ × Tree)) → ListGoes pair_code IsCodedPair bytes rest done → StandsFirst mark_code AnyMark rest false left → StandsFirst pairs_part AreCodedPairs bytes done left
pairs_end = part_ends pair_code IsCodedPair pairs_part AreCodedPairs pairs_written pairs_good pairs_back_good

pub pairs_off : (bytes rest : List ℕ) (done : List (List ℕ × Tree)) → ListGoes pair_code IsCodedPair bytes rest done → NoneFirst mark_code AnyMark rest → NoneFirst pairs_part AreCodedPairs bytes
pairs_off = part_off pair_code IsCodedPair pairs_part AreCodedPairs pairs_written pairs_good pairs_back_good

pub pairs_item_off : (bytes rest left : List ℕ) (done : List (List ℕ × Tree)) → ListGoes pair_code IsCodedPair bytes rest done → StandsFirst mark_code AnyMark rest true left → NoneFirst pair_code IsCodedPair left → NoneFirst pairs_part AreCodedPairs bytes
pairs_item_off = part_item_off pair_code IsCodedPair pairs_part AreCodedPairs pairs_written pairs_good pairs_back_good

pub stands_map : (content : List ℕ) (ps : List (List ℕ × Tree)) (rest : List ℕ) → TextsAscend (pair_keys ps) → StandsFirst pairs_part AreCodedPairs content ps rest → StandsFirst code IsValue (9 ∷ content) (v_map (entries_of ps)) rest
stands_map content ps rest rises h = record {
  is = ap (λ l. 9 ∷ l) h.is;
  good = (subst (λ l. TextsAscend (pair_keys l)) (sym (entries_back ps)) rises, h.good);
}

pub none_map : (content : List ℕ) → NoneFirst pairs_part AreCodedPairs content → NoneFirst code IsValue (9 ∷ content)
none_map content none = none_by_tag 9 content by
  where
    by : (v : Tree) (rest : List ℕ) → rank v ≡ 9 → IsValue v → content ≡ content_of v ++ rest → ⊥
    by (v_map ps) rest e good is =
        none (entries_list ps) rest (record {
          is = is ∙ ap (λ w. entries_code w ++ rest) (sym (entries_there ps));
          good = subst (λ w. AreEntries w) (sym (entries_there ps)) good.1;
        })
    by v rest e good is = omega (arith, e)

abbrev entries_in : Tree → Entries
entries_in (v_map ps) = ps
entries_in v = no_entries

-- pairs whose keys don't ascend
pub off_map : (content : List ℕ) (ps : List (List ℕ × Tree)) (left : List ℕ) → ¬ (TextsAscend (pair_keys ps)) → StandsFirst pairs_part AreCodedPairs content ps left → NoneFirst code IsValue (9 ∷ content)
off_map content ps left mixed h = none_by_tag 9 content by
  where
    by : (v : Tree) (rest : List ℕ) → rank v ≡ 9 → IsValue v → content ≡ content_of v ++ rest → ⊥
    by (v_map qs) rest e good is =
        let law = entries_order (entries_of ps) qs h.good good.1 left rest in
        let both = parts_equal (entries_code (entries_of ps) ++ left) (entries_code qs ++ rest) left rest (entries_cmp (entries_of ps) qs) law (sym h.is ∙ is) in
        let one : v_map (entries_of ps) ≡ v_map qs = tree_same (v_map (entries_of ps)) (v_map qs) both.0 in
        let same : entries_list qs ≡ ps = sym (ap (λ v. entries_list (entries_in v)) one) ∙ entries_back ps in
        mixed (subst (λ l. TextsAscend (pair_keys l)) same good.0)
    by v rest e good is = omega (arith, e)

-- ---- a key and a value

abbrev text_in : Tree → List ℕ
text_in (v_chars text) = text
text_in v = []

pub stands_pair : (bytes after rest : List ℕ) (key : List ℕ) (v : Tree) → StandsFirst (λ text. code (v_chars text)) IsUtf8 bytes key after → StandsFirst code IsValue after v rest → StandsFirst pair_code IsCodedPair bytes (key, v) rest
stands_pair bytes after rest key v h k = record {
  is = h.is ∙ (ap (λ l. code (v_chars key) ++ l) k.is ∙ sym (append_assoc (code (v_chars key)) (code v) rest));
  good = (h.good, k.good);
}

pub none_after : (bytes after : List ℕ) (key : List ℕ) → StandsFirst (λ text. code (v_chars text)) IsUtf8 bytes key after → NoneFirst code IsValue after → NoneFirst pair_code IsCodedPair bytes
none_after bytes after key h none p rest k =
    let both = code_told (v_chars key) (v_chars p.0) after (code p.1 ++ rest) h.good k.good.0 (sym h.is ∙ (k.is ∙ append_assoc (code (v_chars p.0)) (code p.1) rest)) in
    none p.1 rest (record { is = both.1; good = k.good.1 })

pub pair_told : (p q : List ℕ × Tree) (s t : List ℕ) → IsCodedPair p → IsCodedPair q → pair_code p ++ s ≡ pair_code q ++ t → (p ≡ q) × (s ≡ t)
pair_told p q s t h k e =
    let first = code_told (v_chars p.0) (v_chars q.0) (code p.1 ++ s) (code q.1 ++ t) h.0 k.0 (sym (append_assoc (code (v_chars p.0)) (code p.1) s) ∙ (e ∙ append_assoc (code (v_chars q.0)) (code q.1) t)) in
    let second = code_told p.1 q.1 s t h.1 k.1 first.1 in
    let keys : p.0 ≡ q.0 = ap text_in first.0 in
    let pair : p ≡ q = λ i. (keys i, second.0 i) in
    (pair, second.1)

-- ---- texts that are UTF-8

pub none_chars_text : (bytes : List ℕ) → ((text : List ℕ) → IsUtf8 text → AreBytes text) → NoneFirst text_code AreBytes bytes → NoneFirst text_code IsUtf8 bytes
none_chars_text bytes small none text rest h = none text rest (record { is = h.is; good = small text h.good })

pub no_chars : (bytes text rest : List ℕ) → StandsFirst text_code AreBytes bytes text rest → ¬ (IsUtf8 text) → NoneFirst text_code IsUtf8 bytes
no_chars bytes text rest h broken other left k =
    let both = text_told text other rest left (sym h.is ∙ k.is) in
    broken (subst IsUtf8 (sym both.0) k.good)
