-- What a cast of a line-free value gives holds no LF.
use Rattle.std.proofs.Common.{◌≢◌, ◌+◌, ◌/◌, ◌%◌, ◌==◌, ℕ, zero, suc, ℤ, pos, negsuc, Bool, true, false, cond, nat_lt, List, [], ◌∷◌, arith, rules}
use Rattle.std.specs.Fmt.{decimal, digit_glyph, digits, digits_onto, signed_decimal}
use Rattle.std.proofs.lemmas.List.Elements.{All-cons, All-from_recursion, All-nil}
use Rattle.pig_value.specs.Casts.{cast_of}
use Rattle.pig_value.specs.Kinds.{is_of_kind}
use Rattle.pig_value.specs.Texts.{HasNoLf, IsLineFree, bool_text}
use Rattle.pig_value.specs.Trees.{Tree, v_null, v_bool, v_int, v_long, v_chars, v_bytes, KindTree, k_boolean, k_int, k_long, k_chars, k_bytes, k_tuple, k_bag, k_map}
use Rattle.pig_value.proofs.FieldFree.{field_free}

-- a byte other than LF
abbrev NotLf : ℕ → Type 0
NotLf b = b ≢ 10

-- no number's text holds an LF
glyph_free : (d : ℕ) → digit_glyph false d ≢ 10
glyph_free d = by_test (nat_lt d 10)
  where
    by_test : (b : Bool) → cond b (48 + d) (87 + d) ≢ 10
    by_test true = λ e. omega arith
    by_test false = λ e. omega arith

digits_by : (b : Bool) (xs ys : List ℕ) → HasNoLf xs → HasNoLf ys → HasNoLf (cond b xs ys)
digits_by true xs ys x y = x
digits_by false xs ys x y = y

digits_onto_free : (k n : ℕ) (acc : List ℕ) → HasNoLf acc → HasNoLf (digits_onto k 10 false n acc)
digits_onto_free zero n acc free = free
digits_onto_free (suc k) n acc free =
    let digits_so_far : List ℕ = digit_glyph false (n % 10) ∷ acc in
    let more : HasNoLf digits_so_far = All-cons NotLf (digit_glyph false (n % 10)) acc (glyph_free (n % 10)) free in
    digits_by (n / 10 == 0) digits_so_far (digits_onto k 10 false (n / 10) digits_so_far) more (digits_onto_free k (n / 10) digits_so_far more)

decimal_free : (n : ℕ) → HasNoLf (decimal n)
unfolding digits
decimal_free n = digits_onto_free 64 n [] (All-nil NotLf)

pub signed_free : (z : ℤ) → HasNoLf (signed_decimal z)
signed_free (pos n) = decimal_free n
signed_free (negsuc n) = All-cons NotLf 45 (decimal (suc n)) (λ e. omega arith) (decimal_free (suc n))

pub bool_text_free : (b : Bool) → HasNoLf (bool_text b)
bool_text_free true = All-from_recursion NotLf (bool_text true) (search rules)
bool_text_free false = All-from_recursion NotLf (bool_text false) (search rules)

stays_free : (b : Bool) (v : Tree) → IsLineFree v → IsLineFree (cond b v v_null)
stays_free true v free = free
stays_free false v free = tt

pub cast_free : (k : KindTree) (v : Tree) → IsLineFree v → IsLineFree (cast_of k v)
cast_free k_bytes (v_bytes bytes) free = free
cast_free k_boolean (v_bytes bytes) free = field_free k_boolean bytes free
cast_free k_int (v_bytes bytes) free = field_free k_int bytes free
cast_free k_long (v_bytes bytes) free = field_free k_long bytes free
cast_free k_chars (v_bytes bytes) free = field_free k_chars bytes free
cast_free (k_tuple ks) (v_bytes bytes) free = field_free (k_tuple ks) bytes free
cast_free (k_bag ks) (v_bytes bytes) free = field_free (k_bag ks) bytes free
cast_free (k_map k) (v_bytes bytes) free = field_free (k_map k) bytes free
cast_free k_boolean (v_chars text) free = field_free k_boolean text free
cast_free k_int (v_chars text) free = field_free k_int text free
cast_free k_long (v_chars text) free = field_free k_long text free
cast_free k_long (v_int z) free = tt
cast_free k_int (v_long z) free = tt
cast_free k_chars (v_bool b) free = bool_text_free b
cast_free k_chars (v_int z) free = signed_free z
cast_free k_chars (v_long z) free = signed_free z
cast_free k v free = stays_free (is_of_kind v k) v free
