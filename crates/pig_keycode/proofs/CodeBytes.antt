-- A code is of bytes.
use Rattle.std.proofs.Common.{◌≡◌, ◌<◌, ℕ, zero, suc, Bool, true, false, ◌&&◌, List, [], ◌∷◌, ◌++◌, refl, arith, subst, inl, inr}
use Rattle.std.specs.Str.{IsUtf8}
use Rattle.std.specs.Int.{byte_at, bytes_high_first}
use Rattle.std.proofs.lemmas.Nat.{mod_below}
use Rattle.std.proofs.lemmas.Bool.{cases_lt, lt-ltb, le-ltb}
use lib.Utf8.{encode, encodes, scalar, scalars, scalar_cases}
use Rattle.pig_value.specs.Trees.{Tree, Fields, Tuples, Entries, v_null, v_bool, v_int, v_long, v_chars, v_bytes, v_tuple, v_bag, v_listed, v_map, no_fields, more_fields, no_tuples, more_tuples, no_entries, more_entries}
use Rattle.pig_keycode.specs.Codes.{bool_code, escaped, text_code, code, fields_code, tuples_code, entries_code}
use Rattle.pig_value.specs.Leaves.{AreBytes}
use Rattle.pig_value.specs.Valid.{IsValue, AreFields, AreTuples, AreEntries}

pub bytes-append : (xs ys : List ℕ) → AreBytes xs → AreBytes ys → AreBytes (xs ++ ys)
bytes-append [] ys h k = k
bytes-append (x ∷ xs) ys h k = (h.0, bytes-append xs ys h.1 k)

byte_small : (k n : ℕ) → byte_at k n < 256
byte_small zero n = mod_below n 256 (omega arith)
byte_small (suc k) n = mod_below _ 256 (omega arith)

number_bytes : (k n : ℕ) → AreBytes (bytes_high_first k n)
number_bytes zero n = tt
number_bytes (suc k) n = (byte_small k n, number_bytes k n)

escaped_bytes : (bs : List ℕ) → AreBytes bs → AreBytes (escaped bs)
escaped_bytes [] h = tt
escaped_bytes (zero ∷ bs) h = (omega arith, (omega arith, escaped_bytes bs h.1))
escaped_bytes (suc b ∷ bs) h = (h.0, escaped_bytes bs h.1)

text_bytes : (bs : List ℕ) → AreBytes bs → AreBytes (text_code bs)
text_bytes bs h = bytes-append (escaped bs) (0 ∷ 0 ∷ []) (escaped_bytes bs h) (omega arith, (omega arith, tt))

both_true : (a b : Bool) → (a && b) ≡ true → (a ≡ true) × (b ≡ true)
both_true true b h = (refl, h)
both_true false b h = absurd (cc)

character_small : (c : ℕ) → scalar c ≡ true → c < 1114112
character_small c h = elim (scalar_cases c h) [
  | inl a ↦ omega arith
  | inr a ↦ a.1
]

character_bytes : (c : ℕ) → c < 1114112 → AreBytes (encode c)
unfolding encode
character_bytes c h = elim (cases_lt c 128) [
  | inl a ↦ rw (lt-ltb c 128 a) (omega arith, tt)
  | inr a ↦ elim (cases_lt c 2048) [
    | inl b ↦ rw (le-ltb c 128 a, lt-ltb c 2048 b) (omega arith, (omega arith, tt))
    | inr b ↦ elim (cases_lt c 65536) [
      | inl d ↦ rw (le-ltb c 128 a, le-ltb c 2048 b, lt-ltb c 65536 d) (omega arith, (omega arith, (omega arith, tt)))
      | inr d ↦ rw (le-ltb c 128 a, le-ltb c 2048 b, le-ltb c 65536 d) (omega arith, (omega arith, (omega arith, (omega arith, tt))))
    ]
  ]
]

characters_bytes : (cs : List ℕ) → scalars cs ≡ true → AreBytes (encodes cs)
characters_bytes [] h = tt
characters_bytes (c ∷ cs) h =
    let both = both_true (scalar c) (scalars cs) h in
    bytes-append (encode c) (encodes cs) (character_bytes c (character_small c both.0)) (characters_bytes cs both.1)

pub utf8_bytes : (bs : List ℕ) → IsUtf8 bs → AreBytes bs
utf8_bytes bs h = subst AreBytes h.1.1 (characters_bytes h.0 h.1.0)

bool_small : (b : Bool) → bool_code b < 256
bool_small false = omega arith
bool_small true = omega arith

mutual
  pub code_bytes : (v : Tree) → IsValue v → AreBytes (code v)
  code_bytes v_null h = (omega arith, tt)
  code_bytes (v_bool b) h = (omega arith, (bool_small b, tt))
  code_bytes (v_int z) h = (omega arith, number_bytes 4 _)
  code_bytes (v_long z) h = (omega arith, number_bytes 8 _)
  code_bytes (v_chars text) h = (omega arith, text_bytes text (utf8_bytes text h))
  code_bytes (v_bytes bytes) h = (omega arith, text_bytes bytes h)
  code_bytes (v_tuple vs) h = (omega arith, fields_bytes vs h)
  code_bytes (v_bag rs) h = (omega arith, tuples_bytes rs h.1)
  code_bytes (v_listed rs) h = (omega arith, tuples_bytes rs h)
  code_bytes (v_map ps) h = (omega arith, entries_bytes ps h.1)

  fields_bytes : (vs : Fields) → AreFields vs → AreBytes (fields_code vs)
  fields_bytes no_fields h = (omega arith, tt)
  fields_bytes (more_fields v vs) h = (omega arith, bytes-append (code v) (fields_code vs) (code_bytes v h.0) (fields_bytes vs h.1))

  tuples_bytes : (rs : Tuples) → AreTuples rs → AreBytes (tuples_code rs)
  tuples_bytes no_tuples h = (omega arith, tt)
  tuples_bytes (more_tuples r rs) h = (omega arith, (omega arith, bytes-append (fields_code r) (tuples_code rs) (fields_bytes r h.0) (tuples_bytes rs h.1)))

  entries_bytes : (ps : Entries) → AreEntries ps → AreBytes (entries_code ps)
  entries_bytes no_entries h = (omega arith, tt)
  entries_bytes (more_entries key v ps) h =
      (omega arith, (omega arith, bytes-append (text_code key) (code v ++ entries_code ps) (text_bytes key (utf8_bytes key h.0)) (bytes-append (code v) (entries_code ps) (code_bytes v h.1) (entries_bytes ps h.2))))
