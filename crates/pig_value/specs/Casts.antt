-- Casts: which are allowed, and what they give.
use Rattle.std.specs.Prelude.{◌≡◌, Bool, true, cond, ⊤}
use Rattle.std.specs.Fmt.{signed_decimal}
use Rattle.std.specs.Int.{w32, int_wrap}
use Rattle.pig_value.specs.FieldReader.{field_value}
use Rattle.pig_value.specs.Kinds.{IsOf, is_of_kind, kind_eq}
use Rattle.pig_value.specs.Texts.{bool_text}
use Rattle.pig_value.specs.Trees.{Tree, v_null, v_bool, v_int, v_long, v_chars, v_bytes, KindTree, k_boolean, k_int, k_long, k_chars, k_bytes}

-- Null and a bytearray cast to each kind, a chararray to a boolean, an int and a long, an int to a long, a long to an
-- int, a boolean, an int and a long to a chararray, and each value to its own kind.
abbrev pub CanCast : KindTree → Tree → Type 0
CanCast k v_null = ⊤
CanCast k (v_bytes _) = ⊤
CanCast k_boolean (v_chars _) = ⊤
CanCast k_int (v_chars _) = ⊤
CanCast k_long (v_chars _) = ⊤
CanCast k_long (v_int _) = ⊤
CanCast k_int (v_long _) = ⊤
CanCast k_chars (v_bool _) = ⊤
CanCast k_chars (v_int _) = ⊤
CanCast k_chars (v_long _) = ⊤
CanCast k v = IsOf v k

-- A bytearray and a chararray read as a field does, a long keeps its low 32 bits, a boolean and a number become their
-- texts, a value of the kind stays as it is, and any other gives null.
abbrev pub cast_of : KindTree → Tree → Tree
cast_of k_bytes (v_bytes bytes) = v_bytes bytes
cast_of k (v_bytes bytes) = field_value k bytes
cast_of k_boolean (v_chars text) = field_value k_boolean text
cast_of k_int (v_chars text) = field_value k_int text
cast_of k_long (v_chars text) = field_value k_long text
cast_of k_long (v_int z) = v_long z
cast_of k_int (v_long z) = v_int (int_wrap w32 z)
cast_of k_chars (v_bool b) = v_chars (bool_text b)
cast_of k_chars (v_int z) = v_chars (signed_decimal z)
cast_of k_chars (v_long z) = v_chars (signed_decimal z)
cast_of k v = cond (is_of_kind v k) v v_null

-- The same of kinds: each value of the first kind may be cast to the second.
abbrev pub CastsTo : KindTree → KindTree → Type 0
CastsTo k_bytes to = ⊤
CastsTo k_chars k_boolean = ⊤
CastsTo k_chars k_int = ⊤
CastsTo k_chars k_long = ⊤
CastsTo k_int k_long = ⊤
CastsTo k_long k_int = ⊤
CastsTo k_boolean k_chars = ⊤
CastsTo k_int k_chars = ⊤
CastsTo k_long k_chars = ⊤
CastsTo from to = from ≡ to

-- and as a test
abbrev pub may_cast : KindTree → KindTree → Bool
may_cast k_bytes to = true
may_cast k_chars k_boolean = true
may_cast k_chars k_int = true
may_cast k_chars k_long = true
may_cast k_int k_long = true
may_cast k_long k_int = true
may_cast k_boolean k_chars = true
may_cast k_int k_chars = true
may_cast k_long k_chars = true
may_cast from to = kind_eq from to
