-- What a cast gives is a value of the kind.
use Rattle.std.proofs.Common.{◌≡◌, ◌<◌, ℕ, suc, ℤ, pos, negsuc, FitsSigned, Bool, true, false, cond, sym, subst, ap, List, [], ◌∷◌, arith, rules}
use Rattle.std.specs.Fmt.{decimal, signed_decimal}
use Rattle.std.specs.Int.{w32, w64}
use Rattle.std.specs.List.{AllByRecursion}
use Rattle.std.specs.Str.{IsUtf8}
use Rattle.std.proofs.lemmas.Int.{SFits-int_wrap}
use Rattle.std.proofs.lemmas.List.Elements.{All-from_recursion}
use Rattle.std.proofs.lemmas.Str.{IsUtf8-append, IsUtf8-from_ascii}
use Rattle.std.proofs.lemmas.Str.Ascii.{IsAscii-from_all}
use Rattle.std.proofs.lemmas.Fmt.{IsAscii-decimal}
use Rattle.pig_value.specs.Casts.{CanCast, cast_of}
use Rattle.pig_value.specs.Kinds.{IsOf, is_of_kind}
use Rattle.pig_value.specs.Trees.{Tree, v_null, v_bool, v_int, v_long, v_chars, v_bytes, KindTree, k_boolean, k_int, k_long, k_chars, k_bytes, k_tuple, k_bag, k_map}
use Rattle.pig_value.specs.Valid.{IsValue}
use Rattle.pig_value.specs.FieldReader.{bool_of, case_of, field_value, number_of}
use Rattle.pig_value.specs.Texts.{bool_text}
use Rattle.pig_value.proofs.list_laws.Bags.{either_way}
use Rattle.pig_value.proofs.FieldKinds.{field_of_kind, field_is_value}
use Rattle.pig_value.proofs.KindLaws.{passes_is_of}
use Rattle.pig_value.proofs.OfRead.{of_any, of_made, of_value}
use Rattle.pig_value.proofs.ReadLaws.{number_fits}

-- an int is in the range of a long
pub int_fits_long : (z : ℤ) → FitsSigned w32 z → FitsSigned w64 z
int_fits_long z h = omega (arith, h.sfits)

-- null is of each kind, and so is what stays as it is
null_of_kind : (k : KindTree) → IsOf v_null k
null_of_kind k = tt

stays_of_kind : (k : KindTree) (v : Tree) → IsOf (cond (is_of_kind v k) v v_null) k
stays_of_kind k v = either_way (is_of_kind v k)
    (λ e. subst (λ b. IsOf (cond b v v_null) k) (sym e) (passes_is_of v k e))
    (λ e. subst (λ b. IsOf (cond b v v_null) k) (sym e) (null_of_kind k))

pub cast_of_kind : (k : KindTree) (v : Tree) → IsOf (cast_of k v) k
cast_of_kind k_bytes (v_bytes bytes) = tt
cast_of_kind k_boolean (v_bytes bytes) = field_of_kind k_boolean bytes
cast_of_kind k_int (v_bytes bytes) = field_of_kind k_int bytes
cast_of_kind k_long (v_bytes bytes) = field_of_kind k_long bytes
cast_of_kind k_chars (v_bytes bytes) = field_of_kind k_chars bytes
cast_of_kind (k_tuple ks) (v_bytes bytes) = field_of_kind (k_tuple ks) bytes
cast_of_kind (k_bag ks) (v_bytes bytes) = field_of_kind (k_bag ks) bytes
cast_of_kind (k_map k) (v_bytes bytes) = field_of_kind (k_map k) bytes
cast_of_kind k_boolean (v_chars text) = field_of_kind k_boolean text
cast_of_kind k_int (v_chars text) = field_of_kind k_int text
cast_of_kind k_long (v_chars text) = field_of_kind k_long text
cast_of_kind k_long (v_int z) = tt
cast_of_kind k_int (v_long z) = tt
cast_of_kind k_chars (v_bool b) = tt
cast_of_kind k_chars (v_int z) = tt
cast_of_kind k_chars (v_long z) = tt
cast_of_kind k v = stays_of_kind k v

-- what may not be cast gives null
refused : (k : KindTree) (v : Tree) → (IsOf v k → ⊥) → cond (is_of_kind v k) v v_null ≡ v_null
refused k v never = either_way (is_of_kind v k)
    (λ e. absurd (never (passes_is_of v k e)))
    (λ e. ap (λ b. cond b v v_null) e)

pub refused_is_null : (k : KindTree) (v : Tree) → (CanCast k v → ⊥) → cast_of k v ≡ v_null
refused_is_null k_bytes (v_bytes bytes) never = absurd (never tt)
refused_is_null k v_null never = absurd (never tt)
refused_is_null k (v_bytes bytes) never = absurd (never tt)
refused_is_null k_boolean (v_chars text) never = absurd (never tt)
refused_is_null k_int (v_chars text) never = absurd (never tt)
refused_is_null k_long (v_chars text) never = absurd (never tt)
refused_is_null k_long (v_int z) never = absurd (never tt)
refused_is_null k_int (v_long z) never = absurd (never tt)
refused_is_null k_chars (v_bool b) never = absurd (never tt)
refused_is_null k_chars (v_int z) never = absurd (never tt)
refused_is_null k_chars (v_long z) never = absurd (never tt)
refused_is_null k v never = refused k v never

-- a number and a boolean are read from any bytes, and their texts are text
int_is_value : (bs : List ℕ) → IsValue (field_value k_int bs)
int_is_value bs = of_value IsValue (case_of k_int) bs tt (of_made (FitsSigned w32) IsValue v_int (λ z h. h) (number_of w32 bs) (number_fits w32 bs))

long_is_value : (bs : List ℕ) → IsValue (field_value k_long bs)
long_is_value bs = of_value IsValue (case_of k_long) bs tt (of_made (FitsSigned w64) IsValue v_long (λ z h. h) (number_of w64 bs) (number_fits w64 bs))

boolean_is_value : (bs : List ℕ) → IsValue (field_value k_boolean bs)
boolean_is_value bs = of_value IsValue (case_of k_boolean) bs tt (of_any IsValue v_bool (λ b. tt) (bool_of bs))

abbrev IsLow : ℕ → Type 0
IsLow b = b < 128

low_text : (bs : List ℕ) → AllByRecursion IsLow bs → IsUtf8 bs
low_text bs low = IsUtf8-from_ascii bs (IsAscii-from_all bs (All-from_recursion IsLow bs low))

signed_is_text : (z : ℤ) → FitsSigned w64 z → IsUtf8 (signed_decimal z)
signed_is_text (pos n) fits = IsUtf8-from_ascii (decimal n) (IsAscii-decimal n (omega (arith, fits.sfits)))
signed_is_text (negsuc n) fits = IsUtf8-append (45 ∷ []) (decimal (suc n)) (low_text (45 ∷ []) (search rules)) (IsUtf8-from_ascii (decimal (suc n)) (IsAscii-decimal (suc n) (omega (arith, fits.sfits))))

bool_is_text : (b : Bool) → IsUtf8 (bool_text b)
bool_is_text true = low_text (bool_text true) (search rules)
bool_is_text false = low_text (bool_text false) (search rules)

stays_value : (b : Bool) (v : Tree) → IsValue v → IsValue (cond b v v_null)
stays_value true v is = is
stays_value false v is = tt

pub cast_is_value : (k : KindTree) (v : Tree) → IsValue v → IsValue (cast_of k v)
cast_is_value k_bytes (v_bytes bytes) is = is
cast_is_value k_boolean (v_bytes bytes) is = field_is_value k_boolean bytes is
cast_is_value k_int (v_bytes bytes) is = field_is_value k_int bytes is
cast_is_value k_long (v_bytes bytes) is = field_is_value k_long bytes is
cast_is_value k_chars (v_bytes bytes) is = field_is_value k_chars bytes is
cast_is_value (k_tuple ks) (v_bytes bytes) is = field_is_value (k_tuple ks) bytes is
cast_is_value (k_bag ks) (v_bytes bytes) is = field_is_value (k_bag ks) bytes is
cast_is_value (k_map k) (v_bytes bytes) is = field_is_value (k_map k) bytes is
cast_is_value k_boolean (v_chars text) is = boolean_is_value text
cast_is_value k_int (v_chars text) is = int_is_value text
cast_is_value k_long (v_chars text) is = long_is_value text
cast_is_value k_long (v_int z) is = int_fits_long z is
cast_is_value k_int (v_long z) is = SFits-int_wrap w32 z
cast_is_value k_chars (v_bool b) is = bool_is_text b
cast_is_value k_chars (v_int z) is = signed_is_text z (int_fits_long z is)
cast_is_value k_chars (v_long z) is = signed_is_text z is
cast_is_value k v is = stays_value (is_of_kind v k) v is
