-- A function gives a value of values.
use Rattle.std.proofs.Common.{◌≡◌, ◌<◌, ◌-◌, ℕ, List, [], ◌∷◌, length, take, drop, ap, subst}
use Rattle.std.specs.Prelude.{ℤ, pos, negsuc, Bool, true, false, Some, None, FitsSigned, min, nat_le, cond}
use Rattle.std.specs.Int.{w32, w64}
use Rattle.std.specs.Option.{unwrap_or}
use Rattle.std.specs.List.{AllByRecursion, concat}
use Rattle.std.specs.Str.{all_scalars, chars, IsUtf8}
use Rattle.std.proofs.lemmas.Int.{SFits-int_wrap}
use Rattle.std.proofs.lemmas.Str.{IsUtf8-append, IsUtf8-nil, scalars-chars}
use Rattle.pig_value.specs.Functions.{apply_tree, substring}
use Rattle.pig_value.specs.Leaves.{AreBytes}
use Rattle.pig_value.specs.Trees.{Tree, Fields, Tuples, fields_list, tuples_list, no_fields, more_fields, no_tuples, more_tuples}
use Rattle.pig_value.specs.Valid.{IsValue, AreFields, AreTuples, IsRow}
use Rattle.pig_value.proofs.ValidLaws.{bag_is_value, row_each, row_from_each, rows_from_each}
use Rattle.pig_value.proofs.list_laws.Listing.{each-append, each_weaker}
use Rattle.pig_value.specs.declared.functions.Function.{Function}
use Rattle.pig_builtins.proofs.Characters.{scalars_drop, scalars_take, utf8_from}
use Rattle.pig_builtins.proofs.Kept.{Keeps, kept}
use Rattle.pig_builtins.proofs.Sums.{minus_one_is, one_is}
use Rattle.pig_builtins.proofs.Pieces.{texts_each}

-- fields and rows of values
fields_are : (vs : Fields) → AreFields vs → AllByRecursion IsValue (fields_list vs)
fields_are no_fields h = tt
fields_are (more_fields v vs) h = (h.0, fields_are vs h.1)

tuples_are : (rows : Tuples) → AreTuples rows → AllByRecursion (AllByRecursion IsValue) (tuples_list rows)
tuples_are no_tuples h = tt
tuples_are (more_tuples r rs) h = (fields_are r h.0, tuples_are rs h.1)

utf8_joined : (texts : List (List ℕ)) → AllByRecursion IsUtf8 texts → IsUtf8 (concat texts)
utf8_joined [] h = IsUtf8-nil
utf8_joined (text ∷ texts) h = IsUtf8-append text (concat texts) h.0 (utf8_joined texts h.1)

bytes_joined : (texts : List (List ℕ)) → AllByRecursion AreBytes texts → AreBytes (concat texts)
bytes_joined [] h = tt
bytes_joined (text ∷ texts) h = each-append (λ b. b < 256) text (concat texts) h.0 (bytes_joined texts h.1)

pub some_same : {x y : List ℕ} → Some x ≡ Some y → x ≡ y
some_same h = ap (λ o. unwrap_or o []) h

-- a part of scalar values
pub part_scalars : (cs out : List ℕ) (start stop : ℤ) → all_scalars cs ≡ true → substring cs start stop ≡ Some out → all_scalars out ≡ true
part_scalars cs out (pos start) (pos stop) h is = chosen (nat_le start (min stop (length cs))) is
  where
    chosen : (b : Bool) → cond b (Some (take (min stop (length cs) - start) (drop start cs))) None ≡ Some out → all_scalars out ≡ true
    chosen true e = subst (λ o. all_scalars o ≡ true) (some_same e) (scalars_take (min stop (length cs) - start) (drop start cs) (scalars_drop start cs h))
    chosen false e = absurd (cc)
part_scalars cs out (pos start) (negsuc stop) h is = absurd (cc)
part_scalars cs out (negsuc start) stop h is = absurd (cc)

pub value_keeps : Keeps IsValue
value_keeps = record {
  null = tt;
  bool = λ b. tt;
  long = λ z. SFits-int_wrap w64 z;
  int = λ z. SFits-int_wrap w32 z;
  one = subst (FitsSigned w64) one_is (SFits-int_wrap w64 (pos 1));
  nowhere = subst (FitsSigned w32) minus_one_is (SFits-int_wrap w32 (negsuc 0));
  texts = utf8_joined;
  bytes = bytes_joined;
  part = λ text start stop cs u is. utf8_from cs (part_scalars (chars text) cs start stop (scalars-chars text u) is);
  pieces = texts_each;
  tuple = row_from_each;
  fields = fields_are;
  bag = λ rows h. bag_is_value rows (rows_from_each rows (each_weaker (AllByRecursion IsValue) IsRow row_from_each rows h));
  rows = λ rows h. tuples_are rows h.1;
  listed = tuples_are;
}

pub values_kept : (function : Function) (args : List Tree) → IsRow args → IsValue (apply_tree function args)
values_kept function args h = kept IsValue value_keeps function args (row_each args h)
