-- A function gives a line-free value of line-free ones.
use Rattle.std.proofs.Common.{◌≡◌, ◌≢◌, ◌+◌, ◌-◌, ℕ, List, [], ◌∷◌, ◌++◌, length, take, drop, sym, ap, ◌∙◌, subst, arith}
use Rattle.std.specs.Prelude.{ℤ, pos, negsuc, Bool, true, false, Some, None, min, nat_le, cond}
use Rattle.std.specs.List.{AllByRecursion, concat}
use Rattle.std.specs.Str.{chars, encode_utf8_all, IsUtf8}
use Rattle.std.proofs.Math.Seq.{take-append_seam, drop-append_seam}
use Rattle.std.proofs.lemmas.List.{take-append-drop}
use Rattle.std.proofs.lemmas.List.Elements.{All-append, All-head, All-tail, All-take, All-drop}
use Rattle.std.proofs.lemmas.Str.{encodes-append, encodes-chars}
use Rattle.pig_value.specs.Functions.{apply_tree, substring}
use Rattle.pig_value.specs.Leaves.{FieldLeavesAre, TupleLeavesAre}
use Rattle.pig_value.specs.Texts.{HasNoLf, IsLineFree, IsLineFreeRow, line_free}
use Rattle.pig_value.specs.Trees.{Tree, Fields, Tuples, fields_list, tuples_list, v_bytes, v_chars, no_fields, more_fields, no_tuples, more_tuples}
use Rattle.pig_value.specs.Leaves.{AreBytes}
use Rattle.pig_value.specs.Valid.{IsValue, AreFields, AreTuples, IsRow}
use Rattle.pig_value.proofs.LeafLaws.{fields_from_each, tuples_from_each, rows-sort, RowLeavesAre}
use Rattle.pig_value.proofs.ValidLaws.{row_each}
use Rattle.pig_value.proofs.list_laws.Listing.{each_weaker}
use Rattle.pig_value.specs.declared.functions.Function.{Function}
use Rattle.pig_builtins.proofs.Kept.{Keeps, kept}
use Rattle.pig_builtins.proofs.Pieces.{pieces_each, cut_utf8}
use Rattle.pig_builtins.proofs.ValuesKept.{some_same, value_keeps}

-- bytes without an LF, joined and apart
no_lf_left : (xs ys : List ℕ) → HasNoLf (xs ++ ys) → HasNoLf xs
no_lf_left xs ys h = subst HasNoLf (take-append_seam xs ys) (All-take (λ b. b ≢ 10) (length xs) (xs ++ ys) h)

no_lf_right : (xs ys : List ℕ) → HasNoLf (xs ++ ys) → HasNoLf ys
no_lf_right xs ys h = subst HasNoLf (drop-append_seam xs ys) (All-drop (λ b. b ≢ 10) (length xs) (xs ++ ys) h)

no_lf_joined : (texts : List (List ℕ)) → AllByRecursion HasNoLf texts → HasNoLf (concat texts)
no_lf_joined [] h = λ k d i. absurd (omega (arith, i))
no_lf_joined (text ∷ texts) h = All-append (λ b. b ≢ 10) text (concat texts) h.0 (no_lf_joined texts h.1)

no_lf_drop : (n : ℕ) (cs : List ℕ) → HasNoLf (encode_utf8_all cs) → HasNoLf (encode_utf8_all (drop n cs))
no_lf_drop n cs h =
    no_lf_right (encode_utf8_all (take n cs)) (encode_utf8_all (drop n cs))
    (subst HasNoLf (ap encode_utf8_all (sym (take-append-drop n cs)) ∙ encodes-append (take n cs) (drop n cs)) h)

no_lf_take : (n : ℕ) (cs : List ℕ) → HasNoLf (encode_utf8_all cs) → HasNoLf (encode_utf8_all (take n cs))
no_lf_take n cs h =
    no_lf_left (encode_utf8_all (take n cs)) (encode_utf8_all (drop n cs))
    (subst HasNoLf (ap encode_utf8_all (sym (take-append-drop n cs)) ∙ encodes-append (take n cs) (drop n cs)) h)

no_lf_part : (cs out : List ℕ) (start stop : ℤ) → HasNoLf (encode_utf8_all cs) → substring cs start stop ≡ Some out → HasNoLf (encode_utf8_all out)
no_lf_part cs out (pos start) (pos stop) h is = chosen (nat_le start (min stop (length cs))) is
  where
    chosen : (b : Bool) → cond b (Some (take (min stop (length cs) - start) (drop start cs))) None ≡ Some out → HasNoLf (encode_utf8_all out)
    chosen true e = subst (λ o. HasNoLf (encode_utf8_all o)) (some_same e) (no_lf_take (min stop (length cs) - start) (drop start cs) (no_lf_drop start cs h))
    chosen false e = absurd (cc)
no_lf_part cs out (pos start) (negsuc stop) h is = absurd (cc)
no_lf_part cs out (negsuc start) stop h is = absurd (cc)

-- a value that is line-free
abbrev Plain : Tree → Type 0
Plain v = IsValue v × IsLineFree v

fields_are : (vs : Fields) → AreFields vs → FieldLeavesAre line_free vs → AllByRecursion Plain (fields_list vs)
fields_are no_fields h i = tt
fields_are (more_fields v vs) h i = ((h.0, i.0), fields_are vs h.1 i.1)

tuples_are : (rows : Tuples) → AreTuples rows → TupleLeavesAre line_free rows → AllByRecursion (AllByRecursion Plain) (tuples_list rows)
tuples_are no_tuples h i = tt
tuples_are (more_tuples r rs) h i = (fields_are r h.0 i.0, tuples_are rs h.1 i.1)

values : (vs : List Tree) → AllByRecursion Plain vs → AllByRecursion IsValue vs
values vs h = each_weaker Plain IsValue (λ v both. both.0) vs h

free : (vs : List Tree) → AllByRecursion Plain vs → RowLeavesAre line_free vs
free vs h = fields_from_each line_free vs (each_weaker Plain IsLineFree (λ v both. both.1) vs h)

plain_keeps : Keeps Plain
plain_keeps = record {
  null = (tt, tt);
  bool = λ b. (tt, tt);
  long = λ z. (value_keeps.long z, tt);
  int = λ z. (value_keeps.int z, tt);
  one = (value_keeps.one, tt);
  nowhere = (value_keeps.nowhere, tt);
  texts = λ texts h. (
    value_keeps.texts texts (each_weaker (λ t. Plain (v_chars t)) IsUtf8 (λ t both. both.0) texts h),
    no_lf_joined texts (each_weaker (λ t. Plain (v_chars t)) HasNoLf (λ t both. both.1) texts h),
  );
  bytes = λ texts h. (
    value_keeps.bytes texts (each_weaker (λ t. Plain (v_bytes t)) AreBytes (λ t both. both.0) texts h),
    no_lf_joined texts (each_weaker (λ t. Plain (v_bytes t)) HasNoLf (λ t both. both.1) texts h),
  );
  part = λ text start stop cs h is. (
    value_keeps.part text start stop cs h.0 is,
    no_lf_part (chars text) cs start stop (subst HasNoLf (sym (encodes-chars text h.0)) h.1) is,
  );
  pieces = pieces_each (λ t. Plain (v_chars t)) (λ text at within here h.
      let utf8 = cut_utf8 text at within here h.0 in
      ((utf8.0, All-take (λ b. b ≢ 10) at text h.1), (utf8.1, All-drop (λ b. b ≢ 10) (at + 1) text h.1)));
  tuple = λ vs h. (value_keeps.tuple vs (values vs h), free vs h);
  fields = λ vs h. fields_are vs h.0 h.1;
  bag = λ rows h. (
    value_keeps.bag rows (each_weaker (AllByRecursion Plain) (AllByRecursion IsValue) values rows h),
    rows-sort line_free rows (tuples_from_each line_free rows (each_weaker (AllByRecursion Plain) (RowLeavesAre line_free) free rows h)),
  );
  rows = λ rows h. tuples_are rows h.0.1 h.1;
  listed = λ rows h. tuples_are rows h.0 h.1.1;
}

both_each : (args : List Tree) → AllByRecursion IsValue args → IsLineFreeRow args → AllByRecursion Plain args
both_each [] h i = tt
both_each (v ∷ vs) h i = ((h.0, All-head IsLineFree v vs i), both_each vs h.1 (All-tail IsLineFree v vs i))

pub line_free_kept : (function : Function) (args : List Tree) → IsRow args → IsLineFreeRow args → IsLineFree (apply_tree function args)
line_free_kept function args h i = (kept Plain plain_keeps function args (both_each args (row_each args h) i)).1
