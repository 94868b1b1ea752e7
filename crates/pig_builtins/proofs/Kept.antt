-- What holds of each argument holds of what a function gives, where it is kept by the few ways in which values are made.
use Rattle.std.proofs.Common.{◌≡◌, ℕ, zero, suc, List, [], ◌∷◌, refl, map}
use Rattle.std.specs.Prelude.{ℤ, pos, negsuc, Bool, true, false, ⊤, Option, Some, None, length, cond, ◌==◌, nat_lt}
use Rattle.std.specs.List.{AllByRecursion, concat, filter, filter_map, slice_split}
use Rattle.std.specs.Option.{option_and_then, option_map, option_or}
use Rattle.std.specs.Str.{chars, encode_utf8_all}
use Rattle.std.proofs.Math.ListN.{replicate}
use Rattle.pig_value.specs.FieldReader.{all_of}
use Rattle.pig_value.specs.Functions.{abs_tree, endswith_tree, indexof_tree, isempty_tree, whole_of, size_tree, startswith_tree, substring_tree, tokenize_tree, totuple_tree, apply_tree, bag_tree, bytes_in, column_tree, concat_tree, first_found, first_place, int_of, is_ranked, is_separator, long_of, looked_at, one_field, place_or_none, row_from, argument_rows, substring, sum_found, text_in, tobag_tree, tokens}
use Rattle.pig_value.specs.Orders.{dir_cmp}
use Rattle.pig_value.specs.Sorts.{sort}
use Rattle.pig_value.specs.Trees.{Tree, Fields, Tuples, or_null, at, v_null, v_bool, v_int, v_long, v_chars, v_bytes, v_tuple, v_bag, v_listed, v_map, fields_of, fields_list, tuples_list}
use Rattle.pig_value.proofs.list_laws.Bags.{each-sort}
use Rattle.pig_value.proofs.list_laws.Listing.{each-filter, each-map, each_weaker}
use Rattle.pig_value.specs.declared.functions.Function.{Function}
use Rattle.pig_value.specs.declared.functions.Function.TheVariants as f
use Rattle.pig_value.specs.declared.operators.Dir.{Dir}
use Rattle.pig_value.specs.declared.operators.Dir.TheVariants as dir

-- what keeps it
pub record Keeps (P : Tree → Type 0) : Type 0 where
  pub null : P v_null
  pub bool : (b : Bool) → P (v_bool b)
  pub long : (z : ℤ) → P (long_of z)
  pub int : (z : ℤ) → P (int_of z)
  pub one : P (v_long (pos 1))
  pub nowhere : P (v_int (negsuc 0))
  pub texts : (texts : List (List ℕ)) → AllByRecursion (λ text. P (v_chars text)) texts → P (v_chars (concat texts))
  pub bytes : (texts : List (List ℕ)) → AllByRecursion (λ text. P (v_bytes text)) texts → P (v_bytes (concat texts))
  pub part : (text : List ℕ) (start stop : ℤ) (cs : List ℕ) → P (v_chars text) → substring (chars text) start stop ≡ Some cs → P (v_chars (encode_utf8_all cs))
  pub pieces : (text : List ℕ) → P (v_chars text) → AllByRecursion (λ piece. P (v_chars piece)) (slice_split is_separator text)
  pub tuple : (vs : List Tree) → AllByRecursion P vs → P (v_tuple (fields_of vs))
  pub fields : (vs : Fields) → P (v_tuple vs) → AllByRecursion P (fields_list vs)
  pub bag : (rows : List (List Tree)) → AllByRecursion (AllByRecursion P) rows → P (bag_tree rows)
  pub rows : (rows : Tuples) → P (v_bag rows) → AllByRecursion (AllByRecursion P) (tuples_list rows)
  pub listed : (rows : Tuples) → P (v_listed rows) → AllByRecursion (AllByRecursion P) (tuples_list rows)

-- what holds of what there is
abbrev pub IfThere : {X : Type 0} → (X → Type 0) → Option X → Type 0
IfThere P None = ⊤
IfThere P (Some x) = P x

there : {X : Type 0} (P : X → Type 0) (o : Option X) → ((x : X) → o ≡ Some x → P x) → IfThere P o
there P None h = tt
there P (Some x) h = h x refl

there_map : {X Y : Type 0} (P : Y → Type 0) (g : X → Y) (o : Option X) → IfThere (λ x. P (g x)) o → IfThere P (option_map g o)
there_map P g None h = tt
there_map P g (Some x) h = h

-- of a list that is read whole
pub all_there : {X Y : Type 0} (P : X → Type 0) (Q : Y → Type 0) (read : X → Option Y) → ((x : X) → P x → IfThere Q (read x)) → (xs : List X) → AllByRecursion P xs
    → IfThere (AllByRecursion Q) (all_of read xs)
all_there P Q read keeps [] h = tt
all_there {X} {Y} P Q read keeps (x ∷ xs) h = step (read x) (all_of read xs) (keeps x h.0) (all_there P Q read keeps xs h.1)
  where
    step : (y : Option Y) (ys : Option (List Y)) → IfThere Q y → IfThere (AllByRecursion Q) ys
        → IfThere (AllByRecursion Q) (option_and_then (λ z. option_map (λ zs. z ∷ zs) ys) y)
    step None ys a b = tt
    step (Some y) None a b = tt
    step (Some y) (Some ys) a b = (a, b)

module _ (P : Tree → Type 0) (k : Keeps P) where
  found : (o : Option Tree) → IfThere P o → P (or_null o)
  found None h = k.null
  found (Some v) h = h

  field : (row : List Tree) (i : ℕ) → AllByRecursion P row → P (at i row)
  field [] i h = k.null
  field (v ∷ row) zero h = h.0
  field (v ∷ row) (suc i) h = field row i h.1

  only : (row : List Tree) → AllByRecursion P row → P (one_field row)
  only [] h = k.null
  only (v ∷ []) h = h.0
  only (v ∷ w ∷ row) h = k.null

  -- the columns of rows
  column : (look : List Tree → Tree) → ((row : List Tree) → AllByRecursion P row → P (look row)) → (rows : List (List Tree)) → AllByRecursion (AllByRecursion P) rows
      → AllByRecursion P (map look rows)
  column look keeps rows h = each-map P look rows (each_weaker (AllByRecursion P) (λ row. P (look row)) keeps rows h)

  sum : (zs : List ℤ) → P (or_null (sum_found zs))
  sum [] = k.null
  sum (z ∷ zs) = k.long _

  first : (d : Dir) (vs : List Tree) → AllByRecursion P vs → P (or_null (first_found d vs))
  first d vs h = field (sort (dir_cmp d) (filter is_ranked vs)) 0 (each-sort (dir_cmp d) P (filter is_ranked vs) (each-filter is_ranked P vs h))

  rows_kept : (args : List Tree) → AllByRecursion P args → IfThere (AllByRecursion (AllByRecursion P)) (argument_rows args)
  rows_kept (v_bag rows ∷ []) h = k.rows rows h.0
  rows_kept (v_listed rows ∷ []) h = k.listed rows h.0
  rows_kept args h = tt

  over : (g : List (List Tree) → Tree) → ((rows : List (List Tree)) → AllByRecursion (AllByRecursion P) rows → P (g rows)) → (args : List Tree) → AllByRecursion P args
      → P (or_null (option_map g (argument_rows args)))
  over g keeps args h = step (argument_rows args) (rows_kept args h)
    where
      step : (o : Option (List (List Tree))) → IfThere (AllByRecursion (AllByRecursion P)) o → P (or_null (option_map g o))
      step None h = k.null
      step (Some rows) h = keeps rows h

  text_kept : (v : Tree) → P v → IfThere (λ text. P (v_chars text)) (text_in v)
  text_kept (v_chars text) h = h
  text_kept v h = tt

  bytes_kept : (v : Tree) → P v → IfThere (λ text. P (v_bytes text)) (bytes_in v)
  bytes_kept (v_bytes text) h = h
  bytes_kept v h = tt

  joined : (texts bytes : Option (List (List ℕ))) → IfThere (AllByRecursion (λ text. P (v_chars text))) texts → IfThere (AllByRecursion (λ text. P (v_bytes text))) bytes
      → P (or_null (option_or (option_map (λ ts. v_chars (concat ts)) texts) (option_map (λ ts. v_bytes (concat ts)) bytes)))
  joined None None h i = k.null
  joined None (Some bytes) h i = k.bytes bytes i
  joined (Some texts) bytes h i = k.texts texts h

  concat_kept : (args : List Tree) → AllByRecursion P args → P (concat_tree args)
  concat_kept [] h = k.null
  concat_kept (v ∷ []) h = k.null
  concat_kept (v ∷ w ∷ more) h =
      let args = v ∷ w ∷ more in
      joined (all_of text_in args) (all_of bytes_in args) (all_there P (λ text. P (v_chars text)) text_in text_kept args h)
      (all_there P (λ text. P (v_bytes text)) bytes_in bytes_kept args h)

  token_rows : (pieces : List (List ℕ)) → AllByRecursion (λ piece. P (v_chars piece)) pieces → AllByRecursion (AllByRecursion P) (map (λ piece. v_chars piece ∷ []) pieces)
  token_rows [] h = tt
  token_rows (piece ∷ pieces) h = ((h.0, tt), token_rows pieces h.1)

  nulls : (n : ℕ) → AllByRecursion P (replicate n v_null)
  nulls zero = tt
  nulls (suc n) = (k.null, nulls n)

  row_kept : (width : Option ℕ) (v : Tree) → P v → IfThere (AllByRecursion P) (row_from width v)
  row_kept None (v_tuple vs) h = tt
  row_kept None v h = (h, tt)
  row_kept (Some width) v_null h = nulls width
  row_kept (Some width) (v_tuple vs) h = wide (length (fields_list vs) == width) (k.fields vs h)
    where
      wide : (b : Bool) → AllByRecursion P (fields_list vs) → IfThere (AllByRecursion P) (cond b (Some (fields_list vs)) None)
      wide true h = h
      wide false h = tt
  row_kept (Some width) v h = tt

  tobag_kept : (width : Option ℕ) (args : List Tree) → AllByRecursion P args → P (tobag_tree width args)
  tobag_kept width [] h = k.null
  tobag_kept width (v ∷ vs) h = found _ (there_map P bag_tree (all_of (row_from width) (v ∷ vs))
      (bags (all_of (row_from width) (v ∷ vs)) (all_there P (AllByRecursion P) (row_from width) (row_kept width) (v ∷ vs) h)))
    where
      bags : (o : Option (List (List Tree))) → IfThere (AllByRecursion (AllByRecursion P)) o → IfThere (λ rows. P (bag_tree rows)) o
      bags None h = tt
      bags (Some rows) h = k.bag rows h

  size_kept : (args : List Tree) → P (size_tree args)
  size_kept (v_bool b ∷ []) = k.one
  size_kept (v_int z ∷ []) = k.one
  size_kept (v_long z ∷ []) = k.one
  size_kept (v_chars text ∷ []) = k.long _
  size_kept (v_bytes text ∷ []) = k.long _
  size_kept (v_tuple vs ∷ []) = k.long _
  size_kept (v_bag rows ∷ []) = k.long _
  size_kept (v_listed rows ∷ []) = k.long _
  size_kept (v_map pairs ∷ []) = k.long _
  size_kept args = k.null

  isempty_kept : (args : List Tree) → P (isempty_tree args)
  isempty_kept (v_bag rows ∷ []) = k.bool _
  isempty_kept (v_listed rows ∷ []) = k.bool _
  isempty_kept (v_map pairs ∷ []) = k.bool _
  isempty_kept args = k.null

  abs_kept : (args : List Tree) → P (abs_tree args)
  abs_kept (v_int z ∷ []) = k.int _
  abs_kept (v_long z ∷ []) = k.long _
  abs_kept args = k.null

  tokenize_kept : (args : List Tree) → AllByRecursion P args → P (tokenize_tree args)
  tokenize_kept (v_chars text ∷ []) h =
      k.bag _ (token_rows (tokens text) (each-filter (λ piece. nat_lt 0 (length piece)) (λ piece. P (v_chars piece)) (slice_split is_separator text) (k.pieces text h.0)))
  tokenize_kept args h = k.null

  substring_kept : (args : List Tree) → AllByRecursion P args → P (substring_tree args)
  substring_kept (v_chars text ∷ v_int start ∷ v_int stop ∷ []) h =
      found _ (there_map P (λ cs. v_chars (encode_utf8_all cs)) (substring (chars text) start stop)
      (there (λ cs. P (v_chars (encode_utf8_all cs))) (substring (chars text) start stop) (λ cs is. k.part text start stop cs h.0 is)))
  substring_kept args h = k.null

  startswith_kept : (args : List Tree) → P (startswith_tree args)
  startswith_kept (v_chars text ∷ v_chars front ∷ []) = k.bool _
  startswith_kept args = k.null

  endswith_kept : (args : List Tree) → P (endswith_tree args)
  endswith_kept (v_chars text ∷ v_chars end ∷ []) = k.bool _
  endswith_kept args = k.null

  place_kept : (o : Option ℕ) → P (place_or_none o)
  place_kept None = k.nowhere
  place_kept (Some place) = k.int _

  indexof_kept : (args : List Tree) → P (indexof_tree args)
  indexof_kept (v_chars text ∷ v_chars wanted ∷ []) = place_kept (first_place (chars text) (chars wanted))
  indexof_kept args = k.null

  totuple_kept : (args : List Tree) → AllByRecursion P args → P (totuple_tree args)
  totuple_kept [] h = k.null
  totuple_kept (v ∷ vs) h = k.tuple (v ∷ vs) h

  pub kept : (function : Function) (args : List Tree) → AllByRecursion P args → P (apply_tree function args)
  kept f.Count args h = over (λ rows. column_tree f.Count (map (looked_at f.Count) rows)) (λ rows hs. k.long _) args h
  kept f.CountStar args h = over (λ rows. column_tree f.CountStar (map (looked_at f.CountStar) rows)) (λ rows hs. k.long _) args h
  kept f.Sum args h = over (λ rows. column_tree f.Sum (map one_field rows)) (λ rows hs. sum (filter_map whole_of (map one_field rows))) args h
  kept f.Min args h = over (λ rows. column_tree f.Min (map one_field rows)) (λ rows hs. first dir.Asc (map one_field rows) (column one_field only rows hs)) args h
  kept f.Max args h = over (λ rows. column_tree f.Max (map one_field rows)) (λ rows hs. first dir.Desc (map one_field rows) (column one_field only rows hs)) args h
  kept f.Size args h = size_kept args
  kept f.Concat args h = concat_kept args h
  kept f.IsEmpty args h = isempty_kept args
  kept f.Tokenize args h = tokenize_kept args h
  kept f.Substring args h = substring_kept args h
  kept f.StartsWith args h = startswith_kept args
  kept f.EndsWith args h = endswith_kept args
  kept f.IndexOf args h = indexof_kept args
  kept f.Abs args h = abs_kept args
  kept f.ToTuple args h = totuple_kept args h
  kept (f.ToBag width) args h = tobag_kept width args h
