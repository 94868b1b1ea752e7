-- The kinds that functions give, by how many arguments they take: what the code goes by.
use Rattle.std.specs.Prelude.{Bool, true, false, ◌&&◌, List, [], ◌∷◌, Option, Some, None, if◌then◌else◌}
use Rattle.std.specs.Option.{option_and_then}
use Rattle.pig_value.specs.FunctionKinds.{concat_kind, function_kind, ranked_kind, sum_kind, tobag_kind}
use Rattle.pig_value.specs.Trees.{KindTree, KindTrees, k_boolean, k_int, k_long, k_chars, k_bag, k_map, no_kinds, more_kinds}
use Rattle.pig_value.specs.declared.functions.Function.{Function}
use Rattle.pig_value.specs.declared.functions.Function.TheVariants as function
use Rattle.pig_typed.specs.ExprKinds.{minus_kind}

-- the one argument, and the one field of a bag
abbrev pub only : List KindTree → Option KindTree
only (k ∷ []) = Some k
only kinds = None

abbrev pub column : KindTrees → Option KindTree
column (more_kinds k no_kinds) = Some k
column kinds = None

abbrev pub counted_kind : KindTree → Option KindTree
counted_kind (k_bag kinds) = Some k_long
counted_kind k = None

abbrev pub summed_kind : KindTree → Option KindTree
summed_kind (k_bag kinds) = option_and_then sum_kind (column kinds)
summed_kind k = None

abbrev pub chosen_kind : KindTree → Option KindTree
chosen_kind (k_bag kinds) = option_and_then ranked_kind (column kinds)
chosen_kind k = None

abbrev pub emptied_kind : KindTree → Option KindTree
emptied_kind (k_bag kinds) = Some k_boolean
emptied_kind (k_map k) = Some k_boolean
emptied_kind k = None

abbrev pub cut_kind : KindTree → Option KindTree
cut_kind k_chars = Some (k_bag (more_kinds k_chars no_kinds))
cut_kind k = None

-- functions of one argument
abbrev pub one_kind : Function → KindTree → Option KindTree
one_kind function.Count k = counted_kind k
one_kind function.CountStar k = counted_kind k
one_kind function.Sum k = summed_kind k
one_kind function.Min k = chosen_kind k
one_kind function.Max k = chosen_kind k
one_kind function.Size k = Some k_long
one_kind function.IsEmpty k = emptied_kind k
one_kind function.Tokenize k = cut_kind k
one_kind function.Abs k = minus_kind k
one_kind f k = None

abbrev pub is_text : KindTree → Bool
is_text k_chars = true
is_text k = false

abbrev pub is_int : KindTree → Bool
is_int k_int = true
is_int k = false

-- functions of two texts, and of a text and two ints
abbrev pub two_texts : KindTree → List KindTree → Option KindTree
two_texts gives (k ∷ l ∷ []) = if is_text k && is_text l then Some gives else None
two_texts gives kinds = None

abbrev pub text_and_ints : List KindTree → Option KindTree
text_and_ints (k ∷ l ∷ m ∷ []) = if is_text k && is_int l && is_int m then Some k_chars else None
text_and_ints kinds = None

abbrev pub signature_kind : Function → List KindTree → Option KindTree
signature_kind function.Concat kinds = concat_kind kinds
signature_kind function.ToTuple kinds = function_kind function.ToTuple kinds
signature_kind (function.ToBag width) kinds = tobag_kind width kinds
signature_kind function.Substring kinds = text_and_ints kinds
signature_kind function.StartsWith kinds = two_texts k_boolean kinds
signature_kind function.EndsWith kinds = two_texts k_boolean kinds
signature_kind function.IndexOf kinds = two_texts k_int kinds
signature_kind f kinds = option_and_then (one_kind f) (only kinds)
