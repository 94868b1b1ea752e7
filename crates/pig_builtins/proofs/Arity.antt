-- A function gives null of another number of arguments than it takes.
use Rattle.std.proofs.Common.{◌≡◌, List, [], ◌∷◌, length, refl}
use Rattle.std.specs.Prelude.{false}
use Rattle.pig_value.specs.Functions.{aggregate, apply_tree, abs_tree, size_tree, isempty_tree, tokenize_tree, startswith_tree, endswith_tree, indexof_tree, substring_tree}
use Rattle.pig_value.specs.Trees.{Tree, v_null, v_chars, v_int, v_bag}
use Rattle.pig_value.specs.declared.functions.Function.{Function}
use Rattle.pig_value.specs.declared.functions.Function.TheVariants as f
use Rattle.pig_builtins.specs.Arities.{is_variadic}

-- those of one argument
aggregate_one : (function : Function) (v w : Tree) (vs : List Tree) → aggregate function (v ∷ w ∷ vs) ≡ v_null
aggregate_one function (v_bag rows) w vs = refl
aggregate_one function v w vs = refl

size_one : (v w : Tree) (vs : List Tree) → size_tree (v ∷ w ∷ vs) ≡ v_null
size_one (v_bag rows) w vs = refl
size_one v w vs = refl

isempty_one : (v w : Tree) (vs : List Tree) → isempty_tree (v ∷ w ∷ vs) ≡ v_null
isempty_one (v_bag rows) w vs = refl
isempty_one v w vs = refl

abs_one : (v w : Tree) (vs : List Tree) → abs_tree (v ∷ w ∷ vs) ≡ v_null
abs_one (v_int z) w vs = refl
abs_one v w vs = refl

tokenize_one : (v w : Tree) (vs : List Tree) → tokenize_tree (v ∷ w ∷ vs) ≡ v_null
tokenize_one (v_chars text) w vs = refl
tokenize_one v w vs = refl

-- those of two
pub startswith_one : (v : Tree) → startswith_tree (v ∷ []) ≡ v_null
startswith_one (v_chars text) = refl
startswith_one v = refl

startswith_two : (v w u : Tree) (vs : List Tree) → startswith_tree (v ∷ w ∷ u ∷ vs) ≡ v_null
startswith_two (v_chars text) (v_chars front) u vs = refl
startswith_two v w u vs = refl

pub endswith_one : (v : Tree) → endswith_tree (v ∷ []) ≡ v_null
endswith_one (v_chars text) = refl
endswith_one v = refl

endswith_two : (v w u : Tree) (vs : List Tree) → endswith_tree (v ∷ w ∷ u ∷ vs) ≡ v_null
endswith_two (v_chars text) (v_chars end) u vs = refl
endswith_two v w u vs = refl

pub indexof_one : (v : Tree) → indexof_tree (v ∷ []) ≡ v_null
indexof_one (v_chars text) = refl
indexof_one v = refl

indexof_two : (v w u : Tree) (vs : List Tree) → indexof_tree (v ∷ w ∷ u ∷ vs) ≡ v_null
indexof_two (v_chars text) (v_chars wanted) u vs = refl
indexof_two v w u vs = refl

-- and the one of three
pub substring_one : (v : Tree) → substring_tree (v ∷ []) ≡ v_null
substring_one (v_chars text) = refl
substring_one v = refl

substring_three : (v w u t : Tree) (vs : List Tree) → substring_tree (v ∷ w ∷ u ∷ t ∷ vs) ≡ v_null
substring_three (v_chars text) (v_int start) (v_int stop) t vs = refl
substring_three v w u t vs = refl

-- of no argument, and of more than three
pub null_of_others : (function : Function) (args : List Tree) → is_variadic function ≡ false → ¬ (length args ≡ 1) → ¬ (length args ≡ 2) → ¬ (length args ≡ 3)
    → apply_tree function args ≡ v_null
null_of_others f.Concat args fixed one two three = absurd (cc)
null_of_others f.ToTuple args fixed one two three = absurd (cc)
null_of_others (f.ToBag width) args fixed one two three = absurd (cc)
null_of_others function (v ∷ []) fixed one two three = absurd (one refl)
null_of_others function (v ∷ w ∷ []) fixed one two three = absurd (two refl)
null_of_others function (v ∷ w ∷ u ∷ []) fixed one two three = absurd (three refl)
null_of_others f.Count [] fixed one two three = refl
null_of_others f.Count (v ∷ w ∷ u ∷ t ∷ vs) fixed one two three = aggregate_one f.Count v w (u ∷ t ∷ vs)
null_of_others f.CountStar [] fixed one two three = refl
null_of_others f.CountStar (v ∷ w ∷ u ∷ t ∷ vs) fixed one two three = aggregate_one f.CountStar v w (u ∷ t ∷ vs)
null_of_others f.Sum [] fixed one two three = refl
null_of_others f.Sum (v ∷ w ∷ u ∷ t ∷ vs) fixed one two three = aggregate_one f.Sum v w (u ∷ t ∷ vs)
null_of_others f.Min [] fixed one two three = refl
null_of_others f.Min (v ∷ w ∷ u ∷ t ∷ vs) fixed one two three = aggregate_one f.Min v w (u ∷ t ∷ vs)
null_of_others f.Max [] fixed one two three = refl
null_of_others f.Max (v ∷ w ∷ u ∷ t ∷ vs) fixed one two three = aggregate_one f.Max v w (u ∷ t ∷ vs)
null_of_others f.Size [] fixed one two three = refl
null_of_others f.Size (v ∷ w ∷ u ∷ t ∷ vs) fixed one two three = size_one v w (u ∷ t ∷ vs)
null_of_others f.IsEmpty [] fixed one two three = refl
null_of_others f.IsEmpty (v ∷ w ∷ u ∷ t ∷ vs) fixed one two three = isempty_one v w (u ∷ t ∷ vs)
null_of_others f.Abs [] fixed one two three = refl
null_of_others f.Abs (v ∷ w ∷ u ∷ t ∷ vs) fixed one two three = abs_one v w (u ∷ t ∷ vs)
null_of_others f.Tokenize [] fixed one two three = refl
null_of_others f.Tokenize (v ∷ w ∷ u ∷ t ∷ vs) fixed one two three = tokenize_one v w (u ∷ t ∷ vs)
null_of_others f.StartsWith [] fixed one two three = refl
null_of_others f.StartsWith (v ∷ w ∷ u ∷ t ∷ vs) fixed one two three = startswith_two v w u (t ∷ vs)
null_of_others f.EndsWith [] fixed one two three = refl
null_of_others f.EndsWith (v ∷ w ∷ u ∷ t ∷ vs) fixed one two three = endswith_two v w u (t ∷ vs)
null_of_others f.IndexOf [] fixed one two three = refl
null_of_others f.IndexOf (v ∷ w ∷ u ∷ t ∷ vs) fixed one two three = indexof_two v w u (t ∷ vs)
null_of_others f.Substring [] fixed one two three = refl
null_of_others f.Substring (v ∷ w ∷ u ∷ t ∷ vs) fixed one two three = substring_three v w u t vs
