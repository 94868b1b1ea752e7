-- The algebraic functions taken a value at a time: what a fold has found so far, and what the parts of a column give together.
use Rattle.std.specs.Prelude.{◌+ℤ◌, Bool, true, false, Option, Some, None, if◌then◌else◌}
use Rattle.std.specs.Borrow.{Bor}
use Rattle.std.specs.Option.{option_copied, option_map}
use Rattle.std.specs.Ordering.{is_gt}
use Rattle.pig_value.specs.Functions.{long_of}
use Rattle.pig_value.specs.Orders.{dir_cmp}
use Rattle.pig_value.specs.Trees.{Tree, v_null, v_long, tree}
use Rattle.pig_value.specs.declared.functions.Function.{Function}
use Rattle.pig_value.specs.declared.functions.Function.TheVariants as f
use Rattle.pig_value.specs.declared.operators.Dir.{Dir}
use Rattle.pig_value.specs.declared.operators.Dir.TheVariants as dir
use Rattle.pig_value.specs.declared.values.Value.{Value}
use Rattle.pig_builtins.specs.declared.folding.Fold.{Fold}
use Rattle.pig_builtins.specs.declared.folding.Fold.TheVariants as fold

abbrev pub is_algebraic : Function → Bool
is_algebraic f.Count = true
is_algebraic f.CountStar = true
is_algebraic f.Sum = true
is_algebraic f.Min = true
is_algebraic f.Max = true
is_algebraic f = false

-- a lent value as a tree
abbrev pub lent_tree : Option (Bor Value) → Option Tree
lent_tree value = option_map tree (option_copied value)

-- what two parts of a column give together, where each may have found nothing
abbrev pub together : (Tree → Tree → Tree) → Option Tree → Option Tree → Option Tree
together merge None b = b
together merge (Some a) None = Some a
together merge (Some a) (Some b) = Some (merge a b)

-- numbers are added
abbrev pub add_tree : Tree → Tree → Tree
add_tree (v_long a) (v_long b) = long_of (a +ℤ b)
add_tree a b = v_null

-- of two values stays the first in the direction
abbrev pub first_of : Dir → Option Tree → Option Tree → Option Tree
first_of d = together (λ a b. if is_gt (dir_cmp d a b) then b else a)

abbrev pub merge_found : Function → Option Tree → Option Tree → Option Tree
merge_found f.Min = first_of dir.Asc
merge_found f.Max = first_of dir.Desc
merge_found f = together add_tree

-- the function of a fold, and what it has found
abbrev pub fold_function : Fold → Function
fold_function (fold.Count n) = f.Count
fold_function (fold.CountStar n) = f.CountStar
fold_function (fold.Sum total) = f.Sum
fold_function (fold.Min best) = f.Min
fold_function (fold.Max best) = f.Max

abbrev pub fold_found : Fold → Option Tree
fold_found (fold.Count n) = Some (v_long n)
fold_found (fold.CountStar n) = Some (v_long n)
fold_found (fold.Sum total) = option_map v_long total
fold_found (fold.Min best) = lent_tree best
fold_found (fold.Max best) = lent_tree best
