-- What the operators of expressions give, at every value: null where an operand is null, unless it is said otherwise, and
-- where an operand is of a kind that the operator doesn't take.
-- (Pig Latin Basics: "Arithmetic Operators and More", "Boolean Operators", "Comparison Operators", "Nulls", "Dereference
-- Operators". The tables of AND, OR and NOT, wrapping numbers and null for a zero divisor are choices of this profile.)
use Rattle.std.specs.Prelude.{ℕ, ℤ, pos, int_div, int_rem, Bool, true, false, not, List, map, Option, Some, None, bytes_eq, if◌then◌else◌}
use Rattle.std.specs.Int.{Width, w32, w64, int_wrapping_add, int_wrapping_sub, int_wrapping_mul, int_wrapping_div, int_wrapping_neg}
use Rattle.std.specs.List.{find}
use Rattle.std.specs.Option.{option_map}
use Rattle.std.specs.Ordering.{int_eq}
use Rattle.pig_value.specs.Functions.{bag_tree, is_present}
use Rattle.pig_value.specs.Orders.{tree_cmp, rel_holds}
use Rattle.pig_value.specs.Trees.{at, or_null, Tree, v_null, v_bool, v_int, v_long, v_tuple, v_bag, v_listed, v_map, fields_of, fields_list, tuples_of, tuples_list, entries_list}
use Rattle.pig_value.specs.declared.operators.ChainOp.{ChainOp}
use Rattle.pig_value.specs.declared.operators.ChainOp.TheVariants as op
use Rattle.pig_value.specs.declared.operators.Rel.{Rel}

-- ---- truth: true, false or unknown, which a null is

abbrev pub truth_of : Tree → Option Bool
truth_of (v_bool b) = Some b
truth_of v = None

abbrev pub truth_tree : Option Bool → Tree
truth_tree truth = or_null (option_map v_bool truth)

-- false where one side is false, else unknown where one is
abbrev pub and_truth : Option Bool → Option Bool → Option Bool
and_truth (Some false) b = Some false
and_truth a (Some false) = Some false
and_truth (Some true) (Some true) = Some true
and_truth a b = None

-- true where one side is true, else unknown where one is
abbrev pub or_truth : Option Bool → Option Bool → Option Bool
or_truth (Some true) b = Some true
or_truth a (Some true) = Some true
or_truth (Some false) (Some false) = Some false
or_truth a b = None

abbrev pub not_tree : Tree → Tree
not_tree a = truth_tree (option_map not (truth_of a))

-- whether a condition is met
abbrev pub is_true : Tree → Bool
is_true (v_bool b) = b
is_true v = false

-- one of two values by a condition
abbrev pub chosen : Option Bool → Tree → Tree → Tree
chosen (Some true) a b = a
chosen (Some false) a b = b
chosen None a b = v_null

-- `IS NULL`, and negated `IS NOT NULL`
abbrev pub null_test : Tree → Bool → Tree
null_test a negated = v_bool (if negated then is_present a else not (is_present a))

-- ---- numbers: two ints at 32 bits, a long with an int or a long at 64

-- none for a zero divisor; `/` goes towards zero, and `%` has the sign of the dividend
abbrev pub number_by : ChainOp → Width → ℤ → ℤ → Option ℤ
number_by op.Add w a b = Some (int_wrapping_add w a b)
number_by op.Sub w a b = Some (int_wrapping_sub w a b)
number_by op.Mul w a b = Some (int_wrapping_mul w a b)
number_by op.Div w a b = if int_eq b (pos 0) then None else Some (int_wrapping_div w a b)
number_by op.Rem w a b = if int_eq b (pos 0) then None else Some (int_rem a b)
number_by operator w a b = None

abbrev pub arithmetic : ChainOp → Tree → Tree → Tree
arithmetic operator (v_int a) (v_int b) = or_null (option_map v_int (number_by operator w32 a b))
arithmetic operator (v_int a) (v_long b) = or_null (option_map v_long (number_by operator w64 a b))
arithmetic operator (v_long a) (v_int b) = or_null (option_map v_long (number_by operator w64 a b))
arithmetic operator (v_long a) (v_long b) = or_null (option_map v_long (number_by operator w64 a b))
arithmetic operator a b = v_null

abbrev pub minus_tree : Tree → Tree
minus_tree (v_int z) = v_int (int_wrapping_neg w32 z)
minus_tree (v_long z) = v_long (int_wrapping_neg w64 z)
minus_tree v = v_null

-- an operator of a chain
abbrev pub chain_tree : ChainOp → Tree → Tree → Tree
chain_tree op.Or a b = truth_tree (or_truth (truth_of a) (truth_of b))
chain_tree op.And a b = truth_tree (and_truth (truth_of a) (truth_of b))
chain_tree operator a b = arithmetic operator a b

-- ---- comparisons, by the order of values

abbrev pub compare_tree : Rel → Tree → Tree → Tree
compare_tree r v_null b = v_null
compare_tree r a v_null = v_null
compare_tree r a b = v_bool (rel_holds r (tree_cmp a b))

-- ---- parts of a value

-- the fields at these positions
abbrev pub pick : List ℕ → List Tree → List Tree
pick ns row = map (λ n. at n row) ns

-- Of a tuple the one field, or a tuple of the fields; of a bag the bag of such tuples, of a listed one the tuples in its order.
abbrev pub project_tree : List ℕ → Bool → Tree → Tree
project_tree ns single (v_tuple vs) = if single then at 0 (pick ns (fields_list vs)) else v_tuple (fields_of (pick ns (fields_list vs)))
project_tree ns single (v_bag rs) = bag_tree (map (pick ns) (tuples_list rs))
project_tree ns single (v_listed rs) = v_listed (tuples_of (map (pick ns) (tuples_list rs)))
project_tree ns single v = v_null

-- the value of a map's key
abbrev pub look_tree : List ℕ → Tree → Tree
look_tree key (v_map ps) = or_null (option_map (λ p. p.1) (find (λ p. bytes_eq p.0 key) (entries_list ps)))
look_tree key v = v_null
