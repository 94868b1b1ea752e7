-- Paths and delimiters of texts, and an ASSERT on what is ordered, computed.
use Rattle.std.specs.Prelude.{◌≡◌, true, false, [], ◌∷◌, codes, map, Some, None, refl}
use Rattle.pig_typed.specs.Typed.{x_bool}
use Rattle.pig_plan.specs.Nodes.{is_list, is_sorted}
use Rattle.pig_plan.specs.Plans.{Plan, p_assert, p_limit, p_load, p_order, p_rank}
use Rattle.pig_check.specs.Functions.{delimiter_in, tab}
use Rattle.pig_check.specs.Operators.{rank_name}
use Rattle.pig_check.specs.Paths.{collide, components, is_compressed, is_plain, kept}
use Rattle.pig_check.specs.States.{node_of_statement}

-- ---- paths

slash_dropped : kept (codes "a/b/") ≡ codes "a/b"
slash_dropped = refl

one_slash_dropped : kept (codes "a//") ≡ codes "a/"
one_slash_dropped = refl

root_is_none : is_plain (kept (codes "/")) ≡ false
root_is_none = refl

nothing_is_none : is_plain (kept []) ≡ false
nothing_is_none = refl

below_the_root : components (codes "/a/b") ≡ codes "a" ∷ codes "b" ∷ []
below_the_root = refl

two_slashes : is_plain (codes "//a") ≡ false
two_slashes = refl

dots : is_plain (codes "a/../b") ≡ false
dots = refl

dots_within : is_plain (codes "a/..b/.c") ≡ true
dots_within = refl

a_pattern : is_plain (codes "a/b*") ≡ false
a_pattern = refl

an_ending : is_compressed (codes "a.bz2") ≡ true
an_ending = refl

no_ending : is_compressed (codes "a.gz/b") ≡ false
no_ending = refl

-- ---- collisions

itself : collide (codes "a/b") (codes "a/b") ≡ true
itself = refl

above : collide (codes "a") (codes "a/b") ≡ true
above = refl

below : collide (codes "a/b/c") (codes "a/b") ≡ true
below = refl

beside : collide (codes "a/b") (codes "a/bc") ≡ false
beside = refl

of_the_root : collide (codes "/a") (codes "a") ≡ false
of_the_root = refl

-- ---- delimiters

no_argument : delimiter_in [] ≡ Some tab
no_argument = refl

a_comma : delimiter_in (codes "," ∷ []) ≡ Some 44
a_comma = refl

two_bytes : delimiter_in (codes "ab" ∷ []) ≡ None
two_bytes = refl

two_arguments : delimiter_in (codes "a" ∷ codes "b" ∷ []) ≡ None
two_arguments = refl

-- ---- a list stays a list

-- LOAD, ORDER, an ASSERT on that, and a LIMIT on the ASSERT
abbrev ordered : Plan
ordered = map (node_of_statement 1) (p_load (codes "i") tab [] ∷ p_order 0 [] ∷ p_assert 1 (x_bool true) None ∷ p_limit 2 1 ∷ [])

assert_of_order : is_sorted ordered 2 ≡ true
assert_of_order = refl

limit_of_assert : is_list ordered 3 ≡ true
limit_of_assert = refl

limit_of_load : is_list (map (node_of_statement 1) (p_load (codes "i") tab [] ∷ p_limit 0 1 ∷ [])) 1 ≡ false
limit_of_load = refl

-- LOAD, ORDER, and a RANK of what is ordered, which is a bag
rank_of_order : is_list (map (node_of_statement 1) (p_load (codes "i") tab [] ∷ p_order 0 [] ∷ p_rank 1 [] false ∷ [])) 2 ≡ false
rank_of_order = refl

-- ---- names

rank_of_a : rank_name (codes "a") ≡ codes "rank_a"
rank_of_a = refl
