-- What is told of partitions of small lists, computed.
use Rattle.std.specs.Prelude.{◌≡◌, ℕ, pos, true, false, Some, None, List, [], ◌∷◌, refl}
use Rattle.std.specs.Int.{int_wrap}
use Rattle.pig_value.specs.declared.operators.Dir.TheVariants as dir
use Rattle.pig_value.specs.Trees.{Tree, v_null, v_int, v_long, v_chars}
use Rattle.pig_typed.specs.declared.blocks.SortKey.{SortKey}
use Rattle.pig_plan.specs.Operators.{order_rows, rank_rows}
use Rattle.pig_rank.specs.Ranks.{Rows, ranked_among, starts_of, summary_of}

abbrev pub int : ℕ → Tree
int n = v_int (pos n)

abbrev pub long : ℕ → Tree
long n = v_long (pos n)

abbrev pub row : Tree → ℕ → List Tree
row key byte = key ∷ v_chars (byte ∷ []) ∷ []

-- (3, a), (1, b), (3, c), (, d) by the first field, descending
abbrev pub keys : List SortKey
keys = record { position = 0; dir = dir.Desc } ∷ []

abbrev pub a : List Tree
a = row (int 3) 97

abbrev pub b : List Tree
b = row (int 1) 98

abbrev pub c : List Tree
c = row (int 3) 99

abbrev pub d : List Tree
d = row v_null 100

abbrev pub sorted : Rows
sorted = a ∷ c ∷ b ∷ d ∷ []

ordered : order_rows keys (a ∷ b ∷ c ∷ d ∷ []) ≡ sorted
ordered = refl

-- ---- partitions

none : summary_of keys [] ≡ record { rows = 0; keys = 0; first = None; last = None; tail = 0 }
none = refl

one_key : summary_of keys (a ∷ c ∷ []) ≡ record { rows = 2; keys = 1; first = Some a; last = Some c; tail = 2 }
one_key = refl

two_keys : summary_of keys (a ∷ c ∷ b ∷ []) ≡ record { rows = 3; keys = 2; first = Some a; last = Some b; tail = 1 }
two_keys = refl

-- each row in a partition, and one that is empty
starts : starts_of keys ((a ∷ []) ∷ (c ∷ []) ∷ [] ∷ (b ∷ []) ∷ (d ∷ []) ∷ [])
    ≡ record { rank = 0; dense = 0; last = None; tail = 0 } ∷ record { rank = 1; dense = 1; last = Some a; tail = 1 } ∷ record { rank = 2; dense = 1; last = Some c; tail = 2 }
    ∷ record { rank = 2; dense = 1; last = Some c; tail = 2 } ∷ record { rank = 3; dense = 2; last = Some b; tail = 1 } ∷ []
starts = refl

-- ---- ranks

ranks : rank_rows keys false sorted ≡ (long 1 ∷ a) ∷ (long 1 ∷ c) ∷ (long 3 ∷ b) ∷ (long 4 ∷ d) ∷ []
unfolding int_wrap
ranks = refl

dense_ranks : rank_rows keys true sorted ≡ (long 1 ∷ a) ∷ (long 1 ∷ c) ∷ (long 2 ∷ b) ∷ (long 3 ∷ d) ∷ []
unfolding int_wrap
dense_ranks = refl

-- a partition's rows among all
pub of_one_partition : ranked_among keys false sorted (c ∷ b ∷ []) ≡ (long 1 ∷ c) ∷ (long 3 ∷ b) ∷ []
unfolding int_wrap
of_one_partition = refl
