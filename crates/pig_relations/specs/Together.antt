-- Kinds that several inputs have together: those of keys, and of the columns of a UNION. They are equal, but that an int stands with a
-- long, and is then cast to long.
-- (Pig Latin Basics: "JOIN", "COGROUP", "UNION". That nothing else is brought together is a choice of this profile.)
use Rattle.std.specs.Prelude.{⊤, Bool, true, false, List, [], ◌∷◌, length, ◌==◌, Option, Some, None, if◌then◌else◌}
use Rattle.std.specs.List.{list_all}
use Rattle.std.specs.Option.{option_and_then, option_map}
use Rattle.pig_value.specs.Kinds.{kind_eq}
use Rattle.pig_value.specs.Trees.{KindTree, k_int, k_long}
use Rattle.pig_schema.specs.FieldTrees.{FieldTree, a_field, tree_name, tree_inner}
use Rattle.pig_typed.specs.Typed.{Typed}
use Rattle.pig_typing.specs.Joins.{cast_if}

abbrev pub int_with_long : KindTree → KindTree → Bool
int_with_long k_int k_long = true
int_with_long k_long k_int = true
int_with_long k l = false

-- the kind of both together
abbrev pub together : KindTree → KindTree → Option KindTree
together k l = if int_with_long k l then Some k_long else if kind_eq k l then Some k else None

-- place by place, where there are equally many
abbrev pub each_together : List KindTree → List KindTree → Option (List KindTree)
each_together [] [] = Some []
each_together [] (l ∷ ls) = None
each_together (k ∷ ks) [] = None
each_together (k ∷ ks) (l ∷ ls) = option_and_then (λ j. option_map (λ js. j ∷ js) (each_together ks ls)) (together k l)

-- these, and those of further inputs
abbrev pub with_others : List KindTree → List (List KindTree) → Option (List KindTree)
with_others ks [] = Some ks
with_others ks (ls ∷ others) = option_and_then (λ js. with_others js others) (each_together ks ls)

abbrev pub all_together : List (List KindTree) → Option (List KindTree)
all_together [] = None
all_together (ks ∷ others) = with_others ks others

-- each input has as many as the first
abbrev pub equally_many : List (List KindTree) → Bool
equally_many [] = true
equally_many (ks ∷ others) = list_all (λ ls. length ls == length ks) others

-- ---- what fits

-- the first kind is the second, or widens to it
pub data Fits : KindTree → KindTree → Type 0 where
  same : {k : KindTree} → Fits k k
  wider : Fits k_int k_long

-- place by place, equally many
abbrev pub AllFit : List KindTree → List KindTree → Type 0
AllFit [] [] = ⊤
AllFit [] (j ∷ js) = ⊥
AllFit (k ∷ ks) [] = ⊥
AllFit (k ∷ ks) (j ∷ js) = Fits k j × AllFit ks js

abbrev pub AllRowsFit : List (List KindTree) → List KindTree → Type 0
AllRowsFit [] js = ⊤
AllRowsFit (ks ∷ others) js = AllFit ks js × AllRowsFit others js

-- ---- what is widened

-- what is of the first kind is cast to be of the second
abbrev pub widens : KindTree → KindTree → Bool
widens k_int k_long = true
widens k l = false

abbrev pub widened : KindTree → KindTree → Typed → Typed
widened k l t = cast_if (widens k l) l t

-- a column, of the kind that the inputs have together
abbrev pub of_kind : KindTree → FieldTree → FieldTree
of_kind k c = a_field (tree_name c) k (tree_inner c)

-- columns with the kinds at their places
abbrev pub of_kinds : List KindTree → List FieldTree → List FieldTree
of_kinds [] columns = []
of_kinds (k ∷ ks) [] = []
of_kinds (k ∷ ks) (c ∷ columns) = of_kind k c ∷ of_kinds ks columns
