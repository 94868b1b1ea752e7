-- The laws of what takes rows, for a shuffle: no rows change nothing, and rows that are taken in turn are joined.
use Rattle.std.specs.Prelude.{List, [], ◌++◌}
use Rattle.std.proofs.Common.{sym, subst, append-nil, append_assoc}
use Rattle.pig_value.specs.Trees.{Tree}
use Rattle.pig_shuffle.specs.Held.{HasShuffled, Shuffled, TookMore}

abbrev Rows : Type 0
Rows = List (List Tree)

pub took_nothing : (a : Shuffled) → TookMore a [] a
took_nothing a w seen has = subst (λ rows. HasShuffled w rows a) (sym (append-nil seen)) has

pub took_onwards : (a b c : Shuffled) (xs ys : Rows) → TookMore a xs b → TookMore b ys c → TookMore a (xs ++ ys) c
took_onwards a b c xs ys first then w seen has =
    subst (λ rows. HasShuffled w rows c) (append_assoc seen xs ys) (then w (seen ++ xs) (first w seen has))
