-- Keys that are cast one after the other, each to the kind at its place.
use Rattle.std.proofs.Common.{◌≡◌, List, [], ◌∷◌, ◌++◌, map, refl, ap}
use Rattle.pig_value.specs.Trees.{KindTree}
use Rattle.pig_typing.specs.declared.exprs.TypedExpr.{TypedExpr}
use Rattle.pig_typing.specs.Views.{typed_tree}
use Rattle.pig_relations.specs.Keyed.{cast_first, cast_keys, rest_of}

-- the kinds that are left behind some keys
abbrev pub left_after : List TypedExpr → List KindTree → List KindTree
left_after [] ks = ks
left_after (key ∷ keys) ks = left_after keys (rest_of ks)

pub left_more : (keys : List TypedExpr) (key : TypedExpr) (ks : List KindTree) → left_after (keys ++ key ∷ []) ks ≡ rest_of (left_after keys ks)
left_more [] key ks = refl
left_more (first ∷ keys) key ks = left_more keys key (rest_of ks)

pub cast_more : (keys : List TypedExpr) (key : TypedExpr) (ks : List KindTree)
    → cast_keys (map typed_tree (keys ++ key ∷ [])) ks ≡ cast_keys (map typed_tree keys) ks ++ cast_first (typed_tree key) (left_after keys ks) ∷ []
cast_more [] key ks = refl
cast_more (first ∷ keys) key ks = ap (λ more. cast_first (typed_tree first) ks ∷ more) (cast_more keys key (rest_of ks))
