-- What stands together: each kind is that of the whole, or an int where that is long. So what is widened has the kind of the whole.
use Rattle.std.proofs.Common.{◌≡◌, List, [], ◌∷◌, map, refl, ap, subst, Bool, true, false}
use Rattle.std.specs.Prelude.{Option, Some, None, if◌then◌else◌}
use Rattle.std.specs.Option.{option_and_then, option_map}
use Rattle.pig_value.specs.Kinds.{has_bag_or_map, kind_eq}
use Rattle.pig_value.specs.Trees.{KindTree, k_int, k_long}
use Rattle.pig_value.proofs.KindLaws.{kind_itself, kind_same}
use Rattle.pig_schema.specs.FieldTrees.{FieldTree, FieldTrees, tree_kind, tree_inner, HasInner}
use Rattle.pig_typed.specs.ExprKinds.{expr_kind}
use Rattle.pig_typed.specs.Typed.{Typed}
use Rattle.pig_typing.specs.Columns.{AreColumns}
use Rattle.pig_relations.specs.Together.{Fits, same, wider, AllFit, AllRowsFit, int_with_long, together, each_together, with_others, all_together, widens, widened, of_kinds}

fits_on : {k j m : KindTree} → Fits k j → Fits j m → Fits k m
fits_on same g = g
fits_on wider same = wider

all_fit_on : (ks js ms : List KindTree) → AllFit ks js → AllFit js ms → AllFit ks ms
all_fit_on [] [] [] h g = tt
all_fit_on [] [] (m ∷ ms) h g = absurd g
all_fit_on [] (j ∷ js) ms h g = absurd h
all_fit_on (k ∷ ks) [] ms h g = absurd h
all_fit_on (k ∷ ks) (j ∷ js) [] h g = absurd g
all_fit_on (k ∷ ks) (j ∷ js) (m ∷ ms) h g = (fits_on h.0 g.0, all_fit_on ks js ms h.1 g.1)

all_fit_same : (ks : List KindTree) → AllFit ks ks
all_fit_same [] = tt
all_fit_same (k ∷ ks) = (same, all_fit_same ks)

-- ---- both of two stand together

mixed : (k l : KindTree) → int_with_long k l ≡ true → Fits k k_long × Fits l k_long
mixed k_int k_long e = (wider, same)
mixed k_long k_int e = (same, wider)
mixed k l e = absurd (cc)

both_fit : (k l j : KindTree) → together k l ≡ Some j → Fits k j × Fits l j
both_fit k l j e = by (int_with_long k l) refl e
  where
    equal : (b : Bool) → kind_eq k l ≡ b → (if b then Some k else None) ≡ Some j → Fits k j × Fits l j
    equal true w e =
        let at : k ≡ j = cc in
        (subst (Fits k) at same, subst (λ m. Fits m j) (kind_same k l w) (subst (Fits k) at same))
    equal false w e = absurd (cc)

    by : (b : Bool) → int_with_long k l ≡ b → (if b then Some k_long else if kind_eq k l then Some k else None) ≡ Some j → Fits k j × Fits l j
    by true w e = let at : k_long ≡ j = cc in (subst (Fits k) at (mixed k l w).0, subst (Fits l) at (mixed k l w).1)
    by false w e = equal (kind_eq k l) refl e

abbrev BothFit : List KindTree → List KindTree → List KindTree → Type 0
BothFit ks ls js = AllFit ks js × AllFit ls js

one_more : (k l j : KindTree) (ks ls js : List KindTree) → Fits k j × Fits l j → ((more : List KindTree) → each_together ks ls ≡ Some more → BothFit ks ls more)
    → (o : Option (List KindTree)) → each_together ks ls ≡ o → option_map (λ more. j ∷ more) o ≡ Some js → BothFit (k ∷ ks) (l ∷ ls) js
one_more k l j ks ls js h rest (Some more) w e =
    let at : j ∷ more ≡ js = cc in
    let g = rest more w in
    subst (BothFit (k ∷ ks) (l ∷ ls)) at ((h.0, g.0), (h.1, g.1))
one_more k l j ks ls js h rest None w e = absurd (cc)

first_then : (k l : KindTree) (ks ls js : List KindTree) → ((more : List KindTree) → each_together ks ls ≡ Some more → BothFit ks ls more)
    → (o : Option KindTree) → together k l ≡ o → option_and_then (λ j. option_map (λ more. j ∷ more) (each_together ks ls)) o ≡ Some js → BothFit (k ∷ ks) (l ∷ ls) js
first_then k l ks ls js rest (Some j) w e = one_more k l j ks ls js (both_fit k l j w) rest (each_together ks ls) refl e
first_then k l ks ls js rest None w e = absurd (cc)

each_fit : (ks ls js : List KindTree) → each_together ks ls ≡ Some js → BothFit ks ls js
each_fit [] [] [] e = (tt, tt)
each_fit [] [] (j ∷ js) e = absurd (cc)
each_fit [] (l ∷ ls) js e = absurd (cc)
each_fit (k ∷ ks) [] js e = absurd (cc)
each_fit (k ∷ ks) (l ∷ ls) js e = first_then k l ks ls js (λ more. each_fit ks ls more) (together k l) refl e

then_others : (ks ls : List KindTree) (others : List (List KindTree)) (js : List KindTree)
    → ((more : List KindTree) → with_others more others ≡ Some js → AllFit more js × AllRowsFit others js)
    → (o : Option (List KindTree)) → each_together ks ls ≡ o → option_and_then (λ more. with_others more others) o ≡ Some js → AllFit ks js × AllRowsFit (ls ∷ others) js
then_others ks ls others js rest (Some more) w e =
    let first = each_fit ks ls more w in
    let later = rest more e in
    (all_fit_on ks more js first.0 later.0, (all_fit_on ls more js first.1 later.0, later.1))
then_others ks ls others js rest None w e = absurd (cc)

others_fit : (ks : List KindTree) (others : List (List KindTree)) (js : List KindTree) → with_others ks others ≡ Some js → AllFit ks js × AllRowsFit others js
others_fit ks [] js e = let at : ks ≡ js = cc in (subst (AllFit ks) at (all_fit_same ks), tt)
others_fit ks (ls ∷ others) js e = then_others ks ls others js (λ more. others_fit more others js) (each_together ks ls) refl e

pub rows_fit : (rows : List (List KindTree)) (js : List KindTree) → all_together rows ≡ Some js → AllRowsFit rows js
rows_fit [] js e = absurd (cc)
rows_fit (ks ∷ others) js e = others_fit ks others js e

-- ---- and they are the least that all fit

not_mixed : (k : KindTree) → int_with_long k k ≡ false
not_mixed k_int = refl
not_mixed k_long = refl
not_mixed k = refl

abbrev Least : KindTree → KindTree → KindTree → Type 0
Least k l m = (j : KindTree) × (together k l ≡ Some j) × Fits j m

both_least : (k l m : KindTree) → Fits k m → Fits l m → Least k l m
both_least k l m same same = (k, rw (not_mixed k, kind_itself k) refl, same)
both_least k l m same wider = (k_long, refl, same)
both_least k l m wider same = (k_long, refl, same)
both_least k l m wider wider = (k_int, refl, wider)

abbrev LeastKinds : Option (List KindTree) → List KindTree → Type 0
LeastKinds found ms = (js : List KindTree) × (found ≡ Some js) × AllFit js ms

each_least : (ks ls ms : List KindTree) → AllFit ks ms → AllFit ls ms → LeastKinds (each_together ks ls) ms
each_least [] [] [] h g = ([], refl, tt)
each_least [] [] (m ∷ ms) h g = absurd h
each_least [] (l ∷ ls) [] h g = absurd g
each_least [] (l ∷ ls) (m ∷ ms) h g = absurd h
each_least (k ∷ ks) ls [] h g = absurd h
each_least (k ∷ ks) [] (m ∷ ms) h g = absurd g
each_least (k ∷ ks) (l ∷ ls) (m ∷ ms) h g =
    let first = both_least k l m h.0 g.0 in
    let rest = each_least ks ls ms h.1 g.1 in
    (first.0 ∷ rest.0, rw (first.1, rest.1) refl, (first.2, rest.2))

others_least : (ks : List KindTree) (others : List (List KindTree)) (ms : List KindTree) → AllFit ks ms → AllRowsFit others ms → LeastKinds (with_others ks others) ms
others_least ks [] ms h g = (ks, refl, h)
others_least ks (ls ∷ others) ms h g =
    let first = each_least ks ls ms h g.0 in
    let rest = others_least first.0 others ms first.2 g.1 in
    (rest.0, rw (first.1) rest.1, rest.2)

pub rows_least : (ks : List KindTree) (others : List (List KindTree)) (ms : List KindTree) → AllRowsFit (ks ∷ others) ms → LeastKinds (all_together (ks ∷ others)) ms
rows_least ks others ms h = others_least ks others ms h.0 h.1

-- ---- what is widened

widens_itself : (k : KindTree) → widens k k ≡ false
widens_itself k_int = refl
widens_itself k_long = refl
widens_itself k = refl

pub widened_kind : (row locals : List KindTree) (k j : KindTree) (t : Typed) → Fits k j → expr_kind t row locals ≡ Some k → expr_kind (widened k j t) row locals ≡ Some j
widened_kind row locals k j t same e = rw (widens_itself k) e
widened_kind row locals k j t wider e = rw (e) refl

pub simple_stays : (k j : KindTree) → Fits k j → has_bag_or_map k ≡ false → has_bag_or_map j ≡ false
simple_stays k j same e = e
simple_stays k j wider e = refl

inner_fits : (k j : KindTree) (inner : FieldTrees) → Fits k j → HasInner k inner → HasInner j inner
inner_fits k j inner same h = h
inner_fits k j inner wider h = h

pub kinds_given : (columns : List FieldTree) (js : List KindTree) → AllFit (map tree_kind columns) js → map tree_kind (of_kinds js columns) ≡ js
kinds_given [] [] h = refl
kinds_given [] (j ∷ js) h = absurd h
kinds_given (c ∷ columns) [] h = absurd h
kinds_given (c ∷ columns) (j ∷ js) h = ap (λ more. j ∷ more) (kinds_given columns js h.1)

pub columns_given : (columns : List FieldTree) (js : List KindTree) → AllFit (map tree_kind columns) js → AreColumns columns → AreColumns (of_kinds js columns)
columns_given [] [] h g = tt
columns_given [] (j ∷ js) h g = absurd h
columns_given (c ∷ columns) [] h g = absurd h
columns_given (c ∷ columns) (j ∷ js) h g = (inner_fits (tree_kind c) j (tree_inner c) h.0 g.0, columns_given columns js h.1 g.1)
