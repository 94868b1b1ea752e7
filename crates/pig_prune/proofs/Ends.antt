-- How the loops end: lists that are fitted one by one, and marks of no element.
use Rattle.std.specs.Prelude.{◌≡◌, ◌<◌, ◌+◌, ℕ, Bool, List, [], ◌∷◌, ◌++◌, length, map, refl}
use Rattle.std.proofs.Common.{ap, sym, ◌∙◌, arith}
use Rattle.std.specs.List.{flat_map, range_with_len}
use Rattle.std.proofs.lemmas.List.{append-nil, append_assoc, map-append}
use Rattle.std.proofs.lemmas.List.FromFn.{map-range_with_len_more}
use Rattle.pig_value.specs.declared.operators.ChainOp.{ChainOp}
use Rattle.pig_typed.specs.Typed.{Typed, args_of, item_typed, links_of, more_args, more_links}
use Rattle.pig_typed.specs.declared.blocks.BlockItem.{BlockItem}
use Rattle.pig_plan.proofs.Marking.{range_more}
use Rattle.pig_cuts.specs.Cuts.{NodeCut}
use Rattle.pig_cuts.specs.Fits.{fit, fit_args, fit_links}
use Rattle.pig_cuts.specs.Plans.{behind, spans, staying, whole_field}
use Rattle.pig_cuts.specs.declared.kept.KeptField.{KeptField}
use Rattle.pig_prune.specs.Pruned.{fit_link}

pub links_fit : (cuts : ℕ → NodeCut) (own : NodeCut) (ls : List (ChainOp × Typed)) → links_of (map (fit_link cuts own) ls) ≡ fit_links cuts own (links_of ls)
links_fit cuts own [] = refl
links_fit cuts own (l ∷ ls) = ap (λ more. more_links l.0 (fit cuts own l.1) more) (links_fit cuts own ls)

pub args_fit : (cuts : ℕ → NodeCut) (own : NodeCut) (es : List Typed) → args_of (map (fit cuts own) es) ≡ fit_args cuts own (args_of es)
args_fit cuts own [] = refl
args_fit cuts own (e ∷ es) = ap (λ more. more_args (fit cuts own e) more) (args_fit cuts own es)

pub none_staying : {X : Type 0} (marks : List Bool) → ◌≡◌ {A = List X} (staying marks []) []
none_staying [] = refl
none_staying (mark ∷ marks) = refl

-- one number more of a range
pub range_on : (begun old new : List ℕ) (first n : ℕ) → old ≡ begun ++ range_with_len first n → new ≡ old ++ (first + n) ∷ [] → new ≡ begun ++ range_with_len first (n + 1)
range_on begun old new first n so_far is =
    is ∙ ap (λ xs. xs ++ (first + n) ∷ []) so_far ∙ append_assoc begun (range_with_len first n) ((first + n) ∷ [])
    ∙ ap (λ xs. begun ++ xs) (sym (range_more first n))

pub behind_on : (begun old new : List KeptField) (first n : ℕ) → old ≡ begun ++ map (behind first) (map whole_field (range_with_len 0 n)) → new ≡ old ++ behind first (whole_field n) ∷ []
    → new ≡ begun ++ map (behind first) (map whole_field (range_with_len 0 (n + 1)))
behind_on begun old new first n so_far is =
    is ∙ ap (λ xs. xs ++ behind first (whole_field n) ∷ []) so_far
    ∙ append_assoc begun (map (behind first) (map whole_field (range_with_len 0 n))) (behind first (whole_field n) ∷ [])
    ∙ ap (λ xs. begun ++ xs) (sym (
    ap (map (behind first)) (map-range_with_len_more whole_field 0 n n (omega arith))
    ∙ map-append (behind first) (map whole_field (range_with_len 0 n)) (whole_field n ∷ [])))

-- where no element is left, none stays and none goes
pub none_stays : {X Y : Type 0} (f : Y → X) (marks : List Bool) (left : List Y) → length left < 1 → ◌≡◌ {A = List X} (staying marks (map f left)) []
none_stays f marks [] h = none_staying marks
none_stays f marks (y ∷ left) h = absurd (omega (arith, h))

pub made_whole : {X : Type 0} (marks : List Bool) (left made all : List X) → length left < 1 → made ++ staying marks left ≡ all → made ≡ all
made_whole marks [] made all h is = sym (append-nil made) ∙ ap (λ xs. made ++ xs) (sym (none_staying marks)) ∙ is
made_whole marks (x ∷ left) made all h is = absurd (omega (arith, h))

pub numbered_whole : (marks : List Bool) (first : ℕ) (left : List BlockItem) (made all : List ℕ) → length left < 1
    → made ++ flat_map (λ span. span) (staying marks (spans first (map item_typed left))) ≡ all → made ≡ all
numbered_whole marks first [] made all h is =
    sym (append-nil made) ∙ ap (λ xs. made ++ flat_map (λ span. span) xs) (sym (none_staying marks)) ∙ is
numbered_whole marks first (x ∷ left) made all h is = absurd (omega (arith, h))
