-- The index of nested aliases: what it tells is the latest step of an alias, also behind one more step.
use Rattle.std.proofs.Common.{◌≡◌, ◌∙◌, ◌<◌, ◌+◌, ℕ, zero, suc, List, [], ◌∷◌, ◌++◌, map, length, refl, sym, ap, Bool, true, false, arith}
use Rattle.std.specs.Prelude.{Option, Some, None, IfSome, slice_get, if◌then◌else◌}
use Rattle.std.specs.Option.{option_map}
use Rattle.std.specs.Str.{bytes_eq}
use Rattle.std.proofs.lemmas.Cmp.{nat_list_eq_equiv}
use Rattle.std.proofs.lemmas.List.{length-map}
use Rattle.pig_schema.specs.FieldTrees.{FieldTree, named_tree}
use Rattle.pig_typing.specs.declared.locals.Local.{Local}
use Rattle.pig_typing.specs.Latest.{IsIndex, latest, latest_from, later_or, local_of, named_here, step_in}
use Rattle.pig_typing.proofs.CodeLaws.{later_none}

-- what is found at the number of an alias
pub index_tells : (given : List Local) (number : Option ℕ) (alias : List ℕ) (n : ℕ) (found : Option Local) → step_in given number ≡ latest alias (map local_of given)
    → Some n ≡ number → found ≡ slice_get given n → option_map (λ l. (n, named_tree l.column)) found ≡ latest alias (map local_of given)
index_tells given number alias n found e at is = ap (option_map (λ l. (n, named_tree l.column))) is ∙ ap (step_in given) at ∙ e

last_one : (given : List Local) (l : Local) → slice_get (given ++ l ∷ []) (length given) ≡ Some l
last_one [] l = refl
last_one (m ∷ given) l = last_one given l

-- one more changes no step before
earlier : (given : List Local) (l : Local) (number : Option ℕ) → IfSome number (λ n. n < length given) → step_in (given ++ l ∷ []) number ≡ step_in given number
earlier given l None h = refl
earlier given l (Some n) h = ap (option_map (λ m. (n, named_tree m.column))) (stays given n h)
  where
    stays : (ls : List Local) (n : ℕ) → n < length ls → slice_get (ls ++ l ∷ []) n ≡ slice_get ls n
    stays [] n h = absurd (omega (arith, h))
    stays (m ∷ ls) zero h = refl
    stays (m ∷ ls) (suc n) h = stays ls n (omega (arith, h))

within : (given : List Local) (l : Local) (number : Option ℕ) → IfSome number (λ n. n < length given) → IfSome number (λ n. n < length (given ++ l ∷ []))
within given l None h = h
within given l (Some n) h = let e = longer given in omega (arith, h, e)
  where
    longer : (ls : List Local) → length (ls ++ l ∷ []) ≡ suc (length ls)
    longer [] = refl
    longer (m ∷ ls) = ap suc (longer ls)

last_within : (given : List Local) (l : Local) → length given < length (given ++ l ∷ [])
last_within [] l = omega arith
last_within (m ∷ given) l = let e = last_within given l in omega (arith, e)

-- the latest of all is the last one, where that has the alias, or else the latest before it
both_later : {A : Type 0} (a b c : Option A) → later_or (later_or a b) c ≡ later_or a (later_or b c)
both_later (Some x) b c = refl
both_later None b c = refl

latest_behind : (n : ℕ) (alias : List ℕ) (ls : List (List ℕ × FieldTree)) (l : List ℕ × FieldTree)
    → latest_from n alias (ls ++ l ∷ []) ≡ later_or (named_here alias (n + length ls) l) (latest_from n alias ls)
latest_behind n alias [] l =
    let none : n + 0 ≡ n = omega arith in
    sym (later_none (named_here alias (n + 0) l) ∙ ap (λ m. named_here alias m l) none)
latest_behind n alias (m ∷ ls) l =
    let at : n + 1 + length ls ≡ n + suc (length ls) = omega arith in
    ap (λ rest. later_or rest (named_here alias n m)) (latest_behind (n + 1) alias ls l)
    ∙ both_later (named_here alias (n + 1 + length ls) l) (latest_from (n + 1) alias ls) (named_here alias n m)
    ∙ ap (λ k. later_or (named_here alias k l) (latest_from n alias (m ∷ ls))) at

steps_behind : (given : List Local) (l : Local) → map local_of (given ++ l ∷ []) ≡ map local_of given ++ local_of l ∷ []
steps_behind [] l = refl
steps_behind (m ∷ given) l = ap (λ more. local_of m ∷ more) (steps_behind given l)

-- bytes are equal either way round
turned : (a b : List ℕ) → bytes_eq a b ≡ bytes_eq b a
turned a b = nat_list_eq_equiv.symm a b

pub index_behind : (given : List Local) (l : Local) (old new : List ℕ → Option ℕ) → IsIndex given old
    → ((name : List ℕ) → new name ≡ (if bytes_eq name l.alias then Some (length given) else old name)) → IsIndex (given ++ l ∷ []) new
index_behind given l old new h e name = by (bytes_eq name l.alias) refl
  where
    means : (b : Bool) → bytes_eq name l.alias ≡ b
        → latest name (map local_of (given ++ l ∷ [])) ≡ later_or (if b then Some (length given, named_tree l.column) else None) (latest name (map local_of given))
    means b w =
        let count : 0 + length (map local_of given) ≡ length given = let same = length-map given local_of in omega (arith, same) in
        ap (latest name) (steps_behind given l) ∙ latest_behind 0 name (map local_of given) (local_of l)
        ∙ ap (λ n. later_or (named_here name n (local_of l)) (latest name (map local_of given))) count
        ∙ ap (λ test. later_or (if test then Some (length given, named_tree l.column) else None) (latest name (map local_of given))) (turned l.alias name ∙ w)

    by : (b : Bool) → bytes_eq name l.alias ≡ b
        → (step_in (given ++ l ∷ []) (new name) ≡ latest name (map local_of (given ++ l ∷ []))) × IfSome (new name) (λ n. n < length (given ++ l ∷ []))
    by true w =
        let at : new name ≡ Some (length given) = e name ∙ ap (λ b. if b then Some (length given) else old name) w in
        rw (at) (ap (option_map (λ m. (length given, named_tree m.column))) (last_one given l) ∙ sym (means true w), last_within given l)
    by false w =
        let at : new name ≡ old name = e name ∙ ap (λ b. if b then Some (length given) else old name) w in
        rw (at) (earlier given l (old name) (h name).1 ∙ (h name).0 ∙ sym (means false w), within given l (old name) (h name).1)
