-- The values of names: in a map, and by the lines above.
use Rattle.std.proofs.Common.{rules, ◌≡◌, ◌∙◌, ℕ, Bool, true, false, List, [], ◌∷◌, ◌++◌, Option, Some, None, Bor, if◌then◌else◌, refl, sym, ap, ap₂, ◌+◌, ◌<◌, length, map, take, take-suc, add-one, get_or}
use Rattle.std.specs.List.{filter_map, cons_option}
use Rattle.std.specs.Map.{lookup}
use Rattle.std.specs.Option.{option_map}
use Rattle.std.specs.Str.{bytes_eq}
use Rattle.std.proofs.lemmas.List.{map-append, reverse-append}
use Rattle.std.proofs.lemmas.List.Elements.{filter_map-append}
use Rattle.pig_params.specs.Directives.{ordinary, directive, line_of}
use Rattle.pig_params.specs.Substitution.{Named, last_of, or_else, declared, declared_by, defaulted, defaulted_by, value_at}
use Rattle.pig_params.specs.Given.{named_of}
use Rattle.pig_params.specs.declared.values.Param.{Param}
use Rattle.pig_params.specs.Known.{AreValues, Passes, value_in}
use Rattle.pig_params.specs.Tables.{found_in}
use Rattle.pig_params.specs.declared.known.Known.{Known}
use Rattle.indexmap.specs.IndexMap.{IndexMap}
use Rattle.pig_params.specs.declared.directives.Word.{Word}
use Rattle.pig_params.specs.declared.directives.Word.TheVariants.{Declare, Default}

-- the value that was set, or the one before
pub where_set : (same : Bool) (value : Bor (List ℕ)) (before : Option (Bor (List ℕ)))
    → option_map (λ v. v.now) (if same then Some value else before) ≡ (if same then Some value.now else option_map (λ v. v.now) before)
where_set true value before = refl
where_set false value before = refl

-- one more behind others is the last
pub last_behind : (n : List ℕ) (given : List Named) (name value : List ℕ)
    → last_of n (given ++ (name, value) ∷ []) ≡ (if bytes_eq name n then Some value else last_of n given)
last_behind n given name value = ap (lookup (λ key. bytes_eq key n)) (reverse-append given ((name, value) ∷ []))

pub or_else_in_turn : {A : Type 0} (a b c : Option A) → or_else a (or_else b c) ≡ or_else (or_else a b) c
or_else_in_turn (Some x) b c = refl
or_else_in_turn None b c = refl

-- a value that is set stands before all that there was
pub or_else_set : {A : Type 0} (same : Bool) (value : A) (a b : Option A)
    → (if same then Some value else or_else a b) ≡ or_else (if same then Some value else a) b
or_else_set true value a b = refl
or_else_set false value a b = refl

-- what one line more gives
pub none_behind : {A B : Type 0} (f : A → Option B) (xs : List A) (x : A) → f x ≡ None → filter_map f (xs ++ x ∷ []) ≡ filter_map f xs
none_behind f xs x e = filter_map-append f xs (x ∷ []) ∙ ap (λ o. filter_map f xs ++ cons_option o []) e ∙ search rules

pub one_behind : {A B : Type 0} (f : A → Option B) (xs : List A) (x : A) (y : B) → f x ≡ Some y → filter_map f (xs ++ x ∷ []) ≡ filter_map f xs ++ y ∷ []
one_behind f xs x y e = filter_map-append f xs (x ∷ []) ∙ ap (λ o. filter_map f xs ++ cons_option o []) e

-- ---- what is known behind a line

declared_none : (above : List (List ℕ)) (line : List ℕ) → declared_by (line_of line) ≡ None → declared (above ++ line ∷ []) ≡ declared above
declared_none above line e = none_behind (λ l. declared_by (line_of l)) above line e

declared_one : (above : List (List ℕ)) (line : List ℕ) (given : Named) → declared_by (line_of line) ≡ Some given → declared (above ++ line ∷ []) ≡ declared above ++ given ∷ []
declared_one above line given e = one_behind (λ l. declared_by (line_of l)) above line given e

defaulted_none : (above : List (List ℕ)) (line : List ℕ) → defaulted_by (line_of line) ≡ None → defaulted (above ++ line ∷ []) ≡ defaulted above
defaulted_none above line e = none_behind (λ l. defaulted_by (line_of l)) above line e

defaulted_one : (above : List (List ℕ)) (line : List ℕ) (given : Named) → defaulted_by (line_of line) ≡ Some given → defaulted (above ++ line ∷ []) ≡ defaulted above ++ given ∷ []
defaulted_one above line given e = one_behind (λ l. defaulted_by (line_of l)) above line given e

-- an ordinary line gives nothing
pub passes_ordinary : (line : List ℕ) (k : Known) → ordinary ≡ line_of line → Passes line k k
passes_ordinary line k is given above values =
    let e : line_of line ≡ ordinary = sym is in record {
      fixed = λ n. values.fixed n ∙ ap (λ d. or_else (last_of n d) (last_of n given)) (sym (declared_none above line (ap declared_by e)));
      defaults = λ n. values.defaults n ∙ ap (last_of n) (sym (defaulted_none above line (ap defaulted_by e)));
    }

-- a name is set in the table
abbrev pub IsSet : {S : Type 0} → List ℕ → List ℕ → IndexMap (Bor (List ℕ)) (Bor (List ℕ)) S → IndexMap (Bor (List ℕ)) (Bor (List ℕ)) S → Type 0
IsSet name value old new = (n : List ℕ) → found_in new n ≡ (if bytes_eq name n then Some value else found_in old n)

pub passes_declare : (word : Word) (name value line : List ℕ) (old new : Known) → word ≡ Declare → IsSet name value old.fixed new.fixed → old.defaults ≡ new.defaults
    → directive word name value ≡ line_of line → Passes line old new
passes_declare word name value line old new is set same e given above values =
    let line_is : line_of line ≡ directive Declare name value = sym e ∙ ap (λ w. directive w name value) is in
    record {
      fixed = λ n. set n ∙ ap (λ o. if bytes_eq name n then Some value else o) (values.fixed n)
          ∙ or_else_set (bytes_eq name n) value (last_of n (declared above)) (last_of n given)
          ∙ ap (λ o. or_else o (last_of n given)) (sym (last_behind n (declared above) name value))
          ∙ ap (λ d. or_else (last_of n d) (last_of n given)) (sym (declared_one above line (name, value) (ap declared_by line_is)));
      defaults = λ n. ap (λ t. found_in t n) (sym same) ∙ values.defaults n ∙ ap (last_of n) (sym (defaulted_none above line (ap defaulted_by line_is)));
    }

pub passes_default : (word : Word) (name value line : List ℕ) (old new : Known) → word ≡ Default → IsSet name value old.defaults new.defaults → old.fixed ≡ new.fixed
    → directive word name value ≡ line_of line → Passes line old new
passes_default word name value line old new is set same e given above values =
    let line_is : line_of line ≡ directive Default name value = sym e ∙ ap (λ w. directive w name value) is in
    record {
      fixed = λ n. ap (λ t. found_in t n) (sym same) ∙ values.fixed n ∙ ap (λ d. or_else (last_of n d) (last_of n given)) (sym (declared_none above line (ap declared_by line_is)));
      defaults = λ n. set n ∙ ap (λ o. if bytes_eq name n then Some value else o) (values.defaults n)
          ∙ sym (last_behind n (defaulted above) name value)
          ∙ ap (last_of n) (sym (defaulted_one above line (name, value) (ap defaulted_by line_is)));
    }

-- what is known at a line is the value there
pub known_value : (given : List Named) (above : List (List ℕ)) (k : Known) → AreValues given above k → value_in k ≡ value_at given above
known_value given above k values = λ j n. here n j
  where
    here : (n : List ℕ) → value_in k n ≡ value_at given above n
    here n = ap (λ o. or_else o (found_in k.defaults n)) (values.fixed n)
        ∙ ap (or_else (or_else (last_of n (declared above)) (last_of n given))) (values.defaults n)
        ∙ sym (or_else_in_turn (last_of n (declared above)) (last_of n given) (last_of n (defaulted above)))

-- one more is given
pub one_given : (n : List ℕ) (items : List Param) (i : ℕ) (p : Param) (name value : List ℕ) → i < length items → p ≡ get_or items i p → name ≡ p.name → value ≡ p.value
    → last_of n (map named_of (take (i + 1) items)) ≡ (if bytes_eq name n then Some value else last_of n (map named_of (take i items)))
one_given n items i p name value within is name_is value_is =
    ap (λ ps. last_of n (map named_of ps)) (ap (λ m. take m items) (add-one i) ∙ take-suc items i p within ∙ ap (λ y. take i items ++ y ∷ []) (sym is))
    ∙ ap (last_of n) (map-append named_of (take i items) (p ∷ []))
    ∙ last_behind n (map named_of (take i items)) p.name p.value
    ∙ ap₂ (λ k v. if bytes_eq k n then Some v else last_of n (map named_of (take i items))) (sym name_is) (sym value_is)
