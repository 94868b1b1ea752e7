-- What the place of a directory says of it.
use Rattle.std.proofs.Common.{◌≡◌, ◌+◌, ℕ, suc, true, false, List, [], ◌∷◌, Option, Some, None, refl, ap, subst, inl, inr, arith}
use Rattle.std.specs.Option.{option_map}
use Rattle.std.specs.Str.{bytes_eq}
use Rattle.std.proofs.lemmas.Bool.{cases_Bool}
use Rattle.pig_outside.specs.declared.contents.Directory.{Directory}
use Rattle.pig_outside.specs.Shelf.{state_of}
use Rattle.pig_outside.specs.Places.{place_of, IsPlace}

-- The place of a directory, by the directories' paths.
abbrev pub place_in : List ℕ → List Directory → Option ℕ
place_in path dirs = place_of (λ d. d.path) path dirs

-- One less than what stands in an option.
one_less : (o : Option ℕ) (k : ℕ) → option_map (λ n. n + 1) o ≡ Some k → (m : ℕ) × (o ≡ Some m) × (suc m ≡ k)
one_less None k is = cc
one_less (Some m) k is = let next : suc m ≡ m + 1 = omega arith in (m, refl, cc)

none_less : (o : Option ℕ) → option_map (λ n. n + 1) o ≡ None → o ≡ None
none_less None is = refl
none_less (Some m) is = cc

-- The first directory's place is 0.
here : (path : List ℕ) (d : Directory) (ds : List Directory) → bytes_eq d.path path ≡ true → IsPlace path (d ∷ ds) 0
here path d ds e = record { within = omega arith; found = λ x. simp e; sets = λ state x. simp e }

-- Behind another directory the place is one more.
later : (path : List ℕ) (d : Directory) (ds : List Directory) (m : ℕ) → bytes_eq d.path path ≡ false → IsPlace path ds m → IsPlace path (d ∷ ds) (suc m)
later path d ds m e there = record {
  within = omega (arith, there.within);
  found = λ x. simp e (there.found x);
  sets = λ state x. simp e (ap (λ es. d ∷ es) (there.sets state x));
}

-- The place that is found is the directory's.
pub place_is : (path : List ℕ) (dirs : List Directory) (k : ℕ) → place_in path dirs ≡ Some k → IsPlace path dirs k
place_is path [] k is = cc
place_is path (d ∷ ds) k is =
    elim (cases_Bool (bytes_eq d.path path)) [
      | inl e ↦ let at : Some 0 ≡ Some k = simp e at is in
          let first : 0 ≡ k = cc in
          subst (IsPlace path (d ∷ ds)) first (here path d ds e)
      | inr e ↦ let at : option_map (λ n. n + 1) (place_in path ds) ≡ Some k = simp e at is in
          let less = one_less (place_in path ds) k at in
          subst (IsPlace path (d ∷ ds)) less.2 (later path d ds less.0 e (place_is path ds less.0 less.1))
    ]

-- Where no place is found, there is no such directory.
pub no_place : (path : List ℕ) (dirs : List Directory) → place_in path dirs ≡ None → state_of path dirs ≡ None
no_place path [] is = refl
no_place path (d ∷ ds) is =
    elim (cases_Bool (bytes_eq d.path path)) [
      | inl e ↦ let at : ◌≡◌ {A = Option ℕ} (Some 0) None = simp e at is in cc
      | inr e ↦ let at : option_map (λ n. n + 1) (place_in path ds) ≡ None = simp e at is in
          simp e (no_place path ds (none_less (place_in path ds) at))
    ]
