-- One more slice of a run, and the only one of runs.
use Rattle.std.specs.Prelude.{◌≡◌, ◌≤◌, ◌+◌, ◌↔◌, ℕ, Bool, true, false, List, [], ◌∷◌, ◌++◌, length, map, Option, Some, None, MatchOption, refl}
use Rattle.std.proofs.Common.{ap, sym, ◌∙◌, arith, cond, subst}
use Rattle.std.specs.List.{AllByRecursion}
use Rattle.std.proofs.lemmas.List.{map-append}
use Rattle.std.proofs.lemmas.List.FromFn.{map-range_with_len_more}
use Rattle.pig_value.proofs.list_laws.Listing.{each-append}
use Rattle.pig_runs.specs.Cutting.{Point, slice_of}
use Rattle.pig_runs.specs.Entries.{InDirections}
use Rattle.pig_physical.specs.Combining.{only}
use Rattle.pig_physical.specs.Sliced.{slice_seen, slices_of}
use Rattle.pig_physical.specs.declared.slicing.Stretch.{Stretch}

none_left : {X : Type 0} (x : X) (xs : List X) → x ∷ xs ≡ [] → ⊥
none_left x xs h = let size : length (x ∷ xs) ≡ 0 = ap length h in omega (arith, size)

module _ (run : InDirections) where
  abbrev slice_at : List Point → ℕ → InDirections
  slice_at points p = record { dirs = run.dirs; entries = slice_of run.dirs points p run.entries }

  pub one_more_slice : (points : List Point) (p : ℕ) (found next : List Stretch) (x : Stretch) → map (slice_seen run) found ≡ slices_of run points p → next ≡ found ++ x ∷ []
      → slice_seen run x ≡ slice_at points p → map (slice_seen run) next ≡ slices_of run points (p + 1)
  one_more_slice points p found next x so_far adds is =
      ap (map (slice_seen run)) adds
      ∙ map-append (slice_seen run) found (x ∷ [])
      ∙ (λ i. so_far i ++ is i ∷ [])
      ∙ sym (map-range_with_len_more (slice_at points) 0 p p (omega arith))

  pub all_within : (found next : List Stretch) (x : Stretch) → AllByRecursion (λ place. place.end ≤ length run.entries) found → next ≡ found ++ x ∷ [] → x.end ≤ length run.entries
      → AllByRecursion (λ place. place.end ≤ length run.entries) next
  all_within found next x so_far adds within =
      subst (AllByRecursion (λ place. place.end ≤ length run.entries)) (sym adds) (each-append (λ place. place.end ≤ length run.entries) found (x ∷ []) so_far (within, tt))

-- the last of runs is the only one where none is left before it
pub last_alone : {X : Type 0} (o : Option X) (old new : List X) (b : Bool) → MatchOption o ((old ≡ []) × (new ≡ [])) (λ last. old ≡ new ++ last ∷ []) → (b ≡ true ↔ (new ≡ [])) → cond b o None ≡ only old
last_alone None old new true h alone = ap only (sym h.0)
last_alone None old new false h alone = ap only (sym h.0)
last_alone (Some last) old [] b is alone = ap (λ d. cond d (Some last) None) (alone.1 refl) ∙ ap only (sym is)
last_alone (Some last) old (x ∷ []) true is alone = absurd (none_left x [] (alone.0 refl))
last_alone (Some last) old (x ∷ []) false is alone = ap only (sym is)
last_alone (Some last) old (x ∷ y ∷ new) true is alone = absurd (none_left x (y ∷ new) (alone.0 refl))
last_alone (Some last) old (x ∷ y ∷ new) false is alone = ap only (sym is)
