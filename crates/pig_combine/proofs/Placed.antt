-- A row for the key of a group that is there, or of a new one.
use Rattle.std.proofs.Common.{◌≡◌, refl, sym, ap, ◌∙◌, subst}
use Rattle.std.specs.Prelude.{ℕ, zero, suc, List, [], ◌∷◌, ◌++◌, map, Some, slice_get, slice_set}
use Rattle.std.specs.Option.{option_map}
use Rattle.std.proofs.lemmas.List.{map-append}
use Rattle.pig_value.specs.Gathering.{Entry}
use Rattle.pig_value.specs.Trees.{Tree, tree}
use Rattle.pig_value.specs.Valid.{IsValue}
use Rattle.pig_value.proofs.list_laws.Indexing.{get_map}
use Rattle.pig_value.proofs.list_laws.Listing.{each_at, some_same}
use Rattle.pig_algebra.specs.Cuts.{TypedCut}
use Rattle.pig_combine.specs.Holdings.{AreGroups, AreHeld, Group, IsNew, entry_of, group_told, rows_under}
use Rattle.pig_combine.specs.Names.{name}
use Rattle.pig_combine.specs.Tallies.{found_by, told}
use Rattle.pig_combine.specs.declared.tally.Group as declared
use Rattle.pig_combine.proofs.Added.{added_here, added_new}
use Rattle.pig_combine.proofs.Coded.{at_name, others}

-- what a function does not tell from the element that it replaces
pub map_kept : {X Y : Type 0} (f : X → Y) (xs : List X) (i : ℕ) (x y : X) → slice_get xs i ≡ Some x → f y ≡ f x → map f (slice_set xs i y) ≡ map f xs
map_kept f [] i x y at e = refl
map_kept f (z ∷ xs) zero x y at e = ap (λ w. w ∷ map f xs) (e ∙ ap f (sym (some_same z x at)))
map_kept f (z ∷ xs) (suc i) x y at e = ap (λ ws. f z ∷ ws) (map_kept f xs i x y at e)

module _ (names : List (List ℕ)) (groups : List declared.Group) (held : AreHeld names groups) (cuts : List TypedCut) (added : List Entry)
    (are : AreGroups cuts added (map group_told groups)) (key : Tree) (row : List Tree) where
  -- the key's group with the row
  abbrev with_row : declared.Group → Group
  with_row g = record { key = tree g.key; told = map (found_by (rows_under key added ++ row ∷ [])) cuts }

  pub here : IsValue key → (at : ℕ) → slice_get names at ≡ Some (name key)
      → (g : declared.Group) × (slice_get groups at ≡ Some g) × (map told g.tallies.items ≡ map (found_by (rows_under key added)) cuts)
      × AreGroups cuts (added ++ entry_of key row ∷ []) (slice_set (map group_told groups) at (with_row g))
  here valid at h =
      let found = at_name names groups held key valid at h in
      let g : declared.Group = found.0 in
      let place : slice_get (map group_told groups) at ≡ Some (group_told g) = get_map group_told groups at ∙ ap (option_map group_told) found.1 in
      let so_far : map told g.tallies.items ≡ map (found_by (rows_under key added)) cuts =
      each_at (λ d. d.told ≡ map (found_by (rows_under d.key added)) cuts) (map group_told groups) at (group_told g) place are.told
      ∙ ap (λ k. map (found_by (rows_under k added)) cuts) found.2 in
      (g, found.1, so_far, added_here cuts added (entry_of key row) (map group_told groups) are at (group_told g) (with_row g) place found.2 refl refl)

  pub new : (bytes : List ℕ) → bytes ≡ name key → IsNew bytes names → (g : declared.Group) → tree g.key ≡ key → map told g.tallies.items ≡ map (found_by (row ∷ [])) cuts
      → AreGroups cuts (added ++ entry_of key row ∷ []) (map group_told (groups ++ g ∷ []))
  new bytes is none g same all =
      subst (AreGroups cuts (added ++ entry_of key row ∷ [])) (sym (map-append group_told groups (g ∷ [])))
      (added_new cuts added (entry_of key row) (map group_told groups) are (group_told g)
      (others groups key (subst (λ bs. IsNew bs (map (λ d. name (tree d.key)) groups)) is (subst (IsNew bytes) held.0 none)))
      same all)
