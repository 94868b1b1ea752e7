-- Groups by the codes of their keys.
use Rattle.std.proofs.Common.{◌≡◌, ◌<◌, sym, ap, ◌∙◌, subst, true≢false}
use Rattle.std.specs.Prelude.{◌≢◌, ℕ, Bool, true, false, ◌||◌, not, List, [], ◌∷◌, ◌++◌, length, map, Option, Some, None, slice_get, slice_index_or, IfSome, MatchOption, if◌then◌else◌}
use Rattle.std.specs.List.{AllByRecursion, HoldsAt, list_any}
use Rattle.std.specs.Option.{is_some, option_map}
use Rattle.std.specs.Ordering.{is_eq}
use Rattle.std.specs.declared.cmp.Ordering.TheVariants.{Equal}
use Rattle.std.specs.Str.{bytes_eq}
use Rattle.std.proofs.lemmas.List.{length-map, map-append}
use Rattle.std.proofs.lemmas.Option.{get_or_from_slice_get, slice_get-get_or}
use Rattle.std.proofs.lemmas.Slice.Eq.{bytes_eq-Decides}
use Rattle.pig_value.specs.Orders.{tree_cmp}
use Rattle.pig_value.specs.Trees.{Tree, rows_tree, tree}
use Rattle.pig_value.proofs.OrderLaws.{tree_same}
use Rattle.pig_value.proofs.list_laws.Bags.{either_way, eq_is}
use Rattle.pig_value.proofs.list_laws.Indexing.{get_map, some_at}
use Rattle.pig_value.proofs.list_laws.Listing.{some_same}
use Rattle.pig_keycode.specs.Codes.{code}
use Rattle.pig_replicated.specs.declared.groups.Group.{Group}
use Rattle.pig_replicated.specs.Codes.{IsGroupOf, inner_code, key_code, row_codes}
use Rattle.pig_replicated.specs.Grouped.{AreGrouped, held_in}
use Rattle.pig_replicated.specs.Holding.{rows_under}
use Rattle.pig_replicated.proofs.Searched.{found_at, none_found}

-- ---- codes that are added

-- where a code is a new one, it stands behind the others
pub code_added : {K : Type 0} (items : K → List ℕ) (keys new : List K) (one : K) (there added : Bool) → added ≡ not there → added ≡ true → new ≡ (if there then keys else keys ++ one ∷ [])
    → map items new ≡ map items keys ++ items one ∷ []
code_added items keys new one true added is new_one are = absurd (true≢false (sym new_one ∙ is))
code_added items keys new one false added is new_one are = ap (map items) are ∙ map-append items keys (one ∷ [])

-- ---- the place of a code

module _ {K : Type 0} (items : K → List ℕ) (bytes : List ℕ) where
  -- where none has the code, it is another one than each
  pub none_there : (keys : List K) → list_any (λ k. bytes_eq bytes (items k)) keys ≡ false → AllByRecursion (λ k. k ≢ bytes) (map items keys)
  none_there [] h = tt
  none_there (k ∷ keys) h =
      let others = list_any (λ l. bytes_eq bytes (items l)) keys in
      either_way (bytes_eq bytes (items k))
      (λ e. absurd (true≢false (sym (ap (λ b. b || others) e) ∙ h)))
      (λ e. (
        (λ same. absurd (true≢false (sym ((bytes_eq-Decides bytes (items k)).1 (sym same)) ∙ e))),
        none_there keys (sym (ap (λ b. b || others) e) ∙ h),
      ))

  -- the place of a code
  pub place_told : (keys : List K) (r : Option ℕ) → is_some r ≡ list_any (λ k. bytes_eq bytes (items k)) keys → IfSome r (λ at. at < length keys)
      → MatchOption r (AllByRecursion (λ k. k ≢ bytes) (map items keys)) (λ at. at < length (map items keys))
  place_told keys None found within = none_there keys (sym found)
  place_told keys (Some at) found within = subst (λ n. at < n) (sym (length-map keys items)) within

module _ (key : Tree) where
  -- no group has a key whose code is another one than that of each group
  other_keys : (groups : List Group) → AllByRecursion (λ k. k ≢ code key) (map key_code groups) → AllByRecursion (λ g. is_eq (tree_cmp (tree g.key) key) ≡ false) groups
  other_keys [] h = tt
  other_keys (g ∷ groups) h = (
    either_way (is_eq (tree_cmp (tree g.key) key))
        (λ e. absurd (h.0 (ap code (tree_same (tree g.key) key (eq_is (tree_cmp (tree g.key) key) e)))))
        (λ e. e),
    other_keys groups h.1,
  )

  pub none_coded : (groups : List Group) (codes : List (List ℕ)) (bytes : List ℕ) → codes ≡ map key_code groups → bytes ≡ code key → AllByRecursion (λ k. k ≢ bytes) codes
      → rows_under key (held_in groups) ≡ []
  none_coded groups codes bytes are is h = none_found key groups (other_keys groups (subst (λ b. AllByRecursion (λ k. k ≢ b) (map key_code groups)) is (subst (AllByRecursion (λ k. k ≢ bytes)) are h)))

  -- the group at a place that has the key
  pub group_at : (groups : List Group) (at : ℕ) (group : Group) → AreGrouped groups → at < length groups → group ≡ slice_index_or groups at group → tree_cmp (tree group.key) key ≡ Equal
      → IsGroupOf key groups at
  group_at groups at group h low is same = record {
    within = low;
    group = group;
    here = slice_get-get_or groups at group low ∙ ap Some (sym is);
    rows = found_at key groups at group h low (sym (ap (λ g. tree g.key) is) ∙ tree_same (tree group.key) key same) ∙ ap (λ g. rows_tree g.rows) (sym is);
  }

  pub group_found : (groups : List Group) (at : ℕ) → AreGrouped groups → at < length groups → HoldsAt (λ g. tree_cmp (tree g.key) key ≡ Equal) groups at → IsGroupOf key groups at
  group_found groups at h low same =
      let there = some_at groups at low in
      let is : slice_index_or groups at there.0 ≡ there.0 = get_or_from_slice_get groups at there.0 there.0 there.1 in
      group_at groups at there.0 h low (sym is) (ap (λ g. tree_cmp (tree g.key) key) (sym is) ∙ same there.0)

  -- ---- what stands at the place of a group

  module _ (groups : List Group) (at : ℕ) (h : IsGroupOf key groups at) where
    pub group_rows : (group : Group) → group ≡ slice_index_or groups at group → rows_under key (held_in groups) ≡ rows_tree group.rows
    group_rows group is =
        h.rows ∙ ap (λ g. rows_tree g.rows) (some_same h.group group (sym h.here ∙ slice_get-get_or groups at group h.within ∙ ap Some (sym is)))

    module _ {R : Type 0} (codes : R → List (List ℕ)) (all : List R) (are : map codes all ≡ map row_codes groups) where
      pub within_codes : at < length all
      within_codes = subst (λ n. at < n) (sym (length-map groups row_codes) ∙ sym (ap length are) ∙ length-map all codes) h.within

      pub codes_at : (one : R) → one ≡ slice_index_or all at one → codes one ≡ map inner_code (rows_under key (held_in groups))
      codes_at one is =
          let there : option_map codes (slice_get all at) ≡ Some (row_codes h.group) =
          sym (get_map codes all at) ∙ ap (λ l. slice_get l at) are ∙ get_map row_codes groups at ∙ ap (option_map row_codes) h.here in
          some_same (codes one) (row_codes h.group) (sym (ap (option_map codes) (slice_get-get_or all at one within_codes ∙ ap Some (sym is))) ∙ there) ∙ ap (map inner_code) (sym h.rows)
