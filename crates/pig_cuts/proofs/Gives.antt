-- A fitted operator is valid on the kinds of its cut inputs where the operator was on those of the inputs, and gives the kinds that are left.
use Rattle.std.specs.Prelude.{◌≡◌, ◌<◌, ◌+◌, ℕ, suc, Bool, true, false, List, [], ◌∷◌, map, length, nat_lt, Some, None, slice_get, refl}
use Rattle.std.specs.List.{AllByRecursion, range_with_len}
use Rattle.std.specs.Option.{option_map}
use Rattle.std.proofs.Common.{ap, sym, ◌∙◌, subst, arith}
use Rattle.std.proofs.lemmas.Bool.{and_from, and_parts, lt-ltb, ltb-true}
use Rattle.std.proofs.lemmas.Option.{slice_get_within}
use Rattle.pig_value.proofs.list_laws.Elementwise.{each_length, each_over, each_weaker_two}
use Rattle.pig_value.proofs.list_laws.Indexing.{get_map}
use Rattle.pig_value.proofs.list_laws.Listing.{each_weaker}
use Rattle.pig_value.specs.declared.inputs.Column.{Column}
use Rattle.pig_value.specs.Elementwise.{Each}
use Rattle.pig_value.specs.Trees.{KindTree, kind_tree}
use Rattle.pig_plan.specs.NodeKinds.{RowKinds, ascend, stands_first}
use Rattle.pig_cuts.specs.declared.kept.KeptField.{KeptField}
use Rattle.pig_cuts.specs.Cuts.{NodeCut}
use Rattle.pig_cuts.specs.Plans.{all_stay, behind, cut_unless, fields_of_cut, load_kept, staying, whole_field}
use Rattle.pig_cuts.proofs.Joined.{IsWithin}
use Rattle.pig_cuts.proofs.LeftKinds.{AreLeft, IsKindLeft}
use Rattle.pig_cuts.proofs.Staying.{each_staying, staying_all}

-- ---- lists

pub each_staying_two : {X Y : Type 0} (P : X → Y → Type 0) (marks : List Bool) (xs : List X) (ys : List Y) → Each P xs ys → Each P (staying marks xs) (staying marks ys)
each_staying_two P [] xs ys h = h
each_staying_two P (mark ∷ marks) [] [] h = tt
each_staying_two P (mark ∷ marks) [] (y ∷ ys) h = absurd h
each_staying_two P (mark ∷ marks) (x ∷ xs) [] h = absurd h
each_staying_two P (true ∷ marks) (x ∷ xs) (y ∷ ys) h = (h.0, each_staying_two P marks xs ys h.1)
each_staying_two P (false ∷ marks) (x ∷ xs) (y ∷ ys) h = each_staying_two P marks xs ys h.1

-- positions from one on beside what stands there
pub each_position : {X : Type 0} (whole : List X) (first : ℕ) (xs : List X) → ((j : ℕ) (x : X) → slice_get xs j ≡ Some x → slice_get whole (first + j) ≡ Some x)
    → Each (λ p x. slice_get whole p ≡ Some x) (range_with_len first (length xs)) xs
each_position whole first [] h = tt
each_position whole first (x ∷ xs) h =
    let here : first ≡ first + 0 = omega arith in (
      ap (slice_get whole) here ∙ h 0 x refl,
      each_position whole (first + 1) xs (λ j y e. let next : first + 1 + j ≡ first + suc j = omega arith in ap (slice_get whole) next ∙ h (suc j) y e),
    )

pub each_placed : {X : Type 0} (xs : List X) → Each (λ p x. slice_get xs p ≡ Some x) (range_with_len 0 (length xs)) xs
each_placed xs = each_position xs 0 xs (λ j x e. let same : 0 + j ≡ j = omega arith in ap (slice_get xs) same ∙ e)

module _ (cuts : ℕ → NodeCut) where
  -- ---- fields that are left whole

  pub all_whole : (ks : RowKinds) (ps : List ℕ) (ls : RowKinds) → Each (λ p k. slice_get ks p ≡ Some k) ps ls → Each (IsKindLeft cuts ks) (map whole_field ps) ls
  all_whole ks [] [] h = tt
  all_whole ks [] (k ∷ ls) h = absurd h
  all_whole ks (p ∷ ps) [] h = absurd h
  all_whole ks (p ∷ ps) (k ∷ ls) h = (record { kind = k; stands = h.0; is = refl }, all_whole ks ps ls h.1)

  -- all the fields that are left, also of a node that is whole
  pub all_fields : (own : NodeCut) (ks ls : RowKinds) → AreLeft cuts own ks ls → Each (IsKindLeft cuts ks) (fields_of_cut (length ks) own) ls
  all_fields None ks ls h = subst (Each (IsKindLeft cuts ks) (map whole_field (range_with_len 0 (length ks)))) (sym h) (all_whole ks (range_with_len 0 (length ks)) ks (each_placed ks))
  all_fields (Some kept) ks ls h = h

  within_each : (ks : RowKinds) (kept : List KeptField) (ls : RowKinds) → Each (IsKindLeft cuts ks) kept ls → AllByRecursion (λ f. f.position < length ks) kept
  within_each ks [] ls h = tt
  within_each ks (f ∷ kept) [] h = absurd h
  within_each ks (f ∷ kept) (k ∷ ls) h = (slice_get_within ks f.position h.0.kind h.0.stands, within_each ks kept ls h.1)

  pub is_within : (own : NodeCut) (ks ls : RowKinds) → AreLeft cuts own ks ls → IsWithin (length ks) own
  is_within own ks ls h = within_each ks (fields_of_cut (length ks) own) ls (all_fields own ks ls h)

  pub is_sized : (own : NodeCut) (ks ls : RowKinds) → AreLeft cuts own ks ls → length ls ≡ length (fields_of_cut (length ks) own)
  is_sized own ks ls h = sym (each_length (IsKindLeft cuts ks) (fields_of_cut (length ks) own) ls (all_fields own ks ls h))

  -- among the kinds of other fields
  pub each_behind : (whole : RowKinds) (first : ℕ) (ks : RowKinds) (kept : List KeptField) (ls : RowKinds) → ((j : ℕ) (k : KindTree) → slice_get ks j ≡ Some k → slice_get whole (first + j) ≡ Some k)
      → Each (IsKindLeft cuts ks) kept ls → Each (IsKindLeft cuts whole) (map (behind first) kept) ls
  each_behind whole first ks [] [] at h = tt
  each_behind whole first ks [] (k ∷ ls) at h = absurd h
  each_behind whole first ks (f ∷ kept) [] at h = absurd h
  each_behind whole first ks (f ∷ kept) (k ∷ ls) at h =
      (record { kind = h.0.kind; stands = at f.position h.0.kind h.0.stands; is = h.0.is }, each_behind whole first ks kept ls at h.1)

  -- ---- LOAD

  abbrev kinds_of_columns : List Column → RowKinds
  kinds_of_columns columns = map (λ column. kind_tree column.kind) columns

  pub load_left : (marks : List Bool) (columns : List Column) (b : Bool) → all_stay marks ≡ b
      → AreLeft cuts (cut_unless b (load_kept marks (length columns))) (kinds_of_columns columns) (kinds_of_columns (staying marks columns))
  load_left marks columns true e = ap kinds_of_columns (staying_all marks columns e)
  load_left marks columns false e =
      each_over (IsKindLeft cuts (kinds_of_columns columns)) whole_field (λ column. kind_tree column.kind) (staying marks (range_with_len 0 (length columns))) (staying marks columns)
      (each_staying_two _ marks (range_with_len 0 (length columns)) columns
      (each_weaker_two (λ p column. slice_get columns p ≡ Some column) _
      (λ p column h. record { kind = kind_tree column.kind; stands = get_map (λ c. kind_tree c.kind) columns p ∙ ap (option_map (λ c. kind_tree c.kind)) h; is = refl })
      (range_with_len 0 (length columns)) columns (each_placed columns)))

  abbrev Above : ℕ → List Column → Type 0
  Above n columns = AllByRecursion (λ c. n < c.position) columns

  all_above : (c : Column) (columns : List Column) → ascend (c ∷ columns) ≡ true → Above c.position columns
  all_above c [] h = tt
  all_above c (d ∷ columns) h =
      let both = and_parts (nat_lt c.position d.position) (ascend (d ∷ columns)) h in
      let lower : c.position < d.position = ltb-true c.position d.position both.0 in
      (lower, each_weaker (λ e. d.position < e.position) (λ e. c.position < e.position) (λ e l. omega (arith, l, lower)) columns (all_above d columns both.1))

  first_above : (c : Column) (columns : List Column) → Above c.position columns → ascend columns ≡ true → ascend (c ∷ columns) ≡ true
  first_above c [] above h = refl
  first_above c (d ∷ columns) above h = let lower = above.0 in and_from (nat_lt c.position d.position) (ascend (d ∷ columns)) (lt-ltb c.position d.position lower) h

  pub ascend_staying : (marks : List Bool) (columns : List Column) → ascend columns ≡ true → ascend (staying marks columns) ≡ true
  ascend_staying [] columns h = h
  ascend_staying (mark ∷ marks) [] h = refl
  ascend_staying (true ∷ marks) (c ∷ columns) h =
      first_above c (staying marks columns) (each_staying (λ d. c.position < d.position) marks columns (all_above c columns h))
      (ascend_staying marks columns (and_parts (stands_first c columns) (ascend columns) h).1)
  ascend_staying (false ∷ marks) (c ∷ columns) h = ascend_staying marks columns (and_parts (stands_first c columns) (ascend columns) h).1
