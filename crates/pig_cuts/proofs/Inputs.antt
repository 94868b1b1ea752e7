-- Rows of the kinds that a plan gives a node suit the node's cut, are as wide as said, and make rows of a block as wide as its items say.
use Rattle.std.specs.Prelude.{◌≡◌, ◌<◌, ◌==◌, ◌++◌, ℕ, Bool, true, false, List, [], ◌∷◌, map, length, Option, Some, None, slice_get, refl, if◌then◌else◌}
use Rattle.std.specs.List.{AllByRecursion, find}
use Rattle.std.specs.Option.{option_and_then, option_map}
use Rattle.std.proofs.Common.{ap, sym, ◌∙◌, subst, cond, suc}
use Rattle.std.proofs.lemmas.List.{append-nil}
use Rattle.std.proofs.lemmas.List.Concat.{flat_map_single}
use Rattle.std.proofs.lemmas.Option.{none-some}
use Rattle.pig_value.proofs.KindLaws.{rows_of_each}
use Rattle.pig_value.proofs.list_laws.Listing.{each_weaker, some_same}
use Rattle.pig_value.specs.Kinds.{AreRowsOf, IsOf, IsRowOf}
use Rattle.pig_value.specs.Trees.{Tree, at, kinds_of}
use Rattle.pig_typed.proofs.BlocksKept.{block_kept}
use Rattle.pig_typed.proofs.Found.{found_is}
use Rattle.pig_typed.proofs.KindsKept.{at_kept}
use Rattle.pig_typed.specs.BlockKinds.{item_kinds, items_kinds, row_kinds, steps_kinds}
use Rattle.pig_typed.specs.Blocks.{flattened, foreach_rows, item_lists, steps_values}
use Rattle.pig_typed.specs.Evaluation.{ev}
use Rattle.pig_typed.specs.Premises.{FunctionsKeepKinds}
use Rattle.pig_typed.specs.Typed.{TypedBlock, TypedItem, TypedStep}
use Rattle.pig_plan.specs.NodeKinds.{RowKinds}
use Rattle.pig_cuts.specs.Cuts.{NodeCut, left_of}
use Rattle.pig_cuts.proofs.Cutters.{LikesBelow}
use Rattle.pig_cuts.proofs.Fields.{Unfolds, rows_of_kind}
use Rattle.pig_cuts.proofs.Fitted.{Suits}
use Rattle.pig_cuts.proofs.LeftItems.{items_are}
use Rattle.pig_cuts.proofs.LeftKinds.{AreLeft, bag_kind}
use Rattle.pig_cuts.proofs.Rowwise.{IsWideOn}
use Rattle.pig_cuts.proofs.Staying.{IsWide}

pub row_length : (row : List Tree) (ks : RowKinds) → IsRowOf row ks → length row ≡ length ks
row_length [] [] h = refl
row_length [] (k ∷ ks) h = absurd h
row_length (v ∷ row) [] h = absurd h
row_length (v ∷ row) (k ∷ ks) h = ap suc (row_length row ks h.1)

-- what is found is cut as the rows of a lower node are
pub like_below : (k : ℕ) (own : NodeCut) → LikesBelow k own → (p n : ℕ) → left_of own p ≡ Some (Some n) → n < k
like_below k None h p n e = absurd (none-some n (some_same None (Some n) e))
like_below k (Some []) h p n e = absurd (none-some (Some n) e)
like_below k (Some (f ∷ kept)) h p n e = by_test (f.position == p) e (like_below k (Some kept) h.1 p n)
  where
    by_test : (b : Bool) → option_map (λ f. f.like) (cond b (Some f) (find (λ f. f.position == p) kept)) ≡ Some (Some n) → (left_of (Some kept) p ≡ Some (Some n) → n < k) → n < k
    by_test true g rest = h.0 n (some_same f.like (Some n) g)
    by_test false g rest = rest g

module _ (cuts : ℕ → NodeCut) (cutter : ℕ → List Tree → List Tree) where
  -- a row of the kinds suits the cut
  pub suits_of : (own : NodeCut) (ks ls : RowKinds) → AreLeft cuts own ks ls → ((p n : ℕ) → left_of own p ≡ Some (Some n) → Unfolds cuts cutter n)
      → (row : List Tree) → IsRowOf row ks → Suits cuts cutter own row
  suits_of own ks ls left unfolds row is p n h =
      let found = bag_kind cuts own ks ls left p n h in
      let of_kind : IsOf (at p row) found.kind = found_is (IsOf (at p row)) (slice_get ks p) found.kind found.was (at_kept row ks p is) in
      (unfolds p n h, rows_of_kind (at p row) (kinds_of found.is.rows) (subst (IsOf (at p row)) found.is.was of_kind))

-- ---- blocks

each_of_map : {X Y : Type 0} (P : Y → Type 0) (f : X → Y) (xs : List X) → AllByRecursion P (map f xs) → AllByRecursion (λ x. P (f x)) xs
each_of_map P f [] h = tt
each_of_map P f (x ∷ xs) h = (h.0, each_of_map P f xs h.1)

module _ (functions : FunctionsKeepKinds) (steps : List TypedStep) (ks locals : RowKinds) (found : steps_kinds steps ks [] ≡ Some locals) (row : List Tree) (is : IsRowOf row ks) where
  abbrev values : List Tree
  values = steps_values steps row []

  item_wide : (item : TypedItem) (kinds : RowKinds) → item_kinds item ks locals ≡ Some kinds → length kinds ≡ item.width → AllByRecursion (λ x. length x ≡ item.width) (item_lists item row values)
  item_wide item kinds e wide =
      let alone : TypedBlock = record { steps = steps; items = item ∷ [] } in
      let given : row_kinds alone ks ≡ Some (kinds ++ []) =
      ap (option_and_then (λ ls. items_kinds (item ∷ []) ks ls)) found ∙ ap (option_and_then (λ xs. option_and_then (λ more. Some (xs ++ more)) (Some []))) e in
      let made : AreRowsOf (foreach_rows alone row) (kinds ++ []) = found_is (AreRowsOf (foreach_rows alone row)) (row_kinds alone ks) (kinds ++ []) given (block_kept functions row ks is alone) in
      each_weaker (λ x. IsRowOf (x ++ []) (kinds ++ [])) (λ x. length x ≡ item.width)
      (λ x of_kinds. ap length (sym (append-nil x)) ∙ row_length (x ++ []) (kinds ++ []) of_kinds ∙ ap length (append-nil kinds) ∙ wide)
      (item_lists item row values)
      (each_of_map (λ r. IsRowOf r (kinds ++ [])) (λ x. x ++ []) (item_lists item row values)
      (subst (AllByRecursion (λ r. IsRowOf r (kinds ++ []))) (flat_map_single (λ x. x ++ []) (item_lists item row values)) (rows_of_each (kinds ++ []) (foreach_rows alone row) made)))

  items_wide : (items : List TypedItem) (given : RowKinds) → items_kinds items ks locals ≡ Some given → AllByRecursion (IsWide (λ item. item_lists item row values)) items
  items_wide [] given e = tt
  items_wide (item ∷ items) given e =
      let are = items_are item items ks locals given e in (
        record {
          wide = item_wide item are.kinds are.first are.wide;
          plain = λ flat. (ev item.value row values, ap (λ b. if b then flattened item.width (ev item.value row values) else (ev item.value row values ∷ []) ∷ []) flat);
        },
        items_wide items are.more are.others,
      )

-- what the items of a block make of a row is as wide as they say
pub block_wide : (functions : FunctionsKeepKinds) (cutter : ℕ → List Tree → List Tree) (cuts : ℕ → NodeCut) (own : NodeCut) (marks : List Bool) (block : TypedBlock) (ks given : RowKinds) → row_kinds block ks ≡ Some given
    → (row : List Tree) → IsRowOf row ks → IsWideOn cutter cuts own marks block row
block_wide functions cutter cuts own marks block ks given e row is = by_steps (steps_kinds block.steps ks []) refl e
  where
    by_steps : (o : Option RowKinds) → steps_kinds block.steps ks [] ≡ o → option_and_then (λ locals. items_kinds block.items ks locals) o ≡ Some given → IsWideOn cutter cuts own marks block row
    by_steps None f g = absurd (none-some given g)
    by_steps (Some locals) f g = items_wide functions block.steps ks locals f row is block.items given g
