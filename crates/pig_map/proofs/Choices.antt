-- Fields that are chosen, item by item and node by node.
use Rattle.std.proofs.Common.{◌≡◌, ◌<◌, ℕ, List, [], ◌∷◌, ◌++◌, length, map, slice_get, Option, Some, None, refl, sym, ◌∙◌, ap, append-nil, arith}
use Rattle.std.proofs.lemmas.List.{append_assoc, map-append}
use Rattle.std.specs.Option.{option_map, option_map_or}
use Rattle.pig_value.specs.Trees.{Tree, at}
use Rattle.pig_keycode.specs.Keys.{fields_at}
use Rattle.pig_typed.specs.Blocks.{foreach_all, item_lists}
use Rattle.pig_typed.specs.Products.{joined, product}
use Rattle.pig_typed.specs.Typed.{TypedBlock, TypedItem}
use Rattle.pig_value.proofs.list_laws.Listing.{some_same}
use Rattle.pig_plan.specs.Asserts.{not_met, unmet_on}
use Rattle.pig_plan.specs.Nodes.{op_at}
use Rattle.pig_plan.specs.Plans.{Plan, PlanNode, PlanOp}
use Rattle.pig_plan.specs.Steps.{Folding, step_rows, through}
use Rattle.pig_map.specs.Choosing.{Chooses, ChoosesAt, ChoosesBy, PlaceIs, chosen_rows}
use Rattle.pig_map.specs.declared.choosing.Chosen.{Chosen}

abbrev made : List TypedItem → List Tree → List Tree → List (List Tree)
made items row locals = product (map (λ item. item_lists item row locals) items)

-- Where the items that are left make one row, all make that row behind the fields so far.
abbrev pub AreLeft : List TypedItem → List ℕ → List TypedItem → Type 0
AreLeft items places left = (row locals more : List Tree) → made left row locals ≡ more ∷ [] → made items row locals ≡ (fields_at places row ++ more) ∷ []

first_made : (item : TypedItem) (items : List TypedItem) (place : ℕ) (row locals more : List Tree) → PlaceIs place item → made items row locals ≡ more ∷ []
    → made (item ∷ items) row locals ≡ (at place row ∷ more) ∷ []
first_made item items place row locals more is h =
    ap (λ xs. joined xs (made items row locals)) (is row locals) ∙ ap (joined ((at place row ∷ []) ∷ [])) h

fields_more : (places : List ℕ) (place : ℕ) (row more : List Tree) → fields_at places row ++ at place row ∷ more ≡ fields_at (places ++ place ∷ []) row ++ more
fields_more places place row more =
    sym (append_assoc (fields_at places row) (at place row ∷ []) more) ∙ ap (λ l. l ++ more) (sym (map-append (λ p. at p row) places (place ∷ [])))

none_left : {X Y : Type 0} (f : X → Y) (xs : List X) → length xs < 1 → map f xs ≡ []
none_left f [] h = refl
none_left f (x ∷ xs) h = absurd (omega (arith, h))

pub all_chosen : {X : Type 0} (f : X → TypedItem) (items : List TypedItem) (left : List X) (places : List ℕ) → length left < 1 → AreLeft items places (map f left)
    → (row locals : List Tree) → made items row locals ≡ fields_at places row ∷ []
all_chosen f items left places none h row locals =
    h row locals [] (ap (λ l. made l row locals) (none_left f left none)) ∙ ap (λ l. l ∷ []) (append-nil (fields_at places row))

-- a block without steps makes of each row the fields that its items are
pub block_chosen : (block : TypedBlock) (places : List ℕ) → block.steps ≡ [] → ((row locals : List Tree) → made block.items row locals ≡ fields_at places row ∷ [])
    → (rows : List (List Tree)) → foreach_all block rows ≡ map (fields_at places) rows
block_chosen block places none is [] = refl
block_chosen block places none is (row ∷ rows) =
    ap (λ l. l ++ foreach_all block rows) (is row _) ∙ ap (λ l. fields_at places row ∷ l) (block_chosen block places none is rows)

-- ---- nodes

no_assert : (node : Option PlanNode) (o : PlanOp) (rows : List (List Tree)) → option_map (λ n. n.op) node ≡ Some o → ((statement : ℕ) → not_met statement o rows ≡ [])
    → option_map_or (λ n. not_met n.statement n.op rows) node [] ≡ []
no_assert None o rows is none = refl
no_assert (Some n) o rows is none = ap (λ p. not_met n.statement p rows) (some_same n.op o is) ∙ none n.statement

-- what an operator chooses, its node does
pub chooses_at : (folding : Folding) (plan : Plan) (k : ℕ) (o : PlanOp) (c next : Chosen) → op_at plan k ≡ Some o → ChoosesBy folding o c next → ChoosesAt folding plan k c next
chooses_at folding plan k o c next is by_op = record {
  rows = λ rows. ap (λ p. option_map_or (λ q. step_rows folding q (chosen_rows c rows)) p (chosen_rows c rows)) is ∙ by_op.rows rows;
  asserts = λ rows. no_assert (slice_get plan k) o rows is (λ statement. by_op.asserts statement rows);
}

-- so far a path has chosen this, and these nodes are left
pub record IsOnWay (folding : Folding) (plan : Plan) (path : List ℕ) (c : Chosen) (left : List ℕ) : Type 0 where
  pub rows : (rows : List (List Tree)) → through folding plan path rows ≡ through folding plan left (chosen_rows c rows)
  pub asserts : (rows : List (List Tree)) → unmet_on folding plan path rows ≡ unmet_on folding plan left (chosen_rows c rows)

pub begun : (folding : Folding) (plan : Plan) (path : List ℕ) (c : Chosen) → ((rows : List (List Tree)) → chosen_rows c rows ≡ rows) → IsOnWay folding plan path c path
begun folding plan path c same = record {
  rows = λ rows. ap (through folding plan path) (sym (same rows));
  asserts = λ rows. ap (unmet_on folding plan path) (sym (same rows));
}

pub all_nodes : (folding : Folding) (plan : Plan) (path left : List ℕ) (c : Chosen) → left ≡ [] → IsOnWay folding plan path c left → Chooses folding plan path c
all_nodes folding plan path left c none h = record {
  rows = λ rows. h.rows rows ∙ ap (λ l. through folding plan l (chosen_rows c rows)) none;
  asserts = λ rows. h.asserts rows ∙ ap (λ l. unmet_on folding plan l (chosen_rows c rows)) none;
}
