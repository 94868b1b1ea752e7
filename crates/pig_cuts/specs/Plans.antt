-- A plan whose LOADs read fewer columns and whose FOREACHs make fewer items: nodes keep their numbers and statements, and each operator is
-- fitted to the rows that are left of its inputs'.
use Rattle.std.specs.Prelude.{◌≡◌, ◌<◌, ℕ, suc, ◌+◌, Bool, true, ◌&&◌, not, List, [], ◌∷◌, ◌++◌, map, length, Some, None, slice_get, if◌then◌else◌}
use Rattle.std.specs.List.{flat_map, list_all, range_with_len}
use Rattle.std.specs.Option.{is_some, option_map, unwrap_or}
use Rattle.pig_typed.specs.Typed.{TypedBlock, TypedItem}
use Rattle.pig_plan.specs.Meaning.{width_at}
use Rattle.pig_plan.specs.Nodes.{inputs_of}
use Rattle.pig_plan.specs.Plans.{Keyed, Plan, PlanNode, PlanOp, p_load, p_filter, p_foreach, p_group_all, p_group, p_join, p_assert}
use Rattle.pig_cuts.specs.declared.kept.KeptField.{KeptField}
use Rattle.pig_cuts.specs.Cuts.{NodeCut, cut_at}
use Rattle.pig_cuts.specs.Fits.{bag_in, fit, fit_item, fit_step, sees}

-- ---- which columns and items stay, by marks in their order

-- The elements that stay, and those that go; what no mark is left for stays.
abbrev pub staying : {X : Type 0} → List Bool → List X → List X
staying [] xs = xs
staying (mark ∷ marks) [] = []
staying (mark ∷ marks) (x ∷ xs) = if mark then x ∷ staying marks xs else staying marks xs

abbrev pub going : {X : Type 0} → List Bool → List X → List X
going [] xs = []
going (mark ∷ marks) [] = []
going (mark ∷ marks) (x ∷ xs) = if mark then going marks xs else x ∷ going marks xs

abbrev pub all_stay : List Bool → Bool
all_stay marks = list_all (λ mark. mark) marks

-- ---- the cut of each node, by those of its inputs

abbrev pub cut_unless : Bool → List KeptField → NodeCut
cut_unless all kept = if all then None else Some kept

abbrev pub whole_field : ℕ → KeptField
whole_field n = record { position = n; like = None }

abbrev pub are_whole : (ℕ → NodeCut) → List ℕ → Bool
are_whole cuts inputs = list_all (λ i. not (is_some (cuts i))) inputs

-- LOAD: the columns that stay
abbrev pub load_kept : List Bool → ℕ → List KeptField
load_kept marks size = map whole_field (staying marks (range_with_len 0 size))

-- FOREACH: the fields of the items that stay; each item gives the fields from a position on, as many as it is wide
abbrev pub spans : ℕ → List TypedItem → List (List ℕ)
spans first [] = []
spans first (item ∷ items) = range_with_len first item.width ∷ spans (first + item.width) items

abbrev pub items_kept : List Bool → List TypedItem → List KeptField
items_kept marks items = map whole_field (flat_map (λ span. span) (staying marks (spans 0 items)))

-- GROUP and COGROUP: the key, and behind it the bag of each input, whose rows are cut as the input's are
abbrev pub bags_kept : (ℕ → NodeCut) → ℕ → List ℕ → List KeptField
bags_kept cuts n [] = []
bags_kept cuts n (i ∷ inputs) = record { position = n; like = option_map (λ kept. i) (cuts i) } ∷ bags_kept cuts (suc n) inputs

abbrev pub group_kept : (ℕ → NodeCut) → List ℕ → List KeptField
group_kept cuts inputs = whole_field 0 ∷ bags_kept cuts 1 inputs

-- JOIN: the fields of each input, which stand behind those of the inputs before it
abbrev pub fields_of_cut : ℕ → NodeCut → List KeptField
fields_of_cut width own = unwrap_or own (map whole_field (range_with_len 0 width))

abbrev pub behind : ℕ → KeptField → KeptField
behind first f = record { position = first + f.position; like = f.like }

abbrev pub sides_kept : (ℕ → NodeCut) → (ℕ → ℕ) → ℕ → List ℕ → List KeptField
sides_kept cuts width first [] = []
sides_kept cuts width first (i ∷ inputs) = map (behind first) (fields_of_cut (width i) (cuts i)) ++ sides_kept cuts width (first + width i) inputs

-- What is left of an operator's rows. FILTER and ASSERT drop no column; what looks at whole rows has whole inputs.
abbrev pub own_cut : (ℕ → NodeCut) → (ℕ → ℕ) → List Bool → PlanOp → NodeCut
own_cut cuts width marks (p_load path delim columns) = cut_unless (all_stay marks) (load_kept marks (length columns))
own_cut cuts width marks (p_filter input cond) = cuts input
own_cut cuts width marks (p_foreach input block) = cut_unless (all_stay marks) (items_kept marks block.items)
own_cut cuts width marks (p_group_all input) = cut_unless (are_whole cuts (input ∷ [])) (group_kept cuts (input ∷ []))
own_cut cuts width marks (p_group inputs) = cut_unless (are_whole cuts (map (λ i. i.input) inputs)) (group_kept cuts (map (λ i. i.input) inputs))
own_cut cuts width marks (p_join inputs side replicated) = cut_unless (are_whole cuts (map (λ i. i.input) inputs)) (sides_kept cuts width 0 (map (λ i. i.input) inputs))
own_cut cuts width marks (p_assert input cond message) = cuts input
own_cut cuts width marks o = None

-- ---- the fitted operators

abbrev pub fit_keyed : (ℕ → NodeCut) → Keyed → Keyed
fit_keyed cuts i = record { input = i.input; keys = map (fit cuts (cuts i.input)) i.keys; inner = i.inner }

abbrev pub fit_block : (ℕ → NodeCut) → NodeCut → List Bool → TypedBlock → TypedBlock
fit_block cuts own marks block = record { steps = map (fit_step cuts own) block.steps; items = map (fit_item cuts own) (staying marks block.items) }

abbrev pub fit_op : (ℕ → NodeCut) → List Bool → PlanOp → PlanOp
fit_op cuts marks (p_load path delim columns) = p_load path delim (staying marks columns)
fit_op cuts marks (p_filter input cond) = p_filter input (fit cuts (cuts input) cond)
fit_op cuts marks (p_foreach input block) = p_foreach input (fit_block cuts (cuts input) marks block)
fit_op cuts marks (p_group inputs) = p_group (map (fit_keyed cuts) inputs)
fit_op cuts marks (p_join inputs side replicated) = p_join (map (fit_keyed cuts) inputs) side replicated
fit_op cuts marks (p_assert input cond message) = p_assert input (fit cuts (cuts input) cond) message
fit_op cuts marks o = o

-- ---- what is asked of the cuts

abbrev pub keys_see : (ℕ → NodeCut) → Keyed → Bool
keys_see cuts i = list_all (sees cuts (cuts i.input)) i.keys

abbrev pub steps_see : (ℕ → NodeCut) → NodeCut → TypedBlock → Bool
steps_see cuts own block = list_all (λ step. sees cuts own (bag_in step)) block.steps

abbrev pub items_see : (ℕ → NodeCut) → NodeCut → List Bool → TypedBlock → Bool
items_see cuts own marks block = list_all (λ item. sees cuts own item.value) (staying marks block.items)

-- no item that goes stands under FLATTEN, which makes more or fewer rows
abbrev pub flattens_stay : List Bool → TypedBlock → Bool
flattens_stay marks block = list_all (λ item. not item.flatten) (going marks block.items)

-- An operator sees what it looks at in the rows that are left of its inputs'; what looks at whole rows has whole inputs.
abbrev pub may_fit : (ℕ → NodeCut) → List Bool → PlanOp → Bool
may_fit cuts marks (p_load path delim columns) = true
may_fit cuts marks (p_filter input cond) = sees cuts (cuts input) cond
may_fit cuts marks (p_foreach input block) = steps_see cuts (cuts input) block && (items_see cuts (cuts input) marks block && flattens_stay marks block)
may_fit cuts marks (p_group_all input) = true
may_fit cuts marks (p_group inputs) = list_all (keys_see cuts) inputs
may_fit cuts marks (p_join inputs side replicated) = list_all (keys_see cuts) inputs
may_fit cuts marks (p_assert input cond message) = sees cuts (cuts input) cond
may_fit cuts marks o = are_whole cuts (inputs_of o)

-- ---- plans

-- The node numbered k, by the marks of its columns or items: its cut follows from those of its inputs, and in the cut plan it stands fitted.
pub record IsNodeCut (marks : ℕ → List Bool) (cuts : List NodeCut) (p q : Plan) (k : ℕ) (v : PlanNode) : Type 0 where
  pub own : cut_at cuts k ≡ own_cut (cut_at cuts) (width_at p) (marks k) v.op
  pub may : may_fit (cut_at cuts) (marks k) v.op ≡ true
  pub stands : slice_get q k ≡ Some (record { op = fit_op (cut_at cuts) (marks k) v.op; statement = v.statement })

pub record IsCutBy (marks : ℕ → List Bool) (cuts : List NodeCut) (p q : Plan) : Type 0 where
  pub size : length q ≡ length p
  pub each : (k : ℕ) (v : PlanNode) → slice_get p k ≡ Some v → IsNodeCut marks cuts p q k v

-- the same as far as the first nodes go, which is what a plan is that is cut node by node
pub record IsCutUpTo (marks : ℕ → List Bool) (cuts : List NodeCut) (p q : Plan) (end : ℕ) : Type 0 where
  pub size : length q ≡ end
  pub each : (k : ℕ) (v : PlanNode) → k < end → slice_get p k ≡ Some v → IsNodeCut marks cuts p q k v

-- the node numbered k, fitted
abbrev pub fit_node : (ℕ → List Bool) → List NodeCut → ℕ → PlanNode → PlanNode
fit_node marks cuts k v = record { op = fit_op (cut_at cuts) (marks k) v.op; statement = v.statement }
