-- Conjuncts of FILTERs move towards the sources. A FILTER and the operator that it stands on, which nothing else reads, change their numbers, and
-- two FILTERs become one. A FILTER of which only some conjuncts pass is made two first, and below a UNION there is one for each input: for
-- those there is room made.
use Rattle.std.specs.Prelude.{◌≡◌, ◌<◌, ◌≤◌, ◌==◌, ◌+◌, ◌-◌, ℕ, suc, Bool, not, true, false, ◌&&◌, ◌||◌, List, [], ◌∷◌, ◌++◌, map, length, Option, Some, None, slice_get, slice_set, if◌then◌else◌}
use Rattle.std.specs.List.{AllByRecursion, filter, list_all, list_any}
use Rattle.std.specs.Option.{is_some, option_map_or, unwrap_or}
use Rattle.pig_value.specs.declared.operators.ChainOp.TheVariants as op
use Rattle.pig_value.specs.declared.operators.Side.{Side}
use Rattle.pig_value.specs.declared.operators.Side.TheVariants as side
use Rattle.pig_typed.specs.Typed.{Typed, TypedArgs, TypedBlock, TypedItem, TypedLinks, links_of, x_bool, x_field, x_chain, x_compare, x_is_null, x_not, x_minus, x_choose, x_cast, x_project, x_look, x_call, no_links, more_links, no_args, more_args}
use Rattle.pig_plan.specs.Conjuncts.{conjuncts}
use Rattle.pig_plan.specs.Meaning.{width_at}
use Rattle.pig_plan.specs.Moves.{Move, fields_in, holds_all, moves, names_some, plain_at, put}
use Rattle.pig_plan.specs.Nodes.{IsOnlyUse, inputs_of, is_live, names}
use Rattle.pig_plan.specs.Plans.{Keyed, Plan, PlanNode, PlanOp, p_load, p_filter, p_foreach, p_group, p_join, p_union, p_distinct}
use Rattle.pig_plan.specs.Rewrites.{SameMeaning}
use Rattle.pig_plan.specs.Room.{idle, roomy}
use Rattle.pig_moves.specs.Depths.{filter_depth, most_levels}
use Rattle.pig_moves.specs.declared.joining.Spot.{Spot}
use Rattle.pig_plan.specs.Valid.{IsPlan}

-- conditions as one: none always hold, one is itself, and several are a chain of AND
abbrev pub linked : Typed → TypedLinks → Typed
linked first no_links = first
linked first (more_links operator a links) = x_chain first (more_links operator a links)

abbrev pub and_links : List Typed → TypedLinks
and_links cs = links_of (map (λ c. (op.And, c)) cs)

abbrev pub chained : List Typed → Typed
chained [] = x_bool true
chained (c ∷ cs) = linked c (and_links cs)

-- conjuncts that pass a test, and the others, each as one condition
abbrev pub chained_where : (Typed → Bool) → Typed → Typed
chained_where test cond = chained (filter test (conjuncts cond))

-- the conjuncts of the one condition, and behind them those of the other, in one chain with none within it
abbrev pub conjoined : Typed → Typed → Typed
conjoined first more = chained (conjuncts first ++ conjuncts more)

-- the column that an item hands on, in the place of what it makes: which one the table of moves tells
abbrev pub handed_number : List TypedItem → ℕ → ℕ
handed_number items n = unwrap_or (plain_at items n) n

abbrev pub handed_on : TypedBlock → ℕ → Typed
handed_on block n = x_field (handed_number block.items n)

-- each column that an expression names passes a test
abbrev mutual
  pub each_field : (ℕ → Bool) → Typed → Bool
  each_field p (x_field n) = p n
  each_field p (x_chain first links) = each_field p first && each_link p links
  each_field p (x_compare r a b) = each_field p a && each_field p b
  each_field p (x_is_null a negated) = each_field p a
  each_field p (x_not a) = each_field p a
  each_field p (x_minus a) = each_field p a
  each_field p (x_choose test a b) = each_field p test && (each_field p a && each_field p b)
  each_field p (x_cast to a) = each_field p a
  each_field p (x_project a ns single) = each_field p a
  each_field p (x_look a key) = each_field p a
  each_field p (x_call function args) = each_arg p args
  each_field p e = true

  pub each_link : (ℕ → Bool) → TypedLinks → Bool
  each_link p no_links = true
  each_link p (more_links operator a links) = each_field p a && each_link p links

  pub each_arg : (ℕ → Bool) → TypedArgs → Bool
  each_arg p no_args = true
  each_arg p (more_args e args) = each_field p e && each_arg p args

-- each column that the condition names is handed on
abbrev pub is_handed : List TypedItem → ℕ → Bool
is_handed items n = is_some (plain_at items n)

abbrev pub hands_all : TypedBlock → Typed → Bool
hands_all block cond = each_field (is_handed block.items) cond

-- the bag of a GROUP of one input stands behind its key
abbrev pub names_bag : List ℕ → Bool
names_bag fields = list_any (λ n. n == 1) fields

-- there is one key, and the condition names no bag of the groups
abbrev pub hands_key : List Typed → Typed → Bool
hands_key (key ∷ []) cond = not (names_bag (fields_in cond))
hands_key keys cond = false

-- the one key, in the place of the group
abbrev pub from_key : List Typed → ℕ → Typed
from_key (key ∷ []) n = key
from_key keys n = x_field n

-- The input of a JOIN whose columns have all of these, of inputs from a place on, behind so many columns.
abbrev pub spot_of : (ℕ → ℕ) → List ℕ → ℕ → ℕ → List Keyed → Option Spot
spot_of width fields first place [] = None
spot_of width fields first place (k ∷ ks) =
    if holds_all fields (record { input = k.input; first = first; size = width k.input })
    then Some (record { place = place; input = k.input; first = first })
    else spot_of width fields (first + width k.input) (place + 1) ks

-- the inputs whose rows all stand among the joined ones, or else with nulls for the other side
abbrev pub opens : Side → ℕ → Bool
opens side.Inner place = true
opens side.Left place = place == 0
opens side.Right place = place == 1
opens side.Full place = false

abbrev pub is_open : Side → Option Spot → Bool
is_open s None = false
is_open s (Some spot) = opens s spot.place

abbrev pub spot_for : (ℕ → ℕ) → List Keyed → Typed → Option Spot
spot_for width inputs cond = spot_of width (fields_in cond) 0 0 inputs

-- Whether a condition on the rows of an operator may pass below it, by the operator alone; the nodes' rows are so many fields wide.
abbrev pub may_pass : (ℕ → ℕ) → PlanOp → Typed → Bool
may_pass width (p_filter input first) cond = true
may_pass width (p_distinct input) cond = true
may_pass width (p_foreach input block) cond = hands_all block cond
may_pass width (p_group (input ∷ [])) cond = hands_key input.keys cond
may_pass width (p_join inputs s replicated) cond = names_some (fields_in cond) && is_open s (spot_for width inputs cond)
may_pass width o cond = false

-- the whole condition may, and each of its conjuncts
abbrev pub all_pass : (ℕ → ℕ) → PlanOp → Typed → Bool
all_pass width o cond = may_pass width o cond && list_all (may_pass width o) (conjuncts cond)

-- one of its conjuncts may, at least; below a UNION all do, to each of its inputs
abbrev pub is_union : PlanOp → Bool
is_union (p_union inputs) = true
is_union o = false

abbrev pub some_pass : (ℕ → ℕ) → PlanOp → Typed → Bool
some_pass width o cond = is_union o || list_any (may_pass width o) (conjuncts cond)

-- the node numbered k is a FILTER on a UNION
abbrev pub filters_union : Plan → PlanOp → Bool
filters_union p (p_filter i cond) = option_map_or (λ v. is_union v.op) (slice_get p i) false
filters_union p o = false

abbrev pub stands_on_union : Plan → ℕ → Bool
stands_on_union p k = option_map_or (λ v. filters_union p v.op) (slice_get p k) false

-- Conditions that may pass below a JOIN pass together where they go to the same place; below other operators all do.
abbrev pub stands_at : ℕ → Option Spot → Bool
stands_at place None = false
stands_at place (Some spot) = spot.place == place

abbrev pub passes_at : (ℕ → ℕ) → PlanOp → ℕ → Typed → Bool
passes_at width (p_join inputs s replicated) place cond = may_pass width (p_join inputs s replicated) cond && stands_at place (spot_for width inputs cond)
passes_at width o place cond = may_pass width o cond

-- the condition on the rows of the one input of a JOIN
abbrev pub at_spot : Option Spot → Typed → Move
at_spot None cond = record { input = 0; cond = cond }
at_spot (Some spot) cond = record { input = spot.input; cond = put (λ n. x_field (n - spot.first)) cond }

-- Where the table of moves has a condition go, and as what.
abbrev pub gone_to : (ℕ → ℕ) → PlanOp → Typed → Move
gone_to width (p_filter x first) cond = record { input = x; cond = cond }
gone_to width (p_distinct x) cond = record { input = x; cond = cond }
gone_to width (p_foreach x block) cond = record { input = x; cond = put (handed_on block) cond }
gone_to width (p_group (input ∷ [])) cond = record { input = input.input; cond = put (from_key input.keys) cond }
gone_to width (p_join inputs s replicated) cond = at_spot (spot_for width inputs cond) cond
gone_to width o cond = record { input = 0; cond = cond }

-- A condition that may pass has one way to go in the table of moves, and this is it.
abbrev pub MovesAreOfTheTable : Type 0
MovesAreOfTheTable = (width : ℕ → ℕ) (o : PlanOp) (cond : Typed) → may_pass width o cond ≡ true → moves width o cond ≡ gone_to width o cond ∷ []

-- A condition that may not pass has no way to go there. It always passes a UNION, which has moves of its own.
abbrev pub NoOtherWays : Type 0
NoOtherWays = (width : ℕ → ℕ) (o : PlanOp) (cond : Typed) → is_union o ≡ false → may_pass width o cond ≡ false → moves width o cond ≡ []

-- an input by key that reads another node, and inputs of which the one at a place does
abbrev pub on_input : ℕ → Keyed → Keyed
on_input i k = record { input = i; keys = k.keys; inner = k.inner }

abbrev pub over_at : ℕ → ℕ → ℕ → List Keyed → List Keyed
over_at i place from [] = []
over_at i place from (k ∷ ks) = (if from == place then on_input i k else k) ∷ over_at i place (from + 1) ks

abbrev pub over_spot : ℕ → Option Spot → List Keyed → List Keyed
over_spot i None inputs = inputs
over_spot i (Some spot) inputs = over_at i spot.place 0 inputs

-- What stands at the number of an operator below a FILTER, and at that of the FILTER, once the condition has passed: at the one the FILTER, and
-- at the other the operator over it. Of two FILTERs the upper one has both conditions, and the lower number is left to a node that reads nothing.
abbrev pub filter_as : Move → PlanOp
filter_as move = p_filter move.input move.cond

abbrev pub low_of : (ℕ → ℕ) → PlanOp → Typed → PlanOp
low_of width (p_filter x first) cond = p_load [] 9 []
low_of width o cond = filter_as (gone_to width o cond)

abbrev pub high_of : (ℕ → ℕ) → ℕ → PlanOp → Typed → PlanOp
high_of width i (p_filter x first) cond = p_filter x (conjoined first cond)
high_of width i (p_distinct x) cond = p_distinct i
high_of width i (p_foreach x block) cond = p_foreach i block
high_of width i (p_group (input ∷ [])) cond = p_group (on_input i input ∷ [])
high_of width i (p_join inputs s replicated) cond = p_join (over_spot i (spot_for width inputs cond) inputs) s replicated
high_of width i o cond = o

-- The FILTER numbered k stands on the node numbered i, which no other node reads, and its condition passes a test on that node's operator.
pub record StandsOn (test : (ℕ → ℕ) → PlanOp → Typed → Bool) (p : Plan) (i k : ℕ) : Type 0 where
  pub below : PlanNode
  pub cond : Typed
  pub statement : ℕ
  pub stands : slice_get p i ≡ Some below
  pub above : slice_get p k ≡ Some (record { op = p_filter i cond; statement = statement })
  pub only : IsOnlyUse p i k
  pub passes : test (width_at p) below.op cond ≡ true

-- its condition may pass as a whole, and one of its conjuncts may
abbrev pub CanMove : Plan → ℕ → ℕ → Type 0
CanMove = StandsOn all_pass

abbrev pub CanPart : Plan → ℕ → ℕ → Type 0
CanPart = StandsOn some_pass

-- a move: what stands at the two numbers, statements with their operators
pub record IsMove (p q : Plan) (i k : ℕ) : Type 0 where
  pub can : CanMove p i k
  pub is : q ≡ slice_set (slice_set p i (record { op = low_of (width_at p) can.below.op can.cond; statement = can.statement })) k
      (record { op = high_of (width_at p) i can.below.op can.cond; statement = can.below.statement })
  -- with the key of a GROUP in it the condition nests so far at most
  pub nests : (inputs : List Keyed) → can.below.op ≡ p_group inputs → filter_depth (low_of (width_at p) can.below.op can.cond) ≤ most_levels

-- what stands at the number of a dead node: it reads nothing
abbrev pub reads_nothing : PlanOp → Type 0
reads_nothing o = o ≡ p_load [] 9 []

-- the plan in which each dead node reads nothing, and the live ones are as they were
pub record IsCleared (p q : Plan) : Type 0 where
  pub size : length q ≡ length p
  pub lives : (n : ℕ) (v : PlanNode) → slice_get p n ≡ Some v → is_live p n ≡ true → slice_get q n ≡ Some v
  pub dead : (n : ℕ) (w : PlanNode) → slice_get q n ≡ Some w → is_live p n ≡ false → reads_nothing w.op

-- dead nodes read nothing
abbrev pub IsTidy : Plan → Type 0
IsTidy p = (n : ℕ) (v : PlanNode) → slice_get p n ≡ Some v → is_live p n ≡ false → inputs_of v.op ≡ []

-- so far, and what comes next
pub record IsClearedTo (p q : Plan) (end : ℕ) : Type 0 where
  pub size : length q ≡ end
  pub lives : (n : ℕ) (v : PlanNode) → n < end → slice_get p n ≡ Some v → is_live p n ≡ true → slice_get q n ≡ Some v
  pub dead : (n : ℕ) (w : PlanNode) → slice_get q n ≡ Some w → is_live p n ≡ false → reads_nothing w.op

pub record IsNext (p : Plan) (n : ℕ) (w : PlanNode) : Type 0 where
  pub within : n < length p
  pub lives : (v : PlanNode) → slice_get p n ≡ Some v → is_live p n ≡ true → w ≡ v
  pub dead : is_live p n ≡ false → reads_nothing w.op

-- the new nodes of a move
pub record AreNew (p : Plan) (i k : ℕ) (low high : PlanNode) : Type 0 where
  pub low_is : (below : PlanNode) (cond : Typed) (statement : ℕ) → slice_get p i ≡ Some below → slice_get p k ≡ Some (record { op = p_filter i cond; statement = statement })
      → low ≡ record { op = low_of (width_at p) below.op cond; statement = statement }
  pub high_is : (below : PlanNode) (cond : Typed) (statement : ℕ) → slice_get p i ≡ Some below → slice_get p k ≡ Some (record { op = p_filter i cond; statement = statement })
      → high ≡ record { op = high_of (width_at p) i below.op cond; statement = below.statement }
  pub nests : (below : PlanNode) (inputs : List Keyed) → slice_get p i ≡ Some below → below.op ≡ p_group inputs → filter_depth low.op ≤ most_levels

-- ---- a FILTER of several conjuncts

-- Some conjuncts of the FILTER numbered k go below its input together, to one place, and some don't.
pub record PartsAt (p : Plan) (k input statement : ℕ) (cond : Typed) : Type 0 where
  pub below : PlanNode
  pub place : ℕ
  pub stands : slice_get p input ≡ Some below
  pub above : slice_get p k ≡ Some (record { op = p_filter input cond; statement = statement })
  pub some : list_any (passes_at (width_at p) below.op place) (conjuncts cond) ≡ true
  pub others : list_all (passes_at (width_at p) below.op place) (conjuncts cond) ≡ false

-- Then it is two, one on the other: these conjuncts stand in the room below, and the others above. Both keep their order.
pub record IsSplit (p q : Plan) (k : ℕ) : Type 0 where
  pub input : ℕ
  pub cond : Typed
  pub statement : ℕ
  pub parts : PartsAt p k input statement cond
  pub is : q ≡ slice_set (slice_set (roomy k p) k (record { op = p_filter input (chained_where (passes_at (width_at p) parts.below.op parts.place) cond); statement = statement })) (k + 1)
      (record { op = p_filter k (chained_where (λ c. not (passes_at (width_at p) parts.below.op parts.place c)) cond); statement = statement })

-- what a FILTER's parts are made of
pub record ArePartsOf (p : Plan) (k input statement : ℕ) (low high : Typed) : Type 0 where
  pub cond : Typed
  pub parts : PartsAt p k input statement cond
  pub low_is : low ≡ chained_where (passes_at (width_at p) parts.below.op parts.place) cond
  pub high_is : high ≡ chained_where (λ c. not (passes_at (width_at p) parts.below.op parts.place c)) cond

-- the plan with room is one, and the FILTER stands split in it
pub record IsParted (p q : Plan) (k : ℕ) : Type 0 where
  pub room : IsPlan (roomy k p)
  pub split : IsSplit p q k

-- ---- a UNION

-- the first place of a number in a list
abbrev pub place_in : List ℕ → ℕ → ℕ
place_in [] n = 0
place_in (m ∷ ms) n = if m == n then 0 else suc (place_in ms n)

-- a list with others in the place of its elements from one on
abbrev pub put_from : {X : Type 0} → ℕ → List X → List X → List X
put_from first [] xs = xs
put_from first (y ∷ ys) xs = put_from (first + 1) ys (slice_set xs first y)

-- FILTERs of one condition on each of these nodes
abbrev pub filter_on : Typed → ℕ → ℕ → PlanNode
filter_on cond statement n = record { op = p_filter n cond; statement = statement }

-- the number of the FILTER on an input, where those on all of them stand in turn
abbrev pub filtered : ℕ → List ℕ → ℕ → ℕ
filtered first each n = first + place_in each n

abbrev pub is_load : PlanOp → Bool
is_load (p_load path delim columns) = true
is_load o = false

-- a node that reads nothing and is read by none
pub record IsFree (p : Plan) (n : ℕ) : Type 0 where
  pub node : PlanNode
  pub stands : slice_get p n ≡ Some node
  pub idles : is_load node.op ≡ true
  pub unread : (m : ℕ) (v : PlanNode) → slice_get p m ≡ Some v → names v.op n ≡ false

-- what stands above a node that no node reads
pub record IsAbove (p : Plan) (n k : ℕ) (above : PlanNode) : Type 0 where
  pub stands : slice_get p k ≡ Some above
  pub higher : n < k
  pub unread : IsOnlyUse p n k

-- The FILTER numbered k stands on the UNION numbered i, which no other node reads, and below it there is room for a FILTER on each input.
pub record CanUnite (p : Plan) (i k first : ℕ) (each inputs : List ℕ) (cond : Typed) (own statement : ℕ) : Type 0 where
  pub stands : slice_get p i ≡ Some (record { op = p_union inputs; statement = own })
  pub above : slice_get p k ≡ Some (record { op = p_filter i cond; statement = statement })
  pub only : IsOnlyUse p i k
  pub within : first + length each ≤ k
  pub free : (j n : ℕ) → slice_get each j ≡ Some n → IsFree p (first + j)
  pub whole : AllByRecursion (λ n. slice_get each (place_in each n) ≡ Some n) inputs
  pub once : (j n : ℕ) → slice_get each j ≡ Some n → (place_in each n ≡ j) × (list_any (λ m. m == n) inputs ≡ true)

-- the same, with the numbers that the inputs' FILTERs will have
pub record CanUniteAs (p : Plan) (i k first : ℕ) (each numbers : List ℕ) (cond : Typed) (own statement : ℕ) : Type 0 where
  pub inputs : List ℕ
  pub can : CanUnite p i k first each inputs cond own statement
  pub are : numbers ≡ map (filtered first each) inputs

-- Each distinct input has its FILTER then, and the UNION goes over those, at the FILTER's number; at its own stands what reads nothing.
pub record IsUnited (p q : Plan) (i k : ℕ) : Type 0 where
  pub first : ℕ
  pub each : List ℕ
  pub inputs : List ℕ
  pub cond : Typed
  pub own : ℕ
  pub statement : ℕ
  pub can : CanUnite p i k first each inputs cond own statement
  pub is : q ≡ slice_set (slice_set (put_from first (map (filter_on cond statement) each) p) i idle) k (record { op = p_union (map (filtered first each) inputs); statement = own })

-- ---- moves in turn

pub data AreMoves (p : Plan) : Plan → Type 0 where
  none : AreMoves p p
  one_more : (q r : Plan) (i k : ℕ) → AreMoves p q → IsPlan r → IsMove q r i k → AreMoves p r
  one_room : (q r : Plan) (k : ℕ) → AreMoves p q → IsPlan r → k < length q → r ≡ roomy k q → AreMoves p r
  one_union : (q r : Plan) (i k : ℕ) → AreMoves p q → IsPlan r → IsUnited q r i k → AreMoves p r
  -- the conjuncts that go together leave the others, and pass
  one_part : (q s r : Plan) (i k : ℕ) → AreMoves p q → IsPlan (roomy k q) → IsPlan s → IsSplit q s k → IsPlan r → IsMove s r i k → AreMoves p r

-- whatever comes to the one plan by moves comes to the other
abbrev pub GoesOn : Plan → Plan → Type 0
GoesOn q r = (p : Plan) → AreMoves p q → AreMoves p r

-- the plan is reached by moves, once its dead nodes read nothing
pub record IsPushed (p r : Plan) : Type 0 where
  pub cleared : Plan
  pub valid : IsPlan cleared
  pub clears : IsCleared p cleared
  pub moves : AreMoves cleared r

-- A live FILTER stands on a node that no other live node reads, and one of its conjuncts may pass below it.
pub record MayMove (p : Plan) (i k : ℕ) : Type 0 where
  pub below : PlanNode
  pub cond : Typed
  pub statement : ℕ
  pub stands : slice_get p i ≡ Some below
  pub above : slice_get p k ≡ Some (record { op = p_filter i cond; statement = statement })
  pub lives : is_live p k ≡ true
  pub only : (n : ℕ) (v : PlanNode) → slice_get p n ≡ Some v → is_live p n ≡ true → names v.op i ≡ true → n ≡ k
  pub passes : some_pass (width_at p) below.op cond ≡ true

abbrev pub NoneMayMove : Plan → Type 0
NoneMayMove p = (i k : ℕ) → MayMove p i k → ⊥

-- Conditions that become one have the conjuncts of both, in their order.
abbrev pub ConjunctsAreKept : Type 0
ConjunctsAreKept = (first more : Typed) → conjuncts (conjoined first more) ≡ conjuncts first ++ conjuncts more

abbrev pub PushedPlansMeanTheSame : Type 0
PushedPlansMeanTheSame = (p r : Plan) → IsPlan p → IsPushed p r → SameMeaning p r
