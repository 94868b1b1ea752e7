-- The input of a JOIN whose columns have all that a condition names: the search for it, and the table of moves.
use Rattle.std.specs.Prelude.{◌≡◌, ◌<◌, ◌≤◌, ◌+◌, ◌-◌, ◌&&◌, ℕ, suc, Bool, true, false, List, [], ◌∷◌, map, length, take, drop, nat_le, nat_lt, get_or, Option, Some, None, refl, if◌then◌else◌}
use Rattle.std.proofs.Common.{ap, sym, ◌∙◌, arith, cond, true≢false}
use Rattle.std.specs.List.{filter, list_all}
use Rattle.std.proofs.lemmas.Bool.{eqb-true, leb-true, ltb-true}
use Rattle.std.proofs.lemmas.List.{take_all}
use Rattle.std.proofs.lemmas.Option.{none-some}
use Rattle.pig_value.proofs.list_laws.Bags.{either_way}
use Rattle.pig_value.proofs.list_laws.Listing.{some_same}
use Rattle.pig_value.specs.declared.operators.Side.{Side}
use Rattle.pig_value.specs.declared.operators.Side.TheVariants as side
use Rattle.pig_typed.specs.Typed.{Typed, x_field}
use Rattle.pig_plan.specs.declared.nodes.KeyedInput.{KeyedInput}
use Rattle.pig_plan.specs.Moves.{Move, Span, fields_in, holds_all, moves, names_some, open_spans, put, spans}
use Rattle.pig_plan.specs.Plans.{Keyed, keyed_of, p_join}
use Rattle.pig_moves.specs.declared.joining.Spot.{Spot}
use Rattle.pig_moves.specs.Pushed.{at_spot, is_open, spot_for, spot_of}

first_rest : {X : Type 0} (left : List X) (x : X) → 1 ≤ length left → x ≡ get_or left 0 x → left ≡ x ∷ take (length left - 1) (drop 1 left)
first_rest [] x some is = absurd (omega (arith, some))
first_rest (y ∷ ys) x some is =
    let less : suc (length ys) - 1 ≡ length ys = omega arith in
    λ i. sym is i ∷ (sym (take_all (length ys) ys (omega arith)) ∙ ap (λ n. take n ys) (sym less)) i

module _ (width : ℕ → ℕ) (fields : List ℕ) where
  abbrev found : Bool → Spot → Option Spot → Option Spot
  found b spot rest = if b then Some spot else rest

  test_is : (k : KeyedInput) (first end : ℕ) (b : Bool) → end ≡ first + width k.input → list_all (λ n. nat_le first n && nat_lt n end) fields ≡ b
      → holds_all fields (record { input = k.input; first = first; size = width k.input }) ≡ b
  test_is k first end b e h = ap (λ m. list_all (λ n. nat_le first n && nat_lt n m) fields) (sym e) ∙ h

  -- what the loop finds, and how it goes on
  pub spot_here : (left : List KeyedInput) (k : KeyedInput) (first place end : ℕ) (s : Option Spot) → 1 ≤ length left → k ≡ get_or left 0 k → end ≡ first + width k.input
      → list_all (λ n. nat_le first n && nat_lt n end) fields ≡ true → spot_of width fields first place (map keyed_of left) ≡ s → Some (record { place = place; input = k.input; first = first }) ≡ s
  spot_here left k first place end s some is e h so_far =
      let rest : List Keyed = map keyed_of (take (length left - 1) (drop 1 left)) in
      sym (ap (λ b. found b (record { place = place; input = k.input; first = first }) (spot_of width fields (first + width k.input) (place + 1) rest)) (test_is k first end true e h))
      ∙ ap (λ ks. spot_of width fields first place (map keyed_of ks)) (sym (first_rest left k some is)) ∙ so_far

  pub spot_on : (left : List KeyedInput) (k : KeyedInput) (first place end next : ℕ) (s : Option Spot) → 1 ≤ length left → k ≡ get_or left 0 k → end ≡ first + width k.input → next ≡ place + 1
      → list_all (λ n. nat_le first n && nat_lt n end) fields ≡ false → spot_of width fields first place (map keyed_of left) ≡ s
      → spot_of width fields end next (map keyed_of (take (length left - 1) (drop 1 left))) ≡ s
  spot_on left k first place end next s some is e g h so_far =
      let rest : List Keyed = map keyed_of (take (length left - 1) (drop 1 left)) in
      (λ i. spot_of width fields (e i) (g i) rest)
      ∙ sym (ap (λ b. found b (record { place = place; input = k.input; first = first }) (spot_of width fields (first + width k.input) (place + 1) rest)) (test_is k first end false e h))
      ∙ ap (λ ks. spot_of width fields first place (map keyed_of ks)) (sym (first_rest left k some is)) ∙ so_far

-- ---- the table

pub both : (a b : Bool) → (a && b) ≡ true → (a ≡ true) × (b ≡ true)
both true b e = (refl, e)
both false b e = absurd (true≢false (sym e))

module _ (width : ℕ → ℕ) where
  abbrev span_of : ℕ → Keyed → Span
  span_of first k = record { input = k.input; first = first; size = width k.input }

  too_low : (f : ℕ) (fields : List ℕ) (span : Span) → f < span.first → holds_all (f ∷ fields) span ≡ false
  too_low f fields span h = either_way (nat_le span.first f)
      (λ e. let le = leb-true span.first f e in absurd (omega (arith, le, h)))
      (λ e. ap (λ b. (b && nat_lt f (span.first + span.size)) && list_all (λ n. nat_le span.first n && nat_lt n (span.first + span.size)) fields) e)

  -- no span behind a column has it
  none_after : (f : ℕ) (fields : List ℕ) (from : ℕ) (ks : List Keyed) → f < from → filter (holds_all (f ∷ fields)) (spans width from ks) ≡ []
  none_after f fields from [] h = refl
  none_after f fields from (k ∷ ks) h =
      ap (λ b. cond b (span_of from k ∷ filter (holds_all (f ∷ fields)) (spans width (from + width k.input) ks)) (filter (holds_all (f ∷ fields)) (spans width (from + width k.input) ks)))
      (too_low f fields (span_of from k) h)
      ∙ none_after f fields (from + width k.input) ks (omega (arith, h))

  -- the one span that has all columns
  record IsSpan (spot : Spot) (found : List Span) : Type 0 where
    pub size : ℕ
    pub are : found ≡ record { input = spot.input; first = spot.first; size = size } ∷ []

  within_span : (f : ℕ) (fields : List ℕ) (span : Span) → holds_all (f ∷ fields) span ≡ true → f < span.first + span.size
  within_span f fields span h =
      ltb-true f (span.first + span.size)
      (both (nat_le span.first f) (nat_lt f (span.first + span.size)) (both (nat_le span.first f && nat_lt f (span.first + span.size)) (list_all (λ n. nat_le span.first n && nat_lt n (span.first + span.size)) fields) h).0).1

  abbrev pub step : ℕ → List ℕ → ℕ → ℕ → Keyed → List Keyed → Bool → Option Spot
  step f fields first place k ks b = if b then Some (record { place = place; input = k.input; first = first }) else spot_of width (f ∷ fields) (first + width k.input) (place + 1) ks

  one_span : (f : ℕ) (fields : List ℕ) (first place : ℕ) (ks : List Keyed) (spot : Spot) → spot_of width (f ∷ fields) first place ks ≡ Some spot
      → IsSpan spot (filter (holds_all (f ∷ fields)) (spans width first ks))
  one_span f fields first place [] spot e = absurd (none-some spot e)
  one_span f fields first place (k ∷ ks) spot e = by_test (holds_all (f ∷ fields) (span_of first k)) refl e (λ rest. one_span f fields (first + width k.input) (place + 1) ks spot rest)
    where
      by_test : (b : Bool) → holds_all (f ∷ fields) (span_of first k) ≡ b → step f fields first place k ks b ≡ Some spot
          → (spot_of width (f ∷ fields) (first + width k.input) (place + 1) ks ≡ Some spot → IsSpan spot (filter (holds_all (f ∷ fields)) (spans width (first + width k.input) ks)))
          → IsSpan spot (cond b (span_of first k ∷ filter (holds_all (f ∷ fields)) (spans width (first + width k.input) ks)) (filter (holds_all (f ∷ fields)) (spans width (first + width k.input) ks)))
      by_test true h g rest =
          let same : record { place = place; input = k.input; first = first } ≡ spot = some_same (record { place = place; input = k.input; first = first }) spot g in
          record {
            size = width k.input;
            are = ap (λ more. span_of first k ∷ more) (none_after f fields (first + width k.input) ks (within_span f fields (span_of first k) h))
                ∙ ap (λ s. record { input = s.input; first = s.first; size = width k.input } ∷ []) same;
          }
      by_test false h g rest = rest g

  place_from : (fields : List ℕ) (first place : ℕ) (ks : List Keyed) (spot : Spot) → spot_of width fields first place ks ≡ Some spot → place ≤ spot.place
  place_from fields first place [] spot e = absurd (none-some spot e)
  place_from fields first place (k ∷ ks) spot e = by_test (holds_all fields (span_of first k)) e (λ rest. place_from fields (first + width k.input) (place + 1) ks spot rest)
    where
      by_test : (b : Bool) → (if b then Some (record { place = place; input = k.input; first = first }) else spot_of width fields (first + width k.input) (place + 1) ks) ≡ Some spot
          → (spot_of width fields (first + width k.input) (place + 1) ks ≡ Some spot → place + 1 ≤ spot.place) → place ≤ spot.place
      by_test true g rest = let is = ap (λ s. s.place) (some_same (record { place = place; input = k.input; first = first }) spot g) in omega (arith, is)
      by_test false g rest = let le = rest g in omega (arith, le)

  abbrev nothing_else : List ℕ → ℕ → Keyed → Bool → List Span
  nothing_else fields first k b = cond b (span_of first k ∷ []) []

  -- the span at the first place of those from one on
  at_first : (fields : List ℕ) (first place : ℕ) (k : Keyed) (ks : List Keyed) (spot : Spot) → spot_of width fields first place (k ∷ ks) ≡ Some spot → spot.place ≡ place
      → IsSpan spot (filter (holds_all fields) (span_of first k ∷ []))
  at_first fields first place k ks spot e is = by_test (holds_all fields (span_of first k)) e
    where
      by_test : (b : Bool) → (if b then Some (record { place = place; input = k.input; first = first }) else spot_of width fields (first + width k.input) (place + 1) ks) ≡ Some spot
          → IsSpan spot (cond b (span_of first k ∷ []) [])
      by_test true g = record {
        size = width k.input;
        are = ap (λ s. record { input = s.input; first = s.first; size = width k.input } ∷ []) (some_same (record { place = place; input = k.input; first = first }) spot g);
      }
      by_test false g = let le = place_from fields (first + width k.input) (place + 1) ks spot g in absurd (omega (arith, le, is))

  open_span : (sd : Side) (f : ℕ) (fields : List ℕ) (inputs : List Keyed) (spot : Spot) → spot_of width (f ∷ fields) 0 0 inputs ≡ Some spot → is_open sd (Some spot) ≡ true
      → IsSpan spot (filter (holds_all (f ∷ fields)) (open_spans sd (spans width 0 inputs)))
  open_span side.Inner f fields inputs spot e h = one_span f fields 0 0 inputs spot e
  open_span side.Full f fields inputs spot e h = absurd (true≢false (sym h))
  open_span side.Left f fields [] spot e h = absurd (none-some spot e)
  open_span side.Left f fields (k ∷ ks) spot e h = at_first (f ∷ fields) 0 0 k ks spot e (eqb-true spot.place 0 h)
  open_span side.Right f fields [] spot e h = absurd (none-some spot e)
  open_span side.Right f fields (k ∷ ks) spot e h = by_test (holds_all (f ∷ fields) (span_of 0 k)) e
    where
      behind : (ls : List Keyed) → spot_of width (f ∷ fields) (0 + width k.input) 1 ls ≡ Some spot → IsSpan spot (filter (holds_all (f ∷ fields)) (take 1 (spans width (0 + width k.input) ls)))
      behind [] g = absurd (none-some spot g)
      behind (l ∷ ls) g = at_first (f ∷ fields) (0 + width k.input) 1 l ls spot g (eqb-true spot.place 1 h)

      by_test : (b : Bool) → step f fields 0 0 k ks b ≡ Some spot → IsSpan spot (filter (holds_all (f ∷ fields)) (take 1 (spans width (0 + width k.input) ks)))
      by_test true g = let is = ap (λ s. s.place) (some_same (record { place = 0; input = k.input; first = 0 }) spot g) in let one = eqb-true spot.place 1 h in absurd (omega (arith, is, one))
      by_test false g = behind ks g

abbrev pub to_span : Typed → Span → Move
to_span c span = record { input = span.input; cond = put (λ n. x_field (n - span.first)) c }

pub join_moves : (width : ℕ → ℕ) (inputs : List Keyed) (sd : Side) (replicated : Bool) (c : Typed) (o : Option Spot) → spot_for width inputs c ≡ o → names_some (fields_in c) ≡ true → is_open sd o ≡ true
    → moves width (p_join inputs sd replicated) c ≡ at_spot o c ∷ []
join_moves width inputs sd replicated c None e named opened = absurd (true≢false (sym opened))
join_moves width inputs sd replicated c (Some spot) e named opened = by_fields (fields_in c) named e
  where
    by_fields : (fields : List ℕ) → names_some fields ≡ true → spot_of width fields 0 0 inputs ≡ Some spot
        → (if names_some fields then map (to_span c) (filter (holds_all fields) (open_spans sd (spans width 0 inputs))) else []) ≡ at_spot (Some spot) c ∷ []
    by_fields [] h g = absurd (true≢false (sym h))
    by_fields (f ∷ fields) h g = let s = open_span width sd f fields inputs spot g opened in ap (map (to_span c)) s.are
