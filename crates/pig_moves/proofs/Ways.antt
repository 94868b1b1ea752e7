-- What may not pass has no way in the table of moves.
use Rattle.std.specs.Prelude.{◌≡◌, ◌+◌, ◌&&◌, ℕ, Bool, true, false, List, [], ◌∷◌, map, nat_le, nat_lt, Option, Some, None, refl, if◌then◌else◌}
use Rattle.std.proofs.Common.{ap, sym, ◌∙◌, arith, cond, true≢false}
use Rattle.std.specs.List.{filter, list_all}
use Rattle.std.specs.Option.{option_map_or}
use Rattle.std.proofs.lemmas.Bool.{leb-true, ltb-true}
use Rattle.std.proofs.lemmas.Option.{none-some}
use Rattle.pig_value.proofs.list_laws.Bags.{either_way}
use Rattle.pig_value.specs.declared.operators.Side.{Side}
use Rattle.pig_value.specs.declared.operators.Side.TheVariants as side
use Rattle.pig_typed.specs.Typed.{Typed, TypedBlock, x_field}
use Rattle.pig_plan.specs.Moves.{Span, below_key, fields_in, holds_all, moves, names_some, only_where, open_spans, plain_at, put, spans}
use Rattle.pig_plan.specs.Plans.{Keyed, p_load, p_filter, p_foreach, p_group_all, p_group, p_join, p_union, p_distinct, p_order, p_limit, p_store, p_assert, p_rank}
use Rattle.pig_moves.specs.declared.joining.Spot.{Spot}
use Rattle.pig_moves.specs.Pushed.{NoOtherWays, hands_all, hands_key, is_handed, is_open, may_pass, spot_of}
use Rattle.pig_moves.proofs.Passing.{each_is}
use Rattle.pig_moves.proofs.Spots.{both, to_span}

-- ---- FOREACH

no_foreach : (x : ℕ) (block : TypedBlock) (c : Typed) (width : ℕ → ℕ) → hands_all block c ≡ false → moves width (p_foreach x block) c ≡ []
no_foreach x block c width h =
    ap (λ b. only_where b (record { input = x; cond = put (λ n. option_map_or x_field (plain_at block.items n) (x_field n)) c }))
    (sym (each_is (is_handed block.items) c) ∙ h)

-- ---- GROUP

no_group : (input : ℕ) (keys : List Typed) (c : Typed) → hands_key keys c ≡ false → below_key input keys c ≡ []
no_group input [] c h = refl
no_group input (e ∷ []) c h = ap (λ b. only_where b (record { input = input; cond = put (λ n. e) c })) h
no_group input (e ∷ d ∷ keys) c h = refl

-- ---- JOIN

module _ (width : ℕ → ℕ) where
  abbrev span_at : ℕ → Keyed → Span
  span_at first k = record { input = k.input; first = first; size = width k.input }

  abbrev next_spot : List ℕ → ℕ → ℕ → Keyed → List Keyed → Bool → Option Spot
  next_spot fields first place k ks b = if b then Some (record { place = place; input = k.input; first = first }) else spot_of width fields (first + width k.input) (place + 1) ks

  no_span : (fields : List ℕ) (first place : ℕ) (ks : List Keyed) → spot_of width fields first place ks ≡ None → filter (holds_all fields) (spans width first ks) ≡ []
  no_span fields first place [] e = refl
  no_span fields first place (k ∷ ks) e = by_test (holds_all fields (span_at first k)) e (λ rest. no_span fields (first + width k.input) (place + 1) ks rest)
    where
      by_test : (b : Bool) → next_spot fields first place k ks b ≡ None → (spot_of width fields (first + width k.input) (place + 1) ks ≡ None → filter (holds_all fields) (spans width (first + width k.input) ks) ≡ [])
          → cond b (span_at first k ∷ filter (holds_all fields) (spans width (first + width k.input) ks)) (filter (holds_all fields) (spans width (first + width k.input) ks)) ≡ []
      by_test true g rest = absurd (none-some (record { place = place; input = k.input; first = first }) (sym g))
      by_test false g rest = rest g

  -- the first of the columns tells two spans apart
  apart : (f : ℕ) (fields : List ℕ) (k l : Keyed) → holds_all (f ∷ fields) (span_at (0 + width k.input) l) ≡ true → holds_all (f ∷ fields) (span_at 0 k) ≡ false
  apart f fields k l h =
      let two = both (nat_le (0 + width k.input) f && nat_lt f (0 + width k.input + width l.input)) (list_all (λ n. nat_le (0 + width k.input) n && nat_lt n (0 + width k.input + width l.input)) fields) h in
      let low = leb-true (0 + width k.input) f (both (nat_le (0 + width k.input) f) (nat_lt f (0 + width k.input + width l.input)) two.0).0 in
      either_way (holds_all (f ∷ fields) (span_at 0 k))
      (λ e.
      let own = both (nat_le 0 f && nat_lt f (0 + width k.input)) (list_all (λ n. nat_le 0 n && nat_lt n (0 + width k.input)) fields) e in
      let high = ltb-true f (0 + width k.input) (both (nat_le 0 f) (nat_lt f (0 + width k.input)) own.0).1 in
      absurd (omega (arith, low, high)))
      (λ e. e)

  no_open : (sd : Side) (f : ℕ) (fields : List ℕ) (inputs : List Keyed) (o : Option Spot) → spot_of width (f ∷ fields) 0 0 inputs ≡ o → is_open sd o ≡ false
      → filter (holds_all (f ∷ fields)) (open_spans sd (spans width 0 inputs)) ≡ []
  no_open side.Full f fields inputs o e h = refl
  no_open side.Inner f fields inputs None e h = no_span (f ∷ fields) 0 0 inputs e
  no_open side.Inner f fields inputs (Some spot) e h = absurd (true≢false h)
  no_open side.Left f fields [] o e h = refl
  no_open side.Left f fields (k ∷ ks) o e h = by_test (holds_all (f ∷ fields) (span_at 0 k)) e
    where
      by_test : (b : Bool) → next_spot (f ∷ fields) 0 0 k ks b ≡ o → cond b (span_at 0 k ∷ []) [] ≡ []
      by_test true g = absurd (true≢false (ap (is_open side.Left) g ∙ h))
      by_test false g = refl
  no_open side.Right f fields [] o e h = refl
  no_open side.Right f fields (k ∷ []) o e h = refl
  no_open side.Right f fields (k ∷ l ∷ ks) o e h = by_test (holds_all (f ∷ fields) (span_at (0 + width k.input) l)) refl
    where
      by_test : (b : Bool) → holds_all (f ∷ fields) (span_at (0 + width k.input) l) ≡ b → cond b (span_at (0 + width k.input) l ∷ []) [] ≡ []
      by_test false g = refl
      by_test true g =
          let found : spot_of width (f ∷ fields) 0 0 (k ∷ l ∷ ks) ≡ Some (record { place = 1; input = l.input; first = 0 + width k.input }) =
          ap (next_spot (f ∷ fields) 0 0 k (l ∷ ks)) (apart f fields k l g) ∙ ap (next_spot (f ∷ fields) (0 + width k.input) 1 l ks) g in
          absurd (true≢false (ap (is_open side.Right) (sym found ∙ e) ∙ h))

no_join : (width : ℕ → ℕ) (inputs : List Keyed) (sd : Side) (replicated : Bool) (c : Typed) → may_pass width (p_join inputs sd replicated) c ≡ false → moves width (p_join inputs sd replicated) c ≡ []
no_join width inputs sd replicated c h = by_fields (fields_in c) h
  where
    by_fields : (fields : List ℕ) → (names_some fields && is_open sd (spot_of width fields 0 0 inputs)) ≡ false
        → (if names_some fields then map (to_span c) (filter (holds_all fields) (open_spans sd (spans width 0 inputs))) else []) ≡ []
    by_fields [] g = refl
    by_fields (f ∷ fields) g = ap (map (to_span c)) (no_open width sd f fields inputs (spot_of width (f ∷ fields) 0 0 inputs) refl g)

pub no_other_ways : NoOtherWays
no_other_ways width (p_filter x first) c out h = absurd (true≢false h)
no_other_ways width (p_distinct x) c out h = absurd (true≢false h)
no_other_ways width (p_foreach x block) c out h = no_foreach x block c width h
no_other_ways width (p_load path delim columns) c out h = refl
no_other_ways width (p_group_all input) c out h = refl
no_other_ways width (p_group []) c out h = refl
no_other_ways width (p_group (input ∷ [])) c out h = no_group input.input input.keys c h
no_other_ways width (p_group (a ∷ b ∷ inputs)) c out h = refl
no_other_ways width (p_join inputs sd replicated) c out h = no_join width inputs sd replicated c h
no_other_ways width (p_union inputs) c out h = absurd (true≢false out)
no_other_ways width (p_order input keys) c out h = refl
no_other_ways width (p_limit input count) c out h = refl
no_other_ways width (p_store input path delim) c out h = refl
no_other_ways width (p_assert input test message) c out h = refl
no_other_ways width (p_rank input keys dense) c out h = refl
