-- The FOREACHs before a UNION fit in turn, and the UNION behind them gives rows of the kinds of its columns.
use Rattle.std.proofs.Common.{◌≡◌, ◌∙◌, ◌+◌, ◌++◌, ℕ, suc, List, [], ◌∷◌, map, length, false, refl, sym, ap, subst, append_assoc, append-nil}
use Rattle.std.specs.Prelude.{Bool, Option, Some, None, IfSome}
use Rattle.std.specs.List.{AllByRecursion}
use Rattle.std.proofs.lemmas.List.{length-append, length-map, map-append}
use Rattle.pig_value.proofs.list_laws.Listing.{each_weaker}
use Rattle.pig_schema.specs.FieldTrees.{tree_kind}
use Rattle.pig_typed.specs.Typed.{TypedBlock}
use Rattle.pig_plan.specs.NodeKinds.{RowKinds, kinds_at}
use Rattle.pig_plan.specs.Plans.{Plan, PlanOp, p_foreach, p_union}
use Rattle.pig_plan.specs.Written.{block_writes_lf}
use Rattle.pig_relations.specs.Aliases.{Aliases, IsRelation, IsTable}
use Rattle.pig_relations.specs.Unions.{GivesRows, TypedUnion, UnionInput, Unions, widened_row}
use Rattle.pig_relations.proofs.LineEnds.{WritesNone, union_free}
use Rattle.pig_relations.proofs.UnionGives.{union_columns, union_inputs, union_node}
use Rattle.pig_check.specs.States.{AllFit, node_of_statement}
use Rattle.pig_check.specs.Unions.{input_number, input_numbers, next_behind, widening_ops, widenings}
use Rattle.pig_check.proofs.Grown.{MayAdd, all_stay, behind_all, it_fits, last_gives, never_twins}

-- the block writes no line end, where there is one
abbrev IsPlain : Option TypedBlock → Type 0
IsPlain w = IfSome w (λ block. block_writes_lf block ≡ false)

module _ (statement : ℕ) where
  abbrev nodes : List PlanOp → Plan
  nodes = map (node_of_statement statement)

  -- what fits behind what fits
  fit_behind : (p : Plan) (os more : List PlanOp) → AllFit statement p os → AllFit statement (p ++ nodes os) more → AllFit statement p (os ++ more)
  fit_behind p [] more h g = subst (λ q. AllFit statement q more) (append-nil p) g
  fit_behind p (o ∷ os) more h g =
      (h.0, fit_behind (p ++ node_of_statement statement o ∷ []) os more h.1 (subst (λ q. AllFit statement q more) (sym (behind_all statement p o os)) g))

  all_nodes : (p : Plan) (os more : List PlanOp) → (p ++ nodes os) ++ nodes more ≡ p ++ nodes (os ++ more)
  all_nodes p os more = append_assoc p (nodes os) (nodes more) ∙ ap (λ l. p ++ l) (sym (map-append (node_of_statement statement) os more))

  module _ (kinds : RowKinds) where
    widening_may : (p : Plan) (node : ℕ) (block : TypedBlock) (row : RowKinds) → kinds_at p node ≡ Some row → widened_row (Some block) row ≡ Some kinds → IsPlain (Some block)
        → MayAdd p (p_foreach node block) (Some kinds)
    widening_may p node block row e g plain = record { gives = rw (e, g) refl; plain = plain }

    widening_fits : (p : Plan) (node : ℕ) (w : Option TypedBlock) (row : RowKinds) → kinds_at p node ≡ Some row → widened_row w row ≡ Some kinds → IsPlain w
        → AllFit statement p (widening_ops node w)
    widening_fits p node None row e g plain = tt
    widening_fits p node (Some block) row e g plain =
        (it_fits statement p (p_foreach node block) (Some kinds) (widening_may p node block row e g plain) (never_twins statement (p_foreach node block) (λ other. refl) p), tt)

    abbrev Give : Plan → List UnionInput → Type 0
    Give p = AllByRecursion (GivesRows (kinds_at p) kinds)

    abbrev ArePlain : List UnionInput → Type 0
    ArePlain = AllByRecursion WritesNone

    abbrev behind : Plan → UnionInput → Plan
    behind p i = p ++ nodes (widening_ops i.node i.widening)

    still_give : (p : Plan) (i : UnionInput) (is : List UnionInput) → Give p is → Give (behind p i) is
    still_give p i is h =
        each_weaker (GivesRows (kinds_at p) kinds) (GivesRows (kinds_at (behind p i)) kinds)
        (λ j g. record { row = g.row; rows = all_stay statement p (widening_ops i.node i.widening) j.node g.row g.rows; widened = g.widened }) is h

    pub widenings_fit : (p : Plan) (is : List UnionInput) → Give p is → ArePlain is → AllFit statement p (widenings is)
    widenings_fit p [] h plain = tt
    widenings_fit p (i ∷ is) h plain =
        fit_behind p (widening_ops i.node i.widening) (widenings is)
        (widening_fits p i.node i.widening h.0.row h.0.rows h.0.widened plain.0)
        (widenings_fit (behind p i) is (still_give p i is h.1) plain.1)

    -- the number that stands for an input gives rows of the kinds
    number_gives : (p : Plan) (node : ℕ) (w : Option TypedBlock) (row : RowKinds) → kinds_at p node ≡ Some row → widened_row w row ≡ Some kinds → IsPlain w
        → kinds_at (p ++ nodes (widening_ops node w)) (input_number (length p) node w) ≡ Some kinds
    number_gives p node None row e g plain = ap (λ q. kinds_at q node) (append-nil p) ∙ e ∙ g
    number_gives p node (Some block) row e g plain = last_gives p (node_of_statement statement (p_foreach node block)) (Some kinds) (widening_may p node block row e g plain).gives

    length_behind : (p : Plan) (node : ℕ) (w : Option TypedBlock) → length (p ++ nodes (widening_ops node w)) ≡ next_behind (length p) w
    length_behind p node None = ap length (append-nil p)
    length_behind p node (Some block) = length-append p (node_of_statement statement (p_foreach node block) ∷ [])

    pub numbers_give : (p : Plan) (is : List UnionInput) → Give p is → ArePlain is
        → AllByRecursion (λ n. kinds_at (p ++ nodes (widenings is)) n ≡ Some kinds) (input_numbers (length p) is)
    numbers_give p [] h plain = tt
    numbers_give p (i ∷ is) h plain =
        let later = numbers_give (behind p i) is (still_give p i is h.1) plain.1 in
        let whole = all_nodes p (widening_ops i.node i.widening) (widenings is) in
        let first = number_gives p i.node i.widening h.0.row h.0.rows h.0.widened plain.0 in
        subst (λ q. AllByRecursion (λ n. kinds_at q n ≡ Some kinds) (input_numbers (length p) (i ∷ is))) whole (
          all_stay statement (behind p i) (widenings is) (input_number (length p) i.node i.widening) kinds first,
          subst (λ m. AllByRecursion (λ n. kinds_at (behind p i ++ nodes (widenings is)) n ≡ Some kinds) (input_numbers m is)) (length_behind p i.node i.widening) later,
        )

pub as_many_numbers : (n : ℕ) (is : List UnionInput) → length (input_numbers n is) ≡ length is
as_many_numbers n [] = refl
as_many_numbers n (i ∷ is) = ap suc (as_many_numbers (next_behind n i.widening) is)

-- ---- the whole

module _ (statement : ℕ) (p : Plan) (aliases : Aliases) (table : IsTable (kinds_at p) aliases) where
  module _ (onschema : Bool) (names : List (List ℕ)) (u : TypedUnion) (h : Unions aliases onschema names u) where
    abbrev row : RowKinds
    row = map tree_kind u.columns

    abbrev united : PlanOp
    united = p_union (input_numbers (length p) u.inputs)

    abbrev before_it : Plan
    before_it = p ++ map (node_of_statement statement) (widenings u.inputs)

    plain : AllByRecursion WritesNone u.inputs
    plain = union_free aliases onschema names u h

    inputs_give : AllByRecursion (GivesRows (kinds_at p) row) u.inputs
    inputs_give = union_inputs (kinds_at p) aliases onschema names u table h

    union_may : MayAdd before_it united (Some row)
    union_may = record {
      gives = union_node aliases onschema names u h (kinds_at before_it) (input_numbers (length p) u.inputs) (as_many_numbers (length p) u.inputs) (numbers_give statement row p u.inputs inputs_give plain);
      plain = refl;
    }

    pub union_fits : AllFit statement p (widenings u.inputs ++ united ∷ [])
    union_fits =
        fit_behind statement p (widenings u.inputs) (united ∷ [])
        (widenings_fit statement row p u.inputs inputs_give plain)
        (it_fits statement before_it united (Some row) union_may (never_twins statement united (λ other. refl) before_it), tt)

    pub union_given : IsRelation (kinds_at (p ++ map (node_of_statement statement) (widenings u.inputs ++ united ∷ []))) (record { node = length p + length (widenings u.inputs); columns = u.columns })
    union_given = record {
      rows =
          ap (λ q. kinds_at q (length p + length (widenings u.inputs))) (sym (all_nodes statement p (widenings u.inputs) (united ∷ [])))
          ∙ ap (kinds_at (before_it ++ node_of_statement statement united ∷ [])) (sym (length-append p (map (node_of_statement statement) (widenings u.inputs)) ∙ ap (λ n. length p + n) (length-map (widenings u.inputs) (node_of_statement statement))))
          ∙ last_gives before_it (node_of_statement statement united) (Some row) union_may.gives;
      columns = union_columns (kinds_at p) aliases onschema names u table h;
    }
