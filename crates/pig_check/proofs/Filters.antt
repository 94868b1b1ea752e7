-- The FILTERs of a SPLIT fit in turn, and each gives the rows of the relation that is split. So does an ASSERT.
use Rattle.std.proofs.Common.{◌≡◌, ◌∙◌, ◌+◌, ◌++◌, ℕ, List, [], ◌∷◌, map, length, true, false, refl, sym, ap, subst, arith, append-nil}
use Rattle.std.specs.Prelude.{Option, Some, None}
use Rattle.std.specs.List.{AllByRecursion}
use Rattle.std.proofs.lemmas.List.{length-append, length-map}
use Rattle.pig_value.proofs.list_laws.Listing.{each-append}
use Rattle.pig_value.specs.Trees.{KindTree, k_boolean}
use Rattle.pig_schema.specs.FieldTrees.{tree_kind}
use Rattle.pig_syntax.specs.declared.trees.Branch.{Branch}
use Rattle.pig_typed.specs.ExprKinds.{expr_kind, links_kind}
use Rattle.pig_typed.specs.Typed.{Typed, links_of, x_not}
use Rattle.pig_plan.specs.NodeKinds.{kinds_at}
use Rattle.pig_plan.specs.Plans.{Plan, p_assert, p_filter}
use Rattle.pig_plan.specs.Valid.{fits}
use Rattle.pig_plan.specs.Written.{links_write_lf, writes_lf}
use Rattle.pig_relations.specs.Aliases.{IsRelation, RelationTree}
use Rattle.pig_relations.proofs.Tables.{relation_stays}
use Rattle.pig_check.specs.Splits.{all_conditions, any_of, branch_aliases, or_link, relations_from}
use Rattle.pig_check.specs.States.{AllFit, node_of_statement}
use Rattle.pig_check.proofs.Grown.{MayAdd, all_stay, behind_all, it_fits, last_gives, never_twins}

-- boolean on rows of these kinds, and without a line end
pub record IsTest (row : List KindTree) (t : Typed) : Type 0 where
  pub kind : expr_kind t row [] ≡ Some k_boolean
  pub plain : writes_lf t ≡ false

module _ (statement : ℕ) (r : RelationTree) where
  abbrev row : List KindTree
  row = map tree_kind r.columns

  pub filter_may : (p : Plan) (t : Typed) → IsRelation (kinds_at p) r → IsTest row t → MayAdd p (p_filter r.node t) (Some row)
  filter_may p t h test = record { gives = rw (h.rows, test.kind) refl; plain = test.plain }

  pub assert_may : (p : Plan) (t : Typed) (message : Option (List ℕ)) → IsRelation (kinds_at p) r → IsTest row t → MayAdd p (p_assert r.node t message) (Some row)
  assert_may p t message h test = record { gives = rw (h.rows, test.kind) refl; plain = test.plain }

  filter_fits : (p : Plan) (t : Typed) → IsRelation (kinds_at p) r → IsTest row t → fits p (node_of_statement statement (p_filter r.node t)) ≡ true
  filter_fits p t h test = it_fits statement p (p_filter r.node t) (Some row) (filter_may p t h test) (never_twins statement (p_filter r.node t) (λ other. refl) p)

  abbrev behind : Plan → Typed → Plan
  behind p t = p ++ node_of_statement statement (p_filter r.node t) ∷ []

  stays_behind : (p : Plan) (t : Typed) → IsRelation (kinds_at p) r → IsRelation (kinds_at (behind p t)) r
  stays_behind p t h = relation_stays (kinds_at p) (kinds_at (behind p t)) r (all_stay statement p (p_filter r.node t ∷ [])) h

  pub filters_fit : (p : Plan) (ts : List Typed) → IsRelation (kinds_at p) r → AllByRecursion (IsTest row) ts → AllFit statement p (map (p_filter r.node) ts)
  filters_fit p [] h tests = tt
  filters_fit p (t ∷ ts) h tests = (filter_fits p t h tests.0, filters_fit (behind p t) ts (stays_behind p t h) tests.1)

  abbrev all_behind : Plan → List Typed → Plan
  all_behind p ts = p ++ map (node_of_statement statement) (map (p_filter r.node) ts)

  here_is : (p : Plan) (t : Typed) → IsRelation (kinds_at p) r → IsTest row t → IsRelation (kinds_at (behind p t)) (record { node = length p; columns = r.columns })
  here_is p t h test = record {
    rows = last_gives p (node_of_statement statement (p_filter r.node t)) (Some row) (filter_may p t h test).gives;
    columns = h.columns;
  }

  length_behind : (p : Plan) (t : Typed) → length (behind p t) ≡ length p + 1
  length_behind p t = length-append p (node_of_statement statement (p_filter r.node t) ∷ [])

  abbrev AreGiven : Plan → ℕ → List (List ℕ) → Type 0
  AreGiven p n aliases = AllByRecursion (λ g. IsRelation (kinds_at p) g.1) (relations_from n r.columns aliases)

  pub filters_give : (p : Plan) (ts : List Typed) (aliases : List (List ℕ)) → length ts ≡ length aliases → IsRelation (kinds_at p) r → AllByRecursion (IsTest row) ts
      → AreGiven (all_behind p ts) (length p) aliases
  filters_give p [] [] e h tests = tt
  filters_give p [] (alias ∷ aliases) e h tests = absurd (omega (arith, e))
  filters_give p (t ∷ ts) [] e h tests = absurd (omega (arith, e))
  filters_give p (t ∷ ts) (alias ∷ aliases) e h tests =
      let whole = behind_all statement p (p_filter r.node t) (map (p_filter r.node) ts) in
      let later = filters_give (behind p t) ts aliases (omega (arith, e)) (stays_behind p t h) tests.1 in
      subst (λ q. AreGiven q (length p) (alias ∷ aliases)) whole (
        relation_stays (kinds_at (behind p t)) (kinds_at (all_behind (behind p t) ts)) (record { node = length p; columns = r.columns })
            (all_stay statement (behind p t) (map (p_filter r.node) ts)) (here_is p t h tests.0),
        subst (λ n. AreGiven (all_behind (behind p t) ts) n aliases) (length_behind p t) later,
      )

-- ---- OTHERWISE

module _ (row : List KindTree) where
  or_kinds : (ts : List Typed) → AllByRecursion (IsTest row) ts → links_kind k_boolean (links_of (map or_link ts)) row [] ≡ Some k_boolean
  or_kinds [] h = refl
  or_kinds (t ∷ ts) h = rw (h.0.kind) (or_kinds ts h.1)

  or_plain : (ts : List Typed) → AllByRecursion (IsTest row) ts → links_write_lf (links_of (map or_link ts)) ≡ false
  or_plain [] h = refl
  or_plain (t ∷ ts) h = rw (h.0.plain) (or_plain ts h.1)

  any_test : (ts : List Typed) → AllByRecursion (IsTest row) ts → IsTest row (any_of ts)
  any_test [] h = record { kind = refl; plain = refl }
  any_test (t ∷ []) h = h.0
  any_test (t ∷ u ∷ ts) h = record { kind = rw (h.0.kind) (or_kinds (u ∷ ts) h.1); plain = rw (h.0.plain) (or_plain (u ∷ ts) h.1) }

  none_test : (ts : List Typed) → AllByRecursion (IsTest row) ts → IsTest row (x_not (any_of ts))
  none_test ts h = let any = any_test ts h in record { kind = rw (any.kind) refl; plain = any.plain }

  pub all_test : (ts : List Typed) (otherwise : Option (List ℕ)) → AllByRecursion (IsTest row) ts → AllByRecursion (IsTest row) (all_conditions ts otherwise)
  all_test ts None h = h
  all_test ts (Some alias) h = each-append (IsTest row) ts (x_not (any_of ts) ∷ []) h (none_test ts h, tt)

pub as_many : (ts : List Typed) (bs : List Branch) (otherwise : Option (List ℕ)) → length ts ≡ length bs → length (all_conditions ts otherwise) ≡ length (branch_aliases bs otherwise)
as_many ts bs None e = e ∙ sym (length-map bs (λ b. b.alias)) ∙ sym (ap length (append-nil (map (λ b. b.alias) bs)))
as_many ts bs (Some alias) e =
    length-append ts (x_not (any_of ts) ∷ []) ∙ ap (λ n. n + 1) (e ∙ sym (length-map bs (λ b. b.alias))) ∙ sym (length-append (map (λ b. b.alias) bs) (alias ∷ []))
