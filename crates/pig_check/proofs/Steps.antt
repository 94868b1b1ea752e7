-- What a typed statement adds fits the plan in turn, and the state behind it is sound again.
use Rattle.std.proofs.Common.{◌≡◌, ◌+◌, ◌++◌, ℕ, List, [], ◌∷◌, map, length, suc, refl, sym, ap, subst, arith, append_assoc, append-nil}
use Rattle.std.specs.Prelude.{Option, None, All}
use Rattle.std.specs.List.{AllByRecursion}
use Rattle.std.specs.declared.result.Result.TheVariants.{Ok}
use Rattle.std.proofs.lemmas.List.Elements.{All-head, All-tail}
use Rattle.pig_value.proofs.list_laws.Listing.{each-append, each_weaker}
use Rattle.pig_schema.specs.FieldTrees.{tree_kind}
use Rattle.pig_syntax.specs.Formed.{BranchFormed, StmtFormed}
use Rattle.pig_syntax.specs.declared.trees.Branch.{Branch}
use Rattle.pig_syntax.specs.declared.trees.Stmt.{Stmt}
use Rattle.pig_typed.specs.Typed.{Typed}
use Rattle.pig_plan.specs.NodeKinds.{Before, kinds_at}
use Rattle.pig_plan.specs.Plans.{Plan, PlanOp, p_assert, p_store}
use Rattle.pig_typing.specs.Columns.{AreColumns}
use Rattle.pig_relations.specs.Aliases.{Aliases, IsRelation, IsTable, RelationTree}
use Rattle.pig_relations.proofs.Tables.{table_behind, table_stays}
use Rattle.pig_check.specs.Splits.{AllConditions, more_branches, no_branches}
use Rattle.pig_check.specs.States.{Added, AllFit, IsEarlier, IsSound, State, after, node_of_statement, row_of}
use Rattle.pig_check.specs.Statements.{StatementTypes, asserts, assigns, makes_cube, nothing, splits, statement_of, stores, unites}
use Rattle.pig_check.proofs.Filters.{IsTest, all_test, assert_may, as_many, filters_fit, filters_give}
use Rattle.pig_check.proofs.Grown.{MayAdd, all_stay, it_fits, last_gives, no_twins}
use Rattle.pig_check.proofs.Unites.{union_fits, union_given}
use Rattle.pig_check.proofs.CubeFits.{cube_fits, cube_given}
use Rattle.pig_check.proofs.Told.{IsStatementTold, statement_told}
use Rattle.pig_check.proofs.Sound.{condition_tests, op_made}

table_all : (before : Before) (aliases given : Aliases) → IsTable before aliases → AllByRecursion (λ g. IsRelation before g.1) given → IsTable before (aliases ++ given)
table_all before aliases [] t h = subst (IsTable before) (sym (append-nil aliases)) t
table_all before aliases (g ∷ given) t h =
    subst (IsTable before) (append_assoc aliases (g ∷ []) given) (table_all before (aliases ++ g ∷ []) given (table_behind before aliases g.0 g.1 t h.0) h.1)

new_earlier : (statement : ℕ) (os : List PlanOp) → AllByRecursion (IsEarlier (statement + 1)) (map (node_of_statement statement) os)
new_earlier statement [] = tt
new_earlier statement (o ∷ os) = (omega (arith), new_earlier statement os)

pub all_earlier : (statement : ℕ) (p : Plan) (os : List PlanOp) → AllByRecursion (IsEarlier statement) p → AllByRecursion (IsEarlier (statement + 1)) (p ++ map (node_of_statement statement) os)
all_earlier statement p os h =
    each-append (IsEarlier (statement + 1)) p (map (node_of_statement statement) os)
    (each_weaker (IsEarlier statement) (IsEarlier (statement + 1)) (λ node below. omega (arith, below)) p h) (new_earlier statement os)

module _ (statement : ℕ) (s : State) (sound : IsSound statement s) where
  abbrev AreGiven : Added → Type 0
  AreGiven added = AllByRecursion (λ g. IsRelation (kinds_at (after statement s added).nodes) g.1) added.given

  -- what is added fits, and the relations that it gives have their kinds
  pub record IsStep (added : Added) : Type 0 where
    pub fit : AllFit statement s.nodes added.ops
    pub given : AreGiven added

  pub still_sound : (added : Added) → AreGiven added → IsSound (statement + 1) (after statement s added)
  still_sound added h = record {
    table = table_all (kinds_at (after statement s added).nodes) s.aliases added.given
        (table_stays (kinds_at s.nodes) (kinds_at (after statement s added).nodes) s.aliases (all_stay statement s.nodes added.ops) sound.table) h;
    earlier = all_earlier statement s.nodes added.ops sound.earlier;
  }

  -- an operator that may be added alone
  one_fits : (o : PlanOp) (given : Option _) → MayAdd s.nodes o given → AllFit statement s.nodes (o ∷ [])
  one_fits o given h = (it_fits statement s.nodes o given h (no_twins statement o s.nodes sound.earlier), tt)

  branches_test : (r : RelationTree) → AreColumns r.columns → (bs : List Branch) (ts : List Typed) → All BranchFormed bs → AllConditions (row_of r.columns) bs ts
      → AllByRecursion (IsTest (map tree_kind r.columns)) ts × (length ts ≡ length bs)
  branches_test r inside bs ts formed no_branches = (tt, refl)
  branches_test r inside bs ts formed (more_branches {b = b} {bs = more} {t = t} {ts = others} h g) =
      let later = branches_test r inside more others (All-tail BranchFormed b more formed) g in
      ((condition_tests r b.cond t inside (All-head BranchFormed b more formed).cond h, later.0), ap suc later.1)

  pub statement_steps : (st : Stmt) (added : Added) → StmtFormed st → StatementTypes s st added → IsStep added
  statement_steps st added formed nothing = record { fit = tt; given = tt }
  statement_steps st added formed (assigns {o = o} {t = t} h) =
      let made = op_made s o t sound.table formed.1 h in
      record {
        fit = one_fits t.op _ made.may;
        given = (record { rows = last_gives s.nodes (node_of_statement statement t.op) _ made.may.gives; columns = made.columns }, tt);
      }
  statement_steps st added formed (unites {onschema = onschema} {names = names} {t = t} h) =
      record {
        fit = union_fits statement s.nodes s.aliases sound.table onschema names t h;
        given = (union_given statement s.nodes s.aliases sound.table onschema names t h, tt);
      }
  statement_steps st added formed (makes_cube {alias = alias} {from = from} {rollup = rollup} {dims = dims} {t = t} h) =
      record {
        fit = cube_fits statement s.nodes s.aliases sound.table alias rollup from dims t h;
        given = (cube_given statement s.nodes s.aliases sound.table alias rollup from dims t h, tt);
      }
  statement_steps st added formed (splits {from = from} {bs = bs} {otherwise = otherwise} {r = r} {ts = ts} e h) =
      let is = sound.table from r e in
      let tests = branches_test r is.columns bs ts formed.1.each h in
      let all = all_test (map tree_kind r.columns) ts otherwise tests.0 in
      record {
        fit = filters_fit statement r s.nodes _ is all;
        given = filters_give statement r s.nodes _ _ (as_many ts bs otherwise tests.1) is all;
      }
  statement_steps st added formed (stores {from = from} {path = path} {r = r} {d = d} e h g w v) =
      let is = sound.table from r e in
      record { fit = one_fits (p_store r.node path d) None (record { gives = rw (is.rows) refl; plain = refl }); given = tt }
  statement_steps st added formed (asserts {from = from} {cond = cond} {message = message} {r = r} {t = t} e h) =
      let is = sound.table from r e in
      let may = assert_may statement r s.nodes t message is (condition_tests r cond t is.columns formed.1 h) in
      record {
        fit = one_fits (p_assert r.node t message) _ may;
        given = (record { rows = last_gives s.nodes (node_of_statement statement (p_assert r.node t message)) _ may.gives; columns = is.columns }, tt);
      }

-- ---- by what is told of a statement

module _ (statement : ℕ) (s : State) (st : Stmt) (added : Added) (sound : IsSound statement s) (formed : StmtFormed st) (told : statement_of s st ≡ Ok added) where
  steps : IsStep statement s sound added
  steps = statement_steps statement s sound st added formed (subst (IsStatementTold s st) told (statement_told s st))

  pub step_fits : AllFit statement s.nodes added.ops
  step_fits = steps.fit

  pub step_sound : (t : State) → t ≡ after statement s added → IsSound (statement + 1) t
  step_sound t e = subst (IsSound (statement + 1)) (sym e) (still_sound statement s sound added steps.given)
