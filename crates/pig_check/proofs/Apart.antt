-- No two STOREs of a plan collide: the typing of each asks that it collides with none before it.
use Rattle.std.proofs.Common.{◌≡◌, ◌∙◌, ◌++◌, ◌||◌, ℕ, Bool, true, false, List, [], ◌∷◌, map, length, refl, sym, ap, subst, append-nil}
use Rattle.std.specs.Prelude.{Option, Some, None, bytes_eq}
use Rattle.std.specs.List.{AllByRecursion, IsDistinct, cons_option, list_any}
use Rattle.std.proofs.Math.Bool.{or_comm}
use Rattle.std.proofs.lemmas.Bool.{false_from_ne_true, false≢true}
use Rattle.std.proofs.lemmas.List.Elements.{filter_map-append}
use Rattle.std.proofs.lemmas.Slice.Eq.{bytes_eq-Decides}
use Rattle.pig_value.proofs.list_laws.Listing.{each-append, each_weaker}
use Rattle.pig_syntax.specs.declared.trees.Op.{Op}
use Rattle.pig_syntax.specs.declared.trees.Stmt.{Stmt}
use Rattle.pig_typed.specs.Typed.{Typed, TypedBlock}
use Rattle.pig_plan.specs.Plans.{Plan, PlanOp, p_assert, p_filter, p_store}
use Rattle.pig_relations.specs.Operators.{TypedOp, groups, groups_all, joins}
use Rattle.pig_relations.specs.Unions.{UnionInput}
use Rattle.pig_cube.specs.Laws.{cube_foreach, cube_group}
use Rattle.pig_check.specs.Operators.{OpTypes, distinct, filter, foreach, group, group_all, join, limit, load, order, rank}
use Rattle.pig_check.specs.Paths.{collide, is_within}
use Rattle.pig_check.proofs.Within.{within_itself}
use Rattle.pig_check.specs.Scripts.{IsPlanOf, TypesAll, next_types, none_left, plan_of_all}
use Rattle.pig_check.specs.States.{Added, NoStoresCollide, State, after, is_stored, node_of_statement, stored_path, stored_paths, stores_beside}
use Rattle.pig_check.specs.Statements.{StatementTypes, asserts, assigns, makes_cube, nothing, splits, stores, unites}
use Rattle.pig_check.specs.Unions.{widening_ops, widenings}

-- ---- paths

collides_itself : (path : List ℕ) → collide path path ≡ true
collides_itself path = rw (within_itself path) refl

-- paths that don't collide are two
are_two : (a b : List ℕ) → collide a b ≡ false → bytes_eq a b ≡ false
are_two a b h = false_from_ne_true (bytes_eq a b)
    (λ e. false≢true (sym h ∙ subst (λ c. collide a c ≡ true) ((bytes_eq-Decides a b).0 e) (collides_itself a)))

-- ---- lists in which no two collide

pub paths_differ : (paths : List (List ℕ)) → IsDistinct collide paths → IsDistinct bytes_eq paths
unfolding IsDistinct
paths_differ [] h = tt
paths_differ (path ∷ paths) h =
    (each_weaker (λ other. collide path other ≡ false) (λ other. bytes_eq path other ≡ false) (are_two path) paths h.0, paths_differ paths h.1)

-- a path behind those that it doesn't collide with
one_more : (paths : List (List ℕ)) (path : List ℕ) → IsDistinct collide paths → list_any (collide path) paths ≡ false → IsDistinct collide (paths ++ path ∷ [])
unfolding IsDistinct
one_more [] path h e = (tt, tt)
one_more (other ∷ paths) path h e =
    let parts = neither (collide path other) (list_any (collide path) paths) e in
    (each-append (λ q. collide other q ≡ false) paths (path ∷ []) h.0 (or_comm (is_within other path) (is_within path other) ∙ parts.0, tt), one_more paths path h.1 parts.1)
  where
    neither : (a b : Bool) → (a || b) ≡ false → (a ≡ false) × (b ≡ false)
    neither false b e = (refl, e)
    neither true b e = absurd (false≢true (sym e))

-- ---- the STOREs among nodes

stored_is : (path : List ℕ) (nodes : Plan) → is_stored path nodes ≡ list_any (collide path) (stored_paths nodes)
stored_is path [] = refl
stored_is path (node ∷ nodes) = by node.op (stored_is path nodes)
  where
    by : (o : PlanOp) → is_stored path nodes ≡ list_any (collide path) (stored_paths nodes)
        → (stores_beside path o || is_stored path nodes) ≡ list_any (collide path) (cons_option (stored_path o) (stored_paths nodes))
    by (p_store input other delimiter) e = ap (λ r. collide path other || r) e
    by o e = e

-- no STORE
abbrev StoresNone : PlanOp → Type 0
StoresNone o = stored_path o ≡ None

none_added : (n : ℕ) (os : List PlanOp) → AllByRecursion StoresNone os → stored_paths (map (node_of_statement n) os) ≡ []
none_added n [] h = refl
none_added n (o ∷ os) h = rw (h.0) (none_added n os h.1)

-- what is added makes the paths of STOREs those
paths_behind : (n : ℕ) (p : Plan) (os : List PlanOp) → stored_paths (p ++ map (node_of_statement n) os) ≡ stored_paths p ++ stored_paths (map (node_of_statement n) os)
paths_behind n p os = filter_map-append (λ node. stored_path node.op) p (map (node_of_statement n) os)

still_none : (n : ℕ) (p : Plan) (os : List PlanOp) → AllByRecursion StoresNone os → NoStoresCollide p → NoStoresCollide (p ++ map (node_of_statement n) os)
still_none n p os none h =
    let same : stored_paths (p ++ map (node_of_statement n) os) ≡ stored_paths p =
    paths_behind n p os ∙ ap (λ l. stored_paths p ++ l) (none_added n os none) ∙ append-nil (stored_paths p) in
    subst (IsDistinct collide) (sym same) h

-- ---- statements

op_stores_none : {s : State} {o : Op} {t : TypedOp} → OpTypes s o t → StoresNone t.op
op_stores_none (load h e g w v) = refl
op_stores_none (filter e h) = refl
op_stores_none (foreach e h) = refl
op_stores_none (group_all (groups_all e g)) = refl
op_stores_none (group (groups h g)) = refl
op_stores_none (join (joins j e h g)) = refl
op_stores_none (distinct e) = refl
op_stores_none (order e h) = refl
op_stores_none (limit e) = refl
op_stores_none (rank e h w) = refl

filters_store_none : (node : ℕ) (ts : List Typed) → AllByRecursion StoresNone (map (p_filter node) ts)
filters_store_none node [] = tt
filters_store_none node (t ∷ ts) = (refl, filters_store_none node ts)

widening_stores_none : (node : ℕ) (w : Option TypedBlock) → AllByRecursion StoresNone (widening_ops node w)
widening_stores_none node None = tt
widening_stores_none node (Some block) = (refl, tt)

widenings_store_none : (is : List UnionInput) → AllByRecursion StoresNone (widenings is)
widenings_store_none [] = tt
widenings_store_none (i ∷ is) = each-append StoresNone (widening_ops i.node i.widening) (widenings is) (widening_stores_none i.node i.widening) (widenings_store_none is)

statement_keeps : (n : ℕ) {s : State} {st : Stmt} {added : Added} → StatementTypes s st added → NoStoresCollide s.nodes → NoStoresCollide (after n s added).nodes
statement_keeps n {s = s} nothing none = still_none n s.nodes [] tt none
statement_keeps n {s = s} (assigns {t = t} h) none = still_none n s.nodes (t.op ∷ []) (op_stores_none h, tt) none
statement_keeps n {s = s} (unites {t = t} h) none =
    still_none n s.nodes _ (each-append StoresNone (widenings t.inputs) _ (widenings_store_none t.inputs) (refl, tt)) none
statement_keeps n {s = s} (makes_cube {rollup = rollup} {t = t} h) none =
    still_none n s.nodes (cube_foreach t.dims t.width rollup t.node ∷ cube_group t.dims (length s.nodes) ∷ []) (refl, (refl, tt)) none
statement_keeps n {s = s} (splits {r = r} e h) none = still_none n s.nodes _ (filters_store_none r.node _) none
statement_keeps n {s = s} (asserts {message = message} {r = r} {t = t} e h) none = still_none n s.nodes (p_assert r.node t message ∷ []) (refl, tt) none
statement_keeps n {s = s} (stores {path = path} {r = r} {d = d} e h g w v) none =
    subst (IsDistinct collide) (sym (paths_behind n s.nodes (p_store r.node path d ∷ [])))
    (one_more (stored_paths s.nodes) path none (sym (stored_is path s.nodes) ∙ g))

all_keep : {n : ℕ} {s t : State} {ss : List Stmt} → TypesAll n s ss t → NoStoresCollide s.nodes → NoStoresCollide t.nodes
all_keep none_left none = none
all_keep {n = n} (next_types h hs) none = all_keep hs (statement_keeps n h none)

pub none_collide : {ss : List Stmt} {p : Plan} → IsPlanOf ss p → NoStoresCollide p
unfolding IsDistinct
none_collide (plan_of_all h) = all_keep h tt
