-- What is typed has its kind, over the kinds of the columns and of the nested aliases.
use Rattle.std.proofs.Common.{◌≡◌, ◌∙◌, ℕ, suc, ◌+◌, List, [], ◌∷◌, ◌++◌, map, length, refl, sym, ap, subst, Bool, true, false, inl, inr, arith}
use Rattle.std.specs.Prelude.{◌⊎◌, ◌==◌, ⊤, Option, Some, None, slice_get, if◌then◌else◌}
use Rattle.std.specs.Option.{option_and_then, option_map}
use Rattle.std.specs.Str.{bytes_eq}
use Rattle.pig_value.specs.Casts.{may_cast}
use Rattle.std.specs.List.{list_all}
use Rattle.pig_value.specs.FunctionKinds.{function_kind, tobag_kind}
use Rattle.pig_value.specs.Kinds.{kind_eq}
use Rattle.pig_value.specs.Trees.{KindTree, KindTrees, k_boolean, k_int, k_long, k_chars, k_bytes, k_tuple, k_bag, k_map, no_kinds, more_kinds, kinds_of, kinds_list, look_kind}
use Rattle.pig_value.specs.declared.functions.Function.{Function}
use Rattle.pig_value.specs.declared.functions.Function.TheVariants as f
use Rattle.pig_value.specs.declared.operators.ChainOp.{ChainOp}
use Rattle.pig_schema.specs.FieldTrees.{FieldTree, FieldTrees, a_field, inner_of, inner_list, tree_name, tree_kind, tree_inner, AreInner, HasInner, IsColumn}
use Rattle.pig_syntax.specs.ExprTrees.{ExprForm, LinkForms, ExprForms, type_form}
use Rattle.pig_syntax.specs.declared.trees.PostStep.{PostStep}
use Rattle.pig_typed.specs.ExprKinds.{args_kinds, chain_kind, expr_kind, links_kind, project_kind, picked_kinds}
use Rattle.pig_typed.specs.Typed.{Typed, links_of, args_of}
use Rattle.pig_typing.specs.declared.calls.Casting.{Casting}
use Rattle.pig_typing.specs.declared.calls.Casting.TheVariants as c
use Rattle.pig_typing.specs.Calls.{all_held, casting, cast_by, cast_maybe, kind_after, given, one_held, tuple_width}
use Rattle.pig_typing.specs.Columns.{AreColumns, IsPlace, Place, locals_of, place_row, latest_from, later_or, named_here}
use Rattle.pig_typing.specs.Joins.{Join, cast_if, chained}
use Rattle.pig_typing.specs.Parts.{Typing, Picks, typed_of, typed_column, kind_in, pick_places, picked, projected, renamed, inner_columns, values_column, Steps, projects, looks, Walks, ends, goes}
use Rattle.pig_typing.specs.Typing.{Types, Links, Args, ChainSoFar, begun, after, chain_typing, call_kind, kinds_as_given, type_int, type_long, type_text, type_bool, type_null, type_local, type_named, type_numbered, type_chain, type_compare, type_is_null, type_not, type_minus, type_cast, type_post, type_call, type_choose, links_end, links_go, args_end, args_go}
use Rattle.pig_typing.specs.Written.{of_fields}
use Rattle.pig_typing.proofs.Inside.{all_inner, inner_all, inner_kinds, unnamed_field, written_field_is, meant_field, meant_kind, picked_fields, picked_kind}
use Rattle.pig_typing.proofs.Joined.{side, cast_kind_of, chosen_is_column, compare_holds, choose_holds, condition_holds, Settled, Chained, chained_holds}

-- a typing has its kind, and inside what is of it
pub record Holds (s : Place) (p : Typing) : Type 0 where
  pub kind : expr_kind (typed_of p) (place_row s) (locals_of s) ≡ Some (kind_in p)
  pub field : IsColumn (typed_column p)

-- ---- nested aliases

abbrev IsLatest : List (List ℕ × FieldTree) → ℕ → ℕ × FieldTree → Type 0
IsLatest ls n found = (i : ℕ) × (found.0 ≡ n + i) × (slice_get (map (λ l. tree_kind l.1) ls) i ≡ Some (tree_kind found.1)) × IsColumn found.1

latest_holds : (n : ℕ) (name : List ℕ) (ls : List (List ℕ × FieldTree)) (found : ℕ × FieldTree) → AreColumns (map (λ l. l.1) ls) → latest_from n name ls ≡ Some found → IsLatest ls n found
latest_holds n name [] found h e = absurd (cc)
latest_holds n name (l ∷ ls) found h e = by (λ k. latest_holds (n + 1) name ls found h.1 k) (latest_from (n + 1) name ls) refl e
  where
    here : (b : Bool) → (if b then Some (n, l.1) else None) ≡ Some found → IsLatest (l ∷ ls) n found
    here true e = let same : (n, l.1) ≡ found = cc in subst (IsLatest (l ∷ ls) n) same (0, omega arith, refl, h.0)
    here false e = absurd (cc)

    by : (latest_from (n + 1) name ls ≡ Some found → IsLatest ls (n + 1) found) → (o : Option (ℕ × FieldTree)) → latest_from (n + 1) name ls ≡ o
        → later_or o (named_here name n l) ≡ Some found → IsLatest (l ∷ ls) n found
    by rest (Some later) k e =
        let w = rest (k ∙ e) in
        let i = w.0 in let at = w.1 in
        (suc i, omega (arith, at), w.2, w.3)
    by rest None k e = here (bytes_eq l.0 name) e

-- ---- chains

abbrev HoldsSoFar : Place → ChainSoFar → Type 0
HoldsSoFar s c = (k : KindTree) × (expr_kind c.first (place_row s) (locals_of s) ≡ Some k) × (links_kind k (links_of c.links) (place_row s) (locals_of s) ≡ Some c.kind) × ((c.links ≡ []) ⊎ Settled c.kind)

-- behind the first link, where that gives a kind
first_link : (s : Place) (x : ChainOp × Typed) (ls ms : List (ChainOp × Typed)) (k m n : KindTree)
    → ((next : KindTree) → links_kind next (links_of ls) (place_row s) (locals_of s) ≡ Some m → links_kind next (links_of ms) (place_row s) (locals_of s) ≡ Some n)
    → links_kind k (links_of (x ∷ ls)) (place_row s) (locals_of s) ≡ Some m → links_kind k (links_of (x ∷ ms)) (place_row s) (locals_of s) ≡ Some n
first_link s x ls ms k m n more = by (expr_kind x.1 (place_row s) (locals_of s))
  where
    on : (r : Option KindTree) → option_and_then (λ next. links_kind next (links_of ls) (place_row s) (locals_of s)) r ≡ Some m
        → option_and_then (λ next. links_kind next (links_of ms) (place_row s) (locals_of s)) r ≡ Some n
    on None e = absurd (cc)
    on (Some next) e = more next e

    by : (r : Option KindTree) → option_and_then (λ j. option_and_then (λ next. links_kind next (links_of ls) (place_row s) (locals_of s)) (chain_kind x.0 k j)) r ≡ Some m
        → option_and_then (λ j. option_and_then (λ next. links_kind next (links_of ms) (place_row s) (locals_of s)) (chain_kind x.0 k j)) r ≡ Some n
    by None e = absurd (cc)
    by (Some j) e = on (chain_kind x.0 k j) e

links_append : (s : Place) (ls : List (ChainOp × Typed)) (o : ChainOp) (u : Typed) (k m l n : KindTree) → links_kind k (links_of ls) (place_row s) (locals_of s) ≡ Some m
    → expr_kind u (place_row s) (locals_of s) ≡ Some l → chain_kind o m l ≡ Some n → links_kind k (links_of (ls ++ (o, u) ∷ [])) (place_row s) (locals_of s) ≡ Some n
links_append s [] o u k m l n e h g = let same : k ≡ m = cc in subst (λ x. links_kind x (links_of ((o, u) ∷ [])) (place_row s) (locals_of s) ≡ Some n) (sym same) (rw (h, g) refl)
links_append s (x ∷ ls) o u k m l n e h g = first_link s x ls (ls ++ (o, u) ∷ []) k m n (λ next e'. links_append s ls o u next m l n e' h g) e

uncast_first : (b : Bool) (k : KindTree) (t : Typed) → b ≡ false → cast_if b k t ≡ t
uncast_first false k t e = refl
uncast_first true k t e = absurd (cc)

uncast_side : (b : Bool) (to k : KindTree) → b ≡ false → side b to k ≡ k
uncast_side false to k e = refl
uncast_side true to k e = absurd (cc)

after_holds : (s : Place) (c : ChainSoFar) (o : ChainOp) (j : Join) (p : Typing) → HoldsSoFar s c → Holds s p → chained o c.kind (kind_in p) ≡ Some j → HoldsSoFar s (after c o j (typed_of p))
after_holds s c o j p w h e = by w.3
  where
    both : Chained o c.kind (kind_in p) j
    both = chained_holds o c.kind (kind_in p) j e

    right : expr_kind (cast_if j.right j.kind (typed_of p)) (place_row s) (locals_of s) ≡ Some (side j.right j.kind (kind_in p))
    right = cast_kind_of (place_row s) (locals_of s) j.right j.kind (kind_in p) (typed_of p) both.both.right h.kind

    by : (c.links ≡ []) ⊎ Settled c.kind → HoldsSoFar s (after c o j (typed_of p))
    by (inl none) =
        let alone : links_kind w.0 (links_of []) (place_row s) (locals_of s) ≡ Some c.kind = subst (λ ls. links_kind w.0 (links_of ls) (place_row s) (locals_of s) ≡ Some c.kind) none w.2 in
        let same : w.0 ≡ c.kind = cc in
        let first : expr_kind c.first (place_row s) (locals_of s) ≡ Some c.kind = w.1 ∙ ap Some same in
        let gives : links_kind (side j.left j.kind c.kind) (links_of ([] ++ (o, cast_if j.right j.kind (typed_of p)) ∷ [])) (place_row s) (locals_of s) ≡ Some j.kind =
        links_append s [] o (cast_if j.right j.kind (typed_of p)) (side j.left j.kind c.kind) (side j.left j.kind c.kind) (side j.right j.kind (kind_in p)) j.kind refl right both.gives in (
          side j.left j.kind c.kind,
          cast_kind_of (place_row s) (locals_of s) j.left j.kind c.kind c.first both.both.left first,
          subst (λ ls. links_kind (side j.left j.kind c.kind) (links_of (ls ++ (o, cast_if j.right j.kind (typed_of p)) ∷ [])) (place_row s) (locals_of s) ≡ Some j.kind) (sym none) gives,
          inr both.settled,
        )
    by (inr settled) =
        let stays = both.stays settled in
        let gives : chain_kind o c.kind (side j.right j.kind (kind_in p)) ≡ Some j.kind = subst (λ k. chain_kind o k (side j.right j.kind (kind_in p)) ≡ Some j.kind) (uncast_side j.left j.kind c.kind stays) both.gives in (
          w.0,
          rw (uncast_first j.left j.kind c.first stays) w.1,
          links_append s c.links o (cast_if j.right j.kind (typed_of p)) w.0 c.kind (side j.right j.kind (kind_in p)) j.kind w.2 right gives,
          inr both.settled,
        )

chain_holds : (s : Place) (whole : ChainSoFar) → HoldsSoFar s whole → Holds s (chain_typing whole)
chain_holds s whole w = record { kind = rw (w.1) w.2; field = unnamed_field whole.kind }

-- ---- steps

part_kind_holds : (ns : List ℕ) (single : Bool) (c d : FieldTree) (columns picks : List FieldTree) → IsColumn c → inner_columns c ≡ Some columns
    → length ns ≡ length picks → picked_kinds ns (map tree_kind columns) ≡ Some (map tree_kind picks) → projected single (tree_kind c) picks ≡ Some d
    → project_kind ns single (tree_kind c) ≡ Some (tree_kind d)
part_kind_holds ns single (a_field name k_boolean inner) d columns picks h e l is made = absurd (cc)
part_kind_holds ns single (a_field name k_int inner) d columns picks h e l is made = absurd (cc)
part_kind_holds ns single (a_field name k_long inner) d columns picks h e l is made = absurd (cc)
part_kind_holds ns single (a_field name k_chars inner) d columns picks h e l is made = absurd (cc)
part_kind_holds ns single (a_field name k_bytes inner) d columns picks h e l is made = absurd (cc)
part_kind_holds ns single (a_field name (k_map k) inner) d columns picks h e l is made = absurd (cc)
part_kind_holds ns single (a_field name (k_tuple ks) inner) d columns picks h e l is made =
    let same : inner_list inner ≡ columns = cc in
    let kinds : picked_kinds ns (kinds_list ks) ≡ Some (map tree_kind picks) = subst (λ x. picked_kinds ns x ≡ Some (map tree_kind picks)) (ap (map tree_kind) (sym same) ∙ inner_kinds ks inner h) is in
    by ns single picks l kinds made
  where
    by : (ns : List ℕ) (single : Bool) (picks : List FieldTree) → length ns ≡ length picks → picked_kinds ns (kinds_list ks) ≡ Some (map tree_kind picks)
        → projected single (k_tuple ks) picks ≡ Some d → project_kind ns single (k_tuple ks) ≡ Some (tree_kind d)
    by (n ∷ []) true (x ∷ []) l kinds made = let same : x ≡ d = cc in rw (kinds) (ap (λ y. Some (tree_kind y)) same)
    by (n ∷ ns) true (x ∷ y ∷ picks) l kinds made = absurd (cc)
    by ns true [] l kinds made = absurd (cc)
    by [] true (x ∷ picks) l kinds made = absurd (cc)
    by (n ∷ m ∷ ns) true (x ∷ []) l kinds made = absurd (cc)
    by (n ∷ []) false (x ∷ picks) l kinds made = rw (kinds) (ap (option_map tree_kind) made)
    by (n ∷ m ∷ ns) false (x ∷ picks) l kinds made = rw (kinds) (ap (option_map tree_kind) made)
    by [] false (x ∷ picks) l kinds made = absurd (cc)
    by ns false [] l kinds made = absurd (cc)
part_kind_holds ns single (a_field name (k_bag ks) inner) d columns picks h e l is made =
    let same : inner_list inner ≡ columns = cc in
    let kinds : picked_kinds ns (kinds_list ks) ≡ Some (map tree_kind picks) = subst (λ x. picked_kinds ns x ≡ Some (map tree_kind picks)) (ap (map tree_kind) (sym same) ∙ inner_kinds ks inner h) is in
    by ns single picks l kinds made
  where
    by : (ns : List ℕ) (single : Bool) (picks : List FieldTree) → length ns ≡ length picks → picked_kinds ns (kinds_list ks) ≡ Some (map tree_kind picks)
        → projected single (k_bag ks) picks ≡ Some d → project_kind ns single (k_bag ks) ≡ Some (tree_kind d)
    by (n ∷ []) true (x ∷ []) l kinds made = rw (kinds) (ap (option_map tree_kind) made)
    by (n ∷ ns) true (x ∷ y ∷ picks) l kinds made = absurd (cc)
    by ns true [] l kinds made = absurd (cc)
    by [] true (x ∷ picks) l kinds made = absurd (cc)
    by (n ∷ m ∷ ns) true (x ∷ []) l kinds made = absurd (cc)
    by (n ∷ []) false (x ∷ picks) l kinds made = rw (kinds) (ap (option_map tree_kind) made)
    by (n ∷ m ∷ ns) false (x ∷ picks) l kinds made = rw (kinds) (ap (option_map tree_kind) made)
    by [] false (x ∷ picks) l kinds made = absurd (cc)
    by ns false [] l kinds made = absurd (cc)

part_field : (single : Bool) (k : KindTree) (d : FieldTree) (picks : List FieldTree) → AreColumns picks → projected single k picks ≡ Some d → IsColumn d
part_field true (k_tuple ks) d (x ∷ []) h made = let same : x ≡ d = cc in subst IsColumn same h.0
part_field true (k_bag ks) d (x ∷ []) h made = let same : renamed (tree_name x) (of_fields k_bag (x ∷ [])) ≡ d = cc in subst IsColumn same (all_inner (x ∷ []) h)
part_field false (k_tuple ks) d (x ∷ picks) h made = let same : of_fields k_tuple (x ∷ picks) ≡ d = cc in subst IsColumn same (all_inner (x ∷ picks) h)
part_field false (k_bag ks) d (x ∷ picks) h made = let same : of_fields k_bag (x ∷ picks) ≡ d = cc in subst IsColumn same (all_inner (x ∷ picks) h)
part_field single k d picks h made = absurd (cc)

columns_of : (c : FieldTree) (columns : List FieldTree) → IsColumn c → inner_columns c ≡ Some columns → AreColumns columns
columns_of (a_field name (k_tuple ks) inner) columns h e = let same : inner_list inner ≡ columns = cc in subst AreColumns same (inner_all ks inner h)
columns_of (a_field name (k_bag ks) inner) columns h e = let same : inner_list inner ≡ columns = cc in subst AreColumns same (inner_all ks inner h)
columns_of (a_field name k inner) columns h e = absurd (cc)

same_length : (picks : Picks) → length (pick_places picks) ≡ length (picked picks)
same_length [] = refl
same_length (p ∷ picks) = ap suc (same_length picks)

value_kind : (c d : FieldTree) → IsColumn c → values_column c ≡ Some d → (look_kind (tree_kind c) ≡ Some (tree_kind d)) × IsColumn d
value_kind (a_field name (k_map k) inner) d h e = let same : a_field None k inner ≡ d = cc in (ap (λ x. Some (tree_kind x)) same, subst IsColumn same h)
value_kind (a_field name k inner) d h e = absurd (cc)

step_holds : (s : Place) (p q : Typing) (step : PostStep) → Holds s p → Steps p step q → Holds s q
step_holds s p q step h (projects {columns = columns} {ps = picks} {single = single} {d = d} e g made within) =
    record {
      kind = rw (h.kind) (part_kind_holds (pick_places picks) single (typed_column p) d columns (picked picks) h.field e (same_length picks) (picked_kind g) made);
      field = part_field single (kind_in p) d (picked picks) (picked_fields (columns_of (typed_column p) columns h.field e) g) made;
    }
step_holds s p q step h (looks {d = d} e) = let v = value_kind (typed_column p) d h.field e in record { kind = rw (h.kind) v.0; field = v.1 }

walk_holds : (s : Place) (p q : Typing) (steps : List PostStep) → Holds s p → Walks p steps q → Holds s q
walk_holds s p q steps h ends = h
walk_holds s p q steps h (goes {q = m} {s = step} {ss = more} g w) = walk_holds s m q more (step_holds s p m step h g) w

-- ---- calls

abbrev AllHold : Place → List Typing → Type 0
AllHold s [] = ⊤
AllHold s (p ∷ ps) = Holds s p × AllHold s ps

casts_may : (how : Casting) (k to : KindTree) → cast_by how k ≡ Some to → may_cast k to ≡ true
casts_may c.AsText k_bytes to e = refl
casts_may c.AsLong k_int to e = let same : k_long ≡ to = cc in subst (λ x. may_cast k_int x ≡ true) same refl
casts_may how k to e = absurd (cc)

arg_kind : (s : Place) (how : Casting) (p : Typing) → Holds s p → expr_kind (cast_maybe (cast_by how (kind_in p)) (typed_of p)) (place_row s) (locals_of s) ≡ Some (kind_after (cast_by how (kind_in p)) (kind_in p))
arg_kind s how p h = by (cast_by how (kind_in p)) refl
  where
    by : (o : Option KindTree) → cast_by how (kind_in p) ≡ o → expr_kind (cast_maybe o (typed_of p)) (place_row s) (locals_of s) ≡ Some (kind_after o (kind_in p))
    by None e = h.kind
    by (Some to) e = rw (h.kind, casts_may how (kind_in p) to e) refl

args_hold : (s : Place) (how : Casting) (ps : List Typing) → AllHold s ps
    → args_kinds (args_of (map (λ p. cast_maybe (cast_by how (kind_in p)) (typed_of p)) ps)) (place_row s) (locals_of s) ≡ Some (map (λ p. kind_after (cast_by how (kind_in p)) (kind_in p)) ps)
args_hold s how [] h = refl
args_hold s how (p ∷ ps) h = rw (arg_kind s how p h.0, args_hold s how ps h.1) refl

as_it_is : (ps : List Typing) → map (λ p. kind_after (cast_by c.AsItIs (kind_in p)) (kind_in p)) ps ≡ map tree_kind (map typed_column ps)
as_it_is [] = refl
as_it_is (p ∷ ps) = ap (λ ks. kind_in p ∷ ks) (as_it_is ps)

columns_hold : (s : Place) (ps : List Typing) → AllHold s ps → AreColumns (map typed_column ps)
columns_hold s [] h = tt
columns_hold s (p ∷ ps) h = (h.0.field, columns_hold s ps h.1)

tuple_given : (kinds : List KindTree) (k : KindTree) → function_kind f.ToTuple kinds ≡ Some k → k ≡ k_tuple (kinds_of kinds)
tuple_given [] k e = absurd (cc)
tuple_given (l ∷ kinds) k e = cc

tokens_given : (kinds : List KindTree) (k : KindTree) → function_kind f.Tokenize kinds ≡ Some k → k ≡ k_bag (more_kinds k_chars no_kinds)
tokens_given (k_chars ∷ []) k e = cc
tokens_given kinds k e = absurd (cc)

-- inside a bag of what a value is cast to, where it is, stands what is of its kind
held_alone : (l : KindTree) (inner : FieldTrees) (more : List KindTree) (k : KindTree)
    → HasInner l inner → (if list_all (kind_eq l) more then Some (k_bag (more_kinds l no_kinds)) else None) ≡ Some k → HasInner k (one_held k inner)
held_alone l inner more k h = by (list_all (kind_eq l) more)
  where
    by : (b : Bool) → (if b then Some (k_bag (more_kinds l no_kinds)) else None) ≡ Some k → HasInner k (one_held k inner)
    by true e = let is : k_bag (more_kinds l no_kinds) ≡ k = cc in subst (λ x. HasInner x (one_held x inner)) is (refl, h, refl)
    by false e = absurd (cc)

tuples_held : (ks : KindTrees) (inner : FieldTrees) (fits alike : Bool) (k : KindTree)
    → AreInner ks inner → (if fits then (if alike then Some (k_bag ks) else None) else None) ≡ Some k → HasInner k inner
tuples_held ks inner true true k h e = let is : k_bag ks ≡ k = cc in subst (λ x. HasInner x inner) is h
tuples_held ks inner true false k h e = absurd (cc)
tuples_held ks inner false alike k h e = absurd (cc)

held : (width : Option ℕ) (l : KindTree) (inner : FieldTrees) (more : List KindTree) (k : KindTree)
    → HasInner l inner → tobag_kind width (l ∷ more) ≡ Some k → HasInner k (all_held l inner k)
held None k_boolean inner more k h e = held_alone k_boolean inner more k h e
held None k_int inner more k h e = held_alone k_int inner more k h e
held None k_long inner more k h e = held_alone k_long inner more k h e
held None k_chars inner more k h e = held_alone k_chars inner more k h e
held None k_bytes inner more k h e = held_alone k_bytes inner more k h e
held None (k_tuple ks) inner more k h e = absurd (cc)
held None (k_bag ks) inner more k h e = held_alone (k_bag ks) inner more k h e
held None (k_map l) inner more k h e = held_alone (k_map l) inner more k h e
held (Some width) (k_tuple ks) inner more k h e = tuples_held ks inner (length (kinds_list ks) == width) (list_all (kind_eq (k_tuple ks)) more) k h e
held (Some width) l inner more k h e = absurd (cc)

bag_held : (how : Casting) (width : Option ℕ) (l : KindTree) (inner : FieldTrees) (more : List KindTree) (k : KindTree)
    → HasInner l inner → tobag_kind width (kind_after (cast_by how l) l ∷ more) ≡ Some k → HasInner k (all_held l inner k)
bag_held c.AsText width k_bytes inner more k h e = held width k_chars inner more k h e
bag_held c.AsLong width k_int inner more k h e = held width k_long inner more k h e
bag_held how width l inner more k h e = held width l inner more k h e

given_kind : (g : Function) (k : KindTree) (columns : List FieldTree) → tree_kind (given g k columns) ≡ k
given_kind f.ToTuple k columns = refl
given_kind f.Tokenize k columns = refl
given_kind (f.ToBag width) k [] = refl
given_kind (f.ToBag width) k (c ∷ columns) = refl
given_kind g k columns = refl

given_field : (s : Place) (g : Function) (ps : List Typing) (k : KindTree) → AllHold s ps → call_kind g ps ≡ Some k → IsColumn (given g k (map typed_column ps))
given_field s f.ToTuple ps k h e =
    let kinds = as_it_is ps in
    let is : k ≡ k_tuple (kinds_of (map tree_kind (map typed_column ps))) = tuple_given _ k e ∙ ap (λ ks. k_tuple (kinds_of ks)) kinds in
    subst (λ x. HasInner x (inner_of (map typed_column ps))) (sym is) (all_inner (map typed_column ps) (columns_hold s ps h))
given_field s f.Tokenize ps k h e = subst (λ x. IsColumn (given f.Tokenize x (map typed_column ps))) (sym (tokens_given _ k e)) (refl, refl, refl)
given_field s (f.ToBag width) [] k h e = unnamed_field k
given_field s (f.ToBag width) (p ∷ ps) k h e = bag_held (casting (f.ToBag width) (kinds_as_given (p ∷ ps))) (tuple_width (kinds_as_given (p ∷ ps))) (kind_in p) (tree_inner (typed_column p)) _ k h.0.field e
given_field s g ps k h e = unnamed_field k

-- ---- expressions

mutual
  pub holds : (s : Place) → IsPlace s → (a : ExprForm) (p : Typing) → Types s a p → Holds s p
  holds s w a p type_int = record { kind = refl; field = refl }
  holds s w a p type_long = record { kind = refl; field = refl }
  holds s w a p type_text = record { kind = refl; field = refl }
  holds s w a p type_bool = record { kind = refl; field = refl }
  holds s w a p type_null = record { kind = refl; field = refl }
  holds s w a p (type_local {name = name} {found = found} e) =
      let h = latest_holds 0 name s.locals found w.1 e in
      let at : found.0 ≡ h.0 = let k = h.1 in omega (arith, k) in
      record { kind = rw (at) h.2; field = h.3 }
  holds s w a p (type_named e means) = record { kind = meant_kind means; field = meant_field w.0 means }
  holds s w a p (type_numbered means) = record { kind = meant_kind means; field = meant_field w.0 means }
  holds s w a p (type_chain {a = b} {p = q} {whole = whole} h g) =
      let first = holds s w b q h in
      chain_holds s whole (links_hold s w (begun q) whole _ (kind_in q, first.kind, refl, inl refl) g)
  holds s w a p (type_compare {r = r} {a = b} {b = c} {p = x} {q = y} {j = j} h g e) =
      let hx = holds s w b x h in let hy = holds s w c y g in
      let k = compare_holds r (kind_in x) (kind_in y) j e in
      record {
        kind = rw (cast_kind_of (place_row s) (locals_of s) j.left j.kind (kind_in x) (typed_of x) k.0.left hx.kind, cast_kind_of (place_row s) (locals_of s) j.right j.kind (kind_in y) (typed_of y) k.0.right hy.kind) k.1;
        field = refl;
      }
  holds s w a p (type_is_null {a = b} {p = x} h) = let hx = holds s w b x h in record { kind = rw (hx.kind) refl; field = refl }
  holds s w a p (type_not {a = b} {p = x} {is_cast = cast_so} h e) =
      let hx = holds s w b x h in
      let k = condition_holds (kind_in x) cast_so e in
      record { kind = rw (cast_kind_of (place_row s) (locals_of s) cast_so k_boolean (kind_in x) (typed_of x) k.0 hx.kind, k.1) refl; field = refl }
  holds s w a p (type_minus {a = b} {p = x} {k = k} h e) = let hx = holds s w b x h in record { kind = rw (hx.kind) e; field = unnamed_field k }
  holds s w a p (type_cast {to = to} {a = b} {p = x} {d = d} is within h may) = let hx = holds s w b x h in record { kind = rw (hx.kind, may) refl; field = written_field_is (type_form to) d is }
  holds s w a p (type_post {a = b} {steps = steps} {p = x} h g) = walk_holds s x p steps (holds s w b x h) g
  holds s w a p (type_call {args = args} {f = g} {ps = ps} {k = k} e t h made within) =
      let hs = all_hold s w args ps h in
      record { kind = rw (args_hold s (casting g (kinds_as_given ps)) ps hs, given_kind g k (map typed_column ps)) made; field = given_field s g ps k hs made }
  holds s w a p (type_choose {a = b} {b = c} {c = d} {p = x} {q = y} {r = z} {is_cast = cast_so} {j = j} h e g k e') =
      let hx = holds s w b x h in let hy = holds s w c y g in let hz = holds s w d z k in
      let t = condition_holds (kind_in x) cast_so e in
      let v = choose_holds (kind_in y) (kind_in z) j e' in
      record {
        kind = rw (cast_kind_of (place_row s) (locals_of s) cast_so k_boolean (kind_in x) (typed_of x) t.0 hx.kind, t.1, cast_kind_of (place_row s) (locals_of s) j.left j.kind (kind_in y) (typed_of y) v.0.left hy.kind, cast_kind_of (place_row s) (locals_of s) j.right j.kind (kind_in z) (typed_of z) v.0.right hz.kind) v.1;
        field = chosen_is_column (typed_column y) (typed_column z) j e' hy.field hz.field;
      }

  links_hold : (s : Place) → IsPlace s → (c whole : ChainSoFar) (ls : LinkForms) → HoldsSoFar s c → Links s c ls whole → HoldsSoFar s whole
  links_hold s w c whole ls h links_end = h
  links_hold s w c whole ls h (links_go {o = o} {a = a} {ls = more} {p = p} {j = j} t e g) = links_hold s w (after c o j (typed_of p)) whole more (after_holds s c o j p h (holds s w a p t) e) g

  all_hold : (s : Place) → IsPlace s → (args : ExprForms) (ps : List Typing) → Args s args ps → AllHold s ps
  all_hold s w args ps args_end = tt
  all_hold s w args ps (args_go {a = a} {others = others} {p = p} {ps = more} h g) = (holds s w a p h, all_hold s w others more g)
