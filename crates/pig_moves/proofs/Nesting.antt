-- How deep lists of expressions nest and how many nodes they have, one by one, and an expression with a key in the place of its columns.
use Rattle.std.specs.Prelude.{◌≡◌, ◌≤◌, ◌+◌, ◌*◌, max, ℕ, List, [], ◌∷◌, ◌++◌, length, map, take, Err, IfOk, Ok, Result, Some, slice_get}
use Rattle.std.proofs.Common.{ap, ◌∙◌, arith, subst, sym}
use Rattle.std.proofs.Math.Nat.{add-mul}
use Rattle.std.proofs.lemmas.List.{length-append, map-append}
use Rattle.std.specs.declared.alloc.AllocError.{AllocError}
use Rattle.pig_value.proofs.list_laws.Indexing.{more_taken}
use Rattle.pig_value.specs.declared.operators.ChainOp.{ChainOp}
use Rattle.pig_typed.specs.Typed.{Typed, TypedArgs, TypedLinks, args_of, link_of, links_of, typed, x_null, x_bool, x_int, x_long, x_chars, x_field, x_local, x_chain, x_compare, x_is_null, x_not, x_minus, x_choose, x_cast, x_project, x_look, x_call, no_links, more_links, no_args, more_args}
use Rattle.pig_typed.specs.declared.exprs.TExpr.{TExpr}
use Rattle.pig_typed.specs.declared.exprs.TLink.{TLink}
use Rattle.pig_plan.specs.Moves.{arg_fields, fields_in, link_fields, put, put_args, put_links}
use Rattle.pig_moves.specs.Depths.{arg_depth, arg_size, depth, link_depth, link_size, most_levels, most_nodes, size}
use Rattle.pig_moves.proofs.Depths.{put_deeper}

link_depth_joined : (xs ys : List (ChainOp × Typed)) → link_depth (links_of (xs ++ ys)) ≡ max (link_depth (links_of xs)) (link_depth (links_of ys))
link_depth_joined [] ys = omega arith
link_depth_joined (x ∷ xs) ys = let rest = link_depth_joined xs ys in omega (arith, rest)

arg_depth_joined : (xs ys : List Typed) → arg_depth (args_of (xs ++ ys)) ≡ max (arg_depth (args_of xs)) (arg_depth (args_of ys))
arg_depth_joined [] ys = omega arith
arg_depth_joined (x ∷ xs) ys = let rest = arg_depth_joined xs ys in omega (arith, rest)

pub link_depth_more : (links : List TLink) (i : ℕ) (l : TLink) (so_far own new : ℕ) → slice_get links i ≡ Some l → so_far ≡ link_depth (links_of (map link_of (take i links)))
    → own ≡ depth (link_of l).1 → new ≡ max so_far own → new ≡ link_depth (links_of (map link_of (take (i + 1) links)))
link_depth_more links i l so_far own new at is deep added =
    let taken : link_depth (links_of (map link_of (take (i + 1) links))) ≡ max (link_depth (links_of (map link_of (take i links)))) (max (depth (link_of l).1) 0) =
    ap (λ ls. link_depth (links_of (map link_of ls))) (more_taken links i l at)
    ∙ ap (λ ls. link_depth (links_of ls)) (map-append link_of (take i links) (l ∷ []))
    ∙ link_depth_joined (map link_of (take i links)) (link_of l ∷ []) in
    omega (arith, is, deep, added, taken)

pub arg_depth_more : (args : List TExpr) (i : ℕ) (e : TExpr) (so_far own new : ℕ) → slice_get args i ≡ Some e → so_far ≡ arg_depth (args_of (map typed (take i args)))
    → own ≡ depth (typed e) → new ≡ max so_far own → new ≡ arg_depth (args_of (map typed (take (i + 1) args)))
arg_depth_more args i e so_far own new at is deep added =
    let taken : arg_depth (args_of (map typed (take (i + 1) args))) ≡ max (arg_depth (args_of (map typed (take i args)))) (max (depth (typed e)) 0) =
    ap (λ es. arg_depth (args_of (map typed es))) (more_taken args i e at)
    ∙ ap (λ es. arg_depth (args_of es)) (map-append typed (take i args) (e ∷ []))
    ∙ arg_depth_joined (map typed (take i args)) (typed e ∷ []) in
    omega (arith, is, deep, added, taken)

link_size_joined : (xs ys : List (ChainOp × Typed)) → link_size (links_of (xs ++ ys)) ≡ link_size (links_of xs) + link_size (links_of ys)
link_size_joined [] ys = omega arith
link_size_joined (x ∷ xs) ys = let rest = link_size_joined xs ys in omega (arith, rest)

arg_size_joined : (xs ys : List Typed) → arg_size (args_of (xs ++ ys)) ≡ arg_size (args_of xs) + arg_size (args_of ys)
arg_size_joined [] ys = omega arith
arg_size_joined (x ∷ xs) ys = let rest = arg_size_joined xs ys in omega (arith, rest)

pub link_size_more : (links : List TLink) (i : ℕ) (l : TLink) (so_far own new : ℕ) → slice_get links i ≡ Some l → so_far ≡ link_size (links_of (map link_of (take i links)))
    → own ≡ size (link_of l).1 → new ≡ so_far + own → new ≡ link_size (links_of (map link_of (take (i + 1) links)))
link_size_more links i l so_far own new at is large added =
    let taken : link_size (links_of (map link_of (take (i + 1) links))) ≡ link_size (links_of (map link_of (take i links))) + (size (link_of l).1 + 0) =
    ap (λ ls. link_size (links_of (map link_of ls))) (more_taken links i l at)
    ∙ ap (λ ls. link_size (links_of ls)) (map-append link_of (take i links) (l ∷ []))
    ∙ link_size_joined (map link_of (take i links)) (link_of l ∷ []) in
    omega (arith, is, large, added, taken)

pub arg_size_more : (args : List TExpr) (i : ℕ) (e : TExpr) (so_far own new : ℕ) → slice_get args i ≡ Some e → so_far ≡ arg_size (args_of (map typed (take i args)))
    → own ≡ size (typed e) → new ≡ so_far + own → new ≡ arg_size (args_of (map typed (take (i + 1) args)))
arg_size_more args i e so_far own new at is large added =
    let taken : arg_size (args_of (map typed (take (i + 1) args))) ≡ arg_size (args_of (map typed (take i args))) + (size (typed e) + 0) =
    ap (λ es. arg_size (args_of (map typed es))) (more_taken args i e at)
    ∙ ap (λ es. arg_size (args_of es)) (map-append typed (take i args) (e ∷ []))
    ∙ arg_size_joined (map typed (take i args)) (typed e ∷ []) in
    omega (arith, is, large, added, taken)

-- with the key in the place of its columns
pub key_nests : (key c : Typed) (r : Result TExpr AllocError) → depth c + depth key ≤ most_levels → IfOk r (λ made. typed made ≡ put (λ n. key) c) → IfOk r (λ made. depth (typed made) ≤ most_levels)
key_nests key c (Ok made) far is =
    let own : depth (put (λ n. key) c) ≤ depth c + depth key = put_deeper (λ n. key) (depth key) (λ n. omega arith) c in
    subst (λ e. depth e ≤ most_levels) (sym is) (omega (arith, own, far))
key_nests key c (Err e) far is = tt

-- Each mention of a column is the whole key then.
module _ (key : Typed) where
  abbrev with_key : Typed → Typed
  with_key e = put (λ n. key) e

  -- so many nodes stand where there were others, for the mentions of a list of columns
  abbrev Grown : List ℕ → ℕ → ℕ → Type 0
  Grown fields before now = now + length fields ≡ before + length fields * size key

  beside : (xs ys : List ℕ) (a b a' b' : ℕ) → Grown xs a a' → Grown ys b b' → Grown (xs ++ ys) (a + b) (a' + b')
  beside xs ys a b a' b' e f =
      let long = length-append xs ys in
      let times : length (xs ++ ys) * size key ≡ length xs * size key + length ys * size key = ap (λ n. n * size key) long ∙ add-mul (length xs) (length ys) (size key) in
      omega (arith, e, f, long, times)

  mutual
    sizes : (e : Typed) → Grown (fields_in e) (size e) (size (with_key e))
    sizes x_null = omega arith
    sizes (x_bool b) = omega arith
    sizes (x_int n) = omega arith
    sizes (x_long n) = omega arith
    sizes (x_chars text) = omega arith
    sizes (x_local n) = omega arith
    sizes (x_field n) = omega arith
    sizes (x_chain first links) =
        let all = beside (fields_in first) (link_fields links) (size first) (link_size links) (size (with_key first)) (link_size (put_links (λ n. key) links)) (sizes first) (link_sizes links) in
        omega (arith, all)
    sizes (x_compare r a b) = let all = beside (fields_in a) (fields_in b) (size a) (size b) (size (with_key a)) (size (with_key b)) (sizes a) (sizes b) in omega (arith, all)
    sizes (x_is_null a negated) = let all = sizes a in omega (arith, all)
    sizes (x_not a) = let all = sizes a in omega (arith, all)
    sizes (x_minus a) = let all = sizes a in omega (arith, all)
    sizes (x_choose test a b) =
        let branches = beside (fields_in a) (fields_in b) (size a) (size b) (size (with_key a)) (size (with_key b)) (sizes a) (sizes b) in
        let all = beside (fields_in test) (fields_in a ++ fields_in b) (size test) (size a + size b) (size (with_key test)) (size (with_key a) + size (with_key b)) (sizes test) branches in
        omega (arith, all)
    sizes (x_cast to a) = let all = sizes a in omega (arith, all)
    sizes (x_project a ns single) = let all = sizes a in omega (arith, all)
    sizes (x_look a word) = let all = sizes a in omega (arith, all)
    sizes (x_call function args) = let all = arg_sizes args in omega (arith, all)

    link_sizes : (links : TypedLinks) → Grown (link_fields links) (link_size links) (link_size (put_links (λ n. key) links))
    link_sizes no_links = omega arith
    link_sizes (more_links operator a links) =
        beside (fields_in a) (link_fields links) (size a) (link_size links) (size (with_key a)) (link_size (put_links (λ n. key) links)) (sizes a) (link_sizes links)

    arg_sizes : (args : TypedArgs) → Grown (arg_fields args) (arg_size args) (arg_size (put_args (λ n. key) args))
    arg_sizes no_args = omega arith
    arg_sizes (more_args e args) = beside (fields_in e) (arg_fields args) (size e) (arg_size args) (size (with_key e)) (arg_size (put_args (λ n. key) args)) (sizes e) (arg_sizes args)

pub key_fits : (key c : Typed) (r : Result TExpr AllocError) (mentions : ℕ) → mentions ≡ length (fields_in c) → size c + mentions * size key ≤ most_nodes + mentions
    → IfOk r (λ made. typed made ≡ put (λ n. key) c) → IfOk r (λ made. size (typed made) ≤ most_nodes)
key_fits key c (Ok made) mentions are far is =
    let whole : size c + length (fields_in c) * size key ≤ most_nodes + length (fields_in c) = subst (λ n. size c + n * size key ≤ most_nodes + n) are far in
    let grown = sizes key c in
    subst (λ e. size e ≤ most_nodes) (sym is) (omega (arith, grown, whole))
key_fits key c (Err e) mentions are far is = tt
