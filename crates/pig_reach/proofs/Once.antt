-- Paths that are added one by one, each once, are those of the definition.
use Rattle.std.specs.Prelude.{◌≡◌, ◌<◌, ◌≤◌, ◌+◌, ◌&&◌, ◌||◌, ℕ, Bool, true, false, not, List, [], ◌∷◌, ◌++◌, length, drop, get_or, Option, Some, None, bytes_eq, slice_get, refl}
use Rattle.std.proofs.Common.{ap, sym, subst, ◌∙◌, inl, inr, cond}
use Rattle.std.specs.List.{cons_option, filter, filter_map, list_any}
use Rattle.std.specs.Option.{option_map_or}
use Rattle.std.proofs.lemmas.Bool.{cases_Bool}
use Rattle.std.proofs.lemmas.List.{append_assoc, append-nil, drop_all, drop_more}
use Rattle.std.proofs.lemmas.Slice.Eq.{bytes_eq-Decides}
use Rattle.pig_value.proofs.list_laws.Listing.{filter-filter, filter_all, each_of_all}
use Rattle.pig_plan.specs.Plans.{Plan, PlanNode}
use Rattle.pig_plan.specs.Nodes.{live}
use Rattle.pig_reach.specs.Reach.{live_paths, loaded_path, once}
use Rattle.pig_reach.specs.Paths.{is_among, with_new, with_path, with_path_at}

abbrev pub not_among : List (List ℕ) → List ℕ → Bool
not_among seen path = not (is_among path seen)

-- those of further paths that were not seen
abbrev pub unseen : List (List ℕ) → List (List ℕ) → List (List ℕ)
unseen seen more = filter (not_among seen) more

filter_same : {X : Type 0} (p q : X → Bool) → ((x : X) → p x ≡ q x) → (xs : List X) → filter p xs ≡ filter q xs
filter_same p q same [] = refl
filter_same p q same (x ∷ xs) = ap (λ b. cond b (x ∷ filter p xs) (filter p xs)) (same x) ∙ ap (λ ys. cond (q x) (x ∷ ys) ys) (filter_same p q same xs)

-- a path that is among those seen is none of the others
others_only : (seen : List (List ℕ)) (path : List ℕ) → is_among path seen ≡ true → (other : List ℕ)
    → (not (bytes_eq other path) && not_among seen other) ≡ not_among seen other
others_only seen path there other = elim (cases_Bool (bytes_eq other path)) [
  | inl same ↦
      let is : other ≡ path = (bytes_eq-Decides other path).0 same in
      let among : is_among other seen ≡ true = subst (λ p. is_among p seen ≡ true) (sym is) there in
      ap (λ b. not b && not_among seen other) same ∙ sym (ap not among)
  | inr other_one ↦ ap (λ b. not b && not_among seen other) other_one
]

any_behind : (seen : List (List ℕ)) (path other : List ℕ) → is_among other (seen ++ path ∷ []) ≡ (is_among other seen || bytes_eq other path)
any_behind [] path other = or_false (bytes_eq other path)
  where
    or_false : (b : Bool) → (b || false) ≡ b
    or_false true = refl
    or_false false = refl
any_behind (first ∷ seen) path other = ap (λ b. bytes_eq other first || b) (any_behind seen path other) ∙ or_assoc (bytes_eq other first) (is_among other seen) (bytes_eq other path)
  where
    or_assoc : (a b c : Bool) → (a || (b || c)) ≡ ((a || b) || c)
    or_assoc true b c = refl
    or_assoc false b c = refl

not_either : (a b : Bool) → (not b && not a) ≡ not (a || b)
not_either true true = refl
not_either true false = refl
not_either false true = refl
not_either false false = refl

-- one path, and then those behind it
pub one_more : (seen : List (List ℕ)) (path : List ℕ) (more : List (List ℕ))
    → seen ++ unseen seen (once (path ∷ more)) ≡ with_new seen path ++ unseen (with_new seen path) (once more)
one_more seen path more = elim (cases_Bool (is_among path seen)) [
  | inl there ↦
      let rest = filter (λ other. not (bytes_eq other path)) (once more) in
      let gone : unseen seen (path ∷ rest) ≡ unseen seen rest = ap (λ b. cond (not b) (path ∷ unseen seen rest) (unseen seen rest)) there in
      let same : unseen seen rest ≡ unseen seen (once more) =
      filter-filter (not_among seen) (λ other. not (bytes_eq other path)) (once more)
      ∙ filter_same (λ other. not (bytes_eq other path) && not_among seen other) (not_among seen) (others_only seen path there) (once more) in
      ap (λ xs. seen ++ xs) (gone ∙ same)
      ∙ sym (ap (λ b. cond b seen (seen ++ path ∷ []) ++ unseen (cond b seen (seen ++ path ∷ [])) (once more)) there)
  | inr new ↦
      let rest = filter (λ other. not (bytes_eq other path)) (once more) in
      let kept : unseen seen (path ∷ rest) ≡ path ∷ unseen seen rest = ap (λ b. cond (not b) (path ∷ unseen seen rest) (unseen seen rest)) new in
      let same : unseen seen rest ≡ unseen (seen ++ path ∷ []) (once more) =
      filter-filter (not_among seen) (λ other. not (bytes_eq other path)) (once more)
      ∙ filter_same (λ other. not (bytes_eq other path) && not_among seen other) (not_among (seen ++ path ∷ []))
      (λ other. not_either (is_among other seen) (bytes_eq other path) ∙ sym (ap not (any_behind seen path other))) (once more) in
      ap (λ xs. seen ++ xs) kept ∙ ap (λ xs. seen ++ path ∷ xs) same
      ∙ sym (append_assoc seen (path ∷ []) (unseen (seen ++ path ∷ []) (once more)))
      ∙ sym (ap (λ b. cond b seen (seen ++ path ∷ []) ++ unseen (cond b seen (seen ++ path ∷ [])) (once more)) new)
]

-- the paths of the LOADs among nodes of a plan
abbrev pub paths_at : Plan → List ℕ → List (List ℕ)
paths_at plan numbers = filter_map loaded_path (filter_map (slice_get plan) numbers)

-- what was added so far, with what is still to come
abbrev pub Comes : Plan → List ℕ → List (List ℕ) → List (List ℕ)
Comes plan numbers seen = seen ++ unseen seen (once (paths_at plan numbers))

pub nothing_seen : (xs : List (List ℕ)) → unseen [] xs ≡ xs
nothing_seen xs = filter_all (not_among []) xs (each_of_all (λ x. not_among [] x ≡ true) (λ x. refl) xs)

pub begins : (plan : Plan) (numbers : List ℕ) → Comes plan numbers [] ≡ once (paths_at plan numbers)
begins plan numbers = nothing_seen (once (paths_at plan numbers))

pub ends : (plan : Plan) (seen : List (List ℕ)) → Comes plan [] seen ≡ seen
ends plan seen = append-nil seen

-- a number with a node behind it
pub goes_on : (plan : Plan) (number : ℕ) (rest : List ℕ) (seen : List (List ℕ)) (node : PlanNode) → slice_get plan number ≡ Some node
    → Comes plan (number ∷ rest) seen ≡ Comes plan rest (with_path seen node)
goes_on plan number rest seen node at =
    ap (λ o. seen ++ unseen seen (once (filter_map loaded_path (cons_option o (filter_map (slice_get plan) rest))))) at
    ∙ by_path (loaded_path node) refl
  where
    by_path : (o : Option (List ℕ)) → loaded_path node ≡ o
        → seen ++ unseen seen (once (filter_map loaded_path (node ∷ filter_map (slice_get plan) rest))) ≡ Comes plan rest (with_path seen node)
    by_path None e =
        ap (λ o. seen ++ unseen seen (once (cons_option o (paths_at plan rest)))) e
        ∙ sym (ap (λ o. option_map_or (with_new seen) o seen ++ unseen (option_map_or (with_new seen) o seen) (once (paths_at plan rest))) e)
    by_path (Some path) e =
        ap (λ o. seen ++ unseen seen (once (cons_option o (paths_at plan rest)))) e
        ∙ one_more seen path (paths_at plan rest)
        ∙ sym (ap (λ o. option_map_or (with_new seen) o seen ++ unseen (option_map_or (with_new seen) o seen) (once (paths_at plan rest))) e)

-- a number with none
pub passes_on : (plan : Plan) (number : ℕ) (rest : List ℕ) (seen : List (List ℕ)) → slice_get plan number ≡ None
    → Comes plan (number ∷ rest) seen ≡ Comes plan rest seen
passes_on plan number rest seen at = ap (λ o. seen ++ unseen seen (once (filter_map loaded_path (cons_option o (filter_map (slice_get plan) rest))))) at

-- one more number, from a place of a list
pub comes_on : (plan : Plan) (numbers : List ℕ) (place number : ℕ) (seen new : List (List ℕ)) → place < length numbers → number ≡ get_or numbers place number
    → new ≡ with_path_at plan number seen → Comes plan (drop place numbers) seen ≡ Comes plan (drop (place + 1) numbers) new
comes_on plan numbers place number seen new within at is =
    ap (λ ns. Comes plan ns seen) (drop_more numbers place number within ∙ ap (λ n. n ∷ drop (place + 1) numbers) (sym at))
    ∙ by_node (slice_get plan number) refl
  where
    by_node : (o : Option PlanNode) → slice_get plan number ≡ o → Comes plan (number ∷ drop (place + 1) numbers) seen ≡ Comes plan (drop (place + 1) numbers) new
    by_node None e = passes_on plan number (drop (place + 1) numbers) seen e
        ∙ ap (Comes plan (drop (place + 1) numbers)) (sym (is ∙ ap (λ o. option_map_or (with_path seen) o seen) e))
    by_node (Some node) e = goes_on plan number (drop (place + 1) numbers) seen node e
        ∙ ap (Comes plan (drop (place + 1) numbers)) (sym (is ∙ ap (λ o. option_map_or (with_path seen) o seen) e))

-- before the first
pub comes_first : (plan : Plan) (numbers : List ℕ) → numbers ≡ live plan → Comes plan (drop 0 numbers) [] ≡ live_paths plan
comes_first plan numbers are = begins plan numbers ∙ ap (λ ns. once (paths_at plan ns)) are

pub comes_begun : (plan : Plan) (numbers : List ℕ) (seen : List (List ℕ)) → seen ≡ [] → numbers ≡ live plan → Comes plan (drop 0 numbers) seen ≡ live_paths plan
comes_begun plan numbers seen none are = ap (λ xs. Comes plan (drop 0 numbers) xs) none ∙ comes_first plan numbers are
