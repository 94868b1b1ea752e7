-- A plan with a further node: what earlier nodes give stays, and the new one gives what it does on these.
use Rattle.std.specs.Prelude.{◌≡◌, ◌<◌, ◌≤◌, ◌&&◌, ◌||◌, ◌⊎◌, ◌==◌, ℕ, Bool, true, false, List, [], ◌∷◌, ◌++◌, length, map, Option, Some, None, slice_get, refl}
use Rattle.std.specs.List.{AllByRecursion, list_any}
use Rattle.std.specs.Option.{unwrap_or}
use Rattle.std.proofs.Common.{ap, sym, ◌∙◌, arith, zero, suc, append_assoc, append-nil, inl, inr}
use Rattle.std.proofs.lemmas.Bool.{cases_lt, ne_eqb}
use Rattle.std.proofs.lemmas.Option.{slice_get_past}
use Rattle.pig_plan.specs.NodeKinds.{RowKinds, kinds_at, kinds_step, kinds_table, node_gives}
use Rattle.pig_plan.specs.Plans.{Plan, PlanNode, PlanOp}
use Rattle.pig_plan.specs.Results.{at_place}
use Rattle.pig_plan.specs.Valid.{are_twins, fits, is_twin, op_writes_lf}
use Rattle.pig_plan.proofs.Unfolds.{length-results, result-append, results-append}
use Rattle.pig_check.specs.States.{IsEarlier, node_of_statement}

-- what the nodes of the first plan give, those of the second do
abbrev pub Stays : Plan → Plan → Type 0
Stays p q = (k : ℕ) (row : RowKinds) → kinds_at p k ≡ Some row → kinds_at q k ≡ Some row

within : (p : Plan) (k : ℕ) (row : RowKinds) → kinds_at p k ≡ Some row → k < length p
within p k row e = by (cases_lt k (length p))
  where
    by : (k < length p) ⊎ (length p ≤ k) → k < length p
    by (inl h) = h
    by (inr h) =
        let past : slice_get (kinds_table p) k ≡ None = slice_get_past (kinds_table p) k (let is = length-results kinds_step None p in omega (arith, is, h)) in
        let none : kinds_at p k ≡ None = ap (λ o. unwrap_or o None) past in
        let both : Some row ≡ None = sym e ∙ none in absurd (cc)

one_stays : (p : Plan) (node : PlanNode) → Stays p (p ++ node ∷ [])
one_stays p node k row e = result-append kinds_step None p node k (within p k row e) ∙ e

get-last : {A : Type 0} (xs : List A) (x : A) (n : ℕ) → n ≡ length xs → slice_get (xs ++ x ∷ []) n ≡ Some x
get-last [] x zero e = refl
get-last [] x (suc n) e = absurd (omega (arith, e))
get-last (y ∷ xs) x zero e = absurd (omega (arith, e))
get-last (y ∷ xs) x (suc n) e = get-last xs x n (omega (arith, e))

-- what the new node gives
pub last_gives : (p : Plan) (node : PlanNode) (given : Option RowKinds) → node_gives (kinds_at p) node.op ≡ Some given → kinds_at (p ++ node ∷ []) (length p) ≡ given
last_gives p node given e =
    ap (λ all. at_place None all (length p)) (results-append kinds_step None p node)
    ∙ ap (λ o. unwrap_or o None) (get-last (kinds_table p) _ (length p) (sym (length-results kinds_step None p)))
    ∙ ap (λ o. unwrap_or o None) e

-- ---- nodes of one statement

pub behind_all : (statement : ℕ) (p : Plan) (o : PlanOp) (os : List PlanOp)
    → (p ++ node_of_statement statement o ∷ []) ++ map (node_of_statement statement) os ≡ p ++ map (node_of_statement statement) (o ∷ os)
behind_all statement p o os = append_assoc p (node_of_statement statement o ∷ []) (map (node_of_statement statement) os)

pub all_stay : (statement : ℕ) (p : Plan) (os : List PlanOp) → Stays p (p ++ map (node_of_statement statement) os)
all_stay statement p [] k row e = ap (λ q. kinds_at q k) (append-nil p) ∙ e
all_stay statement p (o ∷ os) k row e =
    ap (λ q. kinds_at q k) (sym (behind_all statement p o os))
    ∙ all_stay statement (p ++ node_of_statement statement o ∷ []) os k row (one_stays p (node_of_statement statement o) k row e)

-- ---- no twins

pub never_twins : (statement : ℕ) (o : PlanOp) → ((other : PlanOp) → are_twins o other ≡ false) → (p : Plan) → list_any (is_twin (node_of_statement statement o)) p ≡ false
never_twins statement o never [] = refl
never_twins statement o never (node ∷ p) = rw (never node.op) (never_twins statement o never p)

other_statement : (m n : ℕ) → m < n → (m == n) ≡ false
other_statement m n h = ne_eqb m n (λ e. omega (arith, e, h))

one_later : (b : Bool) (m n : ℕ) (others : Bool) → m < n → others ≡ false → ((b && (m == n)) || others) ≡ false
one_later true m n others h e = rw (other_statement m n h) e
one_later false m n others h e = e

pub no_twins : (statement : ℕ) (o : PlanOp) (p : Plan) → AllByRecursion (IsEarlier statement) p → list_any (is_twin (node_of_statement statement o)) p ≡ false
no_twins statement o [] h = refl
no_twins statement o (node ∷ p) h = one_later (are_twins o node.op) node.statement statement _ h.0 (no_twins statement o p h.1)

-- ---- what may be added

-- the operator gives this, and no text in it holds a line end
pub record MayAdd (p : Plan) (o : PlanOp) (given : Option RowKinds) : Type 0 where
  pub gives : node_gives (kinds_at p) o ≡ Some given
  pub plain : op_writes_lf o ≡ false

pub it_fits : (statement : ℕ) (p : Plan) (o : PlanOp) (given : Option RowKinds) → MayAdd p o given → list_any (is_twin (node_of_statement statement o)) p ≡ false
    → fits p (node_of_statement statement o) ≡ true
it_fits statement p o given h alone = rw (h.gives, h.plain, alone) refl
