-- STOREs that are apart in a plan are apart as they are looked for.
use Rattle.std.proofs.Common.{◌≡◌, ◌∙◌, ℕ, true, false, List, [], ◌∷◌, map, refl, sym, ap, subst}
use Rattle.std.specs.Prelude.{bytes_eq}
use Rattle.std.specs.List.{AllByRecursion, IsDistinct}
use Rattle.std.proofs.lemmas.Bool.{false_from_ne_true, false≢true}
use Rattle.std.proofs.lemmas.Slice.Eq.{bytes_eq-Decides}
use Rattle.pig_plan.specs.Plans.{Plan, PlanOp, p_store}
use Rattle.pig_reach.specs.Reach.{dirs_of, stores_of}
use Rattle.pig_reach.specs.declared.storing.Store.{Store}
use Rattle.pig_check.specs.States.{StoresAreApart, stored_paths}
use Rattle.pig_rewrites.specs.Alike.{are_apart, is_stored_in}

-- the directories are the paths of the plan's STOREs
pub dirs_are : (p : Plan) → dirs_of p ≡ stored_paths p
dirs_are [] = refl
dirs_are (node ∷ p) = by node.op (dirs_are p)
  where
    by : (o : PlanOp) → dirs_of p ≡ stored_paths p
        → dirs_of (record { op = o; statement = node.statement } ∷ p) ≡ stored_paths (record { op = o; statement = node.statement } ∷ p)
    by (p_store input path delim) e = ap (λ dirs. path ∷ dirs) e
    by o e = e

turned : (a b : List ℕ) → bytes_eq a b ≡ false → bytes_eq b a ≡ false
turned a b h = false_from_ne_true (bytes_eq b a) (λ e. false≢true (sym h ∙ (bytes_eq-Decides a b).1 (sym ((bytes_eq-Decides b a).0 e))))

none_in : (dir : List ℕ) (stores : List Store) → AllByRecursion (λ other. bytes_eq dir other ≡ false) (map (λ store. store.dir) stores) → is_stored_in dir stores ≡ false
none_in dir [] h = refl
none_in dir (store ∷ stores) h = rw (turned dir store.dir h.0) (none_in dir stores h.1)

all_apart : (stores : List Store) → IsDistinct bytes_eq (map (λ store. store.dir) stores) → are_apart stores ≡ true
unfolding IsDistinct
all_apart [] h = refl
all_apart (store ∷ stores) h = rw (none_in store.dir stores h.0) (all_apart stores h.1)

pub stores_apart : (p : Plan) → StoresAreApart p → are_apart (stores_of p) ≡ true
stores_apart p h = all_apart (stores_of p) (subst (IsDistinct bytes_eq) (sym (dirs_are p)) h)
