-- When a run of one plan does what a run of another does: it keeps, stores, reads and asserts the same.
use Rattle.std.specs.Prelude.{◌≡◌, ⊤, ◌&&◌, ℕ, Bool, true, not, List, [], ◌∷◌, bytes_eq}
use Rattle.std.specs.List.{list_any}
use Rattle.pig_value.specs.declared.inputs.Input.{Input}
use Rattle.pig_value.specs.declared.outcomes.Kept.{Kept}
use Rattle.pig_plan.specs.Asserts.{first_unmet}
use Rattle.pig_plan.specs.Meaning.{IsKept, meaning}
use Rattle.pig_plan.specs.Nodes.{is_list}
use Rattle.pig_plan.specs.Plans.{Plan}
use Rattle.pig_reach.specs.Reach.{live_paths, stores_of}
use Rattle.pig_reach.specs.declared.storing.Store.{Store}

abbrev pub is_stored_in : List ℕ → List Store → Bool
is_stored_in dir stores = list_any (λ store. bytes_eq store.dir dir) stores

-- no two STOREs have one directory
abbrev pub are_apart : List Store → Bool
are_apart [] = true
are_apart (store ∷ stores) = not (is_stored_in store.dir stores) && are_apart stores

-- A STORE of the one plan stands for one of the other: the same statement, directory and delimiter, and the same rows, in order where they are.
pub record StoresAlike (p q : Plan) (store other : Store) : Type 0 where
  pub statement : other.statement ≡ store.statement
  pub dir : other.dir ≡ store.dir
  pub delim : other.delim ≡ store.delim
  pub lists : is_list q other.relation ≡ is_list p store.relation
  pub rows : (inputs : List Input) (kept : List Kept) → IsKept p inputs kept → meaning q inputs kept other.relation ≡ meaning p inputs kept store.relation

-- so it is of each in turn
abbrev pub AllAlike : Plan → Plan → List Store → List Store → Type 0
AllAlike p q [] [] = ⊤
AllAlike p q (store ∷ stores) (other ∷ others) = StoresAlike p q store other × AllAlike p q stores others
AllAlike p q stores others = ⊥

-- A run of the one plan does what a run of the other does.
pub record RunsAlike (p q : Plan) : Type 0 where
  pub kept_on : (inputs : List Input) (kept : List Kept) → IsKept p inputs kept → IsKept q inputs kept
  pub kept_back : (inputs : List Input) (kept : List Kept) → IsKept q inputs kept → IsKept p inputs kept
  pub stores : AllAlike p q (stores_of p) (stores_of q)
  pub paths : live_paths q ≡ live_paths p
  pub unmet : (inputs : List Input) (kept : List Kept) → IsKept p inputs kept → first_unmet q inputs kept ≡ first_unmet p inputs kept
