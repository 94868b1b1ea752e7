-- The outputs of the last wave, taken STORE by STORE.
use Rattle.std.specs.Prelude.{ℕ, List, [], ◌∷◌, drop, length, if◌then◌else◌}
use Rattle.pig_physical.specs.Outs.{TaskOut, bytes_in}
use Rattle.pig_physical.specs.Running.{is_for}
use Rattle.pig_physical.specs.Stages.{Task}

-- the bytes of the tasks in front that are for the STORE numbered k
abbrev pub own_front : ℕ → List Task → List TaskOut → List (List ℕ)
own_front k [] outs = []
own_front k (task ∷ tasks) [] = []
own_front k (task ∷ tasks) (out ∷ outs) = if is_for k task then bytes_in out.form ∷ own_front k tasks outs else []

-- those of each STORE in turn
abbrev pub in_turn : List ℕ → List Task → List TaskOut → List (List (List ℕ))
in_turn [] tasks outs = []
in_turn (k ∷ ks) tasks outs =
    own_front k tasks outs
    ∷ in_turn ks (drop (length (own_front k tasks outs)) tasks) (drop (length (own_front k tasks outs)) outs)
