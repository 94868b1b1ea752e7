-- The begins that hosts tell of a wave, and which of them were followed by a failure of the host.
use Rattle.std.specs.Prelude.{◌≡◌, ℕ, ◌+◌, ◌≤◌, ⊤, Bool, ◌&&◌, ◌==◌, nat_lt, Option, List, [], ◌∷◌, ◌++◌, count_by, All, if◌then◌else◌}
use Rattle.std.specs.Option.{option_map}
use Rattle.pig_outside.specs.Calls.{Attempt}

-- what a host tells: its count of failures, and its begins, if it tells these
pub record Tells : Type 0 where
  pub faults : ℕ
  pub begun : Option (List Attempt)

abbrev pub tells : ℕ → Option (List Attempt) → Tells
tells f b = record { faults = f; begun = b }

-- the last begin told is one of task t in this wave
pub record TellsLast (wave t : ℕ) (begins : List Attempt) : Type 0 where
  pub before : List Attempt
  pub last : Attempt
  pub is : begins ≡ before ++ last ∷ []
  pub of_wave : last.wave ≡ wave
  pub of_task : last.task ≡ t

-- a begin of attempt a at task t
abbrev pub is_begin : ℕ → ℕ → Attempt → Bool
is_begin t a x = (x.task == t) && (x.attempt == a)

abbrev pub begins_of : ℕ → ℕ → List Attempt → ℕ
begins_of t a begins = count_by (is_begin t a) begins

-- the host's count at the next begin, or at the end
abbrev pub next_count : List Attempt → ℕ → ℕ
next_count [] end = end
next_count (x ∷ xs) end = x.faults

-- how many begins of task t there are behind which the count stands higher at the next begin, or at the end
abbrev pub lost_of : ℕ → List Attempt → ℕ → ℕ
lost_of t [] end = 0
lost_of t (x ∷ xs) end = (if (x.task == t) && nat_lt x.faults (next_count xs end) then 1 else 0) + lost_of t xs end

-- one host in one wave: its count before and after, what it told before and after, and the begins of this wave
pub record Turn (wave : ℕ) : Type 0 where
  pub start : ℕ
  pub faults : ℕ
  pub before : Option (List Attempt)
  pub after : Option (List Attempt)
  pub begins : List Attempt
  pub rise : start ≤ faults
  pub later : start ≤ next_count begins faults
  pub told : after ≡ option_map (λ b. b ++ begins) before
  pub of_wave : All (λ x. x.wave ≡ wave) begins

abbrev pub turn_begins : {wave : ℕ} → ℕ → ℕ → Turn wave → ℕ
turn_begins t a z = begins_of t a z.begins

abbrev pub turn_lost : {wave : ℕ} → ℕ → Turn wave → ℕ
turn_lost t z = lost_of t z.begins z.faults

-- what all hosts tell, each by its place
pub record CrewTells : Type 0 where
  pub faults : List ℕ
  pub begun : List (Option (List Attempt))

abbrev pub crew_tells : List ℕ → List (Option (List Attempt)) → CrewTells
crew_tells f b = record { faults = f; begun = b }

-- each count has risen by k at least
abbrev pub Rise : ℕ → List ℕ → List ℕ → Type 0
Rise k [] [] = ⊤
Rise k [] (y ∷ ys) = ⊥
Rise k (x ∷ xs) [] = ⊥
Rise k (x ∷ xs) (y ∷ ys) = (x + k ≤ y) × Rise k xs ys
