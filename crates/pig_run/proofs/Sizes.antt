-- The sizes of inputs, and how they are looked for.
use Rattle.std.proofs.Common.{◌≡◌, ◌<◌, ◌≤◌, ◌+◌, ◌^◌, ◌++◌, ℕ, true, false, List, [], ◌∷◌, length, map, get_or, Option, Some, None, refl, sym, ◌∙◌, ap, subst, arith, inl, inr, ◌⊎◌, Bool, ◌||◌, cond, true≢false}
use Rattle.std.specs.List.{AllByRecursion, find, sum_by}
use Rattle.std.specs.Option.{is_none, option_map, option_map_or, unwrap_or}
use Rattle.std.specs.Str.{bytes_eq}
use Rattle.std.proofs.lemmas.Bool.{cases_Bool}
use Rattle.std.proofs.lemmas.Slice.Eq.{bytes_eq-Decides}
use Rattle.pig_value.specs.declared.inputs.Input.{Input}
use Rattle.std.proofs.lemmas.List.Sums.{sum_by-cons}
use Rattle.pig_value.proofs.list_laws.Listing.{each-append}
use Rattle.pig_outside.specs.Calls.{DepotCall}
use Rattle.pig_outside.specs.Shelf.{Shelf, has_dir, lengths_at, lengths_of, pieces_of}
use Rattle.pig_outside.specs.declared.failing.Method.TheVariants as method
use Rattle.pig_plan.specs.Operators.{pieces_of as plan_pieces}
use Rattle.pig_plan.specs.Plans.{Plan, PlanNode, p_load, plan_of}
use Rattle.pig_plan.specs.declared.nodes.Node.{Node}
use Rattle.pig_reach.specs.Paths.{is_among}
use Rattle.pig_reach.specs.Reach.{dirs_of, live_paths}
use Rattle.pig_reach.proofs.Enough.{live_load}
use Rattle.pig_physical.specs.Running.{AreSizes}
use Rattle.pig_physical.specs.Seen.{cut_of, lengths_in, staged}
use Rattle.pig_physical.specs.Stages.{Stages}
use Rattle.pig_work.specs.Working.{Tellings}
use Rattle.pig_cutter.specs.Limits.{has_too_many}
use Rattle.pig_driver.specs.Going.{TellSizes}
use Rattle.pig_rewrites.specs.Reached.{IsReached}
use Rattle.pig_physical.specs.declared.staged.Size.{Size}
use Rattle.pig_words.specs.declared.words.Command.{Command}
use Rattle.pig_run.specs.declared.outcome.RunFault.{RunFault}
use Rattle.pig_run.specs.declared.outcome.RunFault.TheVariants as fault
use Rattle.pig_run.specs.declared.outcome.TooLarge.TheVariants as large
use Rattle.pig_run.specs.Due.{InputsDue, Looks, OutputsDue, SizeDue, TasksDue, call, few, is_missing, making_of, run_of, runs, size_of, sizes_on, small, stages_of, too_big, too_many}
use Rattle.pig_run.specs.Looking.{HasSize, total_of}
use Rattle.pig_run.specs.Refusals.{no_input, output_there, too_large}
use Rattle.pig_run.specs.Reading.{Runs, Verdict}
use Rattle.pig_run.specs.Steps.{IsLookFault, Passes, StopsIn}
use Rattle.pig_run.specs.Told.{Asked, TellsOf}
use Rattle.pig_run.proofs.Stages.{passes_itself, refuses, wants}
use Rattle.pig_run.proofs.LookUps.{LookedAt, looks_broken, looks_on, looks_stop}

sum_lengths : (pieces : List (List ℕ)) → sum_by (λ n. n) (lengths_of pieces) ≡ sum_by length pieces
sum_lengths [] = refl
sum_lengths (p ∷ ps) =
    let a = sum_by-cons (λ n. n) (length p) (lengths_of ps) in
    let b = sum_by-cons length p ps in
    let more = sum_lengths ps in
    omega (arith, a, b, more)

one_size : (o : Option (List (List ℕ))) (lengths : List ℕ) → option_map lengths_of o ≡ Some lengths → sum_by (λ n. n) lengths ≡ sum_by length (unwrap_or o [])
one_size None lengths h = absurd (cc)
one_size (Some pieces) lengths h = let same : lengths ≡ lengths_of pieces = cc in ap (sum_by (λ n. n)) same ∙ sum_lengths pieces

-- all sizes together are those of the shelf's inputs
pub total_is : (s : Shelf) (sizes : List Size) → AllByRecursion (HasSize s) sizes → total_of sizes ≡ sum_by (size_of s) (map (λ size. size.path) sizes)
total_is s [] h = refl
total_is s (size ∷ sizes) h =
    let a = sum_by-cons (λ size. sum_by (λ n. n) size.lengths) size sizes in
    let b = sum_by-cons (size_of s) size.path (map (λ size. size.path) sizes) in
    let one = one_size (pieces_of size.path s.inputs) size.lengths h.0 in
    let more = total_is s sizes h.1 in
    omega (arith, a, b, one, more)

missing_of : (s : Shelf) (path : List ℕ) → lengths_at path s ≡ None → is_missing s path ≡ true
missing_of s path h = by_option (pieces_of path s.inputs) h
  where
    by_option : (o : Option (List (List ℕ))) → option_map lengths_of o ≡ None → is_none o ≡ true
    by_option None h = refl
    by_option (Some pieces) h = absurd (cc)

pub there_of : (s : Shelf) (path lengths : List ℕ) → lengths_at path s ≡ Some lengths → is_missing s path ≡ false
there_of s path lengths h = by_option (pieces_of path s.inputs) h
  where
    by_option : (o : Option (List (List ℕ))) → option_map lengths_of o ≡ Some lengths → is_none o ≡ false
    by_option None h = absurd (cc)
    by_option (Some pieces) h = refl

-- an input that is missing, or that the depot did not tell of
pub input_stops : (command : Command) (plan : List PlanNode) (s : Shelf) (paths : List (List ℕ)) → paths ≡ live_paths plan → (place : ℕ) (path d : List ℕ) (old now new : Option (List DepotCall))
    → LookedAt (is_missing s) no_input method.Pieces paths (SizeDue command s plan) place old now → place < length paths → path ≡ get_or paths place d
    → Asked (call method.Pieces path ∷ []) now new → (f : RunFault) → ((f ≡ fault.NoInput path) × (lengths_at path s ≡ None)) ⊎ IsLookFault f → StopsIn (InputsDue command s plan) old new f
input_stops command plan s paths are place path d old now new so_far within at asked f (inl (is, none)) =
    subst (λ f. StopsIn (InputsDue command s plan) old new f) (sym is)
    (subst (λ ps. StopsIn (Looks (is_missing s) no_input method.Pieces ps (SizeDue command s plan)) old new (fault.NoInput path)) are
    (looks_stop (is_missing s) no_input method.Pieces paths (SizeDue command s plan) place path d old now new so_far within at asked (fault.NoInput path) (missing_of s path none) refl))
input_stops command plan s paths are place path d old now new so_far within at asked f (inr free) =
    subst (λ ps. StopsIn (Looks (is_missing s) no_input method.Pieces ps (SizeDue command s plan)) old new f) are
    (looks_broken (is_missing s) no_input method.Pieces paths (SizeDue command s plan) place path d old now new so_far within at asked f free)

-- an output that is there, or that the depot did not tell of
pub output_stops : (command : Command) (plan : List PlanNode) (s : Shelf) (dirs : List (List ℕ)) → dirs ≡ dirs_of plan → (place : ℕ) (dir d : List ℕ) (old now new : Option (List DepotCall))
    → LookedAt (λ dir. has_dir dir s) output_there method.Exists dirs (TasksDue command s plan) place old now → place < length dirs → dir ≡ get_or dirs place d
    → Asked (call method.Exists dir ∷ []) now new → (f : RunFault) → ((f ≡ fault.OutputExists dir) × (has_dir dir s ≡ true)) ⊎ IsLookFault f → StopsIn (OutputsDue command s plan) old new f
output_stops command plan s dirs are place dir d old now new so_far within at asked f (inl (is, there)) =
    subst (λ f. StopsIn (OutputsDue command s plan) old new f) (sym is)
    (subst (λ ds. StopsIn (Looks (λ dir. has_dir dir s) output_there method.Exists ds (TasksDue command s plan)) old new (fault.OutputExists dir)) are
    (looks_stop (λ dir. has_dir dir s) output_there method.Exists dirs (TasksDue command s plan) place dir d old now new so_far within at asked (fault.OutputExists dir) there refl))
output_stops command plan s dirs are place dir d old now new so_far within at asked f (inr free) =
    subst (λ ds. StopsIn (Looks (λ dir. has_dir dir s) output_there method.Exists ds (TasksDue command s plan)) old new f) are
    (looks_broken (λ dir. has_dir dir s) output_there method.Exists dirs (TasksDue command s plan) place dir d old now new so_far within at asked f free)

-- an input that is there
pub inputs_on : (command : Command) (plan : List PlanNode) (s : Shelf) (paths : List (List ℕ)) (place : ℕ) (path d : List ℕ) (old now new : Option (List DepotCall))
    → LookedAt (is_missing s) no_input method.Pieces paths (SizeDue command s plan) place old now → place < length paths → path ≡ get_or paths place d
    → Asked (call method.Pieces path ∷ []) now new → (lengths : List ℕ) → lengths_at path s ≡ Some lengths → LookedAt (is_missing s) no_input method.Pieces paths (SizeDue command s plan) (place + 1) old new
inputs_on command plan s paths place path d old now new so_far within at asked lengths there =
    looks_on (is_missing s) no_input method.Pieces paths (SizeDue command s plan) place path d old now new so_far within at asked (there_of s path lengths there)

-- its size joins those before it
pub sizes_grow : (s : Shelf) (old new : List Size) (path lengths : List ℕ) → lengths_at path s ≡ Some lengths → new ≡ old ++ record { path = path; lengths = lengths } ∷ []
    → AllByRecursion (HasSize s) old → AllByRecursion (HasSize s) new
sizes_grow s old new path lengths there is h = subst (AllByRecursion (HasSize s)) (sym is) (each-append (HasSize s) old (record { path = path; lengths = lengths } ∷ []) h (there, tt))

-- ---- the sizes of all inputs

pub size_back : (command : Command) (plan : List PlanNode) (s : Shelf) → sum_by (size_of s) (live_paths plan) ≤ 2 ^ 26 → (asked : List DepotCall) (v : Verdict) → SizeDue command s plan asked v → OutputsDue command s plan asked v
size_back command plan s less _ _ (too_big big) = absurd (omega (arith, less, big))
size_back command plan s less asked v (small h due) = due

module _ (command : Command) (plan : List PlanNode) (s : Shelf) (sizes : List Size) (paths : map (λ size. size.path) sizes ≡ live_paths plan) (have : AllByRecursion (HasSize s) sizes) (now : Option (List DepotCall)) where
  sum_is : total_of sizes ≡ sum_by (size_of s) (live_paths plan)
  sum_is = total_is s sizes have ∙ ap (sum_by (size_of s)) paths

  pub size_passes : total_of sizes ≤ 2 ^ 26 → Passes (SizeDue command s plan) (OutputsDue command s plan) now now
  size_passes less =
      let bound : sum_by (size_of s) (live_paths plan) ≤ 2 ^ 26 = let e = sum_is in omega (arith, less, e) in
      passes_itself (SizeDue command s plan) (OutputsDue command s plan) now now refl (λ asked v due. small bound due) (size_back command plan s bound)

  pub size_stops : (f : RunFault) → (f ≡ fault.TooLarge large.Input) × (2 ^ 26 < total_of sizes) → StopsIn (SizeDue command s plan) now now f
  size_stops f h =
      let big : 2 ^ 26 < sum_by (size_of s) (live_paths plan) = let e = sum_is in let m = h.1 in omega (arith, m, e) in
      refuses (SizeDue command s plan) now now refl f (too_large large.Input) h.0 (too_big big)

-- ---- the sizes by which the plan is cut

-- sizes that are those of the shelf's inputs at these paths
pub are_sizes : (s : Shelf) (sizes : List Size) → AllByRecursion (HasSize s) sizes
    → sizes ≡ map (λ path. record { path = path; lengths = unwrap_or (lengths_at path s) [] }) (map (λ size. size.path) sizes)
are_sizes s [] h = refl
are_sizes s (size ∷ sizes) h = λ i. one i ∷ are_sizes s sizes h.1 i
  where
    one : size ≡ record { path = size.path; lengths = unwrap_or (lengths_at size.path s) [] }
    one = λ i. record { path = size.path; lengths = ap (λ o. unwrap_or o []) (sym h.0) i }

lengths_found : (s : Shelf) (sizes : List Size) (path : List ℕ) → AllByRecursion (HasSize s) sizes → is_among path (map (λ size. size.path) sizes) ≡ true
    → map length (plan_pieces s.inputs path) ≡ lengths_in sizes path
lengths_found s [] path h among = absurd (true≢false (sym among))
lengths_found s (size ∷ sizes) path h among = elim (cases_Bool (bytes_eq size.path path)) [
  | inl same ↦
      let is : size.path ≡ path = (bytes_eq-Decides size.path path).0 same in
      pieces_here (find (λ input. bytes_eq input.path path) s.inputs) size.lengths (subst (λ p. lengths_at p s ≡ Some size.lengths) is h.0)
      ∙ sym (ap (λ b. option_map_or (λ size. size.lengths) (cond b (Some size) (find (λ size. bytes_eq size.path path) sizes)) []) same)
  | inr other ↦
      let turned : bytes_eq path size.path ≡ false = turn (bytes_eq path size.path) refl other in
      lengths_found s sizes path h.1 (sym (ap (λ b. b || is_among path (map (λ size. size.path) sizes)) turned) ∙ among)
      ∙ sym (ap (λ b. option_map_or (λ size. size.lengths) (cond b (Some size) (find (λ size. bytes_eq size.path path) sizes)) []) other)
]
  where
    pieces_here : (o : Option Input) (lengths : List ℕ) → option_map lengths_of (option_map (λ input. input.pieces) o) ≡ Some lengths → map length (option_map_or (λ input. input.pieces) o []) ≡ lengths
    pieces_here None lengths e = absurd (cc)
    pieces_here (Some input) lengths e = cc

    turn : (b : Bool) → bytes_eq path size.path ≡ b → bytes_eq size.path path ≡ false → b ≡ false
    turn true e f = absurd (true≢false (sym ((bytes_eq-Decides size.path path).1 (sym ((bytes_eq-Decides path size.path).0 e))) ∙ f))
    turn false e f = refl

-- stages that are cut by sizes of the shelf's inputs are cut by the lengths of what a host tells
pub are_fitting : (s : Shelf) (sizes : List Size) (plan : Plan) (reducers split : ℕ) → map (λ size. size.path) sizes ≡ live_paths plan → AllByRecursion (HasSize s) sizes
    → AreSizes (record { plan = plan; sizing = record { lengths = lengths_in sizes; reducers = reducers; split = split } }) s.inputs
are_fitting s sizes plan reducers split paths h k statement delim path columns at alive =
    lengths_found s sizes path h (ap (is_among path) paths ∙ live_load plan k (record { op = p_load path delim columns; statement = statement }) path at alive refl)

-- so it is of all hosts
pub tell_sizes : (shelf : Option Shelf) (stages : Stages) → ((s : Shelf) → shelf ≡ Some s → AreSizes stages s.inputs) → (tellings : Tellings) → AllByRecursion (TellsOf shelf) tellings → TellSizes stages tellings
tell_sizes shelf stages fits [] of = tt
tell_sizes shelf stages fits (told ∷ tellings) of = (λ inputs is. one shelf fits inputs (of.0 inputs is), tell_sizes shelf stages fits tellings of.1)
  where
    one : (shelf : Option Shelf) → ((s : Shelf) → shelf ≡ Some s → AreSizes stages s.inputs) → (inputs : List Input) → option_map (λ s. s.inputs) shelf ≡ Some inputs → AreSizes stages inputs
    one None fits inputs e = absurd (cc)
    one (Some s) fits inputs e = let same : s.inputs ≡ inputs = cc in subst (AreSizes stages) same (fits s refl)

-- ---- the stages that the code cuts are those of the command

module _ (command : Command) (s : Shelf) (plan : Plan) (nodes : List Node) (reached : IsReached plan (plan_of nodes))
    (sizes : List Size) (paths : map (λ size. size.path) sizes ≡ live_paths (plan_of nodes)) (have : AllByRecursion (HasSize s) sizes) where
  sizes_are : sizes ≡ sizes_on s (plan_of nodes)
  sizes_are = are_sizes s sizes have ∙ ap (map (λ path. record { path = path; lengths = unwrap_or (lengths_at path s) [] })) paths

  pub stages_are : staged (cut_of nodes sizes command.reducers command.split) ≡ stages_of command s (plan_of nodes)
  stages_are i = record { plan = plan_of nodes; sizing = record { lengths = lengths_in (sizes_are i); reducers = command.reducers; split = command.split } }

  module _ (now : Option (List DepotCall)) where
    pub tasks_stop : (f : RunFault) → ((f ≡ fault.TooLarge large.Tasks) × (has_too_many (staged (cut_of nodes sizes command.reducers command.split)) ≡ true)) ⊎ (f ≡ fault.OutOfMemory)
        → StopsIn (TasksDue command s plan) now now f
    tasks_stop f (inl h) = refuses (TasksDue command s plan) now now refl f (too_large large.Tasks) h.0 (too_many reached (ap has_too_many (sym stages_are) ∙ h.1))
    tasks_stop f (inr is) = wants (TasksDue command s plan) now now refl f is

  pub tasks_due : has_too_many (staged (cut_of nodes sizes command.reducers command.split)) ≡ false
      → TasksDue command s plan (making_of (run_of command s plan (plan_of nodes))) (Runs (run_of command s plan (plan_of nodes)))
  tasks_due h = few reached (ap has_too_many (sym stages_are) ∙ h) runs
