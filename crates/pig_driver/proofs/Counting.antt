-- Numbers that are summed up over waves, tasks and runs.
use Rattle.std.specs.Prelude.{◌≡◌, ◌<◌, ◌≤◌, ◌+◌, ◌%◌, ◌^◌, ℕ, zero, suc, List, [], ◌∷◌, ◌++◌, map, drop, get_or, length, min, Option, None, Some, slice_get, refl}
use Rattle.std.proofs.Common.{ap, sym, ◌∙◌, arith, length-drop}
use Rattle.std.specs.List.{sum_by}
use Rattle.std.specs.Option.{option_map, option_map_or}
use Rattle.std.proofs.lemmas.Option.{slice_get_read}
use Rattle.std.proofs.lemmas.List.Sums.{sum_by-cons}
use Rattle.pig_value.proofs.list_laws.Indexing.{dropped, get_map}
use Rattle.pig_plan.specs.Plans.{Plan}
use Rattle.pig_physical.specs.Handed.{out_of}
use Rattle.pig_physical.specs.Outs.{Outs, TaskOut}
use Rattle.pig_physical.specs.Stages.{Stages, Task, tasks_in}
use Rattle.pig_physical.specs.declared.outputs.Out.{Out}
use Rattle.pig_driver.specs.Handing.{entries_handed, handed_by, handed_from, handed_in}

-- ---- modulo 2 to the 64

-- a first part is counted
pub counts_on : (count u x rest total : ℕ) → u ≡ x % 2 ^ 64 → (count + (x + rest)) % 2 ^ 64 ≡ total % 2 ^ 64
    → ((count + u) % 2 ^ 64 + rest) % 2 ^ 64 ≡ total % 2 ^ 64
counts_on count u x rest total is so_far = omega (arith, is, so_far)

-- ---- waves, one behind the others

handed_push : (s : Stages) (w : ℕ) (outs : Outs) (out : List TaskOut) → handed_from s w (outs ++ out ∷ []) ≡ handed_from s w outs + handed_in s.plan (tasks_in s (w + length outs)) out
handed_push s w [] out = let e : w + 0 ≡ w = omega arith in let same = ap (λ v. handed_in s.plan (tasks_in s v) out) e in omega (arith, same)
handed_push s w (o ∷ outs) out =
    let e : w + 1 + length outs ≡ w + suc (length outs) = omega arith in
    let same = ap (λ v. handed_in s.plan (tasks_in s v) out) e in
    let rest = handed_push s (w + 1) outs out in
    omega (arith, same, rest)

-- what one more wave handed on is added
pub handed_more : (s : Stages) (outs : Outs) (out : List TaskOut) (w count u : ℕ) → length outs ≡ w → u ≡ handed_in s.plan (tasks_in s w) out % 2 ^ 64
    → count ≡ entries_handed s outs % 2 ^ 64 → (count + u) % 2 ^ 64 ≡ entries_handed s (outs ++ out ∷ []) % 2 ^ 64
handed_more s outs out w count u size is so_far =
    let e : 0 + length outs ≡ w = omega (arith, size) in
    let same = ap (λ v. handed_in s.plan (tasks_in s v) out) e in
    let more = handed_push s 0 outs out in
    omega (arith, more, same, is, so_far)

-- ---- tasks and their outputs

-- one task, and those behind it
pub handed_next : (plan : Plan) (tasks : List Task) (outs : List TaskOut) (at : ℕ) (task : Task) (out : TaskOut) → slice_get tasks at ≡ Some task → slice_get outs at ≡ Some out
    → handed_in plan (drop at tasks) (drop at outs) ≡ handed_by plan task out + handed_in plan (drop (at + 1) tasks) (drop (at + 1) outs)
handed_next plan tasks outs at task out there beside = λ i. handed_in plan (dropped tasks at task there i) (dropped outs at out beside i)

pub handed_on : (plan : Plan) (tasks : List Task) (outs : List TaskOut) (at count u : ℕ) (task : Task) (out : TaskOut) → slice_get tasks at ≡ Some task → slice_get outs at ≡ Some out
    → u ≡ handed_by plan task out % 2 ^ 64 → (count + handed_in plan (drop at tasks) (drop at outs)) % 2 ^ 64 ≡ handed_in plan tasks outs % 2 ^ 64
    → ((count + u) % 2 ^ 64 + handed_in plan (drop (at + 1) tasks) (drop (at + 1) outs)) % 2 ^ 64 ≡ handed_in plan tasks outs % 2 ^ 64
handed_on plan tasks outs at count u task out there beside is so_far =
    let next = handed_next plan tasks outs at task out there beside in
    let whole : (count + (handed_by plan task out + handed_in plan (drop (at + 1) tasks) (drop (at + 1) outs))) % 2 ^ 64 ≡ handed_in plan tasks outs % 2 ^ 64 =
    ap (λ m. (count + m) % 2 ^ 64) (sym next) ∙ so_far in
    counts_on count u (handed_by plan task out) (handed_in plan (drop (at + 1) tasks) (drop (at + 1) outs)) (handed_in plan tasks outs) is whole

-- the output at a place, as contracts see it
pub out_at : (outs : List Out) (at : ℕ) (out : Out) → at < length outs → out ≡ get_or outs at out → slice_get (map out_of outs) at ≡ Some (out_of out)
out_at outs at out less is = get_map out_of outs at ∙ ap (option_map out_of) (slice_get_read outs (length outs) at out refl less is)

-- none is left where one list ends
pub handed_end : (plan : Plan) (tasks : List Task) (outs : List TaskOut) (at : ℕ) → at ≡ min (length outs) (length tasks) → handed_in plan (drop at tasks) (drop at outs) ≡ 0
handed_end plan tasks outs at is = by_lengths (drop at tasks) (drop at outs) (let a = length-drop at tasks in let b = length-drop at outs in omega (arith, a, b, is))
  where
    by_lengths : (ts : List Task) (os : List TaskOut) → min (length os) (length ts) ≡ 0 → handed_in plan ts os ≡ 0
    by_lengths [] os h = refl
    by_lengths (t ∷ ts) [] h = refl
    by_lengths (t ∷ ts) (o ∷ os) h = absurd (omega (arith, h))

pub handed_all : (plan : Plan) (tasks : List Task) (outs : List TaskOut) (at count end : ℕ) → end ≡ min (length outs) (length tasks) → at ≤ end → end ≤ at → count < 2 ^ 64
    → (count + handed_in plan (drop at tasks) (drop at outs)) % 2 ^ 64 ≡ handed_in plan tasks outs % 2 ^ 64 → count ≡ handed_in plan tasks outs % 2 ^ 64
handed_all plan tasks outs at count end is low high fits so_far =
    let none = handed_end plan tasks outs at (omega (arith, is, low, high)) in
    omega (arith, none, fits, so_far)

-- one more of the elements of a list by their places
pub counts_place : {X : Type 0} (f : X → ℕ) (xs : List X) (at count u : ℕ) → u ≡ option_map_or f (slice_get xs at) 0
    → (count + sum_by f (drop at xs)) % 2 ^ 64 ≡ sum_by f xs % 2 ^ 64 → ((count + u) % 2 ^ 64 + sum_by f (drop (at + 1) xs)) % 2 ^ 64 ≡ sum_by f xs % 2 ^ 64
counts_place f xs at count u is so_far = by_found (slice_get xs at) refl is
  where
    past : {X : Type 0} (xs : List X) (at : ℕ) → slice_get xs at ≡ None → drop (at + 1) xs ≡ drop at xs
    past [] at e = let one : at + 1 ≡ suc at = omega arith in ap (λ n. drop n []) one ∙ none at
      where
        none : {Y : Type 0} (n : ℕ) → drop {A = Y} (suc n) [] ≡ drop n []
        none zero = refl
        none (suc n) = refl
    past (x ∷ xs) zero e = absurd (cc)
    past (x ∷ xs) (suc at) e = let one : suc at + 1 ≡ suc (at + 1) = omega arith in ap (λ n. drop n (x ∷ xs)) one ∙ past xs at e

    by_found : (o : Option _) → slice_get xs at ≡ o → u ≡ option_map_or f o 0 → ((count + u) % 2 ^ 64 + sum_by f (drop (at + 1) xs)) % 2 ^ 64 ≡ sum_by f xs % 2 ^ 64
    by_found None e v =
        let same = ap (sum_by f) (past xs at e) in
        omega (arith, same, v, so_far)
    by_found (Some x) e v =
        let cut = ap (sum_by f) (dropped xs at x e) ∙ sum_by-cons f x (drop (at + 1) xs) in
        omega (arith, cut, v, so_far)
