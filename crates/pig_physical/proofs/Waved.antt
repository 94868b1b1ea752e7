-- What a wave at a place holds is what the definition has there.
use Rattle.std.specs.Prelude.{◌≡◌, ◌<◌, ℕ, List, map, length, Some, get_or, slice_get, refl}
use Rattle.std.proofs.Common.{ap, sym, ◌∙◌, arith, subst}
use Rattle.std.specs.Option.{option_map}
use Rattle.std.proofs.lemmas.List.{length-map}
use Rattle.std.proofs.lemmas.Option.{slice_get-map, slice_get_read}
use Rattle.pig_physical.specs.Seen.{AreWaves, IsWave, entering_of, task_of}
use Rattle.pig_physical.specs.Stages.{Stages, heads, tasks_in, ways_in}
use Rattle.pig_physical.specs.declared.staged.Wave.{Wave}

-- what is read at a place of a list that holds as many elements
found_at : {X : Type 0} (xs read : List X) (n i : ℕ) (x : X) → length xs ≡ n → read ≡ xs → i < n → x ≡ get_or read i x → slice_get xs i ≡ Some x
found_at xs read n i x count is within at =
    let same : length read ≡ length xs = ap length is in
    let here : i < length read = omega (arith, count, same, within) in
    subst (λ ys. slice_get ys i ≡ Some x) is (slice_get_read read (length read) i x refl here at)

-- and at a place of what they are seen as
pub seen_at : {X Y : Type 0} (f : X → Y) (xs read : List X) (ys : List Y) (i : ℕ) (x : X) → map f xs ≡ ys → read ≡ xs → i < length ys → x ≡ get_or read i x
    → slice_get ys i ≡ Some (f x)
seen_at f xs read ys i x are is within at =
    let count : length xs ≡ length ys = sym (length-map xs f) ∙ ap length are in
    ap (λ zs. slice_get zs i) (sym are) ∙ slice_get-map f xs i ∙ ap (option_map f) (found_at xs read (length ys) i x count is within at)

pub wave_is : (s : Stages) (waves read : List Wave) (w : ℕ) (x : Wave) → AreWaves s waves → read ≡ waves → w < length (heads s.plan) → x ≡ get_or read w x → IsWave s w x
wave_is s waves read w x are is within at = are.each w x (found_at waves read (length (heads s.plan)) w x are.count is within at)

module _ (s : Stages) (w : ℕ) (x : Wave) (is : IsWave s w x) where
  pub tasks_count : length x.tasks ≡ length (tasks_in s w)
  tasks_count = sym (length-map x.tasks (task_of (ways_in s.plan w))) ∙ ap length is.tasks

  pub ways_count : length x.ways ≡ length (ways_in s.plan w)
  ways_count = sym (length-map x.ways entering_of) ∙ ap length is.ways
