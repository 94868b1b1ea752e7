-- The end of a job is what the words and the last pass say.
use Rattle.std.proofs.Common.{◌≡◌, ℕ, ◌+◌, ◌*◌, ◌<◌, List, [], ◌∷◌, length, get_or, refl, sym, ◌∙◌, ap, arith, inl, inr, zero, suc}
use Rattle.std.specs.List.{flat_map, sum_by}
use mathlib.Core.Option.{some, some-injective, some-ne-none}
use lib.ListN.{get_elem?}
use Rattle.std.proofs.lemmas.Bool.{cases_lt}
use Rattle.std.proofs.lemmas.List.{get_or_past}
use Rattle.pig_job.proofs.Bag.{SameBag}
use Rattle.pig_job.proofs.Keeps.{SameWords, keeps_same}
use Rattle.pig_job.proofs.States.{sum_by-flat_map}
use Rattle.pig_board.specs.declared.view.View.{View}
use Rattle.pig_board.specs.declared.end.TaskEnd.{TaskEnd}
use Rattle.pig_board.specs.View.{steps_of, IsAlone}
use Rattle.pig_board.specs.Rule.{winner_of, words_of, IsBoard}
use Rattle.pig_board.specs.End.{untried, end_of, end_in, words_at, AreSmall, IsEnd}
use Rattle.pig_board.proofs.Parts.{alone}
use Rattle.pig_board.proofs.Counts.{sum_none}
use Rattle.pig_board.proofs.Writes.{noted_still, Grows-same, total-same, summand-le}
use Rattle.pig_board.proofs.Moves.{winner_small}

pub word_is : (ws : List ℕ) (i x : ℕ) → get_elem? ws i ≡ some x → get_or ws i 0 ≡ x
word_is [] i x e = absurd (some-ne-none x (sym e))
word_is (w ∷ ws) zero x e = some-injective w x e
word_is (w ∷ ws) (suc i) x e = word_is ws i x e

pub are_small : (n : ℕ) (ws : List ℕ) (vs : List View) (t : ℕ) → IsBoard n ws vs → t < n → AreSmall ws t
are_small n ws vs t b there =
    let whole = b.within in
    let begun = summand-le (λ u. get_or ws (3 * u + 1) 0) n t there in
    let failed = summand-le (λ u. get_or ws (3 * u + 2) 0) n t there in
    record { attempts = omega arith; failed = omega arith; winner = winner_small n ws vs t b there }

-- beyond the tasks there is nothing, in the ends and in the words
ends_are : (n : ℕ) (ws : List ℕ) (ends : List TaskEnd) → length ws ≡ 3 * n + 1 → length ends ≡ n → ((k : ℕ) → k < n → end_of ends k ≡ end_in ws k) → (u : ℕ) → end_of ends u ≡ end_in ws u
ends_are n ws ends long count each u = elim (cases_lt u n) as (λ _. end_of ends u ≡ end_in ws u) [
  | inl l ↦ each u l
  | inr l ↦
      let a = get_or_past ws (3 * u + 1) 0 (omega arith) in
      let b = get_or_past ws (3 * u + 2) 0 (omega arith) in
      let c = get_or_past ws (3 * u + 3) 0 (omega arith) in
      get_or_past ends u untried (omega arith) ∙ sym (
      ap {A = ℕ} {B = TaskEnd} (λ k. record { attempts = k; failed = get_or ws (3 * u + 2) 0; winner = winner_of (get_or ws (3 * u + 3) 0) }) a
      ∙ ap {A = ℕ} {B = TaskEnd} (λ k. record { attempts = 0; failed = k; winner = winner_of (get_or ws (3 * u + 3) 0) }) b
      ∙ ap {A = ℕ} {B = TaskEnd} (λ k. record { attempts = 0; failed = 0; winner = winner_of k }) c)
]

-- all entries are those of the one pass that is alone
only : {X : Type 0} (g : View → List X) (vs : List View) (id : ℕ) (v : View) → get_elem? vs id ≡ some v → sum_by steps_of vs ≡ steps_of v → ((u : View) → steps_of u ≡ 0 → length (g u) ≡ 0) → SameBag (flat_map g vs) (g v)
only g vs id v at whole none = record {
  sums = λ f.
      let p = sum_by-flat_map f g vs in
      let q = alone (λ u. sum_by f (g u)) steps_of vs id v at whole (λ u e. sum_none f (g u) (none u e)) in
      omega arith;
}

pub closed_end : (n : ℕ) (ws : List ℕ) (vs : List View) (id : ℕ) (v : View) (ends : List TaskEnd) → IsBoard n ws vs → get_elem? vs id ≡ some v → IsAlone v → length ends ≡ n → ((k : ℕ) → k < n → end_of ends k ≡ end_in ws k) → IsEnd v ends
closed_end n ws vs id v ends b at is count each =
    let next = get_or ws 0 0 in
    let at_each = ends_are n ws ends b.long count each in
    let whole : sum_by steps_of vs ≡ steps_of v = b.shared_out ∙ sym is in
    let same : SameWords (words_of n ws) (words_at next ends) = record {
      tasks = count;
      next = refl;
      begun = λ u. ap (λ (k : TaskEnd). k.attempts) (at_each u);
      failed = λ u. ap (λ (k : TaskEnd). k.failed) (at_each u);
      winner = λ u. ap (λ (k : TaskEnd). k.winner) (at_each u);
    } in
    let total = total-same (words_of n ws) (words_at next ends) same in
    let room = alone (λ (u : View). u.room) steps_of vs id v at whole (λ u e. omega arith) in
    let within = b.within in
    record {
      next = next;
      kept = keeps_same (words_of n ws) (words_at next ends) _ _ _ _ same (only (λ (u : View). u.drawn) vs id v at whole (λ u e. omega arith)) (only (λ (u : View). u.tried) vs id v at whole (λ u e. omega arith)) b.kept;
      within = omega arith;
      noted = noted_still (words_of n ws) (words_at next ends) v (Grows-same _ _ same) (b.noted id v at);
    }
