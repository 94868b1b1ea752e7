-- Batches that a source gives, in turn.
use Rattle.std.specs.Prelude.{◌≡◌, ◌+◌, ◌++◌, ℕ, List, [], refl, length}
use Rattle.std.proofs.Common.{ap, sym, subst, ◌∙◌, arith, append-nil, append_assoc}
use Rattle.std.proofs.lemmas.List.{length-append}
use Rattle.pig_value.specs.Trees.{Tree}
use Rattle.pig_value.specs.Valid.{IsValue}
use Rattle.pig_plan.proofs.Through.{through_both, through_none}
use Rattle.pig_plan.specs.Laws.{PlanLiteralsAre}
use Rattle.pig_plan.specs.Plans.{plan_of}
use Rattle.pig_plan.specs.Steps.{through}
use Rattle.pig_stream.specs.declared.steps.Steps.{Steps}
use Rattle.pig_stream.specs.Driving.{HasTaken, IsAll}
use Rattle.pig_stream.specs.Stepping.{AreSameSteps, HaveNoted, folding_on, marked_folding, path_on, plan_on, put_through}

abbrev Rows : Type 0
Rows = List (List Tree)

abbrev Coming : Type 0
Coming = List ℕ → Rows

pub same_steps : (s : Steps) → AreSameSteps s s
same_steps s = record { nodes = refl; path = refl; folded = refl }

put_same : (s t : Steps) → AreSameSteps s t → (rows : Rows) → put_through t rows ≡ put_through s rows
put_same s t same rows = λ i. through (marked_folding (same.folded i).now) (plan_of (same.nodes i).now) (same.path i).now rows

pub nothing_taken : (before : Coming) (s : Steps) (after : Rows → Type 0) → after [] → HasTaken before before s s after 0
nothing_taken before s after none = record {
  rows = [];
  came = λ later. refl;
  counted = refl;
  taken = subst after (sym (through_none (folding_on s) (plan_on s) (path_on s))) none;
  noted = λ seen h. subst (HaveNoted s) (sym (append-nil seen)) h;
  same = same_steps s;
}

pub taken_more : (a b c : Coming) (s t u : Steps) (first next both : Rows → Type 0) (m n : ℕ) → ((xs ys : Rows) → first xs → next ys → both (xs ++ ys))
    → HasTaken a b s t first m → HasTaken b c t u next n → HasTaken a c s u both (m + n)
taken_more a b c s t u first next both m n join h k = record {
  rows = h.rows ++ k.rows;
  came = λ later. h.came later ∙ ap (λ l. h.rows ++ l) (k.came later) ∙ sym (append_assoc h.rows k.rows (c later));
  counted = (let x = h.counted in let y = k.counted in let l = length-append h.rows k.rows in omega (arith, x, y, l));
  taken =
      subst both (sym (through_both (folding_on s) (plan_on s) (path_on s) h.rows k.rows))
      (join (put_through s h.rows) (put_through s k.rows) h.taken (subst next (put_same s t h.same k.rows) k.taken));
  noted = λ seen is. subst (HaveNoted u) (append_assoc seen h.rows k.rows) (k.noted (seen ++ h.rows) (h.noted seen is));
  same = record { nodes = k.same.nodes ∙ h.same.nodes; path = k.same.path ∙ h.same.path; folded = k.same.folded ∙ h.same.folded };
}

-- bytes that are handed in between
pub handed_between : (before behind next : Coming) (s t : Steps) (after : Rows → Type 0) (count : ℕ) (block : List ℕ) → HasTaken before behind s t after count
    → ((later : List ℕ) → next later ≡ behind (block ++ later)) → HasTaken (λ later. before (block ++ later)) next s t after count
handed_between before behind next s t after count block h is = record {
  rows = h.rows;
  came = λ later. h.came (block ++ later) ∙ ap (λ l. h.rows ++ l) (sym (is later));
  counted = h.counted;
  taken = h.taken;
  noted = h.noted;
  same = h.same;
}

-- no more rows come
pub all_taken : (before behind : Coming) (s t : Steps) (after : Rows → Type 0) (count : ℕ) → HasTaken before behind s t after count → HaveNoted s []
    → ((later : List ℕ) → behind later ≡ []) → (later : List ℕ) → IsAll (before later) s t after count
all_taken before behind s t after count h none dry later =
    let all : h.rows ≡ before later = sym (h.came later ∙ ap (λ l. h.rows ++ l) (dry later) ∙ append-nil h.rows) in
    record {
      counted = h.counted ∙ ap length all;
      taken = subst (λ rows. after (put_through s rows)) all h.taken;
      noted = subst (HaveNoted t) all (h.noted [] none);
      same = h.same;
    }

-- the same of a count that is equal
pub taken_all : (a b : Coming) (s t : Steps) (after : Rows → Type 0) (n m : ℕ) → n ≡ m → HasTaken a b s t after m → HasTaken a b s t after n
taken_all a b s t after n m is h = subst (HasTaken a b s t after) (sym is) h

pub same_count : (a b : Coming) (s t : Steps) (after : Rows → Type 0) (n m : ℕ) → m ≡ 0 → HasTaken a b s t after (n + m) → HasTaken a b s t after n
same_count a b s t after n m none h = taken_all a b s t after n (n + m) (omega (arith, none)) h

pub literals_still : (s t : Steps) → AreSameSteps s t → PlanLiteralsAre IsValue (plan_on s) → PlanLiteralsAre IsValue (plan_on t)
literals_still s t same h = subst (λ nodes. PlanLiteralsAre IsValue (plan_of nodes.now)) (sym same.nodes) h
