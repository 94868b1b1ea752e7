-- Look-ups in turn: what was asked so far, and how it goes on.
use Rattle.std.proofs.Common.{◌≡◌, ◌<◌, ◌≤◌, ◌+◌, ◌++◌, ℕ, Bool, true, false, List, [], ◌∷◌, length, map, take, drop, get_or, Option, Some, None, refl, sym, ◌∙◌, ap, subst, inl, inr, cond, add-one}
use Rattle.std.specs.List.{find}
use Rattle.std.proofs.Math.Seq.{take-suc}
use Rattle.std.proofs.lemmas.List.{append_assoc, drop_all, drop_more, map-append, take_all, take-append-drop}
use Rattle.pig_outside.specs.Calls.{DepotCall}
use Rattle.pig_outside.specs.declared.failing.Method.{Method}
use Rattle.pig_run.specs.declared.outcome.RunFault.{RunFault}
use Rattle.pig_run.specs.Due.{Looks, Stage, call, passed, stopped, through}
use Rattle.pig_run.specs.Reading.{Verdict, Refuses}
use Rattle.pig_run.specs.Refusals.{Refusal, Names}
use Rattle.pig_run.specs.Steps.{IsLookFault, Passes, StopsIn}
use Rattle.pig_run.specs.Told.{Asked, IsPrefix}
use Rattle.pig_run.proofs.Deciding.{not_none}
use Rattle.pig_run.proofs.Stages.{asked_then}

module _ (is_so : List ℕ → Bool) (refusal : List ℕ → Refusal) (m : Method) (paths : List (List ℕ)) (next : Stage) where
  -- those before a place were asked for, and none was so
  pub record LookedAt (place : ℕ) (old now : Option (List DepotCall)) : Type 0 where
    pub asked : Asked (map (call m) (take place paths)) old now
    pub found : find is_so paths ≡ find is_so (drop place paths)
    pub calls : through is_so paths ≡ take place paths ++ through is_so (drop place paths)

  module _ (place : ℕ) (path d : List ℕ) (old now new : Option (List DepotCall)) (so_far : LookedAt place old now) (within : place < length paths)
      (at : path ≡ get_or paths place d) (asked : Asked (call m path ∷ []) now new) where
    front : drop place paths ≡ path ∷ drop (place + 1) paths
    front = drop_more paths place d within ∙ ap (λ p. p ∷ drop (place + 1) paths) (sym at)

    more : take (place + 1) paths ≡ take place paths ++ path ∷ []
    more = ap (λ n. take n paths) (add-one place) ∙ take-suc paths place d within ∙ ap (λ p. take place paths ++ p ∷ []) (sym at)

    asked_now : Asked (map (call m) (take (place + 1) paths)) old new
    asked_now = subst (λ xs. Asked xs old new) (sym (ap (map (call m)) more ∙ map-append (call m) (take place paths) (path ∷ [])))
        (asked_then (map (call m) (take place paths)) (call m path ∷ []) old now new so_far.asked asked)

    find_is : find is_so paths ≡ cond (is_so path) (Some path) (find is_so (drop (place + 1) paths))
    find_is = so_far.found ∙ ap (find is_so) front

    through_is : through is_so paths ≡ take place paths ++ path ∷ cond (is_so path) [] (through is_so (drop (place + 1) paths))
    through_is = so_far.calls ∙ ap (λ xs. take place paths ++ through is_so xs) front

    -- it is not so, and the next one comes
    pub looks_on : is_so path ≡ false → LookedAt (place + 1) old new
    looks_on not_so = record {
      asked = asked_now;
      found = find_is ∙ ap (λ b. cond b (Some path) (find is_so (drop (place + 1) paths))) not_so;
      calls = through_is ∙ ap (λ b. take place paths ++ path ∷ cond b [] (through is_so (drop (place + 1) paths))) not_so
          ∙ sym (append_assoc (take place paths) (path ∷ []) (through is_so (drop (place + 1) paths)))
          ∙ ap (λ xs. xs ++ through is_so (drop (place + 1) paths)) (sym more);
    }

    -- it is so, which is refused
    pub looks_stop : (f : RunFault) → is_so path ≡ true → Names (refusal path) f → StopsIn (Looks is_so refusal m paths next) old new f
    looks_stop f so names =
        let found : find is_so paths ≡ Some path = find_is ∙ ap (λ b. cond b (Some path) (find is_so (drop (place + 1) paths))) so in
        let calls : through is_so paths ≡ take (place + 1) paths = through_is ∙ ap (λ b. take place paths ++ path ∷ cond b [] (through is_so (drop (place + 1) paths))) so ∙ sym more in
        record {
          made = map (call m) (take (place + 1) paths);
          asked = asked_now;
          ends = inl (record { refusal = refusal path; due = subst (λ xs. Looks is_so refusal m paths next (map (call m) xs) (Refuses (refusal path))) calls (stopped found); names = names });
        }

    begins_through : IsPrefix (map (call m) (take (place + 1) paths)) (map (call m) (through is_so paths))
    begins_through = (
      map (call m) (cond (is_so path) [] (through is_so (drop (place + 1) paths))),
      ap (map (call m)) (through_is ∙ sym (append_assoc (take place paths) (path ∷ []) (cond (is_so path) [] (through is_so (drop (place + 1) paths))))
          ∙ ap (λ xs. xs ++ cond (is_so path) [] (through is_so (drop (place + 1) paths))) (sym more))
          ∙ map-append (call m) (take (place + 1) paths) (cond (is_so path) [] (through is_so (drop (place + 1) paths))),
    )

    begins_all : (asked : List DepotCall) → IsPrefix (map (call m) (take (place + 1) paths)) (map (call m) paths ++ asked)
    begins_all asked = (
      map (call m) (drop (place + 1) paths) ++ asked,
      ap (λ xs. map (call m) xs ++ asked) (sym (take-append-drop (place + 1) paths))
          ∙ ap (λ xs. xs ++ asked) (map-append (call m) (take (place + 1) paths) (drop (place + 1) paths))
          ∙ append_assoc (map (call m) (take (place + 1) paths)) (map (call m) (drop (place + 1) paths)) asked,
    )

    first_of_due : (asked : List DepotCall) (v : Verdict) → Looks is_so refusal m paths next asked v → IsPrefix (map (call m) (take (place + 1) paths)) asked
    first_of_due _ _ (stopped found) = begins_through
    first_of_due _ v (passed {asked = more} none due) = begins_all more

    -- the depot or memory failed
    pub looks_broken : (f : RunFault) → IsLookFault f → StopsIn (Looks is_so refusal m paths next) old new f
    looks_broken f free = record { made = map (call m) (take (place + 1) paths); asked = asked_now; ends = inr (record { free = free; first = first_of_due }) }

  -- where none is so, the next stage is due behind all of them
  pub looks_behind : find is_so paths ≡ None → (asked : List DepotCall) (v : Verdict) → Looks is_so refusal m paths next asked v → (more : List DepotCall) × (asked ≡ map (call m) paths ++ more) × next more v
  looks_behind none _ _ (stopped found) = not_none (sym none ∙ found)
  looks_behind none _ v (passed {asked = more} is due) = (more, refl, due)

  -- none was so
  pub looks_end : (place : ℕ) (old now : Option (List DepotCall)) → LookedAt place old now → length paths ≤ place → Passes (Looks is_so refusal m paths next) next old now
  looks_end place old now so_far end =
      let none : find is_so paths ≡ None = so_far.found ∙ ap (find is_so) (drop_all place paths end) in
      record {
        made = map (call m) paths;
        asked = subst (λ xs. Asked (map (call m) xs) old now) (take_all place paths end) so_far.asked;
        hands = record { on = λ asked v due. passed none due; back = looks_behind none };
      }
