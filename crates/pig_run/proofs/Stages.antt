-- Stages hand on, one after the other.
use Rattle.std.proofs.Common.{◌≡◌, ◌++◌, List, [], Option, Some, None, refl, sym, ◌∙◌, ap, subst, inl, inr}
use Rattle.std.proofs.lemmas.List.{append_assoc, append-nil}
use Rattle.std.specs.Option.{option_map}
use Rattle.pig_outside.specs.Calls.{DepotCall}
use Rattle.pig_run.specs.declared.outcome.RunFault.{RunFault}
use Rattle.pig_run.specs.declared.outcome.RunFault.TheVariants as fault
use Rattle.pig_run.specs.Due.{Stage}
use Rattle.pig_run.specs.Reading.{Verdict, Refuses}
use Rattle.pig_run.specs.Refusals.{Refusal, Names}
use Rattle.pig_run.specs.Steps.{EndsIn, HandsOn, Passes, StopsIn}
use Rattle.pig_run.specs.Told.{Asked}

both_asked : (first more : List DepotCall) (old : Option (List DepotCall)) → option_map (λ xs. xs ++ more) (option_map (λ xs. xs ++ first) old) ≡ option_map (λ xs. xs ++ (first ++ more)) old
both_asked first more None = refl
both_asked first more (Some before) = ap (λ xs. Some xs) (append_assoc before first more)

pub asked_then : (first more : List DepotCall) (old mid new : Option (List DepotCall)) → Asked first old mid → Asked more mid new → Asked (first ++ more) old new
asked_then first more old mid new before after = after ∙ ap (option_map (λ xs. xs ++ more)) before ∙ both_asked first more old

same_option : (old : Option (List DepotCall)) → option_map (λ xs. xs ++ []) old ≡ old
same_option None = refl
same_option (Some xs) = ap (λ ys. Some ys) (append-nil xs)

-- nothing was asked
pub asked_nothing : (old new : Option (List DepotCall)) → new ≡ old → Asked [] old new
asked_nothing old new same = same ∙ sym (same_option old)

module _ (R S : Stage) (a : List DepotCall) (hands : HandsOn R S a) where
  pub hands_both : (T : Stage) (b : List DepotCall) → HandsOn S T b → HandsOn R T (a ++ b)
  hands_both T b k = record {
    on = λ asked v next. subst (λ xs. R xs v) (sym (append_assoc a b asked)) (hands.on (b ++ asked) v (k.on asked v next));
    back = λ asked v r.
        let first = hands.back asked v r in
        let second = k.back first.0 v first.2 in
        (second.0, first.1 ∙ ap (λ xs. a ++ xs) second.1 ∙ sym (append_assoc a b second.0), second.2);
  }

  pub ends_both : (b : List DepotCall) (f : RunFault) → EndsIn S b f → EndsIn R (a ++ b) f
  ends_both b f (inl e) = inl (record { refusal = e.refusal; due = hands.on b (Refuses e.refusal) e.due; names = e.names })
  ends_both b f (inr e) = inr (record {
    free = e.free;
    first = λ asked v r.
        let behind = hands.back asked v r in
        let more = e.first behind.0 v behind.2 in
        (more.0, behind.1 ∙ ap (λ xs. a ++ xs) more.1 ∙ sym (append_assoc a b more.0));
  })

-- a step behind one that passed
module _ (R S : Stage) (old mid : Option (List DepotCall)) (before : Passes R S old mid) (new : Option (List DepotCall)) where
  pub passes_both : (T : Stage) → Passes S T mid new → Passes R T old new
  passes_both T h = record {
    made = before.made ++ h.made;
    asked = asked_then before.made h.made old mid new before.asked h.asked;
    hands = hands_both R S before.made before.hands T h.made h.hands;
  }

  pub stops_both : (f : RunFault) → StopsIn S mid new f → StopsIn R old new f
  stops_both f h = record {
    made = before.made ++ h.made;
    asked = asked_then before.made h.made old mid new before.asked h.asked;
    ends = ends_both R S before.made before.hands h.made f h.ends;
  }

-- a stage that is the next one
pub passes_itself : (R S : Stage) (old new : Option (List DepotCall)) → new ≡ old → ((asked : List DepotCall) (v : Verdict) → S asked v → R asked v)
    → ((asked : List DepotCall) (v : Verdict) → R asked v → S asked v) → Passes R S old new
passes_itself R S old new same on back = record {
  made = [];
  asked = asked_nothing old new same;
  hands = record { on = on; back = λ asked v r. (asked, refl, back asked v r) };
}

-- memory was wanting, with nothing asked
pub wants : (R : Stage) (old new : Option (List DepotCall)) → new ≡ old → (f : RunFault) → f ≡ fault.OutOfMemory → StopsIn R old new f
wants R old new same f is = record {
  made = [];
  asked = asked_nothing old new same;
  ends = inr (record { free = inr is; first = λ asked v r. (asked, refl) });
}

-- what is due is refused, with nothing asked
pub refuses : (R : Stage) (old new : Option (List DepotCall)) → new ≡ old → (f : RunFault) (r : Refusal) → Names r f → R [] (Refuses r) → StopsIn R old new f
refuses R old new same f r names due = record { made = []; asked = asked_nothing old new same; ends = inl (record { refusal = r; due = due; names = names }) }
