use Rattle.std.proofs.Common.{rules, ◌≡◌, ℕ, subst, sym}
use Rattle.std.specs.Prelude.{⊤}
use Rattle.pig_plan.specs.Plans.{plan_of}
use Rattle.pig_moves.specs.Pushed.{CanPart, GoesOn, IsTidy, none}
use Rattle.pig_moves.proofs.Steps.{first_of}
use Rattle.pig_moves.proofs.Tidy.{moves_tidy, none_moves}
use Rattle.pig_push.specs.Lone.{AreExact, AreReaders}
use Rattle.pig_push.proofs.LoneReaders.{exact_of, sound_of}
use Rattle.pig_push.proofs.pushing.move_all.Goals as goal

pub sweeps-init : goal.sweeps-init
sweeps-init c =
    let goes : GoesOn (plan_of c.args.plan) (plan_of c.in_ok-made.made) = search rules in
    goes (plan_of c.args.plan) none

pub find_part-requires : goal.find_part-requires
find_part-requires c =
    let are : AreReaders (plan_of c.sweeps.made) c.in_ok-counts.counts.items = search rules in
    let same : c.as_slice.result.now ≡ c.in_ok-counts.counts.items = search rules in
    subst (AreExact (plan_of c.sweeps.made)) (sym same) (exact_of (plan_of c.sweeps.made) c.in_ok-counts.counts.items are)

pub swept-requires : goal.swept-requires
swept-requires c =
    let are : AreReaders (plan_of c.sweeps.made) c.in_ok-counts.counts.items = search rules in
    record { sound = sound_of (plan_of c.sweeps.made) c.in_ok-counts.counts.items are }

pub returns-in_default-clause-normal : goal.returns-in_default-clause-normal
returns-in_default-clause-normal c =
    let told : (i k : ℕ) → CanPart (plan_of c.sweeps.made) i k → ⊥ =
    first_of (λ high. ⊤) c.in_ok-last.field-0 c.in_ok-last.ensures (λ x e. c.in_default.not-Some x e) in
    let tidy : IsTidy (plan_of c.sweeps.made) = moves_tidy (plan_of c.args.plan) (plan_of c.sweeps.made) c.requires.valid c.requires.tidy c.sweeps.invariant in
    none_moves (plan_of c.sweeps.made) tidy told
