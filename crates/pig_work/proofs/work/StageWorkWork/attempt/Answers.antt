use Rattle.std.proofs.Common.{subst}
use Rattle.std.specs.Prelude.{[], ◌∷◌, IfOk, IfSome}
use Rattle.pig_physical.specs.Handed.{out_of}
use Rattle.pig_physical.specs.Seen.{staged}
use Rattle.pig_work.specs.Working.{IsRightAt}
use Rattle.pig_work.proofs.Attempted.{among_all}
use Rattle.pig_work.proofs.work.StageWorkWork.attempt.Goals as goal

pub returns-clause-right : goal.returns-clause-right
returns-clause-right g c =
    among_all out_of (staged c.args.self.now.0) g.N.Setting.told g.N.Setting.outs c.args.self.now.1 c.args.place
    (g.H.Host.inputs c.args.host.now) c.requires.suits c.attempt_at.result
    (subst (λ v. IfOk c.attempt_at.result (λ o. IfSome o
    (λ out. IsRightAt (staged v.0) (g.H.Host.inputs c.args.host.now ∷ []) g.N.Setting.outs v.1 c.args.place (out_of out)))) c.self.view_is
    (subst (λ outs. IfOk c.attempt_at.result
    (λ o. IfSome o (λ out. IsRightAt (staged c.self.inside.stages.now) (g.H.Host.inputs c.args.host.now ∷ []) outs c.self.inside.wave c.args.place
    (out_of out))))
    c.self.invariant.0 c.attempt_at.ensures.right))
