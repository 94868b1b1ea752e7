use Rattle.std.proofs.Common.{ap, sym, ◌∙◌, List}
use Rattle.std.specs.List.{position}
use Rattle.pig_job.specs.declared.Attempt.{Attempt}
use Rattle.pig_job.specs.Rule.{is_open}
use Rattle.pig_job.specs.Job.{WorkerState, settled}
use Rattle.pig_job.proofs.Settling.{settle-found, settle-missing}
use Rattle.pig_job.proofs.worker.Worker.settle.Goals as goal

pub returns-in-Some : goal.returns-in-Some
returns-in-Some c =
    let same = c.self.view_is in
    let at = sym c.in-Some.is ∙ c.place_of.ensures ∙ ap (λ (z : WorkerState). position (is_open c.args.task c.args.number) z.tried) (sym same) in
    let worker : List Attempt → WorkerState = λ xs. record { drawn = c.self.inside.drawn.items; tried = xs; status = c.self.inside.status } in
    ap worker (sym (settle-found c.args.task c.args.number c.args.fate c.self.inside.tried.items c.in-Some.at c.index_mut.result.now at c.index_mut.ensures.value))
    ∙ ap (λ z. settled z c.args.task c.args.number c.args.fate) same

pub returns-in_default : goal.returns-in_default
returns-in_default c =
    let at = sym c.in_default.is ∙ c.place_of.ensures in
    ap (λ xs. record c.args.self.now { tried = xs }) (sym (settle-missing c.args.task c.args.number c.args.fate c.args.self.now.tried at))
