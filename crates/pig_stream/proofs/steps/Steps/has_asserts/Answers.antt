use Rattle.std.proofs.Common.{◌≡◌, ◌∙◌, ◌++◌, false, sym}
use Rattle.std.specs.List.{list_any}
use Rattle.pig_stream.specs.Stepping.{folding_on, path_on, plan_on}
use Rattle.pig_stream.specs.Unmet.{is_assert_at}
use Rattle.pig_stream.proofs.Joining.{none_fail}
use Rattle.pig_stream.proofs.steps.Steps.has_asserts.Goals as goal

pub returns-clause-none : goal.returns-clause-none
returns-clause-none c = λ no seen rows noted.
    let s = c.args.self.now in
    let none : list_any (is_assert_at (plan_on s)) (path_on s) ≡ false = sym c.asserts.ensures ∙ no in
    noted ∙ none_fail (folding_on s) (plan_on s) (path_on s) seen (seen ++ rows) none
