use Rattle.std.proofs.Common.{ap, sym, Some, None, arith}
use Rattle.std.proofs.lemmas.Str.Pattern.{strip_prefix_char}
use Rattle.pig_check.specs.Paths.{below_root, slash}
use Rattle.pig_check.proofs.Kept.{below_itself}
use Rattle.pig_check.proofs.paths.below_root.Goals as goal

pub returns-in-Some : goal.returns-in-Some
returns-in-Some c =
    let e = strip_prefix_char slash c.args.path.now (Some c.in-Some.rest) c.in-Some.ensures.cases (omega (arith)) in
    sym (ap below_root e)

pub returns-in-None : goal.returns-in-None
returns-in-None c = sym (below_itself c.args.path.now (strip_prefix_char slash c.args.path.now None c.in-None.ensures.cases (omega (arith))))
