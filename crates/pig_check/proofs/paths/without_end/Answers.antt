use Rattle.std.proofs.Common.{◌∙◌, ap, sym, Some, None, arith}
use Rattle.std.proofs.lemmas.Str.Pattern.{strip_suffix_char}
use Rattle.pig_check.specs.Paths.{kept, slash}
use Rattle.pig_check.proofs.Kept.{kept_whole, kept_without}
use Rattle.pig_check.proofs.paths.without_end.Goals as goal

pub returns-in-Some : goal.returns-in-Some
returns-in-Some c =
    let e = strip_suffix_char slash c.args.text.now (Some c.in-Some.path) c.in-Some.ensures.cases (omega (arith)) in
    sym (ap kept e ∙ kept_without c.in-Some.path.now)

pub returns-in-None : goal.returns-in-None
returns-in-None c =
    let none = strip_suffix_char slash c.args.text.now None c.in-None.ensures.cases (omega (arith)) in
    sym (kept_whole c.args.text.now none)
