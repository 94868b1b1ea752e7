use Rattle.std.proofs.Common.{sym, subst}
use Rattle.std.specs.Str.Parse.{digits_value}
use Rattle.pig_words.specs.CommandWords.{IsCount}
use Rattle.pig_run.proofs.DemoSteps.{count_parsed}
use Rattle.pig_run.proofs.demonstrating.visits_of.Goals as goal

pub unreachable-requires : goal.unreachable-requires
unreachable-requires c =
    let word = c.as_str.result.now in
    c.in_default.not-Ok (digits_value 10 word) (count_parsed word c.parse.result c.parse.ensures.value.0 (subst IsCount (sym c.as_str.ensures.text) c.requires))
