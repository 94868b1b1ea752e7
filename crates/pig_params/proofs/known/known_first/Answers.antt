use Rattle.std.proofs.Common.{◌≡◌, ◌∙◌, ◌≤◌, ap, length, map, take, rules}
use Rattle.std.proofs.lemmas.List.{take_all}
use Rattle.pig_params.specs.Given.{named_of}
use Rattle.pig_params.specs.Substitution.{last_of}
use Rattle.pig_params.proofs.known.known_first.Goals as goal

pub returns : goal.returns
returns c =
    let past : length c.as_slice-param-items.result.now ≤ c.loop-param.param-index = search rules in
    let all : take c.loop-param.param-index c.as_slice-param-items.result.now ≡ c.args.given.now = take_all _ _ past ∙ c.as_slice-param-items.ensures in
    record {
      fixed = λ n. c.loop-param.invariant.0 n ∙ ap (λ ps. last_of n (map named_of ps)) all;
      defaults = λ n. c.loop-param.invariant.1 n;
    }
