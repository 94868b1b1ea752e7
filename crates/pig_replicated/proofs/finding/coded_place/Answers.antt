use Rattle.std.proofs.Common.{◌<◌, ◌∙◌, ap, length, subst}
use Rattle.std.proofs.lemmas.List.{length-map}
use Rattle.pig_value.specs.Trees.{tree}
use Rattle.pig_replicated.specs.Codes.{key_code}
use Rattle.pig_replicated.proofs.Coded.{none_coded}
use Rattle.pig_replicated.proofs.finding.coded_place.Goals as goal

pub compared_place-requires : goal.compared_place-requires
compared_place-requires c = record {
  groups = c.requires.groups;
  within = subst (λ n. c.in-Some.at < n) (ap length c.requires.codes ∙ length-map c.args.groups.now key_code) c.in-Some.ensures;
}

pub returns-in-None : goal.returns-in-None
returns-in-None c = none_coded (tree c.args.key.now) c.args.groups.now _ c.args.bytes.now c.requires.codes c.requires.bytes c.in-None.ensures
