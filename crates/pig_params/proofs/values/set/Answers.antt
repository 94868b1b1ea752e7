use Rattle.std.proofs.Common.{◌∙◌, ap}
use Rattle.std.specs.Option.{option_map}
use Rattle.std.specs.Str.{bytes_eq}
use Rattle.std.proofs.lemmas.Map.Text.{hash_map_updates_str}
use Rattle.pig_params.proofs.Looking.{where_set}
use Rattle.pig_params.proofs.values.set.Goals as goal

pub returns : goal.returns
returns c = record {
  ok = λ n. ap (option_map (λ v. v.now)) (hash_map_updates_str c.args.name.now c.args.table.now c.insert.new.self _ c.in_ok-insert.ensures.updates n)
      ∙ where_set (bytes_eq c.args.name.now n) c.args.value _;
}
