use Rattle.std.proofs.Common.{◌≡◌, ◌∷◌, [], take, ◌∙◌, ap, append-nil, rules}
use Rattle.std.specs.List.{flat_map}
use Rattle.pig_packed.specs.Growth.{and_rows, whole_rows}
use Rattle.pig_map.proofs.lent.first_rows.Goals as goal

pub returns : goal.returns
returns c =
    let added : c.add_first.new.built ≡ and_rows (take c.args.count (flat_map (λ list. list.now) (c.args.rows ∷ []))) (whole_rows []) = search rules in
    let found : c.finish.result ≡ c.add_first.new.built.rows = search rules in
    found ∙ (ap (λ b. b.rows) added ∙ ap (take c.args.count) (append-nil c.args.rows.now))
