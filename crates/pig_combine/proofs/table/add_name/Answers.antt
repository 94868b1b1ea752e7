use Rattle.std.proofs.Common.{ap, ◌∙◌, map, [], ◌∷◌, ◌++◌, if◌then◌else◌}
use Rattle.std.proofs.lemmas.List.{map-append}
use Rattle.pig_combine.proofs.Coded.{new_place}
use Rattle.pig_combine.proofs.table.add_name.Goals as goal

pub returns-clause-ok : goal.returns-clause-ok
returns-clause-ok c =
    ap (map (λ k. k.bytes.items))
    (c.in_ok-insert.ensures.keys
    ∙ ap (λ b. if b then c.args.names.now.keys else c.args.names.now.keys ++ c.args.copied ∷ []) (new_place (λ k. k.bytes.items) c.args.copied.bytes.items c.args.names.now.keys c.requires))
    ∙ map-append (λ k. k.bytes.items) c.args.names.now.keys (c.args.copied ∷ [])
