use Rattle.std.proofs.Common.{ap, sym, refl, ◌∙◌, map, subst, Some, [], ◌∷◌, ◌++◌}
use Rattle.std.proofs.lemmas.Result.{on_ok_weaker}
use Rattle.pig_value.specs.Trees.{row_tree, tree}
use Rattle.pig_algebra.specs.Cuts.{cut_typed}
use Rattle.pig_combine.specs.Holdings.{AreGroups, entry_of, group_told, rows_under}
use Rattle.pig_combine.proofs.Placed.{here, new}
use Rattle.pig_combine.proofs.table.add_under.Goals as goal

pub returns-in-Some-clause-added : goal.returns-in-Some-clause-added
returns-in-Some-clause-added c added are =
    let key = tree c.args.key.now in
    let row = row_tree c.args.row.now in
    let cuts = map cut_typed c.args.cuts.now in
    let found = here (map (λ k. k.bytes.items) c.args.names.now.keys) c.args.groups.now.items c.requires.held cuts added are key row c.requires.key c.in-Some.at (c.in-Some.ensures.found ∙ ap Some c.requires.bytes) in
    on_ok_weaker c.add_at.result
    (λ e. subst (AreGroups cuts (added ++ entry_of key row ∷ [])) (sym e) found.3)
    (c.add_at.ensures.told found.0 (rows_under key added) found.1 found.2)

pub returns-in_ok-copied-in-None-clause-added : goal.returns-in_ok-copied-in-None-clause-added
returns-in_ok-copied-in-None-clause-added c added are =
    let key = tree c.args.key.now in
    let row = row_tree c.args.row.now in
    let cuts = map cut_typed c.args.cuts.now in
    let group = c.in_ok-group-in-None.group in
    on_ok_weaker c.put.result
    (λ e. subst (λ gs. AreGroups cuts (added ++ entry_of key row ∷ []) (map group_told gs)) (sym e)
    (new (map (λ k. k.bytes.items) c.args.names.now.keys) c.args.groups.now.items c.requires.held cuts added are key row c.args.bytes.now c.requires.bytes (c.in-None.ensures.none refl)
    group c.in_ok-group-in-None.ensures.key c.in_ok-group-in-None.ensures.told))
    c.put.ensures.groups
