use Rattle.std.proofs.Common.{ap, refl, sym, ◌∙◌, length, map, slice_set}
use Rattle.std.proofs.lemmas.Option.{slice_get_read}
use Rattle.std.proofs.lemmas.List.{map-set}
use Rattle.std.proofs.lemmas.Result.{on_err_weaker, on_ok_weaker}
use Rattle.pig_value.specs.Trees.{tree}
use Rattle.pig_value.proofs.list_laws.Listing.{some_same}
use Rattle.pig_combine.specs.Holdings.{group_told}
use Rattle.pig_combine.specs.Names.{name}
use Rattle.pig_combine.specs.Tallies.{told}
use Rattle.pig_combine.proofs.Placed.{map_kept}
use Rattle.pig_combine.proofs.table.add_at.Goals as goal

pub returns-clause-names : goal.returns-clause-names
returns-clause-names c =
    map_kept (λ g. name (tree g.key)) c.args.groups.now.items c.args.at c.index_mut.result.now c.add_to.new.group (slice_get_read c.args.groups.now.items (length c.args.groups.now.items) c.args.at c.index_mut.result.now refl c.requires c.index_mut.ensures.value)
    (ap (λ k. name (tree k)) c.add_to.ensures.key)

pub returns-clause-told : goal.returns-clause-told
returns-clause-told c g rows at h =
    let same = some_same c.index_mut.result.now g (sym (slice_get_read c.args.groups.now.items (length c.args.groups.now.items) c.args.at c.index_mut.result.now refl c.requires c.index_mut.ensures.value) ∙ at) in
    on_ok_weaker c.add_to.result
    (λ e. map-set group_told c.args.groups.now.items c.args.at c.add_to.new.group
    ∙ ap (slice_set (map group_told c.args.groups.now.items) c.args.at) (λ i. record { key = tree ((c.add_to.ensures.key ∙ ap (λ x. x.key) same) i); told = e i }))
    (c.add_to.ensures.told rows (ap (λ x. map told x.tallies.items) same ∙ h))

pub returns-clause-err : goal.returns-clause-err
returns-clause-err c =
    on_err_weaker c.add_to.result
    (λ e. map_kept group_told c.args.groups.now.items c.args.at c.index_mut.result.now c.add_to.new.group (slice_get_read c.args.groups.now.items (length c.args.groups.now.items) c.args.at c.index_mut.result.now refl c.requires c.index_mut.ensures.value)
    (λ i. record { key = tree (c.add_to.ensures.key i); told = map told (e i) }))
    c.add_to.ensures.err
