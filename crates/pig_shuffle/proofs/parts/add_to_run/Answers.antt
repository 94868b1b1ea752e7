use Rattle.std.proofs.Common.{ap, refl, ◌∙◌, length}
use Rattle.std.specs.Option.{option_map}
use Rattle.std.proofs.lemmas.Option.{slice_get_read}
use Rattle.std.proofs.lemmas.Result.{on_ok_weaker}
use Rattle.pig_value.specs.Trees.{row_tree, tree}
use Rattle.pig_value.proofs.list_laws.Indexing.{get_map}
use Rattle.pig_value.proofs.list_laws.Listing.{each_at}
use Rattle.pig_keycode.specs.Keys.{IsKey}
use Rattle.pig_shuffle.specs.Held.{GotEntry, dirs_in, entry_under}
use Rattle.pig_shuffle.proofs.Places.{changed_set, map_set, of_either}
use Rattle.pig_shuffle.proofs.parts.add_to_run.Goals as goal

pub add-requires-clause-key : goal.add-requires-clause-key
add-requires-clause-key c =
    let runs = c.args.runs.now.items in
    let is = slice_get_read runs (length runs) c.args.part c.index_mut.result.now refl c.requires.within c.index_mut.ensures.value in
    each_at (λ ds. IsKey ds (tree c.args.key.now)) (dirs_in runs) c.args.part c.index_mut.result.now.dirs
    (get_map (λ b. b.dirs) runs c.args.part ∙ ap (option_map (λ b. b.dirs)) is) c.requires.fits

pub returns-clause-dirs : goal.returns-clause-dirs
returns-clause-dirs c =
    let runs = c.args.runs.now.items in
    map_set (λ b. b.dirs) runs c.args.part c.index_mut.result.now c.add.new.self
    (slice_get_read runs (length runs) c.args.part c.index_mut.result.now refl c.requires.within c.index_mut.ensures.value)
    (of_either c.add.result c.add.ensures.ok c.add.ensures.err (λ e. ap (λ b. b.dirs) e) (λ e. ap (λ b. b.dirs) e))

pub returns-clause-added : goal.returns-clause-added
returns-clause-added c =
    let runs = c.args.runs.now.items in
    let is = slice_get_read runs (length runs) c.args.part c.index_mut.result.now refl c.requires.within c.index_mut.ensures.value in
    on_ok_weaker c.add.result
    (λ e. changed_set (GotEntry (entry_under (tree c.args.key.now) c.args.input (row_tree c.args.row.now)))
    runs c.args.part c.index_mut.result.now c.add.new.self is e)
    c.add.ensures.ok
