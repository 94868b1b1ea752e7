use Rattle.std.proofs.Common.{◌∙◌, [], ◌∷◌}
use Rattle.pig_runs.specs.Alone.{alone}
use Rattle.pig_runs.proofs.Once.{alone_told, good_entry, one_held, packed_entry}
use Rattle.pig_runs.proofs.keys.add_alone.Goals as goal

pub add_lent-requires : goal.add_lent-requires
add_lent-requires c =
    one_held c.args.found.now.dirs c.requires.dirs c.args.bytes.now c.as_slice.result.now (λ key. key ∷ [])
    (alone_told c.args.bytes.now c.as_slice.result.now (c.as_slice.ensures.value ∙ c.in_ok-write_alone.ensures)) c.requires.key

pub returns : goal.returns
returns c key is =
    let told = alone_told c.args.bytes.now c.as_slice.result.now (c.as_slice.ensures.value ∙ c.in_ok-write_alone.ensures) in
    c.add_lent.ensures.ok (alone key) (good_entry c.args.found.now.dirs c.requires.dirs c.args.bytes.now c.as_slice.result.now (λ k. k ∷ []) told key is)
    (packed_entry c.args.found.now.dirs c.requires.dirs c.args.bytes.now c.as_slice.result.now (λ k. k ∷ []) told key is)
