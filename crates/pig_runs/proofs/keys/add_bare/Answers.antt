use Rattle.std.proofs.Common.{[], ◌∷◌}
use Rattle.pig_runs.specs.Alone.{bare}
use Rattle.pig_runs.proofs.Once.{bare_told, good_entry, one_held, packed_entry}
use Rattle.pig_runs.proofs.keys.add_bare.Goals as goal

pub add_lent-requires : goal.add_lent-requires
add_lent-requires c = one_held c.args.built.now.dirs c.requires.dirs c.args.bytes.now (6 ∷ 0 ∷ []) (λ _. []) (bare_told c.args.bytes.now) c.requires.key

pub returns-clause-ok : goal.returns-clause-ok
returns-clause-ok c key is =
    let told = bare_told c.args.bytes.now in
    c.add_lent.ensures.ok (bare key) (good_entry c.args.built.now.dirs c.requires.dirs c.args.bytes.now (6 ∷ 0 ∷ []) (λ _. []) told key is)
    (packed_entry c.args.built.now.dirs c.requires.dirs c.args.bytes.now (6 ∷ 0 ∷ []) (λ _. []) told key is)
