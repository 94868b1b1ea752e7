use Rattle.pig_runs.specs.Packed.{packed_lent}
use Rattle.pig_operators.specs.Groups.{first_key}
use Rattle.pig_reduce.proofs.KeyRows.{key_first}
use Rattle.pig_reduce.proofs.Lent.{key_code_lent, key_some}
use Rattle.pig_reduce.proofs.keys.add_keys.Goals as goal

pub push_key-requires-clause-key : goal.push_key-requires-clause-key
push_key-requires-clause-key c = key_some c.args.entries.now c.groups.from
    (packed_lent c.lend.result) c.lend.ensures.is c.requires.ascending c.lend.ensures.values

pub groups-preserved : goal.groups-preserved
groups-preserved c =
    let run = c.args.entries.now in
    let from = c.groups.from in
    let added =
    key_first run from c.group_end-from.result c.group_end-from.ensures c.requires.ascending c.len.ensures.sorted c.groups.built c.push_key.new.built
    c.lend.ensures.values
    (λ h. c.in_ok-push_key.ensures (first_key run from) (key_code_lent run from (packed_lent c.lend.result) c.lend.ensures.is c.requires.ascending h)) _
    c.groups.invariant.2
    in (c.group_end-from.ensures.within, added.0, added.1)
