use Rattle.std.proofs.Common.{◌≡◌, ◌≤◌, ◌+◌, ◌-◌, ◌++◌, true, length, take, drop, ◌∙◌, ap, arith, rules}
use Rattle.std.specs.List.{flat_map, list_all}
use Rattle.pig_runs.specs.InTurn.{codes_within, spares}
use Rattle.pig_runs.proofs.InTurn.{behind_is, laid_out}
use Rattle.pig_runs.proofs.laying.lay_block.Goals as goal

pub put_in_turn-requires : goal.put_in_turn-requires
put_in_turn-requires c =
    let codes : c.in-Ok.laid.items ≡ flat_map (codes_within c.args.bytes.now.items c.args.block) c.args.slots.now.items =
    c.in-Ok.ensures ∙ (λ i. flat_map (codes_within (c.as_slice-2.ensures.value i) c.args.block) (c.as_slice-3.ensures.value i))
    in
    let order : c.args.block.begin ≤ c.args.block.end = search rules in
    let size : length c.in-Ok.laid.items ≡ c.args.block.end - c.args.block.begin = search rules in
    let same = ap length codes in
    let whole = behind_is c.args.bytes.now.items c.args.block c.args.block.begin c.args.slots.now.items c.requires in
    omega (arith, whole, same, size, order)

pub returns-then-len-block : goal.returns-then-len-block
returns-then-len-block c =
    let codes : c.in-Ok.laid.items ≡ flat_map (codes_within c.args.bytes.now.items c.args.block) c.args.slots.now.items =
    c.in-Ok.ensures ∙ (λ i. flat_map (codes_within (c.as_slice-2.ensures.value i) c.args.block) (c.as_slice-3.ensures.value i))
    in
    let order : c.args.block.begin ≤ c.args.block.end = search rules in
    let within : c.args.block.end ≤ length c.args.bytes.now.items = search rules in
    let size : length c.in-Ok.laid.items ≡ c.args.block.end - c.args.block.begin = search rules in
    let fair : list_all (spares c.args.block) c.args.slots.now.items ≡ true = search rules in
    let put : c.put_bytes.new.bytes.items ≡ take c.args.block.begin c.args.bytes.now.items ++ (c.in-Ok.laid.items ++ drop (c.args.block.begin + length c.in-Ok.laid.items) c.args.bytes.now.items) = search rules in
    laid_out c.args.bytes.now.items c.args.block c.args.slots.now.items c.in-Ok.laid.items c.put_bytes.new.bytes.items c.put_in_turn.new.slots.items
    order within c.requires fair codes size put c.put_in_turn.ensures
