use Rattle.std.proofs.Common.{◌≡◌, ◌++◌, ◌∷◌, [], sym, ◌∙◌, ap, append_assoc, drop, map, rules}
use Rattle.std.specs.Prelude.{option_map}
use Rattle.pig_value.specs.Orders.{row_cmp}
use Rattle.pig_value.specs.Sorts.{distinct}
use Rattle.pig_value.proofs.list_laws.Indexing.{some_at}
use Rattle.pig_packed.specs.Growth.{and_row}
use Rattle.pig_runs.specs.Packed.{packed_lent}
use Rattle.pig_operators.proofs.Stretches.{distinct_group, row_first, sorted_out}
use Rattle.pig_gather.proofs.LentRows.{row_pushed, row_whole}
use Rattle.pig_gather.proofs.whole.add_distinct.Goals as goal

pub push_code-requires-clause-whole : goal.push_code-requires-clause-whole
push_code-requires-clause-whole c = row_whole c.args.entries.now c.groups.from (packed_lent c.lend.result) c.lend.ensures.is c.lend.ensures.values

pub groups-preserved : goal.groups-preserved
groups-preserved c =
    let run = c.args.entries.now in
    let end = c.group_end-from.result in
    let group = c.group_end-from.ensures in
    let up = sorted_out run.dirs run.entries c.len.ensures.sorted in
    let rest = distinct row_cmp (map (λ e. e.row) (drop end run.entries)) in
    let found = some_at run.entries c.groups.from (search rules) in
    let added : c.push_code.new.self ≡ and_row found.0.row c.groups.built =
    row_pushed run c.groups.from (packed_lent c.lend.result) c.lend.ensures.is c.groups.built c.push_code.new.self c.lend.ensures.values found.0 found.1 c.in_ok-push_code.ensures.ok
    in (
      group.within,
      ap (λ b. b.begun) added,
      ap (λ b. b.rows ++ rest) added
          ∙ (append_assoc c.groups.built.rows (found.0.row ∷ []) rest
          ∙ (ap (λ l. c.groups.built.rows ++ l)
          (sym (distinct_group run c.groups.from end group up c.requires.ascending c.requires.keys ∙ ap (λ r. r ∷ rest) (row_first run c.groups.from end group up found.0.row (ap (option_map (λ e. e.row)) found.1))))
          ∙ c.groups.invariant.2)),
    )
