use Rattle.std.proofs.Common.{◌∙◌, ap, map, sym}
use Rattle.pig_value.specs.Trees.{tree}
use Rattle.pig_replicated.specs.Codes.{inner_code}
use Rattle.pig_replicated.proofs.Coded.{codes_at, within_codes}
use Rattle.pig_replicated.proofs.finding.coded_rows.Goals as goal

pub bounds-codes-at : goal.bounds-codes-at
bounds-codes-at c = within_codes (tree c.args.key.now) c.args.groups.now c.in-Some.at c.in-Some.ensures (λ rows. map (λ row. row.items) rows.items) c.args.codes.now c.requires.codes

pub returns-in-Some : goal.returns-in-Some
returns-in-Some c =
    ap (map (λ row. row.items)) c.as_slice.ensures.value
    ∙ codes_at (tree c.args.key.now) c.args.groups.now c.in-Some.at c.in-Some.ensures (λ rows. map (λ row. row.items) rows.items) c.args.codes.now c.requires.codes c.index-codes-at.result c.index-codes-at.is

pub returns-in-None : goal.returns-in-None
returns-in-None c = ap (map inner_code) (sym c.in-None.ensures)
