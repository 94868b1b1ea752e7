use Rattle.std.proofs.Common.{◌++◌, []}
use Rattle.std.proofs.Math.Logic.{∥∥₁_map}
use Rattle.pig_value.proofs.list_laws.Indexing.{some_at}
use Rattle.pig_plan.specs.ByKey.{nulls}
use Rattle.pig_gather.proofs.FieldCodes.{begins, fields_added, row_ended}
use Rattle.pig_gather.proofs.Joins.{row_good}
use Rattle.pig_gather.proofs.Validity.{both_valid, nulls_valid}
use Rattle.pig_gather.proofs.outer.add_behind_nulls.Goals as goal

pub end_fields-requires : goal.end_fields-requires
end_fields-requires c =
    let run = c.args.entries.now in
    let start = c.args.built.now in
    let found = some_at run.entries c.args.at c.requires.within in
    let e = found.0 in
    begins start c.add_fields.new.built (nulls c.args.width ++ e.row) c.requires.none_begun
    (fields_added start c.add_nulls.new.built c.add_fields.new.built (nulls c.args.width) (e.row) (fields_added start c.write.new.self c.add_nulls.new.built [] (nulls c.args.width) c.in_ok-write.ensures.ok c.in_ok-add_nulls.ensures) (c.in_ok-add_fields.ensures e found.1))
    (∥∥₁_map c.len.ensures.values (λ h. both_valid (nulls c.args.width) (e.row) (nulls_valid c.args.width) (row_good run c.args.at e found.1 h)))

pub returns : goal.returns
returns c e here =
    let run = c.args.entries.now in
    let start = c.args.built.now in
    row_ended start c.add_fields.new.built (nulls c.args.width ++ e.row) c.requires.none_begun
    (fields_added start c.add_nulls.new.built c.add_fields.new.built (nulls c.args.width) (e.row) (fields_added start c.write.new.self c.add_nulls.new.built [] (nulls c.args.width) c.in_ok-write.ensures.ok c.in_ok-add_nulls.ensures) (c.in_ok-add_fields.ensures e here))
    c.end_fields.result c.end_fields.new.built (∥∥₁_map c.len.ensures.values (λ h. both_valid (nulls c.args.width) (e.row) (nulls_valid c.args.width) (row_good run c.args.at e here h))) c.end_fields.ensures
