use Rattle.std.proofs.Common.{◌∙◌, ap}
use Rattle.std.proofs.lemmas.Result.{on_ok_weaker}
use Rattle.pig_packed.specs.Growth.{and_row}
use Rattle.pig_gather.proofs.FieldCodes.{code_with_end, whole_with_end}
use Rattle.pig_gather.proofs.pieces.end_fields.Goals as goal

pub end_row-requires : goal.end_row-requires
end_row-requires c = whole_with_end c.args.built.now.begun c.write.new.self.begun (ap (λ b. b.begun) c.in_ok-write.ensures.ok) c.requires

pub returns : goal.returns
returns c row is =
    on_ok_weaker c.end_row.result (λ ended. ended ∙ ap (and_row row) c.in_ok-write.ensures.ok)
    (c.end_row.ensures.ok row (code_with_end c.args.built.now.begun c.write.new.self.begun row (ap (λ b. b.begun) c.in_ok-write.ensures.ok) is))
