use Rattle.pig_check.proofs.CubeSteps.{key_more}
use Rattle.pig_check.proofs.cubes.first_fields.Goals as goal

pub loop-field-preserved : goal.loop-field-preserved
loop-field-preserved c =
    key_more c.loop-field.keys c.push.new.self c.field_key.result c.loop-field.field c.in_ok-push.ensures.ok c.field_key.ensures c.loop-field.invariant
