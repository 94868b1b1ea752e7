use Rattle.pig_runs.proofs.RowTexts.{begins}
use Rattle.pig_runs.proofs.parts.tell_fields.Goals as goal

pub others-init : goal.others-init
others-init c = begins c.args.fields.now c.first-item.result c.args.told.now.hash c.tell_value.new.sink.hash c.in-len1-up.len_at_least c.first-item.is c.tell_value.ensures
