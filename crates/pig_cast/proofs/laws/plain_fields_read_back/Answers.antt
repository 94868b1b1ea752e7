use Rattle.pig_cast.proofs.ReadBack.{field_back}
use Rattle.pig_cast.proofs.laws.plain_fields_read_back.Goals as goal

pub returns : goal.returns
returns c = field_back
