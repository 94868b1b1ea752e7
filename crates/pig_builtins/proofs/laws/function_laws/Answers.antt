use Rattle.pig_builtins.proofs.ValuesKept.{values_kept}
use Rattle.pig_builtins.proofs.KindsKept.{kinds_kept}
use Rattle.pig_builtins.proofs.LineFree.{line_free_kept}
use Rattle.pig_builtins.proofs.laws.function_laws.Goals as goal

pub returns : goal.returns
returns c = record { kinds = kinds_kept; values = values_kept; line_free = line_free_kept }
