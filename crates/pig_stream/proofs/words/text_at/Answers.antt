use Rattle.std.proofs.Common.{refl}
use Rattle.std.specs.Prelude.{None, Some}
use Rattle.std.specs.Option.{option_copied}
use Rattle.pig_stream.proofs.WordLaws.{words_in_field}
use Rattle.pig_stream.proofs.words.text_at.Goals as goal

pub returns-in-Some : goal.returns-in-Some
returns-in-Some c = words_in_field c.args.row.now c.args.field (Some c.in-Some.value.now) (option_copied c.text_of.result) c.in-Some.ensures.value c.text_of.ensures

pub returns-in-None : goal.returns-in-None
returns-in-None c = words_in_field c.args.row.now c.args.field None None c.in-None.ensures.value refl
