-- The laws of readings.
use Rattle.pig_syntax.proofs.Streams.{not_both, one_list, one_place, one_reading}
use Rattle.pig_syntax.proofs.Totals.{tokens_few, tokens_or_bad}
use Rattle.pig_syntax.proofs.laws.a_script_has_one_reading.Goals as goal

pub returns : goal.returns
returns c = record { reading = one_reading; tokens = one_list; tokens_or_bad = not_both; place = one_place; some = tokens_or_bad; few = tokens_few }
