use Rattle.pig_algebra.proofs.Combined.{finishes_row}
use Rattle.pig_algebra.proofs.Folded.{combiners_law, sorted_law}
use Rattle.pig_algebra.proofs.combining.parts_make_the_rows.Goals as goal

pub returns : goal.returns
returns c = record { row = finishes_row; groups = combiners_law; sorted = sorted_law }
