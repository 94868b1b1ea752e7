use Rattle.pig_replicated.proofs.Coded.{place_told}
use Rattle.pig_replicated.proofs.finding.place_of.Goals as goal

pub returns : goal.returns
returns c = place_told (λ k. k.items) c.args.bytes.now c.args.codes.now.keys c.get_index_of.result c.get_index_of.ensures.found c.get_index_of.ensures.within
