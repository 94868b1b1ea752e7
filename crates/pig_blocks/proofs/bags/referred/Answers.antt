use Rattle.pig_typing.specs.Reader.{type_of}
use Rattle.pig_blocks.proofs.bags.referred.Goals as goal

pub returns-in-None : goal.returns-in-None
unfolding type_of
returns-in-None c = rw (c.in-None.is) c.type_reference.ensures
