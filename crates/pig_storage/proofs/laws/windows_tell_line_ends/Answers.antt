use Rattle.pig_storage.proofs.Windows.{end_beyond, end_held, end_seen, last_end}
use Rattle.pig_storage.proofs.laws.windows_tell_line_ends.Goals as goal

pub returns-clause-seen : goal.returns-clause-seen
returns-clause-seen c = end_seen

pub returns-clause-held : goal.returns-clause-held
returns-clause-held c = end_held

pub returns-clause-last : goal.returns-clause-last
returns-clause-last c = last_end

pub returns-clause-beyond : goal.returns-clause-beyond
returns-clause-beyond c = end_beyond
