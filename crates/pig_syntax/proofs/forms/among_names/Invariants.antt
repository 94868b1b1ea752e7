-- No entry before the place that is looked at has the name.
use Rattle.std.proofs.Common.{◌≡◌, length, map}
use Rattle.pig_syntax.specs.Tokens.{among_names}
use Rattle.pig_syntax.proofs.forms.among_names.Given as goal

abbrev pub invariant-loop-table : goal.invariant-loop-table
invariant-loop-table l = among_names (map (λ e. (e.0.now, e.1)) l.table) l.word ≡ among_names (map (λ e. (e.0.now, e.1)) l.initial.table) l.word

abbrev pub decreases-loop-table : goal.decreases-loop-table
decreases-loop-table l = length l.table
