-- No entry before the place that is looked at has the name.
use Rattle.std.proofs.Common.{◌≡◌, length, map}
use Rattle.pig_syntax.specs.Tokens.{among_texts}
use Rattle.pig_syntax.proofs.forms.among_texts.Given as goal

abbrev pub invariant-loop-table : goal.invariant-loop-table
invariant-loop-table l = among_texts (map (λ e. (e.0.now, e.1)) l.table) l.text ≡ among_texts (map (λ e. (e.0.now, e.1)) l.initial.table) l.text

abbrev pub decreases-loop-table : goal.decreases-loop-table
decreases-loop-table l = length l.table
