use Rattle.std.proofs.Common.{◌≡◌, ◌∙◌, ap, ℕ, List, [], None, Some, take, length, ◌-◌}
use Rattle.std.specs.Prelude.{◌==◌}
use Rattle.std.proofs.lemmas.Bool.{false≢true}
use Rattle.std.proofs.lemmas.Bool.Decides.{Decides-eqb}
use Rattle.std.proofs.lemmas.Slice.Eq.{ends_is, strip_suffix_is}
use Rattle.pig_schema.specs.Names.{colons}
use Rattle.pig_schema.proofs.Fitting.{end_fits, no_end_fits}
use Rattle.pig_schema.proofs.naming.is_fit.Goals as goal

pub returns-else-is_empty : goal.returns-else-is_empty
returns-else-is_empty c =
    let before = c.in-Some.before.now in
    let e = strip_suffix_is Decides-eqb c.args.full.now c.args.name.now (Some c.in-Some.before) c.in-Some.ensures.cases in
    let some : before ≡ [] → ⊥ = λ none. false≢true (c.if-is_empty.ensures ∙ ap (λ (b : List ℕ). length b == 0) none) in
    end_fits c.args.full.now before c.args.name.now (take (length before - length colons) before) c.ends_in_colons.result e some (ends_is Decides-eqb before colons c.ends_in_colons.result c.ends_in_colons.ensures)

pub returns-in-None : goal.returns-in-None
returns-in-None c = no_end_fits c.args.full.now c.args.name.now (strip_suffix_is Decides-eqb c.args.full.now c.args.name.now None c.in-None.ensures.cases)
