use Rattle.std.proofs.Common.{rules, ap, ◌∙◌, ◌≡◌, [], map}
use Rattle.pig_typed.specs.Typed.{link_of, links_of, typed, x_chain}
use Rattle.pig_moves.proofs.Steps.{linked_some, typed_chain}
use Rattle.pig_moves.proofs.chaining.linked.Goals as goal

pub returns : goal.returns
returns c =
    let same : typed c.in_ok-first.first ≡ typed c.args.first = search rules in
    let some : c.args.rest ≡ [] → ⊥ = search rules in
    typed_chain c.in_ok-first.first c.args.rest
    ∙ ap (λ e. x_chain e (links_of (map link_of c.args.rest))) same
    ∙ linked_some (typed c.args.first) c.args.rest some
