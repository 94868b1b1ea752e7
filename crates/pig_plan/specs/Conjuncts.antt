-- The conjuncts of a condition: the members of its AND chain, chains within chains included, or else the whole condition.
use Rattle.std.specs.Prelude.{Bool, true, false, List, [], ◌∷◌, ◌++◌, if◌then◌else◌}
use Rattle.pig_value.specs.declared.operators.ChainOp.TheVariants as op
use Rattle.pig_typed.specs.Typed.{Typed, TypedLinks, x_chain, no_links, more_links}

abbrev pub all_and : TypedLinks → Bool
all_and no_links = true
all_and (more_links op.And a links) = all_and links
all_and (more_links operator a links) = false

abbrev mutual
  pub conjuncts : Typed → List Typed
  conjuncts (x_chain first links) = if all_and links then conjuncts first ++ link_conjuncts links else x_chain first links ∷ []
  conjuncts e = e ∷ []

  pub link_conjuncts : TypedLinks → List Typed
  link_conjuncts no_links = []
  link_conjuncts (more_links operator a links) = conjuncts a ++ link_conjuncts links
