use Rattle.pig_exprs.proofs.types.+type_tree.Given as goal

abbrev pub decreases-type_tree : goal.decreases-type_tree
decreases-type_tree l = l.depth
