use Rattle.checks.proofs.names.Names.+formals.Given as goal

abbrev pub decreases-formals : goal.decreases-formals
decreases-formals l = l.tree.at
