use Rattle.checks.proofs.depth.Depth.+formals.Given as goal

abbrev pub decreases-formals : goal.decreases-formals
decreases-formals l = l.tree.at
