use Rattle.checks.proofs.depth.Depth.+expression.Given as goal

abbrev pub decreases-expression : goal.decreases-expression
decreases-expression l = l.tree.at
