use Rattle.checks.proofs.names.Names.+expression.Given as goal

abbrev pub decreases-expression : goal.decreases-expression
decreases-expression l = l.tree.at
