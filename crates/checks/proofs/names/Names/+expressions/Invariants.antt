use Rattle.checks.proofs.names.Names.+expressions.Given as goal

abbrev pub decreases-expressions : goal.decreases-expressions
decreases-expressions l = l.tree.at
