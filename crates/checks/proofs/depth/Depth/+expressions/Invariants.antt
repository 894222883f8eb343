use Rattle.checks.proofs.depth.Depth.+expressions.Given as goal

abbrev pub decreases-expressions : goal.decreases-expressions
decreases-expressions l = l.tree.at
