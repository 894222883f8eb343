use Rattle.checks.proofs.depth.Depth.+types.Given as goal

abbrev pub decreases-fields : goal.decreases-fields
decreases-fields l = l.tree.at

abbrev pub decreases-type_tree : goal.decreases-type_tree
decreases-type_tree l = l.tree.at
