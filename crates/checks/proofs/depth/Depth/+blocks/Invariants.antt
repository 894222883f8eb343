use Rattle.std.proofs.Common.{◌+◌, ◌*◌}
use Rattle.checks.proofs.depth.Depth.+blocks.Given as goal

abbrev pub decreases-block : goal.decreases-block
decreases-block l = 2 * l.tree.at

abbrev pub decreases-branches : goal.decreases-branches
decreases-branches l = 2 * l.tree.at + 1

abbrev pub decreases-declarations : goal.decreases-declarations
decreases-declarations l = 2 * l.tree.at + 1

abbrev pub decreases-statements : goal.decreases-statements
decreases-statements l = 2 * l.tree.at + 1
