-- The tokens left fall, and without one read the level falls.
use Rattle.std.proofs.Common.{◌+◌, ◌*◌, [], ◌∷◌, length}
use Rattle.syntax.specs.Parse.{further}
use Rattle.parser.specs.Forms.{tail}
use Rattle.parser.specs.Ahead.{ahead}
use Rattle.parser.proofs.Ways.{Kept}
use Rattle.parser.proofs.parser.Parser.+levels.Given as goal

abbrev pub decreases-assignment : goal.decreases-assignment
decreases-assignment l = 16 * length (ahead l.self.now) + 9

abbrev pub decreases-relations : goal.decreases-relations
decreases-relations l = 16 * length (ahead l.self.now) + 8

abbrev pub decreases-sums : goal.decreases-sums
decreases-sums l = 16 * length (ahead l.self.now) + 7

abbrev pub decreases-difference : goal.decreases-difference
decreases-difference l = 16 * length (ahead l.self.now) + 6

abbrev pub decreases-logic : goal.decreases-logic
decreases-logic l = 16 * length (ahead l.self.now) + 5

abbrev pub decreases-products : goal.decreases-products
decreases-products l = 16 * length (ahead l.self.now) + 4

abbrev pub decreases-prefix : goal.decreases-prefix
decreases-prefix l = 16 * length (ahead l.self.now) + 3

abbrev pub decreases-postfix : goal.decreases-postfix
decreases-postfix l = 16 * length (ahead l.self.now) + 2

abbrev pub decreases-basic : goal.decreases-basic
decreases-basic l = 16 * length (ahead l.self.now) + 1

abbrev pub decreases-selector : goal.decreases-selector
decreases-selector l = 16 * length (ahead l.self.now) + 10

abbrev pub decreases-operand : goal.decreases-operand
decreases-operand l = 16 * length (ahead l.self.now) + 11

abbrev pub decreases-further : goal.decreases-further
decreases-further l = 16 * length (ahead l.self.now) + 1

abbrev pub decreases-operations : goal.decreases-operations
decreases-operations l = 16 * length (ahead l.self.now) + 0

abbrev pub invariant-operations-loop-token : goal.invariant-operations-loop-token
invariant-operations-loop-token l = Kept (further (tail l.of) ∷ []) l.initial.left l.initial.self l.left l.self

abbrev pub decreases-operations-loop-token : goal.decreases-operations-loop-token
decreases-operations-loop-token l = length (ahead l.self)
