-- The tokens left fall, and without one read it goes from a list to an item, and to what that begins with.
use Rattle.std.proofs.Common.{◌+◌, ◌*◌, length}
use Rattle.parser.specs.Ahead.{ahead}
use Rattle.parser.proofs.parser.Parser.+parts.Given as goal

abbrev pub decreases-content : goal.decreases-content
decreases-content l = 16 * length (ahead l.self.now) + 7

abbrev pub decreases-contents : goal.decreases-contents
decreases-contents l = 16 * length (ahead l.self.now) + 8

abbrev pub decreases-list : goal.decreases-list
decreases-list l = 16 * length (ahead l.self.now) + 5

abbrev pub decreases-item : goal.decreases-item
decreases-item l = 16 * length (ahead l.self.now) + 4

abbrev pub decreases-declaration : goal.decreases-declaration
decreases-declaration l = 16 * length (ahead l.self.now) + 3

abbrev pub decreases-statement : goal.decreases-statement
decreases-statement l = 16 * length (ahead l.self.now) + 3

abbrev pub decreases-formal : goal.decreases-formal
decreases-formal l = 16 * length (ahead l.self.now) + 3

abbrev pub decreases-field : goal.decreases-field
decreases-field l = 16 * length (ahead l.self.now) + 2

abbrev pub decreases-branches : goal.decreases-branches
decreases-branches l = 16 * length (ahead l.self.now) + 2

abbrev pub decreases-whole_type : goal.decreases-whole_type
decreases-whole_type l = 16 * length (ahead l.self.now) + 1

abbrev pub decreases-enclosed : goal.decreases-enclosed
decreases-enclosed l = 16 * length (ahead l.self.now) + 1

abbrev pub decreases-element : goal.decreases-element
decreases-element l = 16 * length (ahead l.self.now) + 0

abbrev pub decreases-more : goal.decreases-more
decreases-more l = 16 * length (ahead l.self.now) + 0

abbrev pub decreases-sections : goal.decreases-sections
decreases-sections l = 16 * length (ahead l.self.now) + 6

abbrev pub decreases-action : goal.decreases-action
decreases-action l = 16 * length (ahead l.self.now) + 2
