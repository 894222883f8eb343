-- Each turn reads one of at most 2,048 tokens.
use Rattle.std.proofs.Common.{◌-◌}
use Rattle.pedrunchi.proofs.show.Listing.tokens.Given as goal

abbrev pub decreases-loop-token : goal.decreases-loop-token
decreases-loop-token l = 2048 - l.scanner.read
