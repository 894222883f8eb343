-- Parts stand before their whole.
use Rattle.pedrunchi.proofs.show.Listing.+branch.Given as goal

abbrev pub decreases-branch : goal.decreases-branch
decreases-branch l = l.tree.at
