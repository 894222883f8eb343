-- What is read stands in the table.
use Rattle.std.proofs.Common.{List, sym, subst}
use Rattle.tiny.specs.Scan.{scan}
use Rattle.nodes.specs.declared.node.Node.{Node}
use Rattle.nodes.specs.Rooted.{Rooted}
use Rattle.trees.proofs.Rooting.{rooted}
use Rattle.pedrunchi.proofs.show.Listing.tree.Goals as goal

pub new-requires : goal.new-requires
new-requires c =
    let source = c.args.self.source.now in
    let root = c.in-Ok.root in
    subst (λ (ns : List Node). Rooted ns root) (sym c.as_slice.ensures)
    (rooted source (scan source) c.over-nodes.result root c.read_tree.new.nodes c.in-Ok.ensures.0)
