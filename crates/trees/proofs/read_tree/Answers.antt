use Rattle.std.proofs.Common.{List, sym, subst, ◌∙◌}
use Rattle.std.proofs.lemmas.Result.{err_from_is_err_and}
use Rattle.tiny.specs.Scan.{scan}
use Rattle.nodes.specs.declared.node.Node.{Node}
use Rattle.nodes.specs.Rooted.{Rooted}
use Rattle.trees.proofs.Rooting.{rooted, no_break, shown_there}
use Rattle.trees.proofs.read_tree.Goals as goal

pub new-requires : goal.new-requires
new-requires c =
    let source = c.args.source.now in
    let root = c.in_ok-root.root in
    subst (λ (ns : List Node). Rooted ns root) (sym c.as_slice.ensures)
    (rooted source (scan source) c.args.nodes.now root c.parse.new.nodes c.in_ok-root.ensures)

pub returns-in_err-root : goal.returns-in_err-root
returns-in_err-root c =
    let p = err_from_is_err_and c.from_residual.result c.from_residual.ensures.1 in rw (p.1, p.2) c.in_err-root.ensures

pub returns-in_err-check_depth : goal.returns-in_err-check_depth
returns-in_err-check_depth c =
    let source = c.args.source.now in
    let root = c.in_ok-root.root in
    let p = err_from_is_err_and c.from_residual-in_err-check_depth.result c.from_residual-in_err-check_depth.ensures.1 in
    rw (p.1, p.2) (
      root,
      c.in_ok-root.ensures,
      (λ t s. sym (c.in_err-check_depth.ensures source t (shown_there (c.new.ensures.nodes ∙ c.as_slice.ensures) c.new.ensures.root s)).first),
    )

pub returns : goal.returns
returns c =
    let source = c.args.source.now in
    let root = c.in_ok-root.root in (
      c.in_ok-root.ensures,
      (λ t s. no_break _ (c.in_ok-check_depth.ensures source t (shown_there (c.new.ensures.nodes ∙ c.as_slice.ensures) c.new.ensures.root s)).first),
    )
