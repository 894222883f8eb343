use Rattle.tiny.specs.declared.tokens.Kind.TheVariants.{Open}
use Rattle.nodes.proofs.KindTests.{told}
use Rattle.checks.proofs.DepthViews.{formals_under, formals_join}
use Rattle.checks.proofs.Steps.{ends, passes, stops, else_way, by}
use Rattle.checks.proofs.depth.Depth.+formals.Goals as goal

pub returns-in_err-type_tree-in-Under : goal.returns-in_err-type_tree-in-Under
returns-in_err-type_tree-in-Under t c = λ s u d l h k.
    let j = c.in-Under.ensures.shown s u h in
    by (formals_under _ _ _ j.whole)
    (else_way (told c.in-Under.token.what.kind Open c.if-eq.ensures)
    (stops _ c.from_residual.ensures.1 (c.in_err-type_tree-in-Under.ensures s _ _ l (c.formal_type.ensures.leads s _ j.shown) (c.deeper.ensures d l k))))

pub returns-in_ok-type_tree-in-Under : goal.returns-in_ok-type_tree-in-Under
returns-in_ok-type_tree-in-Under t c = λ s u d l h k.
    let j = c.in-Under.ensures.shown s u h in
    by (formals_under _ _ _ j.whole)
    (else_way (told c.in-Under.token.what.kind Open c.if-eq.ensures)
    (passes (c.in_ok-type_tree-in-Under.ensures s _ _ l (c.formal_type.ensures.leads s _ j.shown) (c.deeper.ensures d l k)) (ends (c.node.ensures d l k))))

pub returns-in_err-formals-in-Join : goal.returns-in_err-formals-in-Join
returns-in_err-formals-in-Join t c = λ s u d l h k.
    let j = c.in-Join.ensures.shown s u h in
    by (formals_join _ _ _ _ j.whole) (stops _ c.from_residual-in_err-formals-in-Join.ensures.1 (c.in_err-formals-in-Join.ensures s _ d l j.left_shown k))

pub returns-in_ok-formals-in-Join : goal.returns-in_ok-formals-in-Join
returns-in_ok-formals-in-Join t c = λ s u d l h k.
    let j = c.in-Join.ensures.shown s u h in
    by (formals_join _ _ _ _ j.whole) (passes (c.in_ok-formals-in-Join.ensures s _ d l j.left_shown k) (ends (c.formals-in-Join-2.ensures s _ d l j.right_shown k)))
