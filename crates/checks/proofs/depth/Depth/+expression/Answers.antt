use Rattle.checks.proofs.DepthViews.{deep_under, deep_join}
use Rattle.tiny.specs.declared.tokens.Kind.TheVariants.{Dot}
use Rattle.nodes.proofs.KindTests.{told}
use Rattle.checks.proofs.Steps.{nothing, ends, passes, stops, then_way, else_way, by}
use Rattle.checks.proofs.depth.Depth.+expression.Goals as goal

pub returns-in_err-node-in-Under : goal.returns-in_err-node-in-Under
returns-in_err-node-in-Under t c = λ s u d l h k.
    let j = c.in-Under.ensures.shown s u h in
    by (deep_under _ _ _ j.whole) (stops _ c.from_residual.ensures.1 (c.in_err-node-in-Under.ensures d l k))

pub returns-in_ok-node-in-Under : goal.returns-in_ok-node-in-Under
returns-in_ok-node-in-Under t c = λ s u d l h k.
    let j = c.in-Under.ensures.shown s u h in
    by (deep_under _ _ _ j.whole) (passes (c.in_ok-node-in-Under.ensures d l k) (ends (c.expression.ensures s _ _ l j.shown (c.deeper.ensures d l k))))

pub returns-in_err-expression-in-Join : goal.returns-in_err-expression-in-Join
returns-in_err-expression-in-Join t c = λ s u d l h k.
    let j = c.in-Join.ensures.shown s u h in
    by (deep_join _ _ _ _ j.whole) (stops _ c.from_residual-in_err-expression-in-Join.ensures.1 (c.in_err-expression-in-Join.ensures s _ _ l j.left_shown (c.deeper-in-Join.ensures d l k)))

pub returns-in_err-node-in-Join : goal.returns-in_err-node-in-Join
returns-in_err-node-in-Join t c = λ s u d l h k.
    let j = c.in-Join.ensures.shown s u h in
    by (deep_join _ _ _ _ j.whole)
    (passes (c.in_ok-expression-in-Join.ensures s _ _ l j.left_shown (c.deeper-in-Join.ensures d l k))
    (stops _ c.from_residual-in_err-node-in-Join.ensures.1 (c.in_err-node-in-Join.ensures d l k)))

pub returns-then-eq : goal.returns-then-eq
returns-then-eq t c = λ s u d l h k.
    let j = c.in-Join.ensures.shown s u h in
    by (deep_join _ _ _ _ j.whole)
    (passes (c.in_ok-expression-in-Join.ensures s _ _ l j.left_shown (c.deeper-in-Join.ensures d l k))
    (passes (c.in_ok-node-in-Join.ensures d l k) (then_way (told c.in-Join.token.what.kind Dot c.if-eq.ensures) nothing)))

pub returns-else-eq : goal.returns-else-eq
returns-else-eq t c = λ s u d l h k.
    let j = c.in-Join.ensures.shown s u h in
    by (deep_join _ _ _ _ j.whole)
    (passes (c.in_ok-expression-in-Join.ensures s _ _ l j.left_shown (c.deeper-in-Join.ensures d l k))
    (passes (c.in_ok-node-in-Join.ensures d l k)
    (else_way (told c.in-Join.token.what.kind Dot c.if-eq.ensures) (ends (c.expression-in-Join-2.ensures s _ _ l j.right_shown (c.deeper-in-Join-2.ensures d l k))))))
