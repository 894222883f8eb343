use Rattle.tiny.specs.declared.tokens.Kind.TheVariants.{Dot}
use Rattle.nodes.proofs.KindTests.{told}
use Rattle.checks.proofs.NamesViews.{names_join}
use Rattle.checks.proofs.Steps.{ends, passes, stops, else_way, by}
use Rattle.checks.proofs.names.Names.+expression.Goals as goal

pub returns-in_err-expression-in-Join : goal.returns-in_err-expression-in-Join
returns-in_err-expression-in-Join t c = λ s u Δ h D.
    let j = c.in-Join.ensures.shown s u h in
    by (names_join _ _ _ _ j.whole) (stops _ c.from_residual.ensures.1 (c.in_err-expression-in-Join.ensures s _ Δ j.left_shown D))

pub returns-else-eq-2 : goal.returns-else-eq-2
returns-else-eq-2 t c = λ s u Δ h D.
    let j = c.in-Join.ensures.shown s u h in
    by (names_join _ _ _ _ j.whole)
    (passes (c.in_ok-expression-in-Join.ensures s _ Δ j.left_shown D)
    (else_way (told c.in-Join.token.what.kind Dot c.if-eq-2.ensures) (ends (c.expression-in-Join-2.ensures s _ Δ j.right_shown D))))
