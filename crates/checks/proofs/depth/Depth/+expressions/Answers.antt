use Rattle.tiny.specs.declared.tokens.Kind.TheVariants.{Comma}
use Rattle.nodes.proofs.KindTests.{told}
use Rattle.checks.proofs.DepthViews.{all_join, all_rest}
use Rattle.checks.proofs.Steps.{ends, passes, stops, then_way, else_way, by}
use Rattle.checks.proofs.depth.Depth.+expressions.Goals as goal
use Rattle.checks.proofs.depth.Depth.+expressions.Goals.{in_default-via-in-Join+else-eq, in_default-via-in_default}

pub returns-in_err-expression-in-Join : goal.returns-in_err-expression-in-Join
returns-in_err-expression-in-Join t c = λ s u d l h k.
    let j = c.in-Join.ensures.shown s u h in
    by (all_join _ _ _ _ j.whole) (then_way (told c.in-Join.token.what.kind Comma c.if-eq.ensures) (stops _ c.from_residual.ensures.1 (c.in_err-expression-in-Join.ensures s _ d l j.left_shown k)))

pub returns-in_ok-expression-in-Join : goal.returns-in_ok-expression-in-Join
returns-in_ok-expression-in-Join t c = λ s u d l h k.
    let j = c.in-Join.ensures.shown s u h in
    by (all_join _ _ _ _ j.whole) (then_way (told c.in-Join.token.what.kind Comma c.if-eq.ensures) (passes (c.in_ok-expression-in-Join.ensures s _ d l j.left_shown k) (ends (c.expressions.ensures s _ d l j.right_shown k))))

pub returns-in_default : goal.returns-in_default
returns-in_default t c = λ s u d l h k.
    let e = c.expression-in_default.ensures s u d l h k in
    elim c.in_default.branch [
      | in_default-via-in-Join+else-eq w ↦
          let j = w.in-Join.ensures.shown s u h in by (all_join _ _ _ _ j.whole) (else_way (told w.in-Join.token.what.kind Comma w.if-eq.ensures) (ends e))
      | in_default-via-in_default w ↦ by (all_rest s c.shape.result u d w.in_default.not-Join (c.shape.ensures.shown s u h)) (ends e)
    ]
