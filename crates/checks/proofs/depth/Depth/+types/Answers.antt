use Rattle.checks.proofs.DepthViews.{type_under, type_join, fields_under, fields_join}
use Rattle.checks.proofs.Steps.{ends, passes, stops, by}
use Rattle.checks.proofs.depth.Depth.+types.Goals as goal

pub fields-returns-in_err-type_tree-in-Under : goal.fields-returns-in_err-type_tree-in-Under
fields-returns-in_err-type_tree-in-Under t c = λ s u d l h k.
    let j = c.in-Under.ensures.shown s u h in
    by (fields_under _ _ _ j.whole) (stops _ c.from_residual.ensures.1 (c.in_err-type_tree-in-Under.ensures s _ _ l j.shown (c.deeper.ensures d l k)))

pub fields-returns-in_ok-type_tree-in-Under : goal.fields-returns-in_ok-type_tree-in-Under
fields-returns-in_ok-type_tree-in-Under t c = λ s u d l h k.
    let j = c.in-Under.ensures.shown s u h in
    by (fields_under _ _ _ j.whole) (passes (c.in_ok-type_tree-in-Under.ensures s _ _ l j.shown (c.deeper.ensures d l k)) (ends (c.node.ensures d l k)))

pub fields-returns-in_err-fields-in-Join : goal.fields-returns-in_err-fields-in-Join
fields-returns-in_err-fields-in-Join t c = λ s u d l h k.
    let j = c.in-Join.ensures.shown s u h in
    by (fields_join _ _ _ _ j.whole) (stops _ c.from_residual-in_err-fields-in-Join.ensures.1 (c.in_err-fields-in-Join.ensures s _ d l j.left_shown k))

pub fields-returns-in_ok-fields-in-Join : goal.fields-returns-in_ok-fields-in-Join
fields-returns-in_ok-fields-in-Join t c = λ s u d l h k.
    let j = c.in-Join.ensures.shown s u h in
    by (fields_join _ _ _ _ j.whole) (passes (c.in_ok-fields-in-Join.ensures s _ d l j.left_shown k) (ends (c.fields-in-Join.ensures s _ d l j.right_shown k)))

pub type_tree-returns-in_err-node-in-Under : goal.type_tree-returns-in_err-node-in-Under
type_tree-returns-in_err-node-in-Under t c = λ s u d l h k.
    let j = c.in-Under.ensures.shown s u h in
    by (type_under _ _ _ j.whole) (stops _ c.from_residual.ensures.1 (c.in_err-node-in-Under.ensures d l k))

pub type_tree-returns-in_ok-node-in-Under : goal.type_tree-returns-in_ok-node-in-Under
type_tree-returns-in_ok-node-in-Under t c = λ s u d l h k.
    let j = c.in-Under.ensures.shown s u h in
    by (type_under _ _ _ j.whole) (passes (c.in_ok-node-in-Under.ensures d l k) (ends (c.fields.ensures s _ _ l j.shown (c.deeper.ensures d l k))))

pub type_tree-returns-in_err-type_tree-in-Join : goal.type_tree-returns-in_err-type_tree-in-Join
type_tree-returns-in_err-type_tree-in-Join t c = λ s u d l h k.
    let j = c.in-Join.ensures.shown s u h in
    by (type_join _ _ _ _ j.whole) (stops _ c.from_residual-in_err-type_tree-in-Join.ensures.1 (c.in_err-type_tree-in-Join.ensures s _ _ l j.left_shown (c.deeper-in-Join.ensures d l k)))

pub type_tree-returns-in_ok-type_tree-in-Join : goal.type_tree-returns-in_ok-type_tree-in-Join
type_tree-returns-in_ok-type_tree-in-Join t c = λ s u d l h k.
    let j = c.in-Join.ensures.shown s u h in
    by (type_join _ _ _ _ j.whole) (passes (c.in_ok-type_tree-in-Join.ensures s _ _ l j.left_shown (c.deeper-in-Join.ensures d l k)) (ends (c.node-in-Join.ensures d l k)))
