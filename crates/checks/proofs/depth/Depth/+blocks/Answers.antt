use Rattle.std.proofs.Common.{◌+◌, cond, ltb}
use Rattle.meaning.specs.Stages.{deeper, break}
use Rattle.checks.proofs.DepthViews.{declarations_type, declarations_variable, declarations_two, declarations_procedure, statements_two, statements_if, statements_while, statements_call, statements_block, statements_word, branches_join, branches_rest, block_under}
use Rattle.checks.proofs.Steps.{ends, passes, stops, by, at_token}
use Rattle.checks.proofs.depth.Depth.+blocks.Goals as goal

pub block-returns-in_err-node-in-Under : goal.block-returns-in_err-node-in-Under
block-returns-in_err-node-in-Under t c = λ s u d l h k.
    let j = c.in-Under.ensures.shown s u h in
    by (block_under _ _ _ _ j.whole) (stops _ c.from_residual.ensures.1 (c.in_err-node-in-Under.ensures d l k))

pub block-returns-in_err-declarations-in-Under : goal.block-returns-in_err-declarations-in-Under
block-returns-in_err-declarations-in-Under t c = λ s u d l h k.
    let j = c.in-Under.ensures.shown s u h in
    by (block_under _ _ _ _ j.whole) (passes (c.in_ok-node-in-Under.ensures d l k) (stops _ c.from_residual-in_err-declarations-in-Under.ensures.1 (c.in_err-declarations-in-Under.ensures s _ _ l j.shown (c.deeper-below.ensures d l k))))

pub block-returns-in_ok-declarations-in-Under : goal.block-returns-in_ok-declarations-in-Under
block-returns-in_ok-declarations-in-Under t c = λ s u d l h k.
    let j = c.in-Under.ensures.shown s u h in
    by (block_under _ _ _ _ j.whole) (passes (c.in_ok-node-in-Under.ensures d l k) (passes (c.in_ok-declarations-in-Under.ensures s _ _ l j.shown (c.deeper-below.ensures d l k)) (ends (c.statements.ensures s _ _ l j.shown (c.deeper-below.ensures d l k)))))

pub branches-returns-in_err-block-in-Join : goal.branches-returns-in_err-block-in-Join
branches-returns-in_err-block-in-Join t c = λ s u d l h k.
    let j = c.in-Join.ensures.shown s u h in
    by (branches_join _ _ _ _ _ j.whole) (stops _ c.from_residual.ensures.1 (c.in_err-block-in-Join.ensures s _ d l j.left_shown k))

pub branches-returns-in_ok-block-in-Join : goal.branches-returns-in_ok-block-in-Join
branches-returns-in_ok-block-in-Join t c = λ s u d l h k.
    let j = c.in-Join.ensures.shown s u h in
    by (branches_join _ _ _ _ _ j.whole) (passes (c.in_ok-block-in-Join.ensures s _ d l j.left_shown k) (ends (c.block-in-Join.ensures s _ d l j.right_shown k)))

pub branches-returns-in_default : goal.branches-returns-in_default
branches-returns-in_default t c = λ s u d l h k.
    by (branches_rest s c.shape.result u d l c.in_default.not-Join (c.shape.ensures.shown s u h)) (ends (c.block-in_default.ensures s _ d l h k))

pub declarations-returns-in_err-type_tree-in-TypeWord : goal.declarations-returns-in_err-type_tree-in-TypeWord
declarations-returns-in_err-type_tree-in-TypeWord t c = λ s u d l h k.
    let j = c.in-Under.ensures.shown s u h in
    by (declarations_type _ _ _ _ j.whole c.in-TypeWord.is) (stops _ c.from_residual.ensures.1 (c.in_err-type_tree-in-TypeWord.ensures s _ _ l (c.part.ensures.leads s _ j.shown) (c.deeper.ensures d l k)))

pub declarations-returns-in_ok-type_tree-in-TypeWord : goal.declarations-returns-in_ok-type_tree-in-TypeWord
declarations-returns-in_ok-type_tree-in-TypeWord t c = λ s u d l h k.
    let j = c.in-Under.ensures.shown s u h in
    by (declarations_type _ _ _ _ j.whole c.in-TypeWord.is) (passes (c.in_ok-type_tree-in-TypeWord.ensures s _ _ l (c.part.ensures.leads s _ j.shown) (c.deeper.ensures d l k)) (ends (at_token (λ x. deeper 96 d x.place) (c.token.ensures s _ j.shown) (c.node.ensures d l k))))

pub declarations-returns-in_err-type_tree-in-Name : goal.declarations-returns-in_err-type_tree-in-Name
declarations-returns-in_err-type_tree-in-Name t c = λ s u d l h k.
    let j = c.in-Under.ensures.shown s u h in
    by (declarations_variable _ _ _ _ j.whole c.in-Name.is) (stops _ c.from_residual-in_err-type_tree-in-Name.ensures.1 (c.in_err-type_tree-in-Name.ensures s _ _ l j.shown (c.deeper-in-Name.ensures d l k)))

pub declarations-returns-in_ok-type_tree-in-Name : goal.declarations-returns-in_ok-type_tree-in-Name
declarations-returns-in_ok-type_tree-in-Name t c = λ s u d l h k.
    let j = c.in-Under.ensures.shown s u h in
    by (declarations_variable _ _ _ _ j.whole c.in-Name.is) (passes (c.in_ok-type_tree-in-Name.ensures s _ _ l j.shown (c.deeper-in-Name.ensures d l k)) (ends (c.node-in-Name.ensures d l k)))

pub declarations-returns-in_err-declarations-in-Semicolon : goal.declarations-returns-in_err-declarations-in-Semicolon
declarations-returns-in_err-declarations-in-Semicolon t c = λ s u d l h k.
    let j = c.in-Join.ensures.shown s u h in
    by (declarations_two _ _ _ _ _ j.whole c.in-Semicolon.is) (stops _ c.from_residual-in_err-declarations-in-Semicolon.ensures.1 (c.in_err-declarations-in-Semicolon.ensures s _ d l j.left_shown k))

pub declarations-returns-in_ok-declarations-in-Semicolon : goal.declarations-returns-in_ok-declarations-in-Semicolon
declarations-returns-in_ok-declarations-in-Semicolon t c = λ s u d l h k.
    let j = c.in-Join.ensures.shown s u h in
    by (declarations_two _ _ _ _ _ j.whole c.in-Semicolon.is) (passes (c.in_ok-declarations-in-Semicolon.ensures s _ d l j.left_shown k) (ends (c.declarations-in-Semicolon-2.ensures s _ d l j.right_shown k)))

pub declarations-returns-in_err-procedure-in-ProcWord : goal.declarations-returns-in_err-procedure-in-ProcWord
declarations-returns-in_err-procedure-in-ProcWord t c = λ s u d l h k.
    let j = c.in-Join.ensures.shown s u h in
    by (declarations_procedure _ _ _ _ _ j.whole c.in-ProcWord.is) (stops _ c.from_residual-in_err-procedure-in-ProcWord.ensures.1 (at_token (λ x. cond (ltb 96 d) (break 7 x.place) (deeper 8 (l + 1) x.place)) (c.token-in-ProcWord.ensures s _ j.left_shown) (c.in_err-procedure-in-ProcWord.ensures d l k)))

pub declarations-returns-in_err-formals-in-ProcWord : goal.declarations-returns-in_err-formals-in-ProcWord
declarations-returns-in_err-formals-in-ProcWord t c = λ s u d l h k.
    let j = c.in-Join.ensures.shown s u h in
    by (declarations_procedure _ _ _ _ _ j.whole c.in-ProcWord.is) (passes (at_token (λ x. cond (ltb 96 d) (break 7 x.place) (deeper 8 (l + 1) x.place)) (c.token-in-ProcWord.ensures s _ j.left_shown) (c.in_ok-procedure-in-ProcWord.ensures d l k)) (stops _ c.from_residual-in_err-formals-in-ProcWord.ensures.1 (c.in_err-formals-in-ProcWord.ensures s _ _ l (c.part-in-ProcWord.ensures.leads s _ j.left_shown) (c.deeper-in-ProcWord.ensures d l k))))

pub declarations-returns-in_ok-formals-in-ProcWord : goal.declarations-returns-in_ok-formals-in-ProcWord
declarations-returns-in_ok-formals-in-ProcWord t c = λ s u d l h k.
    let j = c.in-Join.ensures.shown s u h in
    by (declarations_procedure _ _ _ _ _ j.whole c.in-ProcWord.is) (passes (at_token (λ x. cond (ltb 96 d) (break 7 x.place) (deeper 8 (l + 1) x.place)) (c.token-in-ProcWord.ensures s _ j.left_shown) (c.in_ok-procedure-in-ProcWord.ensures d l k)) (passes (c.in_ok-formals-in-ProcWord.ensures s _ _ l (c.part-in-ProcWord.ensures.leads s _ j.left_shown) (c.deeper-in-ProcWord.ensures d l k)) (ends (c.block.ensures s _ _ _ j.right_shown (c.inside.ensures _ l (c.deeper-in-ProcWord-2.ensures d l k))))))

pub statements-returns-in_err-statements-in-Semicolon : goal.statements-returns-in_err-statements-in-Semicolon
statements-returns-in_err-statements-in-Semicolon t c = λ s u d l h k.
    let j = c.in-Join.ensures.shown s u h in
    by (statements_two _ _ _ _ _ j.whole c.in-Semicolon.is) (stops _ c.from_residual-in_err-statements-in-Semicolon.ensures.1 (c.in_err-statements-in-Semicolon.ensures s _ d l j.left_shown k))

pub statements-returns-in_ok-statements-in-Semicolon : goal.statements-returns-in_ok-statements-in-Semicolon
statements-returns-in_ok-statements-in-Semicolon t c = λ s u d l h k.
    let j = c.in-Join.ensures.shown s u h in
    by (statements_two _ _ _ _ _ j.whole c.in-Semicolon.is) (passes (c.in_ok-statements-in-Semicolon.ensures s _ d l j.left_shown k) (ends (c.statements-in-Semicolon-2.ensures s _ d l j.right_shown k)))

pub statements-returns-in_err-node-in-IfWord : goal.statements-returns-in_err-node-in-IfWord
statements-returns-in_err-node-in-IfWord t c = λ s u d l h k.
    let j = c.in-Join.ensures.shown s u h in
    by (statements_if _ _ _ _ _ j.whole c.in-IfWord.is) (stops _ c.from_residual-in_err-node-in-IfWord.ensures.1 (c.in_err-node-in-IfWord.ensures d l k))

pub statements-returns-in_err-expression-in-IfWord : goal.statements-returns-in_err-expression-in-IfWord
statements-returns-in_err-expression-in-IfWord t c = λ s u d l h k.
    let j = c.in-Join.ensures.shown s u h in
    by (statements_if _ _ _ _ _ j.whole c.in-IfWord.is) (passes (c.in_ok-node-in-IfWord.ensures d l k) (stops _ c.from_residual-in_err-expression-in-IfWord.ensures.1 (c.in_err-expression-in-IfWord.ensures s _ _ l j.left_shown (c.deeper-in-IfWord.ensures d l k))))

pub statements-returns-in_ok-expression-in-IfWord : goal.statements-returns-in_ok-expression-in-IfWord
statements-returns-in_ok-expression-in-IfWord t c = λ s u d l h k.
    let j = c.in-Join.ensures.shown s u h in
    by (statements_if _ _ _ _ _ j.whole c.in-IfWord.is) (passes (c.in_ok-node-in-IfWord.ensures d l k) (passes (c.in_ok-expression-in-IfWord.ensures s _ _ l j.left_shown (c.deeper-in-IfWord.ensures d l k)) (ends (c.branches.ensures s _ _ l j.right_shown (c.deeper-in-IfWord-2.ensures d l k)))))

pub statements-returns-in_err-node-in-WhileWord : goal.statements-returns-in_err-node-in-WhileWord
statements-returns-in_err-node-in-WhileWord t c = λ s u d l h k.
    let j = c.in-Join.ensures.shown s u h in
    by (statements_while _ _ _ _ _ j.whole c.in-WhileWord.is) (stops _ c.from_residual-in_err-node-in-WhileWord.ensures.1 (c.in_err-node-in-WhileWord.ensures d l k))

pub statements-returns-in_err-expression-in-WhileWord : goal.statements-returns-in_err-expression-in-WhileWord
statements-returns-in_err-expression-in-WhileWord t c = λ s u d l h k.
    let j = c.in-Join.ensures.shown s u h in
    by (statements_while _ _ _ _ _ j.whole c.in-WhileWord.is) (passes (c.in_ok-node-in-WhileWord.ensures d l k) (stops _ c.from_residual-in_err-expression-in-WhileWord.ensures.1 (c.in_err-expression-in-WhileWord.ensures s _ _ l j.left_shown (c.deeper-in-WhileWord.ensures d l k))))

pub statements-returns-in_ok-expression-in-WhileWord : goal.statements-returns-in_ok-expression-in-WhileWord
statements-returns-in_ok-expression-in-WhileWord t c = λ s u d l h k.
    let j = c.in-Join.ensures.shown s u h in
    by (statements_while _ _ _ _ _ j.whole c.in-WhileWord.is) (passes (c.in_ok-node-in-WhileWord.ensures d l k) (passes (c.in_ok-expression-in-WhileWord.ensures s _ _ l j.left_shown (c.deeper-in-WhileWord.ensures d l k)) (ends (c.block-in-WhileWord.ensures s _ _ l j.right_shown (c.deeper-in-WhileWord-2.ensures d l k)))))

pub statements-returns-in_err-node-in_default-kind : goal.statements-returns-in_err-node-in_default-kind
statements-returns-in_err-node-in_default-kind t c = λ s u d l h k.
    let j = c.in-Join.ensures.shown s u h in
    by (statements_call _ _ _ _ _ j.whole c.in_default-kind.not-DoubleAmpersand c.in_default-kind.not-Semicolon c.in_default-kind.not-IfWord c.in_default-kind.not-WhileWord) (stops _ c.from_residual-in_err-node-in_default-kind.ensures.1 (c.in_err-node-in_default-kind.ensures d l k))

pub statements-returns-in_err-node-in_default-kind-2 : goal.statements-returns-in_err-node-in_default-kind-2
statements-returns-in_err-node-in_default-kind-2 t c = λ s u d l h k.
    let j = c.in-Join.ensures.shown s u h in
    by (statements_call _ _ _ _ _ j.whole c.in_default-kind.not-DoubleAmpersand c.in_default-kind.not-Semicolon c.in_default-kind.not-IfWord c.in_default-kind.not-WhileWord) (passes (c.in_ok-node-in_default-kind.ensures d l k) (stops _ c.from_residual-in_err-node-in_default-kind-2.ensures.1 (at_token (λ x. deeper 96 (d + 1) x.place) (c.token.ensures s _ j.left_shown) (c.in_err-node-in_default-kind-2.ensures _ l (c.deeper-in_default-kind.ensures d l k)))))

pub statements-returns-in_ok-node-in_default-kind-2 : goal.statements-returns-in_ok-node-in_default-kind-2
statements-returns-in_ok-node-in_default-kind-2 t c = λ s u d l h k.
    let j = c.in-Join.ensures.shown s u h in
    by (statements_call _ _ _ _ _ j.whole c.in_default-kind.not-DoubleAmpersand c.in_default-kind.not-Semicolon c.in_default-kind.not-IfWord c.in_default-kind.not-WhileWord) (passes (c.in_ok-node-in_default-kind.ensures d l k) (passes (at_token (λ x. deeper 96 (d + 1) x.place) (c.token.ensures s _ j.left_shown) (c.in_ok-node-in_default-kind-2.ensures _ l (c.deeper-in_default-kind.ensures d l k))) (ends (c.arguments.ensures s _ _ l j.right_shown (c.deeper-in_default-kind-2.ensures d l k)))))

pub statements-returns-in_default : goal.statements-returns-in_default
statements-returns-in_default t c = λ s u d l h k.
    let j = c.in-Under.ensures.shown s u h in
    by (statements_block _ _ _ _ j.whole c.in_default.not-DoubleAmpersand c.in_default.not-At c.in_default.not-ReadWord c.in_default.not-WriteWord) (ends (c.block.ensures s _ d l h k))

pub statements-returns-in_err-node-in-At : goal.statements-returns-in_err-node-in-At
statements-returns-in_err-node-in-At t c = λ s u d l h k.
    let j = c.in-Under.ensures.shown s u h in
    by (statements_word _ _ _ _ j.whole c.in-At.is) (stops _ c.from_residual.ensures.1 (c.in_err-node-in-At.ensures d l k))

pub statements-returns-in_ok-node-in-At : goal.statements-returns-in_ok-node-in-At
statements-returns-in_ok-node-in-At t c = λ s u d l h k.
    let j = c.in-Under.ensures.shown s u h in
    by (statements_word _ _ _ _ j.whole c.in-At.is) (passes (c.in_ok-node-in-At.ensures d l k) (ends (c.expression.ensures s _ _ l j.shown (c.deeper.ensures d l k))))
