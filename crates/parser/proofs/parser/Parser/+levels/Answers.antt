-- Each answer follows the path of its function.
use Rattle.std.proofs.Common.{[], ◌∷◌, sym, refl, ◌∙◌}
use Rattle.tiny.specs.declared.tokens.Kind.TheVariants.{Dot}
use Rattle.tiny.specs.Token.{prefixes}
use Rattle.syntax.specs.Grammar.Sort.{e5, e6, basic}
use Rattle.syntax.specs.Parse.{expect, further, prefix_rules}
use Rattle.syntax.specs.Parse.Part.{whole}
use Rattle.syntax.specs.Parse.Tail.{plus?}
use Rattle.parser.specs.Forms.{tail as tail_of}
use Rattle.parser.proofs.Alike.{equal}
use Rattle.parser.proofs.Stand.{start, call, call_on, took, named, made_leaf, made_under, put_leaf, put_under, put_join, done, tailed, went, handed_on}
use Rattle.parser.proofs.Ways.{fails, fails_on, broke, turned, lefted}
use Rattle.parser.proofs.Levels.{open0, open1, open2, open3, open4, open6, capping, leafing, operated, repeated, only_once, no_more, broke_off, select_name, handed}
use Rattle.parser.proofs.parser.Parser.+levels.Goals as goal

pub assignment-returns-in_err-left : goal.assignment-returns-in_err-left
assignment-returns-in_err-left t c =
    broke _ _ _ _ _ _ c.from_residual.ensures.1
    (fails c.in_err-left.ensures (open0 _))

pub assignment-returns : goal.assignment-returns
assignment-returns t c = handed_on c.further.result c.further.new.self c.further.ensures (call c.in_ok-left.ensures (open0 _))

pub relations-returns-in_err-left : goal.relations-returns-in_err-left
relations-returns-in_err-left t c =
    broke _ _ _ _ _ _ c.from_residual.ensures.1
    (fails c.in_err-left.ensures (open1 _))

pub relations-returns : goal.relations-returns
relations-returns t c = handed_on c.further.result c.further.new.self c.further.ensures (call c.in_ok-left.ensures (open1 _))

pub sums-returns-in_err-left : goal.sums-returns-in_err-left
sums-returns-in_err-left t c =
    broke _ _ _ _ _ _ c.from_residual.ensures.1
    (fails_on (further plus? ∷ []) c.in_err-left.ensures (open2 _))

pub sums-returns : goal.sums-returns
sums-returns t c = handed_on c.further.result c.further.new.self c.further.ensures (call_on (further plus? ∷ []) c.in_ok-left.ensures (open2 _))

pub logic-returns-in_err-left : goal.logic-returns-in_err-left
logic-returns-in_err-left t c =
    broke _ _ _ _ _ _ c.from_residual.ensures.1
    (fails c.in_err-left.ensures (open3 _))

pub logic-returns : goal.logic-returns
logic-returns t c = handed_on c.further.result c.further.new.self c.further.ensures (call c.in_ok-left.ensures (open3 _))

pub products-returns-in_err-left : goal.products-returns-in_err-left
products-returns-in_err-left t c =
    broke _ _ _ _ _ _ c.from_residual.ensures.1
    (fails c.in_err-left.ensures (open4 _))

pub products-returns : goal.products-returns
products-returns t c = handed_on c.further.result c.further.new.self c.further.ensures (call c.in_ok-left.ensures (open4 _))

pub postfix-returns-in_err-left : goal.postfix-returns-in_err-left
postfix-returns-in_err-left t c =
    broke _ _ _ _ _ _ c.from_residual.ensures.1
    (fails c.in_err-left.ensures (open6 _))

pub postfix-returns : goal.postfix-returns
postfix-returns t c = handed_on c.further.result c.further.new.self c.further.ensures (call c.in_ok-left.ensures (open6 _))

pub prefix-returns-in-Some : goal.prefix-returns-in-Some
prefix-returns-in-Some t c =
    done (put_under c.add.ensures (made_under (call c.in_ok-part.ensures
    (took (whole e5) (capping e5) (λ o. (refl, (refl, tt))) c.in-Some.ensures
    (start (expect e5 ∷ []) _)))))

pub prefix-returns : goal.prefix-returns
prefix-returns t c =
    handed c.postfix.result c.postfix.new.self
    (lefted e6 e5 prefix_rules prefixes (λ t. refl) (λ t. refl) c.in_default.ensures (start (expect e5 ∷ []) _)) c.postfix.ensures

pub selector-returns-then-eq : goal.selector-returns-then-eq
selector-returns-then-eq t c =
    done (put_leaf c.add.ensures (named c.in_ok-token.ensures (select_name _ _ (sym (equal c.args.operator Dot) ∙ sym c.eq.ensures ∙ c.if-eq.true))))

pub basic-returns-in-Some : goal.basic-returns-in-Some
basic-returns-in-Some t c =
    done (put_leaf c.add.ensures (made_leaf (took (whole basic) leafing (λ o. (refl, (refl, (refl, (refl, tt))))) c.in-Some.ensures
    (start (expect basic ∷ []) _))))

pub operations-returns-in_err-right : goal.operations-returns-in_err-right
operations-returns-in_err-right t c =
    broke_off _ _ _ _ _ _ c.from_residual.ensures.1
    (λ u h. fails_on _ c.in_err-right.ensures (operated c.args.of c.operators.ensures c.in-Some.ensures
    (c.loop-token.invariant.goes _ _ _ _ _ (tailed _ u _ _ h))))

pub operations-loop-token-preserved : goal.operations-loop-token-preserved
operations-loop-token-preserved t c =
    turned c.add-left.ensures (repeated c.args.of c.repeats.ensures c.if-not-repeats.false (call_on _ c.in_ok-right.ensures
    (operated c.args.of c.operators.ensures c.in-Some.ensures (start (further (tail_of c.args.of) ∷ []) _))))
    c.loop-token.invariant

pub operations-returns-then-not-repeats : goal.operations-returns-then-not-repeats
operations-returns-then-not-repeats t c =
    λ u h. went (put_join c.add-left.ensures (only_once c.args.of c.repeats.ensures c.if-not-repeats.true (call_on _ c.in_ok-right.ensures
    (operated c.args.of c.operators.ensures c.in-Some.ensures (c.loop-token.invariant.goes _ _ _ _ _ (tailed _ u _ _ h))))))

pub operations-returns : goal.operations-returns
operations-returns t c =
    λ u h. went (no_more c.args.of c.operators.ensures c.in_default.ensures (c.loop-token.invariant.goes _ _ _ _ _ (tailed _ u _ _ h)))

pub further-returns : goal.further-returns
further-returns t c =
    λ u h. went (no_more c.args.of c.operators.ensures (refl, sym c.stands.ensures ∙ c.if-stands.false) (tailed _ u _ _ h))
