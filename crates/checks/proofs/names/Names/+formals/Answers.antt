use Rattle.std.proofs.Common.{sym, ◌∙◌, ap, suc, ◌+◌, ◌≡◌, refl, subst, arith}
use Rattle.tiny.specs.Tree.{Formals}
use Rattle.tiny.specs.declared.tokens.Kind.TheVariants.{Open}
use Rattle.syntax.specs.Shape.{size}
use Rattle.syntax.specs.View.{formals}
use Rattle.meaning.specs.Stages.{open_formals}
use Rattle.nodes.proofs.KindTests.{told}
use Rattle.checks.specs.Declares.{Declares}
use Rattle.checks.proofs.NamesViews.{formals_under, formals_join, opened_formals, opened_inside, opened_one}
use Rattle.checks.proofs.Steps.{ends, passes, stops, then_way, else_way, by}
use Rattle.checks.proofs.Scopes.{with_ok, declares_kept, declares_named, grown_named, grown_both, grown_behind}
use Rattle.checks.proofs.names.Names.+formals.Goals as goal

pub returns-then-eq-clause-after : goal.returns-then-eq-clause-after
returns-then-eq-clause-after t c =
    with_ok c.formals.ensures.after (λ q. record {
      grown = q.grown;
      declares = λ s u Δ h D.
          let j = c.in-Under.ensures.shown s u h in
          subst (λ z. Declares s c.formals.new.self c.formals.new.scope z)
          (sym (opened_inside _ _ Δ j.whole (told c.in-Under.token.what.kind Open c.if-eq.ensures))) (q.declares s _ Δ j.shown D);
      few = λ s u h.
          let j = c.in-Under.ensures.shown s u h in
          let z : size u ≡ suc (size j.part) = ap size j.whole in omega (arith, q.few s _ j.shown);
    })

pub returns-in_err-type_tree-in-Under-clause-names : goal.returns-in_err-type_tree-in-Under-clause-names
returns-in_err-type_tree-in-Under-clause-names t c = λ s u Δ h D.
    let j = c.in-Under.ensures.shown s u h in
    by (formals_under _ _ _ j.whole)
    (else_way (told c.in-Under.token.what.kind Open c.if-eq.ensures)
    (stops _ c.from_residual.ensures.1 (c.in_err-type_tree-in-Under.ensures.names s _ Δ (c.formal_type.ensures.leads s _ j.shown) D)))

pub returns-in_ok-type_tree-in-Under-clause-names : goal.returns-in_ok-type_tree-in-Under-clause-names
returns-in_ok-type_tree-in-Under-clause-names t c = λ s u Δ h D.
    let j = c.in-Under.ensures.shown s u h in
    let k = c.in_ok-type_tree-in-Under.ensures.keeps.then _ refl in
    by (formals_under _ _ _ j.whole)
    (else_way (told c.in-Under.token.what.kind Open c.if-eq.ensures)
    (passes (c.in_ok-type_tree-in-Under.ensures.names s _ Δ (c.formal_type.ensures.leads s _ j.shown) D)
    (ends (c.declare.ensures.twice s _ (declares_kept k (omega arith) D).inner))))

pub returns-in_ok-type_tree-in-Under-clause-after : goal.returns-in_ok-type_tree-in-Under-clause-after
returns-in_ok-type_tree-in-Under-clause-after t c =
    let k = c.in_ok-type_tree-in-Under.ensures.keeps.then _ refl in
    with_ok c.declare.ensures.named (λ n. record {
      grown = grown_behind k (grown_named n);
      declares = λ s u Δ h D.
          let j = c.in-Under.ensures.shown s u h in
          subst (λ z. Declares s c.declare.new.self c.declare.new.scope z)
          (sym (opened_one _ _ Δ j.whole (told c.in-Under.token.what.kind Open c.if-eq.ensures))) (declares_named n (declares_kept k (omega arith) D));
      few = λ s u h. let j = c.in-Under.ensures.shown s u h in let z : size u ≡ suc (size j.part) = ap size j.whole in omega (arith, n.next);
    })

pub returns-in_err-formals-in-Join-clause-names : goal.returns-in_err-formals-in-Join-clause-names
returns-in_err-formals-in-Join-clause-names t c = λ s u Δ h D.
    let j = c.in-Join.ensures.shown s u h in
    by (formals_join _ _ _ _ j.whole) (stops _ c.from_residual-in_err-formals-in-Join.ensures.1 (c.in_err-formals-in-Join.ensures.names s _ Δ j.left_shown D))

pub returns-in_ok-formals-in-Join-clause-names : goal.returns-in_ok-formals-in-Join-clause-names
returns-in_ok-formals-in-Join-clause-names t c = λ s u Δ h D.
    let j = c.in-Join.ensures.shown s u h in
    let g = c.in_ok-formals-in-Join.ensures.after.then _ refl in
    by (formals_join _ _ _ _ j.whole)
    (passes (c.in_ok-formals-in-Join.ensures.names s _ Δ j.left_shown D) (ends (c.formals-in-Join-2.ensures.names s _ _ j.right_shown (g.declares s _ Δ j.left_shown D))))

pub returns-in_ok-formals-in-Join-clause-after : goal.returns-in_ok-formals-in-Join-clause-after
returns-in_ok-formals-in-Join-clause-after t c =
    let g = c.in_ok-formals-in-Join.ensures.after.then _ refl in
    with_ok c.formals-in-Join-2.ensures.after (λ q. record {
      grown = grown_both g.grown q.grown;
      declares = λ s u Δ h D.
          let j = c.in-Join.ensures.shown s u h in
          subst (λ z. Declares s c.formals-in-Join-2.new.self c.formals-in-Join-2.new.scope z)
          (sym (ap (λ z. open_formals (formals z Formals.no_formal) Δ) j.whole ∙ opened_formals j.left (formals j.right Formals.no_formal) Δ))
          (q.declares s _ _ j.right_shown (g.declares s _ Δ j.left_shown D));
      few = λ s u h.
          let j = c.in-Join.ensures.shown s u h in
          let z : size u ≡ suc (size j.left + size j.right) = ap size j.whole in
          omega (arith, g.few s _ j.left_shown, q.few s _ j.right_shown);
    })
