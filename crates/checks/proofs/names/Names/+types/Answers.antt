use Rattle.std.proofs.Common.{sym, ◌∙◌, ap, suc, ◌+◌, ◌≡◌, refl, subst, arith}
use Rattle.tiny.specs.Tree.{Fields}
use Rattle.syntax.specs.Shape.{size}
use Rattle.syntax.specs.View.{fields}
use Rattle.checks.specs.Declares.{Inner, open_fields}
use Rattle.checks.proofs.NamesViews.{fields_under, fields_join, opened_fields}
use Rattle.checks.proofs.Steps.{ends, passes, stops, by}
use Rattle.checks.proofs.Scopes.{with_ok, inner_kept, declares_kept, inner_named, grown_named, grown_both, grown_behind}
use Rattle.checks.proofs.names.Names.+types.Goals as goal

pub fields-returns-in_err-type_tree-in-Under-clause-names : goal.fields-returns-in_err-type_tree-in-Under-clause-names
fields-returns-in_err-type_tree-in-Under-clause-names t c = λ s u Δ xs h D I.
    let j = c.in-Under.ensures.shown s u h in
    by (fields_under _ _ _ _ j.whole) (stops _ c.from_residual.ensures.1 (c.in_err-type_tree-in-Under.ensures.names s _ Δ j.shown D))

pub fields-returns-in_ok-type_tree-in-Under-clause-names : goal.fields-returns-in_ok-type_tree-in-Under-clause-names
fields-returns-in_ok-type_tree-in-Under-clause-names t c = λ s u Δ xs h D I.
    let j = c.in-Under.ensures.shown s u h in
    let k = c.in_ok-type_tree-in-Under.ensures.keeps.then _ refl in
    by (fields_under _ _ _ _ j.whole)
    (passes (c.in_ok-type_tree-in-Under.ensures.names s _ Δ j.shown D) (ends (c.declare.ensures.twice s xs (inner_kept k (omega arith) I))))

pub fields-returns-in_ok-type_tree-in-Under-clause-after : goal.fields-returns-in_ok-type_tree-in-Under-clause-after
fields-returns-in_ok-type_tree-in-Under-clause-after t c =
    let k = c.in_ok-type_tree-in-Under.ensures.keeps.then _ refl in
    with_ok c.declare.ensures.named (λ n. record {
      grown = grown_behind k (grown_named n);
      inner = λ s u xs h I.
          let j = c.in-Under.ensures.shown s u h in
          subst (λ z. Inner s c.declare.new.self c.declare.new.scope (open_fields (fields z Fields.no_field) xs)) (sym j.whole)
          (inner_named n (inner_kept k (omega arith) I));
      few = λ s u h. let j = c.in-Under.ensures.shown s u h in let z : size u ≡ suc (size j.part) = ap size j.whole in omega (arith, n.next);
    })

pub fields-returns-in_err-fields-in-Join-clause-names : goal.fields-returns-in_err-fields-in-Join-clause-names
fields-returns-in_err-fields-in-Join-clause-names t c = λ s u Δ xs h D I.
    let j = c.in-Join.ensures.shown s u h in
    by (fields_join _ _ _ _ _ j.whole) (stops _ c.from_residual-in_err-fields-in-Join.ensures.1 (c.in_err-fields-in-Join.ensures.names s _ Δ xs j.left_shown D I))

pub fields-returns-in_ok-fields-in-Join-clause-names : goal.fields-returns-in_ok-fields-in-Join-clause-names
fields-returns-in_ok-fields-in-Join-clause-names t c = λ s u Δ xs h D I.
    let j = c.in-Join.ensures.shown s u h in
    let g = c.in_ok-fields-in-Join.ensures.after.then _ refl in
    by (fields_join _ _ _ _ _ j.whole)
    (passes (c.in_ok-fields-in-Join.ensures.names s _ Δ xs j.left_shown D I)
    (ends (c.fields-in-Join.ensures.names s _ Δ _ j.right_shown (declares_kept g.grown.keeps (omega arith) D) (g.inner s _ xs j.left_shown I))))

pub fields-returns-in_ok-fields-in-Join-clause-after : goal.fields-returns-in_ok-fields-in-Join-clause-after
fields-returns-in_ok-fields-in-Join-clause-after t c =
    let g = c.in_ok-fields-in-Join.ensures.after.then _ refl in
    with_ok c.fields-in-Join.ensures.after (λ q. record {
      grown = grown_both g.grown q.grown;
      inner = λ s u xs h I.
          let j = c.in-Join.ensures.shown s u h in
          subst (λ z. Inner s c.fields-in-Join.new.self c.fields-in-Join.new.inner z)
          (sym (ap (λ z. open_fields (fields z Fields.no_field) xs) j.whole ∙ opened_fields j.left (fields j.right Fields.no_field) xs))
          (q.inner s _ _ j.right_shown (g.inner s _ xs j.left_shown I));
      few = λ s u h.
          let j = c.in-Join.ensures.shown s u h in
          let z : size u ≡ suc (size j.left + size j.right) = ap size j.whole in
          omega (arith, g.few s _ j.left_shown, q.few s _ j.right_shown);
    })
