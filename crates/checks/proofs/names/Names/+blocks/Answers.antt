use Rattle.std.proofs.Common.{[], ◌∷◌, sym, refl, ap, subst, arith, rules}
use Rattle.tiny.specs.Tree.{Formals}
use Rattle.syntax.specs.Shape.{token_of}
use Rattle.syntax.specs.View.{formals, part_of, block}
use Rattle.meaning.specs.Stages.{twice, undeclared, innermost, added, names_formals, open_formals, names_block}
use Rattle.checks.specs.Declares.{Declares}
use Rattle.checks.proofs.NamesViews.{declarations_type, declarations_variable, declarations_two, statements_two, statements_if, statements_while, statements_call, statements_block, branches_join, branches_rest, block_under, opened_amp, opened_type, opened_name, opened_amp_join, opened_both, opened_proc}
use Rattle.checks.proofs.Steps.{made, ends, passes, stops, by, at_token}
use Rattle.checks.proofs.Steps.Plan.{last, next}
use Rattle.checks.proofs.Room.{new_amp, new_type, new_name, new_amp_join, new_both, new_proc, amp_right, semi_left, semi_right, next_fits}
use Rattle.checks.proofs.Scopes.{yes_ok, not_ok, with_ok, keeps_all, keeps_both, declares_kept, declares_named, grown_named, grown_both, grown_behind, enter, declares_at, keeps_at, proceeded_at, declares_text, grown_then}
use Rattle.checks.proofs.names.Names.+blocks.Goals as goal

pub block-returns-in_err-declarations-in-Under-clause-names : goal.block-returns-in_err-declarations-in-Under-clause-names
block-returns-in_err-declarations-in-Under-clause-names t c = λ s u Δ h D.
    let j = c.in-Under.ensures.shown s u h in
    by (block_under _ _ _ j.whole) (stops _ c.from_residual.ensures.1 (c.in_err-declarations-in-Under.ensures.names s _ _ j.shown (enter {s = c.args.scope.now} _ c.open-inside.ensures.top c.open-inside.ensures.start D)))

pub block-returns-in_ok-declarations-in-Under-clause-names : goal.block-returns-in_ok-declarations-in-Under-clause-names
block-returns-in_ok-declarations-in-Under-clause-names t c = λ s u Δ h D.
    let j = c.in-Under.ensures.shown s u h in
    let g = c.in_ok-declarations-in-Under.ensures.after.then _ refl in
    by (block_under _ _ _ j.whole)
    (passes (c.in_ok-declarations-in-Under.ensures.names s _ _ j.shown (enter {s = c.args.scope.now} _ c.open-inside.ensures.top c.open-inside.ensures.start D)) (ends (c.statements.ensures.names s _ _ j.shown (g.declares s _ _ j.shown (enter {s = c.args.scope.now} _ c.open-inside.ensures.top c.open-inside.ensures.start D)))))

pub branches-returns-in_err-block-in-Join-clause-names : goal.branches-returns-in_err-block-in-Join-clause-names
branches-returns-in_err-block-in-Join-clause-names t c = λ s u Δ h D.
    let j = c.in-Join.ensures.shown s u h in
    by (branches_join _ _ _ _ j.whole) (stops _ c.from_residual.ensures.1 (c.in_err-block-in-Join.ensures.names s _ Δ j.left_shown D))

pub branches-returns-in_ok-block-in-Join-clause-names : goal.branches-returns-in_ok-block-in-Join-clause-names
branches-returns-in_ok-block-in-Join-clause-names t c = λ s u Δ h D.
    let j = c.in-Join.ensures.shown s u h in
    let k = c.in_ok-block-in-Join.ensures.closes.keeps.then _ refl in
    by (branches_join _ _ _ _ j.whole)
    (passes (c.in_ok-block-in-Join.ensures.names s _ Δ j.left_shown D) (ends (c.block-in-Join.ensures.names s _ Δ j.right_shown (declares_at c.in_ok-block-in-Join.ensures.closes.scope (declares_kept k (omega arith) D)))))

pub branches-returns-in_default : goal.branches-returns-in_default
branches-returns-in_default t c =
    record {
      names = λ s u Δ h D. by (branches_rest s c.shape.result u Δ c.in_default.not-Join (c.shape.ensures.shown s u h)) (ends (c.block-in_default.ensures.names s _ Δ h D));
      closes = c.block-in_default.ensures.closes;
    }

pub declarations-returns-in_err-type_tree-in-TypeWord-clause-names : goal.declarations-returns-in_err-type_tree-in-TypeWord-clause-names
declarations-returns-in_err-type_tree-in-TypeWord-clause-names t c = λ s u Δ h D.
    let j = c.in-Under.ensures.shown s u h in
    by (declarations_type _ _ _ j.whole c.in-TypeWord.is) (stops _ c.from_residual.ensures.1 (c.in_err-type_tree-in-TypeWord.ensures.names s _ Δ (c.part.ensures.leads s _ j.shown) D))

pub declarations-returns-in_ok-type_tree-in-TypeWord-clause-names : goal.declarations-returns-in_ok-type_tree-in-TypeWord-clause-names
declarations-returns-in_ok-type_tree-in-TypeWord-clause-names t c = λ s u Δ h D.
    let j = c.in-Under.ensures.shown s u h in
    let k = c.in_ok-type_tree-in-TypeWord.ensures.keeps.then _ refl in
    by (declarations_type _ _ _ j.whole c.in-TypeWord.is)
    (passes (c.in_ok-type_tree-in-TypeWord.ensures.names s _ Δ (c.part.ensures.leads s _ j.shown) D)
    (ends (at_token (λ x. twice (innermost Δ) x.place x.text) (c.token.ensures s _ j.shown) (c.declare.ensures.twice s _ (declares_kept k (omega arith) D).inner))))

pub declarations-returns-in-DoubleAmpersand-clause-after : goal.declarations-returns-in-DoubleAmpersand-clause-after
declarations-returns-in-DoubleAmpersand-clause-after t c =
    with_ok c.declarations.ensures.after (λ q. record {
      grown = q.grown;
      declares = λ s u Δ h D.
          let j = c.in-Under.ensures.shown s u h in
          subst (λ z. Declares s c.declarations.new.self c.declarations.new.scope z) (sym (opened_amp _ _ Δ j.whole c.in-DoubleAmpersand.is)) (q.declares s _ Δ j.shown D);
      few = λ s u h. let j = c.in-Under.ensures.shown s u h in let n = new_amp _ j.part j.whole c.in-DoubleAmpersand.is in omega (arith, q.few s _ j.shown);
    })

pub declarations-returns-in_ok-type_tree-in-TypeWord-clause-after : goal.declarations-returns-in_ok-type_tree-in-TypeWord-clause-after
declarations-returns-in_ok-type_tree-in-TypeWord-clause-after t c =
    let k = c.in_ok-type_tree-in-TypeWord.ensures.keeps.then _ refl in
    with_ok c.declare.ensures.named (λ q. record {
      grown = grown_behind k (grown_named q);
      declares = λ s u Δ h D.
          let j = c.in-Under.ensures.shown s u h in
          subst (λ z. Declares s c.declare.new.self c.declare.new.scope z) (sym (opened_type _ _ Δ j.whole c.in-TypeWord.is)) (declares_text Δ (ap (λ x. x.text) (c.token.ensures s _ j.shown)) (declares_named q (declares_kept k (omega arith) D)));
      few = λ s u h. let j = c.in-Under.ensures.shown s u h in let n = new_type _ j.part j.whole c.in-TypeWord.is in omega (arith, q.next);
    })

pub declarations-returns-in_err-type_tree-in-Name-clause-names : goal.declarations-returns-in_err-type_tree-in-Name-clause-names
declarations-returns-in_err-type_tree-in-Name-clause-names t c = λ s u Δ h D.
    let j = c.in-Under.ensures.shown s u h in
    by (declarations_variable _ _ _ j.whole c.in-Name.is) (stops _ c.from_residual-in_err-type_tree-in-Name.ensures.1 (c.in_err-type_tree-in-Name.ensures.names s _ Δ j.shown D))

pub declarations-returns-in_ok-type_tree-in-Name-clause-names : goal.declarations-returns-in_ok-type_tree-in-Name-clause-names
declarations-returns-in_ok-type_tree-in-Name-clause-names t c = λ s u Δ h D.
    let j = c.in-Under.ensures.shown s u h in
    let k = c.in_ok-type_tree-in-Name.ensures.keeps.then _ refl in
    by (declarations_variable _ _ _ j.whole c.in-Name.is)
    (passes (c.in_ok-type_tree-in-Name.ensures.names s _ Δ j.shown D) (ends (c.declare-in-Name.ensures.twice s _ (declares_kept k (omega arith) D).inner)))

pub declarations-returns-in_ok-type_tree-in-Name-clause-after : goal.declarations-returns-in_ok-type_tree-in-Name-clause-after
declarations-returns-in_ok-type_tree-in-Name-clause-after t c =
    let k = c.in_ok-type_tree-in-Name.ensures.keeps.then _ refl in
    with_ok c.declare-in-Name.ensures.named (λ q. record {
      grown = grown_behind k (grown_named q);
      declares = λ s u Δ h D.
          let j = c.in-Under.ensures.shown s u h in
          subst (λ z. Declares s c.declare-in-Name.new.self c.declare-in-Name.new.scope z) (sym (opened_name _ _ Δ j.whole c.in-Name.is)) (declares_named q (declares_kept k (omega arith) D));
      few = λ s u h. let j = c.in-Under.ensures.shown s u h in let n = new_name _ j.part j.whole c.in-Name.is in omega (arith, q.next);
    })

pub declarations-returns-in-DoubleAmpersand-kind-clause-after : goal.declarations-returns-in-DoubleAmpersand-kind-clause-after
declarations-returns-in-DoubleAmpersand-kind-clause-after t c =
    with_ok c.declarations-in-DoubleAmpersand-kind.ensures.after (λ q. record {
      grown = q.grown;
      declares = λ s u Δ h D.
          let j = c.in-Join.ensures.shown s u h in
          subst (λ z. Declares s c.declarations-in-DoubleAmpersand-kind.new.self c.declarations-in-DoubleAmpersand-kind.new.scope z) (sym (opened_amp_join _ _ _ Δ j.whole c.in-DoubleAmpersand-kind.is)) (q.declares s _ Δ j.left_shown D);
      few = λ s u h. let j = c.in-Join.ensures.shown s u h in let n = new_amp_join _ j.left j.right j.whole c.in-DoubleAmpersand-kind.is in omega (arith, q.few s _ j.left_shown);
    })

pub declarations-returns-in_err-declarations-in-Semicolon-clause-names : goal.declarations-returns-in_err-declarations-in-Semicolon-clause-names
declarations-returns-in_err-declarations-in-Semicolon-clause-names t c = λ s u Δ h D.
    let j = c.in-Join.ensures.shown s u h in
    by (declarations_two _ _ _ _ j.whole c.in-Semicolon.is) (stops _ c.from_residual-in_err-declarations-in-Semicolon.ensures.1 (c.in_err-declarations-in-Semicolon.ensures.names s _ Δ j.left_shown D))

pub declarations-declarations-requires-in-Semicolon-2 : goal.declarations-declarations-requires-in-Semicolon-2
declarations-declarations-requires-in-Semicolon-2 t c =
    let g = c.in_ok-declarations-in-Semicolon.ensures.after.then _ refl in
    (omega (arith, c.in-Join.ensures.parts.1.before), next_fits c.in-Join.ensures.shown c.declarations-in-Semicolon.new.scope.top g.grown.within g.grown.keeps.room g.few c.requires)

pub declarations-returns-in_ok-declarations-in-Semicolon-clause-names : goal.declarations-returns-in_ok-declarations-in-Semicolon-clause-names
declarations-returns-in_ok-declarations-in-Semicolon-clause-names t c = λ s u Δ h D.
    let j = c.in-Join.ensures.shown s u h in
    let g = c.in_ok-declarations-in-Semicolon.ensures.after.then _ refl in
    by (declarations_two _ _ _ _ j.whole c.in-Semicolon.is)
    (passes (c.in_ok-declarations-in-Semicolon.ensures.names s _ Δ j.left_shown D)
    (ends (c.declarations-in-Semicolon-2.ensures.names s _ _ j.right_shown (g.declares s _ Δ j.left_shown D))))

pub declarations-returns-in_ok-declarations-in-Semicolon-clause-after : goal.declarations-returns-in_ok-declarations-in-Semicolon-clause-after
declarations-returns-in_ok-declarations-in-Semicolon-clause-after t c =
    let g = c.in_ok-declarations-in-Semicolon.ensures.after.then _ refl in
    with_ok c.declarations-in-Semicolon-2.ensures.after (λ q. record {
      grown = grown_both g.grown q.grown;
      declares = λ s u Δ h D.
          let j = c.in-Join.ensures.shown s u h in
          subst (λ z. Declares s c.declarations-in-Semicolon-2.new.self c.declarations-in-Semicolon-2.new.scope z) (sym (opened_both _ _ _ Δ j.whole c.in-Semicolon.is)) (q.declares s _ _ j.right_shown (g.declares s _ Δ j.left_shown D));
      few = λ s u h. let j = c.in-Join.ensures.shown s u h in let n = new_both _ j.left j.right j.whole c.in-Semicolon.is in omega (arith, g.few s _ j.left_shown, q.few s _ j.right_shown);
    })

pub declarations-returns-in-ProcWord-clause-after : goal.declarations-returns-in-ProcWord-clause-after
declarations-returns-in-ProcWord-clause-after t c =
    with_ok c.procedure.ensures.after (λ q. record {
      grown = q.grown;
      declares = λ s u Δ h D.
          let j = c.in-Join.ensures.shown s u h in
          subst (λ z. Declares s c.procedure.new.self c.procedure.new.scope z) (sym (opened_proc _ _ _ Δ j.whole c.in-ProcWord.is)) (q.declares s _ Δ j.left_shown D);
      few = λ s u h. let j = c.in-Join.ensures.shown s u h in let n = new_proc _ j.left j.right j.whole c.in-ProcWord.is in omega (arith, q.next);
    })

pub procedure-returns-in_err-formals-clause-names : goal.procedure-returns-in_err-formals-clause-names
procedure-returns-in_err-formals-clause-names t c = λ s l m Δ h i D.
    let n = c.in_ok-declare.ensures.named.then _ refl in
    by (made {p = next (twice (innermost Δ) (token_of l).place (token_of l).text) (next (names_formals (formals (part_of l) Formals.no_formal) ([] ∷ added (token_of l).text Δ)) (last (names_block (block m) (open_formals (formals (part_of l) Formals.no_formal) ([] ∷ added (token_of l).text Δ)))))} refl)
    (passes (at_token (λ x. twice (innermost Δ) x.place x.text) (c.token.ensures s _ h) (c.in_ok-declare.ensures.twice s _ D.inner))
    (stops _ c.from_residual-in_err-formals.ensures.1 (c.in_err-formals.ensures.names s _ _ (c.part.ensures.leads s _ h) (enter {s = c.declare.new.scope} _ c.open-inner.ensures.top c.open-inner.ensures.start (declares_text Δ (ap (λ x. x.text) (c.token.ensures s _ h)) (declares_named n D))))))

pub procedure-returns-clause-names : goal.procedure-returns-clause-names
procedure-returns-clause-names t c = λ s l m Δ h i D.
    let n = c.in_ok-declare.ensures.named.then _ refl in
    let g = c.in_ok-formals.ensures.after.then _ refl in
    let o = enter {s = c.declare.new.scope} c.open-inner.result.scope.now c.open-inner.ensures.top c.open-inner.ensures.start (declares_text Δ (ap (λ x. x.text) (c.token.ensures s _ h)) (declares_named n D)) in
    by (made {p = next (twice (innermost Δ) (token_of l).place (token_of l).text) (next (names_formals (formals (part_of l) Formals.no_formal) ([] ∷ added (token_of l).text Δ)) (last (names_block (block m) (open_formals (formals (part_of l) Formals.no_formal) ([] ∷ added (token_of l).text Δ)))))} refl)
    (passes (at_token (λ x. twice (innermost Δ) x.place x.text) (c.token.ensures s _ h) (c.in_ok-declare.ensures.twice s _ D.inner))
    (passes (c.in_ok-formals.ensures.names s _ _ (c.part.ensures.leads s _ h) o) (ends (c.block.ensures.names s _ _ i (g.declares s _ _ (c.part.ensures.leads s _ h) o)))))

pub procedure-returns-clause-after : goal.procedure-returns-clause-after
procedure-returns-clause-after t c =
    let n = c.in_ok-declare.ensures.named.then _ refl in
    let g = c.in_ok-formals.ensures.after.then _ refl in
    with_ok c.block.ensures.closes.keeps (λ k.
    let b = keeps_at c.open-inner.ensures.top (keeps_both g.grown.keeps k g.grown.more) in
    proceeded_at c.declare.new.scope (search rules) (record {
      grown = grown_then (grown_named n) b;
      declares = λ s l Δ h D. declares_kept b (omega arith) (declares_text Δ (ap (λ x. x.text) (c.token.ensures s _ h)) (declares_named n D));
      next = n.next;
    }))

pub statements-statements-requires : goal.statements-statements-requires
statements-statements-requires t c = (omega (arith, c.in-Join.ensures.parts.1.before), amp_right c.in-Join.token c.in-Join.ensures.shown c.requires c.in-DoubleAmpersand-kind.is)

pub statements-statements-requires-in-Semicolon : goal.statements-statements-requires-in-Semicolon
statements-statements-requires-in-Semicolon t c = (omega (arith, c.in-Join.ensures.parts.0.before), semi_left c.in-Join.token c.in-Join.ensures.shown c.requires c.in-Semicolon.is)

pub statements-statements-requires-in-Semicolon-2 : goal.statements-statements-requires-in-Semicolon-2
statements-statements-requires-in-Semicolon-2 t c =
    let k = c.in_ok-statements-in-Semicolon.ensures.closes.keeps.then _ refl in
    (omega (arith, c.in-Join.ensures.parts.1.before), semi_right c.in-Join.token c.in-Join.ensures.shown c.requires c.in-Semicolon.is c.statements-in-Semicolon.new.scope.top (ap (λ z. z.top) c.in_ok-statements-in-Semicolon.ensures.closes.scope) k)

pub statements-returns-in_err-statements-in-Semicolon-clause-names : goal.statements-returns-in_err-statements-in-Semicolon-clause-names
statements-returns-in_err-statements-in-Semicolon-clause-names t c = λ s u Δ h D.
    let j = c.in-Join.ensures.shown s u h in
    by (statements_two _ _ _ _ j.whole c.in-Semicolon.is) (stops _ c.from_residual.ensures.1 (c.in_err-statements-in-Semicolon.ensures.names s _ Δ j.left_shown D))

pub statements-returns-in_ok-statements-in-Semicolon-clause-names : goal.statements-returns-in_ok-statements-in-Semicolon-clause-names
statements-returns-in_ok-statements-in-Semicolon-clause-names t c = λ s u Δ h D.
    let j = c.in-Join.ensures.shown s u h in
    let k = c.in_ok-statements-in-Semicolon.ensures.closes.keeps.then _ refl in
    by (statements_two _ _ _ _ j.whole c.in-Semicolon.is)
    (passes (c.in_ok-statements-in-Semicolon.ensures.names s _ Δ j.left_shown D)
    (ends (c.statements-in-Semicolon-2.ensures.names s _ Δ j.right_shown (declares_at c.in_ok-statements-in-Semicolon.ensures.closes.scope (declares_kept k (omega arith) D)))))

pub statements-returns-in_err-expression-in-IfWord-clause-names : goal.statements-returns-in_err-expression-in-IfWord-clause-names
statements-returns-in_err-expression-in-IfWord-clause-names t c = λ s u Δ h D.
    let j = c.in-Join.ensures.shown s u h in
    by (statements_if _ _ _ _ j.whole c.in-IfWord.is) (stops _ c.from_residual-in_err-expression-in-IfWord.ensures.1 (c.in_err-expression-in-IfWord.ensures s _ Δ j.left_shown D))

pub statements-returns-in_ok-expression-in-IfWord-clause-names : goal.statements-returns-in_ok-expression-in-IfWord-clause-names
statements-returns-in_ok-expression-in-IfWord-clause-names t c = λ s u Δ h D.
    let j = c.in-Join.ensures.shown s u h in
    by (statements_if _ _ _ _ j.whole c.in-IfWord.is) (passes (c.in_ok-expression-in-IfWord.ensures s _ Δ j.left_shown D) (ends (c.branches.ensures.names s _ Δ j.right_shown D)))

pub statements-returns-in_err-expression-in-WhileWord-clause-names : goal.statements-returns-in_err-expression-in-WhileWord-clause-names
statements-returns-in_err-expression-in-WhileWord-clause-names t c = λ s u Δ h D.
    let j = c.in-Join.ensures.shown s u h in
    by (statements_while _ _ _ _ j.whole c.in-WhileWord.is) (stops _ c.from_residual-in_err-expression-in-WhileWord.ensures.1 (c.in_err-expression-in-WhileWord.ensures s _ Δ j.left_shown D))

pub statements-returns-in_ok-expression-in-WhileWord-clause-names : goal.statements-returns-in_ok-expression-in-WhileWord-clause-names
statements-returns-in_ok-expression-in-WhileWord-clause-names t c = λ s u Δ h D.
    let j = c.in-Join.ensures.shown s u h in
    by (statements_while _ _ _ _ j.whole c.in-WhileWord.is) (passes (c.in_ok-expression-in-WhileWord.ensures s _ Δ j.left_shown D) (ends (c.block-in-WhileWord.ensures.names s _ Δ j.right_shown D)))

pub statements-returns-in_err-used-in_default-kind : goal.statements-returns-in_err-used-in_default-kind
statements-returns-in_err-used-in_default-kind t c =
    record {
      names = λ s u Δ h D.
          let j = c.in-Join.ensures.shown s u h in
          by (statements_call _ _ _ _ j.whole c.in_default-kind.not-DoubleAmpersand c.in_default-kind.not-Semicolon c.in_default-kind.not-IfWord c.in_default-kind.not-WhileWord)
          (stops _ c.from_residual-in_err-used-in_default-kind.ensures.1 (at_token (λ x. undeclared Δ x.place x.text) (c.token.ensures s _ j.left_shown) (c.in_err-used-in_default-kind.ensures s Δ D)));
      closes = record { scope = refl; keeps = not_ok _ c.from_residual-in_err-used-in_default-kind.ensures.0 };
    }

pub statements-returns-in_ok-used-in_default-kind : goal.statements-returns-in_ok-used-in_default-kind
statements-returns-in_ok-used-in_default-kind t c =
    record {
      names = λ s u Δ h D.
          let j = c.in-Join.ensures.shown s u h in
          by (statements_call _ _ _ _ j.whole c.in_default-kind.not-DoubleAmpersand c.in_default-kind.not-Semicolon c.in_default-kind.not-IfWord c.in_default-kind.not-WhileWord)
          (passes (at_token (λ x. undeclared Δ x.place x.text) (c.token.ensures s _ j.left_shown) (c.in_ok-used-in_default-kind.ensures s Δ D)) (ends (c.arguments.ensures s _ Δ j.right_shown D)));
      closes = record { scope = refl; keeps = yes_ok (keeps_all c.requires.within) };
    }

pub statements-returns-in_default : goal.statements-returns-in_default
statements-returns-in_default t c =
    record {
      names = λ s u Δ h D.
          let j = c.in-Under.ensures.shown s u h in
          by (statements_block _ _ _ j.whole c.in_default.not-DoubleAmpersand c.in_default.not-At c.in_default.not-ReadWord c.in_default.not-WriteWord)
          (ends (c.block.ensures.names s _ Δ h D));
      closes = c.block.ensures.closes;
    }
