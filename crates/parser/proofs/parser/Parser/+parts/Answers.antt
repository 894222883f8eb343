-- Each answer follows the path of its function.
use Rattle.std.proofs.Common.{[], ◌∷◌, sym, refl, ◌∙◌}
use Rattle.tiny.specs.declared.tokens.Kind.TheVariants.{Name, TypeWord, ProcWord, IfWord, ElseWord, WhileWord, ReadWord, WriteWord, NlWord, CallWord, Brace, BraceEnd, Ampersand, At}
use Rattle.syntax.specs.Grammar.Sort.{e0, type, field, formal, declaration, statement, branches, content, list, enclosed}
use Rattle.syntax.specs.Grammar.Listed.{declarations, fields}
use Rattle.syntax.specs.Grammar.Bracket.{braces, actual_parens}
use Rattle.syntax.specs.Parse.{expect, further, dropped, pushed, undered, joined, word_rules, naming_rules}
use Rattle.syntax.specs.Parse.Part.{whole, tail}
use Rattle.syntax.specs.Parse.Tail.{array?, else?, formal_name, section_tail}
use Rattle.syntax.specs.Parse.Symbol.{token, make}
use Rattle.parser.specs.Forms.{listed, bracket}
use Rattle.parser.specs.Ahead.{ahead}
use Rattle.parser.proofs.Stand.{start, call, skip, took, passed, named, capped_by, made_leaf, made_under, put_leaf, put_under, put_join, put_title, put_united, done, tailed, went, handed_on}
use Rattle.parser.proofs.Ways.{fails, lacks, broke, gone, nor, at_once, entered, lefted, neither, none_of}
use Rattle.parser.proofs.Levels.{only_block, opened, open_list, took_as, lacked_as, one_taken, none_taken, separated, bracketed, joining, capping, leafing, handed, instructed, declared, instructed_then, nothing_then, naming_procedure, sectioning, referring}
use Rattle.parser.proofs.parser.Parser.+parts.Goals as goal

pub list-returns-in_err-left : goal.list-returns-in_err-left
list-returns-in_err-left t c =
    broke _ _ _ _ _ _ c.from_residual.ensures.1
    (fails c.in_err-left.ensures (open_list (listed c.args.of) _))

pub enclosed-returns-then-is_some : goal.enclosed-returns-then-is_some
enclosed-returns-then-is_some t c =
    let b = bracket c.args.by in
    done (put_leaf c.add.ensures (at_once b (took_as c.closing.ensures (one_taken _ c.take.ensures (sym c.is_some.ensures ∙ c.if-is_some.true)).1) (bracketed b c.opening.ensures c.in_ok-token.ensures)))

pub enclosed-returns-in_err-part : goal.enclosed-returns-in_err-part
enclosed-returns-in_err-part t c =
    let b = bracket c.args.by in
    broke _ _ _ _ _ _ c.from_residual-in_err-part.ensures.1
    (fails c.in_err-part.ensures (entered b (lacked_as c.closing.ensures (none_taken (c.closing.result ∷ []) _ c.take.ensures (sym c.is_some.ensures ∙ c.if-is_some.false))) (bracketed b c.opening.ensures c.in_ok-token.ensures)))

pub enclosed-returns-in_err-expect : goal.enclosed-returns-in_err-expect
enclosed-returns-in_err-expect t c =
    let b = bracket c.args.by in
    broke _ _ _ _ _ _ c.from_residual-in_err-expect.ensures.1
    (lacks (lacked_as c.closing-2.ensures c.in_err-expect.ensures) (made_under (call c.in_ok-part.ensures (entered b (lacked_as c.closing.ensures (none_taken (c.closing.result ∷ []) _ c.take.ensures (sym c.is_some.ensures ∙ c.if-is_some.false)))
    (bracketed b c.opening.ensures c.in_ok-token.ensures)))))

pub enclosed-returns : goal.enclosed-returns
enclosed-returns t c =
    let b = bracket c.args.by in
    done (put_under c.add-2.ensures (passed (took_as c.closing-2.ensures c.in_ok-expect.ensures) (made_under (call c.in_ok-part.ensures
    (entered b (lacked_as c.closing.ensures (none_taken (c.closing.result ∷ []) _ c.take.ensures (sym c.is_some.ensures ∙ c.if-is_some.false))) (bracketed b c.opening.ensures c.in_ok-token.ensures))))))

pub branches-returns-in_err-left : goal.branches-returns-in_err-left
branches-returns-in_err-left t c =
    broke _ _ _ _ _ _ c.from_residual.ensures.1
    (fails c.in_err-left.ensures (opened (enclosed braces) branches (further else? ∷ []) (λ t. refl) _))

pub branches-returns-in_err-right : goal.branches-returns-in_err-right
branches-returns-in_err-right t c =
    broke _ _ _ _ _ _ c.from_residual-in_err-right.ensures.1
    (fails c.in_err-right.ensures
    (took (tail else?) (joining (enclosed braces)) (λ o. (refl, tt)) c.in-Some.ensures
    (call c.in_ok-left.ensures (opened (enclosed braces) branches (further else? ∷ []) (λ t. refl) _))))

pub branches-returns-in-Some : goal.branches-returns-in-Some
branches-returns-in-Some t c =
    done (put_join c.add.ensures (call c.in_ok-right.ensures
    (took (tail else?) (joining (enclosed braces)) (λ o. (refl, tt)) c.in-Some.ensures
    (call c.in_ok-left.ensures (opened (enclosed braces) branches (further else? ∷ []) (λ t. refl) _)))))

pub branches-returns : goal.branches-returns
branches-returns t c =
    done (gone else? (ElseWord ∷ []) (λ t. refl) refl c.in_default.ensures (call c.in_ok-left.ensures (opened (enclosed braces) branches (further else? ∷ []) (λ t. refl) _)))

pub content-returns-then-instructs : goal.content-returns-then-instructs
content-returns-then-instructs t c =
    handed c.list.result c.list.new.self (instructed (sym c.instructs.ensures ∙ c.if-instructs.true) (start (expect content ∷ []) _)) c.list.ensures

pub sections-returns-in_err-right : goal.sections-returns-in_err-right
sections-returns-in_err-right t c =
    broke _ _ _ _ _ _ c.from_residual-in_err-right.ensures.1
    (fails c.in_err-right.ensures (instructed_then (sym c.instructs.ensures ∙ c.if-instructs.true) (made_under (took (tail section_tail) sectioning (λ o. (refl, tt)) c.in_ok-token.ensures
    (call c.in_ok-left.ensures (start (expect (list declarations) ∷ further section_tail ∷ []) _))))))

pub sections-returns-then-instructs : goal.sections-returns-then-instructs
sections-returns-then-instructs t c =
    done (put_united c.add.ensures (call c.in_ok-right.ensures (instructed_then (sym c.instructs.ensures ∙ c.if-instructs.true) (made_under (took (tail section_tail) sectioning (λ o. (refl, tt)) c.in_ok-token.ensures
    (call c.in_ok-left.ensures (start (expect (list declarations) ∷ further section_tail ∷ []) _)))))))

pub sections-returns : goal.sections-returns
sections-returns t c =
    done (put_under c.add-2.ensures (nothing_then (sym c.instructs.ensures ∙ c.if-instructs.false) (made_under (took (tail section_tail) sectioning (λ o. (refl, tt)) c.in_ok-token.ensures
    (call c.in_ok-left.ensures (start (expect (list declarations) ∷ further section_tail ∷ []) _))))))

pub declaration-returns-in-Some : goal.declaration-returns-in-Some
declaration-returns-in-Some t c =
    done (put_under c.add.ensures (made_under (put_under c.add-named.ensures (capped_by c.in_ok-name.ensures (call c.in_ok-part.ensures (took (whole declaration) (λ k o. expect type ∷ token Name undered ∷ make (undered o) ∷ []) (λ o. (refl, tt)) c.in-Some.ensures
    (start (expect declaration ∷ []) _)))))))

pub declaration-returns-in_err-right : goal.declaration-returns-in_err-right
declaration-returns-in_err-right t c =
    broke _ _ _ _ _ _ c.from_residual-in_err-right.ensures.1
    (fails c.in_err-right.ensures (put_title c.add-left.ensures (call c.in_ok-formals.ensures (named c.in_ok-title.ensures (took (whole declaration) naming_procedure (λ o. (refl, tt)) c.in-Some-take.ensures
    (skip c.in_default.ensures.0 (start (expect declaration ∷ []) _)))))))

pub declaration-returns-in-Some-take : goal.declaration-returns-in-Some-take
declaration-returns-in-Some-take t c =
    done (put_join c.add-in-Some-take.ensures (call c.in_ok-right.ensures (put_title c.add-left.ensures (call c.in_ok-formals.ensures (named c.in_ok-title.ensures (took (whole declaration) naming_procedure (λ o. (refl, tt)) c.in-Some-take.ensures
    (skip c.in_default.ensures.0 (start (expect declaration ∷ []) _))))))))

pub declaration-returns : goal.declaration-returns
declaration-returns t c =
    handed c.field.result c.field.new.self
    (lefted field declaration naming_rules (TypeWord ∷ ProcWord ∷ []) (λ t. refl) (λ t. refl) (neither (TypeWord ∷ []) (ProcWord ∷ []) c.in_default.ensures c.in_default-take.ensures) (start (expect declaration ∷ []) _)) c.field.ensures

pub element-returns-in-Some : goal.element-returns-in-Some
element-returns-in-Some t c =
    done (put_leaf c.add.ensures (made_leaf (took (whole type) (λ k o. make (pushed o) ∷ further array? ∷ []) (λ o. (refl, (refl, (refl, tt)))) c.in-Some.ensures
    (start (expect type ∷ []) _))))

pub element-returns : goal.element-returns
element-returns t c =
    done (put_under c.add-2.ensures (made_under (passed c.in_ok-expect-2.ensures (call c.in_ok-part.ensures (passed c.in_ok-expect.ensures (took (whole type) (λ k o. token Brace dropped ∷ expect (list fields) ∷ token BraceEnd dropped ∷ make (undered o) ∷ further array? ∷ []) (λ o. (refl, tt)) c.in_ok-token.ensures
    (skip c.in_default.ensures.0 (start (expect type ∷ []) _))))))))

pub field-returns-in_err-part : goal.field-returns-in_err-part
field-returns-in_err-part t c =
    broke _ _ _ _ _ _ c.from_residual.ensures.1
    (fails c.in_err-part.ensures (opened type field (token Name undered ∷ []) (λ t. refl) _))

pub field-returns-in_err-token : goal.field-returns-in_err-token
field-returns-in_err-token t c =
    broke _ _ _ _ _ _ c.from_residual-in_err-token.ensures.1
    (lacks c.in_err-token.ensures (call c.in_ok-part.ensures (opened type field (token Name undered ∷ []) (λ t. refl) _)))

pub field-returns : goal.field-returns
field-returns t c =
    done (put_under c.add.ensures (capped_by c.in_ok-token.ensures (call c.in_ok-part.ensures (opened type field (token Name undered ∷ []) (λ t. refl) _))))

pub formal-returns-in_err-part : goal.formal-returns-in_err-part
formal-returns-in_err-part t c =
    broke _ _ _ _ _ _ c.from_residual.ensures.1
    (fails c.in_err-part.ensures (opened type formal (further formal_name ∷ []) (λ t. refl) _))

pub formal-returns-in_err-name : goal.formal-returns-in_err-name
formal-returns-in_err-name t c =
    broke _ _ _ _ _ _ c.from_residual-in_err-name.ensures.1
    (lacks c.in_err-name.ensures (put_under c.add-part.ensures (made_under (took (tail formal_name) referring (λ o. (refl, tt)) c.in-Some.ensures
    (call c.in_ok-part.ensures (opened type formal (further formal_name ∷ []) (λ t. refl) _))))))

pub formal-returns-in-Some : goal.formal-returns-in-Some
formal-returns-in-Some t c =
    done (put_under c.add.ensures (capped_by c.in_ok-name.ensures (put_under c.add-part.ensures (made_under (took (tail formal_name) referring (λ o. (refl, tt)) c.in-Some.ensures
    (call c.in_ok-part.ensures (opened type formal (further formal_name ∷ []) (λ t. refl) _)))))))

pub formal-returns-in_err-token : goal.formal-returns-in_err-token
formal-returns-in_err-token t c =
    broke _ _ _ _ _ _ c.from_residual-in_err-token.ensures.1
    (nor (tail formal_name) (Ampersand ∷ []) (Name ∷ []) (Name ∷ Ampersand ∷ []) (λ t. refl) (refl, (refl, tt)) refl c.in_default.ensures c.in_err-token.ensures (call c.in_ok-part.ensures (opened type formal (further formal_name ∷ []) (λ t. refl) _)))

pub formal-returns : goal.formal-returns
formal-returns t c =
    done (put_under c.add-2.ensures (made_under (took (tail formal_name) (λ k o. make (undered o) ∷ []) (λ o. (refl, tt)) c.in_ok-token.ensures
    (skip c.in_default.ensures.0 (call c.in_ok-part.ensures (opened type formal (further formal_name ∷ []) (λ t. refl) _))))))

pub action-returns-in-Some : goal.action-returns-in-Some
action-returns-in-Some t c =
    done (put_under c.add.ensures (made_under (call c.in_ok-part.ensures (took (whole statement) (capping e0) (λ o. (refl, (refl, (refl, tt)))) c.in-Some.ensures
    (start (expect statement ∷ []) _)))))

pub action-returns-in-Some-take : goal.action-returns-in-Some-take
action-returns-in-Some-take t c =
    done (put_leaf c.add-in-Some-take.ensures (made_leaf (took (whole statement) leafing (λ o. (refl, tt)) c.in-Some-take.ensures
    (skip c.in_default.ensures.0 (start (expect statement ∷ []) _)))))

pub action-returns-in-Some-take-2 : goal.action-returns-in-Some-take-2
action-returns-in-Some-take-2 t c =
    done (put_join c.add-in-Some-take-2.ensures (call c.in_ok-right.ensures (put_leaf c.add-left.ensures (named c.in_ok-name.ensures (took (whole statement) (λ k o. token Name pushed ∷ expect (enclosed actual_parens) ∷ make (joined o) ∷ []) (λ o. (refl, tt)) c.in-Some-take-2.ensures
    (skip c.in_default-take.ensures.0 (skip c.in_default.ensures.0 (start (expect statement ∷ []) _))))))))

pub action-returns-in-Some-take-3 : goal.action-returns-in-Some-take-3
action-returns-in-Some-take-3 t c =
    done (put_join c.add-in-Some-take-3.ensures (call c.in_ok-chosen.ensures (call c.in_ok-condition.ensures (took (whole statement) (λ k o. expect e0 ∷ expect branches ∷ make (joined o) ∷ []) (λ o. (refl, tt)) c.in-Some-take-3.ensures
    (skip c.in_default-take-2.ensures.0 (skip c.in_default-take.ensures.0 (skip c.in_default.ensures.0 (start (expect statement ∷ []) _))))))))

pub action-returns-in-Some-take-4 : goal.action-returns-in-Some-take-4
action-returns-in-Some-take-4 t c =
    done (put_join c.add-in-Some-take-4.ensures (call c.in_ok-body.ensures (call c.in_ok-test.ensures (took (whole statement) (λ k o. expect e0 ∷ expect (enclosed braces) ∷ make (joined o) ∷ []) (λ o. (refl, tt)) c.in-Some-take-4.ensures
    (skip c.in_default-take-3.ensures.0 (skip c.in_default-take-2.ensures.0 (skip c.in_default-take.ensures.0 (skip c.in_default.ensures.0 (start (expect statement ∷ []) _)))))))))

pub action-returns : goal.action-returns
action-returns t c =
    let a = neither (At ∷ ReadWord ∷ WriteWord ∷ []) (NlWord ∷ []) c.in_default.ensures c.in_default-take.ensures in
    let b = neither (At ∷ ReadWord ∷ WriteWord ∷ NlWord ∷ []) (CallWord ∷ []) a c.in_default-take-2.ensures in
    let d = neither (At ∷ ReadWord ∷ WriteWord ∷ NlWord ∷ CallWord ∷ []) (IfWord ∷ []) b c.in_default-take-3.ensures in
    let e = neither (At ∷ ReadWord ∷ WriteWord ∷ NlWord ∷ CallWord ∷ IfWord ∷ []) (WhileWord ∷ []) d c.in_default-take-4.ensures in
    handed c.enclosed-2.result c.enclosed-2.new.self
    (lefted (enclosed braces) statement word_rules (At ∷ IfWord ∷ WhileWord ∷ ReadWord ∷ WriteWord ∷ NlWord ∷ CallWord ∷ []) (λ t. refl) (λ t. refl)
    (none_of (At ∷ ReadWord ∷ WriteWord ∷ NlWord ∷ CallWord ∷ IfWord ∷ WhileWord ∷ []) (At ∷ IfWord ∷ WhileWord ∷ ReadWord ∷ WriteWord ∷ NlWord ∷ CallWord ∷ []) (refl, (refl, (refl, (refl, (refl, (refl, (refl, tt))))))) e) (start (expect statement ∷ []) _))
    c.enclosed-2.ensures

pub content-returns : goal.content-returns
content-returns t c =
    handed c.sections.result c.sections.new.self (declared (sym c.instructs.ensures ∙ c.if-instructs.false) (start (expect content ∷ []) _)) c.sections.ensures

pub list-returns : goal.list-returns
list-returns t c = handed_on c.more.result c.more.new.self c.more.ensures (call c.in_ok-left.ensures (open_list (listed c.args.of) _))

pub more-returns-in-Some : goal.more-returns-in-Some
more-returns-in-Some t c =
    let l = listed c.args.of in
    λ u h. went (put_join c.add.ensures (call c.in_ok-right.ensures (separated l c.separator.ensures c.in-Some.ensures (tailed _ u _ _ h))))

pub statement-returns-then-stands : goal.statement-returns-then-stands
statement-returns-then-stands t c =
    handed c.enclosed.result c.enclosed.new.self
    (lefted (enclosed braces) statement word_rules (At ∷ IfWord ∷ WhileWord ∷ ReadWord ∷ WriteWord ∷ NlWord ∷ CallWord ∷ []) (λ t. refl) (λ t. refl)
    (refl, only_block (ahead c.args.self.now) (sym c.stands.ensures ∙ c.if-stands.true)) (start (expect statement ∷ []) _)) c.enclosed.ensures
