-- What the grammar derives the parser reads.
use Rattle.std.proofs.Common.{◌≡◌, List, [], ◌∷◌, ◌++◌, refl, ◌∙◌}
use Rattle.tiny.specs.declared.tokens.Kind.TheVariants.{Name, Literal, Close, IndexEnd, Brace, BraceEnd, DoubleAmpersand}
use Rattle.tiny.specs.Token.{Token, truths, prefixes, factors, relations, basic_types}
use Rattle.syntax.specs.Shape.{Tree}
use Rattle.syntax.specs.Shape.Tree.{leaf, under}
use Rattle.syntax.specs.Grammar.{Sort, Listed, Bracket, Derives, Is, block, item, contents, opening, closing, separator}
use Rattle.syntax.specs.Grammar.{Derives as D}
use Rattle.syntax.specs.Grammar.Sort.{e0, e1, e2, e3, e4, e5, e6, basic, type, field, formal, declaration, statement, branches, content, list, enclosed}
use Rattle.syntax.specs.Grammar.Listed.{declarations, statements, formals, fields, arguments}
use Rattle.syntax.specs.Grammar.Bracket.{braces, formal_parens, actual_parens}
use Rattle.syntax.specs.Parse.{Tail, Symbol, Stack, expect, further, behind, run, pushed, undered, joined, titled, united, dropped, prefix_rules, naming_rules, word_rules, list_rules}
use Rattle.syntax.specs.Parse.Part.{whole, rest, tail}
use Rattle.syntax.specs.Parse.Tail.{postfix?, factor?, logic?, minus?, plus?, relation?, assign?, array?, else?, statements?, more?, formal_name, section_tail}
use Rattle.syntax.specs.Parse.Symbol.{token, part, make}
use Rattle.syntax.proofs.Telling.{pick}
use Rattle.syntax.proofs.Steps.{at_part, at_some, at_token, at_first, at_own, at_make, Stops, Quiet, quiet, later, absent, by_behind, by_left, by_right, by_rest, by_tail, Begins, begun_by, free, just}

-- The tails that may not begin behind a part of each sort, for the parser to be done with it there.
abbrev stop3 : List Tail
stop3 = logic? ∷ factor? ∷ postfix? ∷ []

abbrev stop1 : List Tail
stop1 = plus? ∷ minus? ∷ stop3

abbrev stop0 : List Tail
stop0 = assign? ∷ relation? ∷ stop1

abbrev stopping_item : Listed → List Tail
stopping_item declarations = []
stopping_item statements = else? ∷ stop0
stopping_item formals = []
stopping_item fields = []
stopping_item arguments = stop0

abbrev pub stopping : Sort → List Tail
stopping e0 = stop0
stopping e1 = stop1
stopping e2 = minus? ∷ stop3
stopping e3 = stop3
stopping e4 = postfix? ∷ []
stopping e5 = postfix? ∷ []
stopping e6 = []
stopping basic = []
stopping type = []
stopping field = []
stopping formal = []
stopping declaration = []
stopping statement = else? ∷ stop0
stopping branches = else? ∷ []
stopping content = statements? ∷ more? statements ∷ else? ∷ stop0
stopping (list l) = more? l ∷ stopping_item l
stopping (enclosed k) = []

-- A sort that is built from the left leaves the tail that may go on with it.
abbrev pub left : Sort → List Symbol
left e0 = []
left e1 = further relation? ∷ []
left e2 = further plus? ∷ []
left e3 = []
left e4 = further factor? ∷ []
left e5 = []
left e6 = further postfix? ∷ []
left basic = []
left type = further array? ∷ []
left field = []
left formal = []
left declaration = []
left statement = []
left branches = []
left content = []
left (list l) = []
left (enclosed k) = []

-- What the parser does with a derivation.
abbrev pub Claim : Sort → List Token → Tree → List Token → Type 0
Claim s b e a = Quiet (stopping s) a → (α : List Symbol) (z : Stack) → run (expect s ∷ α) z b ≡ run (left s ++ α) (e ∷ z) a

-- the same of lists, whose items have the stops of their sorts
abbrev ItemClaim : Listed → List Token → Tree → List Token → Type 0
ItemClaim l b e a = Quiet (stopping_item l) a → (α : List Symbol) (z : Stack) → run (expect (item l) ∷ α) z b ≡ run α (e ∷ z) a

as_item : (l : Listed) (b : List Token) (e : Tree) (a : List Token) → Claim (item l) b e a → ItemClaim l b e a
as_item declarations b e a c = c
as_item statements b e a c = c
as_item formals b e a c = c
as_item fields b e a c = c
as_item arguments b e a c = c

by_list : (l : Listed) (α : List Symbol) (z : Stack) (b : List Token) → run (expect (list l) ∷ α) z b ≡ run (expect (item l) ∷ further (more? l) ∷ α) z b
by_list declarations = by_behind declaration (list declarations) (further (more? declarations) ∷ []) (λ t. refl)
by_list statements = by_behind statement (list statements) (further (more? statements) ∷ []) (λ t. refl)
by_list formals = by_behind formal (list formals) (further (more? formals) ∷ []) (λ t. refl)
by_list fields = by_behind field (list fields) (further (more? fields) ∷ []) (λ t. refl)
by_list arguments = by_behind e0 (list arguments) (further (more? arguments) ∷ []) (λ t. refl)

-- a separator ends an item
separates : (l : Listed) (o : Token) → Is (separator l) o → Stops (stopping_item l) o o.kind
separates declarations o i = quiet [] o i refl
separates statements o i = quiet (else? ∷ stop0) o i refl
separates formals o i = quiet [] o i refl
separates fields o i = quiet [] o i refl
separates arguments o i = quiet stop0 o i refl

-- what stands between brackets
module _ (b : List Token) (e : Tree) (c : Token) (a : List Token) where
  between : (k : Bracket) → Is (closing k) c → Claim (contents k) b e (c ∷ a) →
      (α : List Symbol) (z : Stack) → run (expect (contents k) ∷ α) z b ≡ run α (e ∷ z) (c ∷ a)
  between braces i f = f (quiet (stopping content) c i refl)
  between formal_parens i f = f (quiet (stopping (list formals)) c i refl)
  between actual_parens i f = f (quiet (stopping (list arguments)) c i refl)

in_rest : (k : Bracket) (o : Token) (α : List Symbol) (z : Stack) (b : List Token) → Begins (contents k) b →
    run (part (rest k o) ∷ α) z b ≡ run (expect (contents k) ∷ make (undered o) ∷ token (closing k) dropped ∷ α) z b
in_rest braces o = by_rest braces o (λ t. (refl, (refl, (refl, (refl, (refl, (refl, (refl, (refl, (refl, (refl, (refl, (refl, (refl, (refl, tt)))))))))))))))
in_rest formal_parens o = by_rest formal_parens o (λ t. (refl, (refl, (refl, (refl, tt)))))
in_rest actual_parens o = by_rest actual_parens o (λ t. (refl, (refl, (refl, (refl, (refl, (refl, (refl, tt))))))))

-- a type and the name behind it
with_name : (b : List Token) (e : Tree) (n : Token) (a : List Token) → Is Name n → Claim type b e (n ∷ a) →
    (α : List Symbol) (z : Stack) → run (expect field ∷ α) z b ≡ run α (under n e ∷ z) a
with_name b e n a i f α z =
    by_behind type field (token Name undered ∷ []) (λ t. refl) α z b ∙ f refl (token Name undered ∷ α) z
    ∙ at_part (tail array?) (token Name undered ∷ α) (e ∷ z) n a i ∙ at_token Name undered α (e ∷ z) n a i

-- a block, and what begins with one, ends an expression
brace_ends : {b : List Token} {e : Tree} {a : List Token} → Derives block b e a → Quiet stop0 b
brace_ends (D.nothing {o = o} i j) = quiet stop0 o i refl
brace_ends (D.something {o = o} i d j) = quiet stop0 o i refl

branches_end : {b : List Token} {e : Tree} {a : List Token} → Derives branches b e a → Quiet stop0 b
branches_end (D.then d) = brace_ends d
branches_end (D.else d i x) = brace_ends d

-- declarations in a block, up to the && behind them
with_section : (b : List Token) (d : Tree) (o : Token) (a : List Token) → Is DoubleAmpersand o → Claim (list declarations) b d (o ∷ a) →
    (α : List Symbol) (z : Stack) → run (expect content ∷ α) z b ≡ run (further statements? ∷ α) (under o d ∷ z) a
with_section b d o a i f α z =
    by_right (list declarations) content (further section_tail ∷ []) (list_rules statements) (λ t. refl) (λ t. (refl, (refl, (refl, (refl, (refl, (refl, tt)))))))
    α z b (begun_by (list declarations) b d (o ∷ a) (f quiet_here))
    ∙ f quiet_here (further section_tail ∷ α) z ∙ at_part (tail section_tail) α (d ∷ z) o a i ∙ at_make (undered o) (further statements? ∷ α) (d ∷ z) a
  where
    quiet_here : Stops (stopping (list declarations)) o o.kind
    quiet_here = quiet (stopping (list declarations)) o i refl

pub complete : {s : Sort} {b : List Token} {e : Tree} {a : List Token} → Derives s b e a → Claim s b e a
complete (D.name {t = t} {a = a} i) = λ q α z. at_part (whole basic) α z t a i ∙ at_make (pushed t) α z a
complete (D.literal {t = t} {a = a} i) = λ q α z. at_part (whole basic) α z t a i ∙ at_make (pushed t) α z a
complete (D.truth {t = t} {a = a} i) = λ q α z.
    at_some (whole basic) (make (pushed t) ∷ []) truths α z t a i (refl, (refl, tt)) ∙ at_make (pushed t) α z a
complete (D.parens {o = o} {c = c} {e = e} {b = b} {a = a} i d j) = λ q α z.
    at_part (whole basic) α z o b i ∙ complete d (quiet stop0 c j refl) (token Close dropped ∷ α) z ∙ at_token Close dropped α (e ∷ z) c a j
complete (D.e6_basic {b = b} {a = a} d) = λ q α z.
    by_behind basic e6 (further postfix? ∷ []) (λ t. refl) α z b ∙ complete d (free a) (further postfix? ∷ α) z
complete (D.index {o = o} {c = c} {e = e} {f = f} {m = m} {a = a} d i x j) = λ q α z.
    complete d refl α z ∙ at_part (tail postfix?) α (e ∷ z) o m i
    ∙ complete x (quiet stop0 c j refl) (token IndexEnd dropped ∷ make (joined o) ∷ further postfix? ∷ α) (e ∷ z)
    ∙ at_token IndexEnd dropped (make (joined o) ∷ further postfix? ∷ α) (f ∷ e ∷ z) c a j ∙ at_make (joined o) (further postfix? ∷ α) (f ∷ e ∷ z) a
complete (D.select {o = o} {n = n} {e = e} {a = a} d i j) = λ q α z.
    complete d refl α z ∙ at_part (tail postfix?) α (e ∷ z) o (n ∷ a) i
    ∙ at_token Name pushed (make (joined o) ∷ further postfix? ∷ α) (e ∷ z) n a j ∙ at_make (joined o) (further postfix? ∷ α) (leaf n ∷ e ∷ z) a
complete (D.e5_e6 {e = e} {b = b} {a = a} d) = λ q α z.
    let f : (α : List Symbol) (z : Stack) → run (expect e6 ∷ α) z b ≡ run α (e ∷ z) a
    = λ α z. complete d (free a) α z ∙ absent postfix? [] refl α (e ∷ z) a q in
    by_left e6 e5 prefix_rules (λ t. refl) α z b (begun_by e6 b e a f) ∙ f α z
complete (D.prefixed {o = o} {e = e} {b = b} {a = a} i d) = λ q α z.
    at_some (whole e5) (expect e5 ∷ make (undered o) ∷ []) prefixes α z o b i (refl, (refl, tt))
    ∙ complete d q (make (undered o) ∷ α) z ∙ at_make (undered o) α (e ∷ z) a
complete (D.e4_e5 {b = b} d) = λ q α z. by_behind e5 e4 (further factor? ∷ []) (λ t. refl) α z b ∙ complete d q (further factor? ∷ α) z
complete (D.product {o = o} {l = l} {r = r} {m = m} {a = a} d i x) = λ q α z.
    complete d (pick (Stops (postfix? ∷ []) o) factors o i (refl, (refl, (refl, tt)))) α z
    ∙ at_some (tail factor?) (expect e5 ∷ make (joined o) ∷ further factor? ∷ []) factors α (l ∷ z) o m i (refl, (refl, (refl, tt)))
    ∙ complete x q (make (joined o) ∷ further factor? ∷ α) (l ∷ z) ∙ at_make (joined o) (further factor? ∷ α) (r ∷ l ∷ z) a
complete (D.e3_e4 {e = e} {b = b} {a = a} d) = λ q α z.
    let q' = later logic? (factor? ∷ postfix? ∷ []) a q in
    by_behind e4 e3 (further logic? ∷ []) (λ t. refl) α z b ∙ complete d (later factor? (postfix? ∷ []) a q') (further logic? ∷ α) z
    ∙ absent factor? (postfix? ∷ []) refl (further logic? ∷ α) (e ∷ z) a q' ∙ absent logic? (factor? ∷ postfix? ∷ []) refl α (e ∷ z) a q
complete (D.conjunction {o = o} {l = l} {r = r} {b = b} {m = m} {a = a} d i x) = λ q α z.
    by_behind e4 e3 (further logic? ∷ []) (λ t. refl) α z b ∙ complete d (quiet (postfix? ∷ []) o i refl) (further logic? ∷ α) z
    ∙ at_part (tail factor?) (further logic? ∷ α) (l ∷ z) o m i ∙ at_part (tail logic?) α (l ∷ z) o m i
    ∙ complete x q (make (joined o) ∷ α) (l ∷ z) ∙ at_make (joined o) α (r ∷ l ∷ z) a
complete (D.disjunction {o = o} {l = l} {r = r} {b = b} {m = m} {a = a} d i x) = λ q α z.
    let q' = later logic? (factor? ∷ postfix? ∷ []) a q in
    by_behind e4 e3 (further logic? ∷ []) (λ t. refl) α z b ∙ complete d (quiet (postfix? ∷ []) o i refl) (further logic? ∷ α) z
    ∙ at_part (tail factor?) (further logic? ∷ α) (l ∷ z) o m i ∙ at_part (tail logic?) α (l ∷ z) o m i
    ∙ complete x (later factor? (postfix? ∷ []) a q') (make (joined o) ∷ α) (l ∷ z)
    ∙ absent factor? (postfix? ∷ []) refl (make (joined o) ∷ α) (r ∷ l ∷ z) a q' ∙ at_make (joined o) α (r ∷ l ∷ z) a
complete (D.e2_e3 {e = e} {b = b} {a = a} d) = λ q α z.
    by_behind e3 e2 (further minus? ∷ further plus? ∷ []) (λ t. refl) α z b
    ∙ complete d (later minus? stop3 a q) (further minus? ∷ further plus? ∷ α) z ∙ absent minus? stop3 refl (further plus? ∷ α) (e ∷ z) a q
complete (D.difference {o = o} {l = l} {r = r} {b = b} {m = m} {a = a} d i x) = λ q α z.
    by_behind e3 e2 (further minus? ∷ further plus? ∷ []) (λ t. refl) α z b
    ∙ complete d (quiet stop3 o i refl) (further minus? ∷ further plus? ∷ α) z ∙ at_part (tail minus?) (further plus? ∷ α) (l ∷ z) o m i
    ∙ complete x (later minus? stop3 a q) (make (joined o) ∷ further plus? ∷ α) (l ∷ z) ∙ at_make (joined o) (further plus? ∷ α) (r ∷ l ∷ z) a
complete (D.sum {o = o} {l = l} {r = r} {m = m} {a = a} d i x) = λ q α z.
    complete d (quiet (minus? ∷ stop3) o i refl) α z ∙ at_part (tail plus?) α (l ∷ z) o m i
    ∙ complete x (later minus? stop3 a q) (make (joined o) ∷ further plus? ∷ α) (l ∷ z) ∙ at_make (joined o) (further plus? ∷ α) (r ∷ l ∷ z) a
complete (D.e1_e2 {e = e} {b = b} {a = a} d) = λ q α z.
    by_behind e2 e1 (further relation? ∷ []) (λ t. refl) α z b ∙ complete d (later plus? (minus? ∷ stop3) a q) (further relation? ∷ α) z
    ∙ absent plus? (minus? ∷ stop3) refl (further relation? ∷ α) (e ∷ z) a q
complete (D.relation {o = o} {l = l} {r = r} {m = m} {a = a} d i x) = λ q α z.
    complete d (pick (Stops stop1 o) relations o i (refl, (refl, (refl, (refl, (refl, (refl, tt))))))) α z
    ∙ at_some (tail relation?) (expect e2 ∷ make (joined o) ∷ further relation? ∷ []) relations α (l ∷ z) o m i (refl, (refl, (refl, (refl, (refl, (refl, tt))))))
    ∙ complete x (later plus? (minus? ∷ stop3) a q) (make (joined o) ∷ further relation? ∷ α) (l ∷ z)
    ∙ absent plus? (minus? ∷ stop3) refl (make (joined o) ∷ further relation? ∷ α) (r ∷ l ∷ z) a q ∙ at_make (joined o) (further relation? ∷ α) (r ∷ l ∷ z) a
complete (D.e0_e1 {e = e} {b = b} {a = a} d) = λ q α z.
    let q' = later assign? (relation? ∷ stop1) a q in
    by_behind e1 e0 (further assign? ∷ []) (λ t. refl) α z b ∙ complete d (later relation? stop1 a q') (further assign? ∷ α) z
    ∙ absent relation? stop1 refl (further assign? ∷ α) (e ∷ z) a q' ∙ absent assign? (relation? ∷ stop1) refl α (e ∷ z) a q
complete (D.assignment {o = o} {l = l} {r = r} {b = b} {m = m} {a = a} d i x) = λ q α z.
    by_behind e1 e0 (further assign? ∷ []) (λ t. refl) α z b ∙ complete d (quiet stop1 o i refl) (further assign? ∷ α) z
    ∙ at_part (tail relation?) (further assign? ∷ α) (l ∷ z) o m i ∙ at_part (tail assign?) α (l ∷ z) o m i
    ∙ complete x q (make (joined o) ∷ α) (l ∷ z) ∙ at_make (joined o) α (r ∷ l ∷ z) a
complete (D.basic_type {t = t} {a = a} i) = λ q α z.
    at_some (whole type) (make (pushed t) ∷ further array? ∷ []) basic_types α z t a i (refl, (refl, tt)) ∙ at_make (pushed t) (further array? ∷ α) z a
complete (D.type_name {t = t} {a = a} i) = λ q α z. at_part (whole type) α z t a i ∙ at_make (pushed t) (further array? ∷ α) z a
complete (D.struct {s = s} {o = o} {c = c} {f = f} {b = b} {a = a} i j d k) = λ q α z.
    at_part (whole type) α z s (o ∷ b) i
    ∙ at_token Brace dropped (expect (list fields) ∷ token BraceEnd dropped ∷ make (undered s) ∷ further array? ∷ α) z o b j
    ∙ complete d (quiet (stopping (list fields)) c k refl) (token BraceEnd dropped ∷ make (undered s) ∷ further array? ∷ α) z
    ∙ at_token BraceEnd dropped (make (undered s) ∷ further array? ∷ α) (f ∷ z) c a k ∙ at_make (undered s) (further array? ∷ α) (f ∷ z) a
complete (D.array {o = o} {n = n} {c = c} {e = e} {a = a} d i j k) = λ q α z.
    complete d refl α z ∙ at_part (tail array?) α (e ∷ z) o (n ∷ c ∷ a) i
    ∙ at_token Literal pushed (token IndexEnd dropped ∷ make (joined o) ∷ further array? ∷ α) (e ∷ z) n (c ∷ a) j
    ∙ at_token IndexEnd dropped (make (joined o) ∷ further array? ∷ α) (leaf n ∷ e ∷ z) c a k ∙ at_make (joined o) (further array? ∷ α) (leaf n ∷ e ∷ z) a
complete (D.field_of {n = n} {e = e} {b = b} {a = a} d i) = λ q. with_name b e n a i (complete d)
complete (D.by_value {n = n} {e = e} {b = b} {a = a} d i) = λ q α z.
    by_behind type formal (further formal_name ∷ []) (λ t. refl) α z b ∙ complete d refl (further formal_name ∷ α) z
    ∙ at_part (tail array?) (further formal_name ∷ α) (e ∷ z) n a i ∙ at_part (tail formal_name) α (e ∷ z) n a i ∙ at_make (undered n) α (e ∷ z) a
complete (D.by_reference {r = r} {n = n} {e = e} {b = b} {a = a} d i j) = λ q α z.
    by_behind type formal (further formal_name ∷ []) (λ t. refl) α z b ∙ complete d refl (further formal_name ∷ α) z
    ∙ at_part (tail array?) (further formal_name ∷ α) (e ∷ z) r (n ∷ a) i ∙ at_part (tail formal_name) α (e ∷ z) r (n ∷ a) i
    ∙ at_make (undered r) (token Name undered ∷ α) (e ∷ z) (n ∷ a) ∙ at_token Name undered α (under r e ∷ z) n a j
complete (D.variable {n = n} {e = e} {b = b} {a = a} d i) = λ q α z.
    by_left field declaration naming_rules (λ t. refl) α z b (begun_by field b (under n e) a (with_name b e n a i (complete d)))
    ∙ with_name b e n a i (complete d) α z
complete (D.type_declaration {w = w} {n = n} {e = e} {b = b} {a = a} i d j) = λ q α z.
    at_part (whole declaration) α z w b i ∙ complete d refl (token Name undered ∷ make (undered w) ∷ α) z
    ∙ at_part (tail array?) (token Name undered ∷ make (undered w) ∷ α) (e ∷ z) n a j
    ∙ at_token Name undered (make (undered w) ∷ α) (e ∷ z) n a j ∙ at_make (undered w) α (under n e ∷ z) a
complete (D.procedure {w = w} {n = n} {f = f} {e = e} {b = b} {m = m} {a = a} i j d x) = λ q α z.
    at_part (whole declaration) α z w (n ∷ b) i
    ∙ at_token Name pushed (expect (enclosed formal_parens) ∷ make titled ∷ expect block ∷ make (joined w) ∷ α) z n b j
    ∙ complete d (free m) (make titled ∷ expect block ∷ make (joined w) ∷ α) (leaf n ∷ z)
    ∙ at_make titled (expect block ∷ make (joined w) ∷ α) (f ∷ leaf n ∷ z) m
    ∙ complete x q (make (joined w) ∷ α) (under n f ∷ z) ∙ at_make (joined w) α (e ∷ under n f ∷ z) a
complete (D.eval {w = w} {e = e} {b = b} {a = a} i d) = λ q α z.
    at_part (whole statement) α z w b i ∙ complete d (later else? stop0 a q) (make (undered w) ∷ α) z ∙ at_make (undered w) α (e ∷ z) a
complete (D.if {w = w} {e = e} {r = r} {b = b} {m = m} {a = a} i d x) = λ q α z.
    at_part (whole statement) α z w b i ∙ complete d (branches_end x) (expect branches ∷ make (joined w) ∷ α) z
    ∙ complete x (just else? stop0 a q) (make (joined w) ∷ α) (e ∷ z) ∙ at_make (joined w) α (r ∷ e ∷ z) a
complete (D.while {w = w} {e = e} {r = r} {b = b} {m = m} {a = a} i d x) = λ q α z.
    at_part (whole statement) α z w b i ∙ complete d (brace_ends x) (expect block ∷ make (joined w) ∷ α) z
    ∙ complete x (free a) (make (joined w) ∷ α) (e ∷ z) ∙ at_make (joined w) α (r ∷ e ∷ z) a
complete (D.read {w = w} {e = e} {b = b} {a = a} i d) = λ q α z.
    at_part (whole statement) α z w b i ∙ complete d (later else? stop0 a q) (make (undered w) ∷ α) z ∙ at_make (undered w) α (e ∷ z) a
complete (D.write {w = w} {e = e} {b = b} {a = a} i d) = λ q α z.
    at_part (whole statement) α z w b i ∙ complete d (later else? stop0 a q) (make (undered w) ∷ α) z ∙ at_make (undered w) α (e ∷ z) a
complete (D.nl {w = w} {a = a} i) = λ q α z. at_part (whole statement) α z w a i ∙ at_make (pushed w) α z a
complete (D.call {w = w} {n = n} {e = e} {b = b} {a = a} i j d) = λ q α z.
    at_part (whole statement) α z w (n ∷ b) i ∙ at_token Name pushed (expect (enclosed actual_parens) ∷ make (joined w) ∷ α) z n b j
    ∙ complete d (free a) (make (joined w) ∷ α) (leaf n ∷ z) ∙ at_make (joined w) α (e ∷ leaf n ∷ z) a
complete (D.compound {e = e} {b = b} {a = a} d) = λ q α z.
    by_left block statement word_rules (λ t. refl) α z b (begun_by block b e a (complete d (free a))) ∙ complete d (free a) α z
complete (D.then {e = e} {b = b} {a = a} d) = λ q α z.
    by_behind block branches (further else? ∷ []) (λ t. refl) α z b ∙ complete d (free a) (further else? ∷ α) z ∙ absent else? [] refl α (e ∷ z) a q
complete (D.else {o = o} {l = l} {r = r} {b = b} {m = m} {a = a} d i x) = λ q α z.
    by_behind block branches (further else? ∷ []) (λ t. refl) α z b ∙ complete d refl (further else? ∷ α) z
    ∙ at_part (tail else?) α (l ∷ z) o m i ∙ complete x (free a) (make (joined o) ∷ α) (l ∷ z) ∙ at_make (joined o) α (r ∷ l ∷ z) a
complete (D.instructions {e = e} {b = b} {a = a} d) = λ q α z.
    let q' = later statements? (stopping (list statements)) a q in
    by_left (list statements) content (λ t. behind (further section_tail ∷ []) (list_rules declarations t)) (λ t. refl) α z b
    (begun_by (list statements) b e a (complete d q'))
    ∙ complete d q' α z
complete (D.declared {o = o} {d = d} {b = b} {a = a} x i) = λ q α z.
    with_section b d o a i (complete x) α z ∙ absent statements? (stopping (list statements)) refl α (under o d ∷ z) a q
complete (D.both {o = o} {d = d} {e = e} {b = b} {m = m} {a = a} x i y) = λ q α z.
    let q' = later statements? (stopping (list statements)) a q in
    with_section b d o m i (complete x) α z
    ∙ by_tail (list statements) statements? (make united ∷ []) (λ t. refl) α (under o d ∷ z) m (begun_by (list statements) m e a (complete y q'))
    ∙ complete y q' (make united ∷ α) (under o d ∷ z) ∙ at_make united α (e ∷ under o d ∷ z) a
complete (D.one {l = l} {e = e} {b = b} {a = a} d) = λ q α z.
    by_list l α z b ∙ as_item l b e a (complete d) (later (more? l) (stopping_item l) a q) (further (more? l) ∷ α) z
    ∙ absent (more? l) (stopping_item l) refl α (e ∷ z) a q
complete (D.more {l = l} {o = o} {e = e} {r = r} {b = b} {m = m} {a = a} d i x) = λ q α z.
    by_list l α z b ∙ as_item l b e (o ∷ m) (complete d) (separates l o i) (further (more? l) ∷ α) z
    ∙ at_first (tail (more? l)) (separator l) _ [] α (e ∷ z) o m refl i ∙ complete x q (make (joined o) ∷ α) (e ∷ z) ∙ at_make (joined o) α (r ∷ e ∷ z) a
complete (D.nothing {k = k} {o = o} {c = c} {a = a} i j) = λ q α z.
    at_first (whole (enclosed k)) (opening k) _ [] α z o (c ∷ a) refl i ∙ at_first (rest k o) (closing k) (make (pushed o) ∷ []) _ α z c a refl j ∙ at_make (pushed o) α z a
complete (D.something {k = k} {o = o} {c = c} {e = e} {b = b} {a = a} i d j) = λ q α z.
    at_first (whole (enclosed k)) (opening k) _ [] α z o b refl i ∙ in_rest k o α z b (begun_by (contents k) b e (c ∷ a) (between b e c a k j (complete d)))
    ∙ between b e c a k j (complete d) (make (undered o) ∷ token (closing k) dropped ∷ α) z
    ∙ at_make (undered o) (token (closing k) dropped ∷ α) (e ∷ z) (c ∷ a) ∙ at_own (closing k) dropped α (under o e ∷ z) c a j
