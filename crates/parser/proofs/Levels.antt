-- Where the levels of expressions begin, and what goes on from them.
use Rattle.std.proofs.Common.{◌≡◌, ℕ, suc, Bool, true, false, cond, List, [], ◌∷◌, ◌++◌, IsErrAnd, None, Some, Ok, Err, Option, is_some, Result, sym, refl, ap, ◌∙◌, subst}
use Rattle.std.proofs.lemmas.List.{append-nil}
use Rattle.tiny.specs.declared.tokens.Kind.{Kind}
use Rattle.tiny.specs.declared.tokens.Kind.TheVariants.{Literal, Dot, Name, IndexEnd, Brace}
use Rattle.tiny.specs.declared.tokens.Lexeme.{Lexeme}
use Rattle.tiny.specs.declared.placed.Placed.{Placed}
use Rattle.tiny.specs.Token.{Token, is}
use Rattle.tiny.specs.Scan.{token_in}
use Rattle.syntax.specs.Shape.{Tree}
use Rattle.syntax.specs.Grammar.{Sort, Listed, Bracket, item, separator, opening}
use Rattle.syntax.specs.Grammar.Sort.{e0, e1, e2, e3, e4, e5, e6, basic, content, list, enclosed}
use Rattle.syntax.specs.Grammar.Listed.{declarations, statements, formals, fields, arguments}
use Rattle.syntax.specs.Grammar.Bracket.{braces, formal_parens, actual_parens}
use Rattle.syntax.specs.Parse.{Tail, Symbol, expect, further, behind, sort_rules, tail_rules, list_rules, chosen, may_lack, word_rules, blank, run, joined, undered, titled, pushed, dropped, united}
use Rattle.syntax.specs.Parse.Part.{whole, tail, rest}
use Rattle.syntax.specs.Parse.Tail.{postfix?, factor?, logic?, minus?, plus?, relation?, assign?, array?, more?, section_tail, statements?}
use Rattle.syntax.specs.Parse.Symbol.{token, part, make}
use Rattle.syntax.proofs.Telling.{All}
use Rattle.syntax.proofs.Steps.{at_make, heads, by_behind, by_left, by_tail}
use Rattle.parser.specs.declared.parser.Parser.{Parser}
use Rattle.parser.specs.declared.faults.SyntaxCause.{SyntaxCause}
use Rattle.nodes.specs.Shows.{Shows}
use Rattle.parser.specs.Rest.{among}
use Rattle.parser.specs.Ahead.{ahead, source_of, records, stands, Taken, Took}
use Rattle.parser.specs.Forms.{operators, repeats, selecting, operand}
use Rattle.parser.specs.Forms.{tail as tail_of}
use Rattle.parser.specs.declared.forms.Tail.{Tail as Operators}
use Rattle.parser.specs.declared.forms.Tail.TheVariants.{Assignment, Relation, Sum, Difference, Logic, Product, Postfix, Lengths}
use Rattle.parser.specs.Reading.{Refused, Reads, Continues, instructing}
use Rattle.parser.proofs.Stand.{Stand, Slot, start, by, call_on, took, done, from, one_kind}
use Rattle.parser.proofs.Scanning.{opposed}
use Rattle.parser.proofs.Ways.{fails_on, gone, begun_with, only_right}

-- a sort whose rules are those of another with something behind them
pub opened : (s s' : Sort) (γ : List Symbol) → ((t : Token) → sort_rules s' t ≡ behind γ (sort_rules s t)) → (c : Parser) →
    Stand (expect s' ∷ []) c (expect s ∷ γ) [] c 0 0
opened s s' γ e c = by (expect s ∷ γ) (λ β z. by_behind s s' γ e β z (ahead c)) (start (expect s' ∷ []) c)

pub open0 : (c : Parser) → Stand (expect e0 ∷ []) c (expect e1 ∷ further assign? ∷ []) [] c 0 0
open0 = opened e1 e0 (further assign? ∷ []) (λ t. refl)

pub open1 : (c : Parser) → Stand (expect e1 ∷ []) c (expect e2 ∷ further relation? ∷ []) [] c 0 0
open1 = opened e2 e1 (further relation? ∷ []) (λ t. refl)

pub open2 : (c : Parser) → Stand (expect e2 ∷ []) c (expect e3 ∷ further minus? ∷ further plus? ∷ []) [] c 0 0
open2 = opened e3 e2 (further minus? ∷ further plus? ∷ []) (λ t. refl)

pub open3 : (c : Parser) → Stand (expect e3 ∷ []) c (expect e4 ∷ further logic? ∷ []) [] c 0 0
open3 = opened e4 e3 (further logic? ∷ []) (λ t. refl)

pub open4 : (c : Parser) → Stand (expect e4 ∷ []) c (expect e5 ∷ further factor? ∷ []) [] c 0 0
open4 = opened e5 e4 (further factor? ∷ []) (λ t. refl)

pub open6 : (c : Parser) → Stand (expect e6 ∷ []) c (expect basic ∷ further postfix? ∷ []) [] c 0 0
open6 = opened basic e6 (further postfix? ∷ []) (λ t. refl)

-- behind an operator: its right side, their node, and what may go on from it
abbrev pub joining : Sort → Kind → Token → List Symbol
joining s k o = expect s ∷ make (joined o) ∷ []

abbrev pub capping : Sort → Kind → Token → List Symbol
capping s k o = expect s ∷ make (undered o) ∷ []

abbrev pub leafing : Kind → Token → List Symbol
leafing k o = make (pushed o) ∷ []

abbrev pub entering : Bracket → Kind → Token → List Symbol
entering b k o = part (rest b o) ∷ []

-- behind the token that begins a part: a procedure, the length of an array, the instructions of a block, a
-- formal by reference
abbrev pub naming_procedure : Kind → Token → List Symbol
naming_procedure k o = token Name pushed ∷ expect (enclosed formal_parens) ∷ make titled ∷ expect (enclosed braces) ∷ make (joined o) ∷ []

abbrev pub measuring : Kind → Token → List Symbol
measuring k o = token Literal pushed ∷ token IndexEnd dropped ∷ make (joined o) ∷ further array? ∷ []

abbrev pub sectioning : Kind → Token → List Symbol
sectioning k o = make (undered o) ∷ further statements? ∷ []

abbrev pub referring : Kind → Token → List Symbol
referring k o = make (undered o) ∷ token Name undered ∷ []

-- behind an operator of a tail: its right side, their node, and the tail again if it repeats
abbrev pub again : Operators → Tail → List Symbol
again m t = cond (repeats m) (further t ∷ []) []

abbrev pub operating : Operators → Kind → Token → List Symbol
operating m k o = operand m k ++ (make (joined o) ∷ again m (tail_of m))

rules_of : (m : Operators) (o : Token) → All (λ k. chosen k (tail_rules (tail_of m) o) ≡ Some (operating m k o)) (operators m)
rules_of Assignment o = (refl, tt)
rules_of Relation o = (refl, (refl, (refl, (refl, (refl, (refl, tt))))))
rules_of Sum o = (refl, tt)
rules_of Difference o = (refl, tt)
rules_of Logic o = (refl, (refl, tt))
rules_of Product o = (refl, (refl, (refl, tt)))
rules_of Postfix o = (refl, (refl, tt))
rules_of Lengths o = (refl, tt)

heads_of : (m : Operators) (o : Token) → heads (tail_rules (tail_of m) o) ≡ operators m
heads_of Assignment o = refl
heads_of Relation o = refl
heads_of Sum o = refl
heads_of Difference o = refl
heads_of Logic o = refl
heads_of Product o = refl
heads_of Postfix o = refl
heads_of Lengths o = refl

lack_of : (m : Operators) → may_lack (tail_of m) ≡ true
lack_of Assignment = refl
lack_of Relation = refl
lack_of Sum = refl
lack_of Difference = refl
lack_of Logic = refl
lack_of Product = refl
lack_of Postfix = refl
lack_of Lengths = refl

pub operated : {α : List Symbol} {c c₁ c₂ : Parser} {ks : List Kind} {ss : List Slot} {p r : ℕ} {t : Placed Lexeme} (m : Operators) → ks ≡ operators m →
    Took ks c₁ t c₂ → Stand α c (further (tail_of m) ∷ []) ss c₁ p r →
    Stand α c (operand m t.what.kind ++ (make (joined (token_in (source_of c) t)) ∷ again m (tail_of m))) ss c₂ (suc p) (suc r)
operated {c = c} {c₁ = c₁} {c₂ = c₂} {t = t} m e k s =
    let γ = operating m t.what.kind (token_in (source_of c) t) in
    by γ (λ β z. ap (λ (l : List Symbol). run (l ++ β) z (ahead c₂)) (append-nil γ))
    (took (tail (tail_of m)) (operating m) (rules_of m) (subst (λ i. Took i c₁ t c₂) e k) s)

pub repeated : {α : List Symbol} {x : Symbol} {c c₁ : Parser} {ss : List Slot} {p r : ℕ} {b : Bool} (m : Operators) → b ≡ repeats m → b ≡ true →
    Stand α c (x ∷ again m (tail_of m)) ss c₁ p r → Stand α c (x ∷ further (tail_of m) ∷ []) ss c₁ p r
repeated {α} {x} {c} {c₁} {ss} {p} {r} m e h s = subst (λ b. Stand α c (x ∷ cond b (further (tail_of m) ∷ []) []) ss c₁ p r) (sym e ∙ h) s

pub only_once : {α : List Symbol} {x : Symbol} {c c₁ : Parser} {ss : List Slot} {p r : ℕ} {b : Bool} (m : Operators) → b ≡ repeats m → b ≡ false →
    Stand α c (x ∷ again m (tail_of m)) ss c₁ p r → Stand α c (x ∷ []) ss c₁ p r
only_once {α} {x} {c} {c₁} {ss} {p} {r} m e h s = subst (λ b. Stand α c (x ∷ cond b (further (tail_of m) ∷ []) []) ss c₁ p r) (sym e ∙ h) s

pub no_more : {α : List Symbol} {c c₁ c₂ : Parser} {ks : List Kind} {ss : List Slot} {p r : ℕ} (m : Operators) → ks ≡ operators m →
    (c₂ ≡ c₁) × (stands ks (ahead c₁) ≡ false) → Stand α c (further (tail_of m) ∷ []) ss c₁ p r → Stand α c [] ss c₂ p r
no_more {c₁ = c₁} m e (same, none) s = gone (tail_of m) (operators m) (heads_of m) (lack_of m) (same, subst (λ i. stands i (ahead c₁) ≡ false) e none) s

-- what a `?` hands on in a tail
pub broke_off : (m : Tail) (j : ℕ) (c c' : Parser) (r : Result ℕ SyntaxCause) (f : SyntaxCause) →
    IsErrAnd r (λ y. y ≡ f) → ((t : Tree) → Shows (source_of c) (records c) j t → Refused (from t m) c c') → Continues m j c r c'
broke_off m j c c' (Ok i) f e h = absurd e
broke_off m j c c' (Err g) f e h = λ t s. let k = h t s in
    record { stops = λ β z. sym (at_make (λ y. t ∷ y) (further m ∷ β) z (ahead c)) ∙ k.stops β z; same = k.same }

pub select_name : (k : Kind) (c : Parser) → is k Dot ≡ true → Stand (selecting k) c (token Name pushed ∷ []) [] c 0 0
select_name k c e =
    by (token Name pushed ∷ [])
    (λ β z. ap (λ (b : Bool). run (cond b (token Name pushed ∷ []) (expect e0 ∷ token IndexEnd dropped ∷ []) ++ β) z (ahead c)) e)
    (start (selecting k) c)

-- a list begins with an item, and its separator goes on to the list behind it
pub open_list : (l : Listed) (c : Parser) → Stand (expect (list l) ∷ []) c (expect (item l) ∷ further (more? l) ∷ []) [] c 0 0
open_list l = opened (item l) (list l) (further (more? l) ∷ []) (own l)
  where
    own : (l : Listed) (t : Token) → sort_rules (list l) t ≡ behind (further (more? l) ∷ []) (sort_rules (item l) t)
    own declarations t = refl
    own statements t = refl
    own formals t = refl
    own fields t = refl
    own arguments t = refl

-- the one kind that was asked for, by another name
pub took_as : {k j : Kind} {c c' : Parser} {t : Placed Lexeme} → k ≡ j → Took (k ∷ []) c t c' → Took (j ∷ []) c t c'
took_as {c = c} {c' = c'} {t = t} e h = subst (λ i. Took (i ∷ []) c t c') e h

pub lacked_as : {k j : Kind} {c c' : Parser} → k ≡ j → (c' ≡ c) × (stands (k ∷ []) (ahead c) ≡ false) → (c' ≡ c) × (stands (j ∷ []) (ahead c) ≡ false)
lacked_as {c = c} e (same, none) = (same, subst (λ i. stands (i ∷ []) (ahead c) ≡ false) e none)

-- whether a token was taken tells which of both befell
pub one_taken : {ks : List Kind} {c c' : Parser} (o : Option (Placed Lexeme)) → Taken ks c o c' → is_some o ≡ true → (t : Placed Lexeme) × Took ks c t c'
one_taken None h e = opposed (sym e)
one_taken (Some t) h e = (t, h)

pub none_taken : (ks : List Kind) {c c' : Parser} (o : Option (Placed Lexeme)) → Taken ks c o c' → is_some o ≡ false → (c' ≡ c) × (stands ks (ahead c) ≡ false)
none_taken ks None h e = h
none_taken ks (Some t) h e = opposed e

-- the separator, and the list behind it
pub separated : {α γ : List Symbol} {c c₁ c₂ : Parser} {ss : List Slot} {p r : ℕ} {k : Kind} {t : Placed Lexeme} (l : Listed) → k ≡ separator l →
    Took (k ∷ []) c₁ t c₂ → Stand α c (further (more? l) ∷ γ) ss c₁ p r →
    Stand α c (expect (list l) ∷ make (joined (token_in (source_of c) t)) ∷ γ) ss c₂ (suc p) (suc r)
separated l e h s = took (tail (more? l)) (joining (list l)) (λ o. (own l o, tt)) (took_as e h) s
  where
    own : (l : Listed) (o : Token) → chosen (separator l) (tail_rules (more? l) o) ≡ Some (joining (list l) (separator l) o)
    own declarations o = refl
    own statements o = refl
    own formals o = refl
    own fields o = refl
    own arguments o = refl

-- an opening bracket
pub bracketed : {c c₁ : Parser} {k : Kind} {t : Placed Lexeme} (b : Bracket) → k ≡ opening b → Took (k ∷ []) c t c₁ →
    Stand (expect (enclosed b) ∷ []) c (part (rest b (token_in (source_of c) t)) ∷ []) [] c₁ 1 1
bracketed {c} b e h = took (whole (enclosed b)) (entering b) (λ o. (own b o, tt)) (took_as e h) (start (expect (enclosed b) ∷ []) c)
  where
    own : (b : Bracket) (o : Token) → chosen (opening b) (sort_rules (enclosed b) o) ≡ Some (entering b (opening b) o)
    own braces o = refl
    own formal_parens o = refl
    own actual_parens o = refl

-- what another function answers is the answer
pub handed : {α δ : List Symbol} {c c₁ : Parser} {p q : ℕ} (r : Result ℕ SyntaxCause) (c₂ : Parser) →
    Stand α c δ [] c₁ p q → Reads δ c₁ r c₂ → Reads α c r c₂
handed {δ = δ} {c₁ = c₁} (Ok i) c₂ s h = done (call_on [] h (by (δ ++ []) (λ β z. ap (λ (l : List Symbol). run (l ++ β) z (ahead c₁)) (sym (append-nil δ))) s))
handed {δ = δ} {c₁ = c₁} (Err f) c₂ s h = fails_on [] h (by (δ ++ []) (λ β z. ap (λ (l : List Symbol). run (l ++ β) z (ahead c₁)) (sym (append-nil δ))) s)

-- a block's content: instructions, or declarations first
pub instructed : {α γ : List Symbol} {c c₁ : Parser} {ss : List Slot} {p r : ℕ} →
    stands instructing (ahead c₁) ≡ true → Stand α c (expect content ∷ γ) ss c₁ p r → Stand α c (expect (list statements) ∷ γ) ss c₁ p r
instructed {γ = γ} {c₁ = c₁} e s =
    by (expect (list statements) ∷ γ)
    (λ β z. by_left (list statements) content (λ t. behind (further section_tail ∷ []) (list_rules declarations t)) (λ t. refl) (γ ++ β) z (ahead c₁)
    (begun_with (list statements) instructing (λ t. refl) (ahead c₁) e)) s

pub declared : {α γ : List Symbol} {c c₁ : Parser} {ss : List Slot} {p r : ℕ} →
    stands instructing (ahead c₁) ≡ false → Stand α c (expect content ∷ γ) ss c₁ p r → Stand α c (expect (list declarations) ∷ further section_tail ∷ γ) ss c₁ p r
declared {γ = γ} {c₁ = c₁} e s =
    by (expect (list declarations) ∷ further section_tail ∷ γ)
    (λ β z. only_right (list declarations) content (further section_tail ∷ []) (list_rules statements) instructing (λ t. refl) (λ t. refl) (γ ++ β) z (ahead c₁) e) s

-- behind the declarations: instructions, or none
pub instructed_then : {α γ : List Symbol} {c c₁ : Parser} {ss : List Slot} {p r : ℕ} →
    stands instructing (ahead c₁) ≡ true → Stand α c (further statements? ∷ γ) ss c₁ p r → Stand α c (expect (list statements) ∷ make united ∷ γ) ss c₁ p r
instructed_then {γ = γ} {c₁ = c₁} e s =
    by (expect (list statements) ∷ make united ∷ γ)
    (λ β z. by_tail (list statements) statements? (make united ∷ []) (λ t. refl) (γ ++ β) z (ahead c₁)
    (begun_with (list statements) instructing (λ t. refl) (ahead c₁) e)) s

pub nothing_then : {α γ : List Symbol} {c c₁ : Parser} {ss : List Slot} {p r : ℕ} →
    stands instructing (ahead c₁) ≡ false → Stand α c (further statements? ∷ γ) ss c₁ p r → Stand α c γ ss c₁ p r
nothing_then e s = gone statements? instructing (λ t. refl) refl (refl, e) s

-- a block is the only instruction that begins with its brace
pub only_block : (ts : List Token) → stands (Brace ∷ []) ts ≡ true → stands (heads (word_rules blank)) ts ≡ false
only_block [] e = opposed (sym e)
only_block (t ∷ ts) e = ap (λ k. among k (heads (word_rules blank))) (one_kind Brace t e)
