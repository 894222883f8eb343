-- Each rule is good: what it reads behind its first token makes the part.
use Rattle.std.proofs.Common.{ℕ, List, [], ◌∷◌, ◌++◌, get_or, inl, inr}
use Rattle.tiny.specs.declared.tokens.Kind.{Kind}
use Rattle.tiny.specs.declared.tokens.Kind.TheVariants.{Name}
use Rattle.tiny.specs.Token.{Token, truths, prefixes, factors, relations, basic_types}
use Rattle.syntax.specs.Shape.{Tree}
use Rattle.syntax.specs.Grammar.{Sort, Listed, Bracket, Derives, Is, OneOf, block, item, contents, closing}
use Rattle.syntax.specs.Grammar.Sort.{e0, e1, e2, e3, e4, e5, e6, basic, type, field, formal, declaration, statement, branches, content, list, enclosed}
use Rattle.syntax.specs.Grammar.Listed.{declarations, statements, formals, fields, arguments}
use Rattle.syntax.specs.Grammar.Bracket.{braces}
use Rattle.syntax.specs.Grammar.{Derives as D}
use Rattle.syntax.specs.Parse.{Part, Tail, Symbol, Stack, Rule, ◌⟶◌, each, behind, expect, further, rules, sort_rules, tail_rules, basic_rules, e6_rules, prefix_rules, e5_rules, e4_rules, e3_rules, e2_rules, e1_rules, e0_rules, simple_type_rules, type_rules, field_rules, formal_rules, naming_rules, declaration_rules, enclosed_rules, branches_rules, word_rules, statement_rules, item_rules, list_rules, content_rules, pushed, undered, joined, united, dropped, grown}
use Rattle.syntax.specs.Parse.Part.{whole, rest, tail}
use Rattle.syntax.specs.Parse.Tail.{postfix?, factor?, logic?, minus?, plus?, relation?, assign?, array?, else?, statements?, more?, formal_name, section_tail}
use Rattle.syntax.specs.Parse.Symbol.{token, make}
use Rattle.syntax.proofs.Reading.{Declared, Before, made_of, Reads, Means, split}
use Rattle.syntax.proofs.Reading.Declared.{section}
use Rattle.syntax.proofs.Reading.Reads.{got, closed, turned, astray}
use Rattle.syntax.proofs.Reading.Means.{end, read, made, next}

-- what is read behind the token t makes the part n
abbrev Fits : Part → Token → List Symbol → Type 0
Fits n t β = (z : Stack) (w : List Token) (u : Stack) (a : List Token) → Means β z w u a → Reads n z (t ∷ w) u a

abbrev pub AllGood : Part → Token → List Rule → Type 0
AllGood n t [] = Unit {0}
AllGood n t (r ∷ rs) = (Is r.first t → Fits n t r.after) × AllGood n t rs

both : (n : Part) (t : Token) (rs ps : List Rule) → AllGood n t rs → AllGood n t ps → AllGood n t (rs ++ ps)
both n t [] ps g h = h
both n t (r ∷ rs) ps g h = (g.0, both n t rs ps g.1 h)

each_good : (n : Part) (t : Token) (ks : List Kind) (β : List Symbol) → (OneOf ks t → Fits n t β) → AllGood n t (each ks β)
each_good n t [] β f = tt
each_good n t (k ∷ ks) β f = ((λ e. f (inl e)), each_good n t ks β (λ o. f (inr o)))

-- with γ behind it what makes n makes n'
abbrev Extends : Part → List Symbol → Part → Type 0
Extends n γ n' = (z x u : Stack) (b m a : List Token) → Reads n z b x m → Means γ x m u a → Reads n' z b u a

behind_good : (n n' : Part) (γ : List Symbol) (t : Token) (rs : List Rule) → Extends n γ n' → AllGood n t rs → AllGood n' t (behind γ rs)
behind_good n n' γ t [] f g = tt
behind_good n n' γ t (r ∷ rs) f g =
    ((λ e z w u a m. let (x, y, p, q) = split r.after m in f z x u (t ∷ w) y a (g.0 e z w x y p) q), behind_good n n' γ t rs f g.1)

also : (s s' : Sort) (t : Token) (rs : List Rule) → ((b : List Token) (e : Tree) (a : List Token) → Derives s b e a → Derives s' b e a) →
    AllGood (whole s) t rs → AllGood (whole s') t rs
also s s' t [] f g = tt
also s s' t (r ∷ rs) f g = ((λ e z w u a m. go z w u a (g.0 e z w u a m)), also s s' t rs f g.1)
  where
    go : (z : Stack) (w : List Token) (u : Stack) (a : List Token) → Reads (whole s) z (t ∷ w) u a → Reads (whole s') z (t ∷ w) u a
    go z w u a (got d) = got (f _ _ _ d)

-- a tail behind
climbs : (s : Sort) (n : Tail) → ((c : List Token) (v : Tree) (b : List Token) → Derives s c v b → Before n c v b) →
    Extends (whole s) (further n ∷ []) (whole (made_of n))
climbs s n f z x u b m a (got d) (next (turned g) end) = got (g _ (f _ _ _ d))

-- the rules of a list, by number
abbrev Nth : Part → (Token → List Rule) → ℕ → Type 0
Nth n rs i = (t : Token) → Is (get_or (rs t) i (Name ⟶ [])).first t → Fits n t (get_or (rs t) i (Name ⟶ [])).after

basic_name : Nth (whole basic) basic_rules 0
basic_name t e z w u a (made end) = got (D.name e)

basic_literal : Nth (whole basic) basic_rules 1
basic_literal t e z w u a (made end) = got (D.literal e)

basic_parens : Nth (whole basic) basic_rules 2
basic_parens t e z w u a (next (got d) (read c end)) = got (D.parens e d c)

basic_truth : (t : Token) → OneOf truths t → Fits (whole basic) t (make (pushed t) ∷ [])
basic_truth t e z w u a (made end) = got (D.truth e)

prefix : (t : Token) → OneOf prefixes t → Fits (whole e5) t (expect e5 ∷ make (undered t) ∷ [])
prefix t e z w u a (next (got d) (made end)) = got (D.prefixed e d)

-- the levels
module _ (t : Token) where
  basics : AllGood (whole basic) t (basic_rules t)
  basics = (basic_name t, (basic_literal t, (basic_parens t, each_good _ t truths _ (basic_truth t))))

  e6_good : AllGood (whole e6) t (e6_rules t)
  e6_good = behind_good (whole basic) _ (further postfix? ∷ []) t (basic_rules t) (climbs basic postfix? (λ c v b d. D.e6_basic d)) basics

  e5_good : AllGood (whole e5) t (e5_rules t)
  e5_good = both (whole e5) t (e6_rules t) (prefix_rules t) (also e6 e5 t (e6_rules t) (λ b e a d. D.e5_e6 d) e6_good) (each_good _ t prefixes _ (prefix t))

  e4_good : AllGood (whole e4) t (e4_rules t)
  e4_good = behind_good (whole e5) _ (further factor? ∷ []) t (e5_rules t) (climbs e5 factor? (λ c v b d. D.e4_e5 d)) e5_good

  e3_good : AllGood (whole e3) t (e3_rules t)
  e3_good = behind_good (whole e4) _ (further logic? ∷ []) t (e4_rules t) (climbs e4 logic? (λ c v b d. d)) e4_good

  e2_good : AllGood (whole e2) t (e2_rules t)
  e2_good = behind_good (whole e3) _ (further minus? ∷ further plus? ∷ []) t (e3_rules t) sums e3_good
    where
      sums : Extends (whole e3) (further minus? ∷ further plus? ∷ []) (whole e2)
      sums z x u b m a (got d) (next (turned g) (next (turned h) end)) = got (h _ (g _ d))

  e1_good : AllGood (whole e1) t (e1_rules t)
  e1_good = behind_good (whole e2) _ (further relation? ∷ []) t (e2_rules t) (climbs e2 relation? (λ c v b d. D.e1_e2 d)) e2_good

  e0_good : AllGood (whole e0) t (e0_rules t)
  e0_good = behind_good (whole e1) _ (further assign? ∷ []) t (e1_rules t) (climbs e1 assign? (λ c v b d. d)) e1_good

-- types and declarations
type_named : Nth (whole type) simple_type_rules 0
type_named t e z w u a (made end) = got (D.type_name e)

type_struct : Nth (whole type) simple_type_rules 1
type_struct t e z w u a (read o (next (got d) (read c (made end)))) = got (D.struct e o d c)

type_basic : (t : Token) → OneOf basic_types t → Fits (whole type) t (make (pushed t) ∷ [])
type_basic t e z w u a (made end) = got (D.basic_type e)

a_field : Extends (whole type) (token Name undered ∷ []) (whole field)
a_field z x u b m a (got d) (read n end) = got (D.field_of d n)

a_variable : Extends (whole type) (token Name undered ∷ []) (whole declaration)
a_variable z x u b m a (got d) (read n end) = got (D.variable d n)

naming_type : Nth (whole declaration) naming_rules 0
naming_type t e z w u a (next (got d) (read n (made end))) = got (D.type_declaration e d n)

naming_procedure : Nth (whole declaration) naming_rules 1
naming_procedure t e z w u a (read n (next (got f) (made (next (got d) (made end))))) = got (D.procedure e n f d)

module _ (t : Token) where
  type_good : AllGood (whole type) t (type_rules t)
  type_good = behind_good (whole type) _ (further array? ∷ []) t (simple_type_rules t) (climbs type array? (λ c v b d. d))
      (type_named t, (type_struct t, each_good _ t basic_types _ (type_basic t)))

  field_good : AllGood (whole field) t (field_rules t)
  field_good = behind_good (whole type) _ (token Name undered ∷ []) t (type_rules t) a_field type_good

  formal_good : AllGood (whole formal) t (formal_rules t)
  formal_good = behind_good (whole type) _ (further formal_name ∷ []) t (type_rules t) (climbs type formal_name (λ c v b d. d)) type_good

  declaration_good : AllGood (whole declaration) t (declaration_rules t)
  declaration_good = both (whole declaration) t (field_rules t) (naming_rules t)
      (behind_good (whole type) _ (token Name undered ∷ []) t (type_rules t) a_variable type_good) (naming_type t, (naming_procedure t, tt))

-- instructions
opens : (k : Bracket) → Nth (whole (enclosed k)) (enclosed_rules k) 0
opens k t e z w u a (next (closed f) end) = got (f e)

word_eval : Nth (whole statement) word_rules 0
word_eval t e z w u a (next (got d) (made end)) = got (D.eval e d)

word_if : Nth (whole statement) word_rules 1
word_if t e z w u a (next (got d) (next (got r) (made end))) = got (D.if e d r)

word_while : Nth (whole statement) word_rules 2
word_while t e z w u a (next (got d) (next (got r) (made end))) = got (D.while e d r)

word_read : Nth (whole statement) word_rules 3
word_read t e z w u a (next (got d) (made end)) = got (D.read e d)

word_write : Nth (whole statement) word_rules 4
word_write t e z w u a (next (got d) (made end)) = got (D.write e d)

word_nl : Nth (whole statement) word_rules 5
word_nl t e z w u a (made end) = got (D.nl e)

word_call : Nth (whole statement) word_rules 6
word_call t e z w u a (read n (next (got d) (made end))) = got (D.call e n d)

module _ (t : Token) where
  enclosed_good : (k : Bracket) → AllGood (whole (enclosed k)) t (enclosed_rules k t)
  enclosed_good k = (opens k t, tt)

  branches_good : AllGood (whole branches) t (branches_rules t)
  branches_good = behind_good (whole block) _ (further else? ∷ []) t (enclosed_rules braces t) (climbs block else? (λ c v b d. d)) (enclosed_good braces)

  statement_good : AllGood (whole statement) t (statement_rules t)
  statement_good = both (whole statement) t (enclosed_rules braces t) (word_rules t)
      (also block statement t (enclosed_rules braces t) (λ b e a d. D.compound d) (enclosed_good braces))
      (word_eval t, (word_if t, (word_while t, (word_read t, (word_write t, (word_nl t, (word_call t, tt)))))))

  item_good : (l : Listed) → AllGood (whole (item l)) t (item_rules l t)
  item_good declarations = declaration_good t
  item_good statements = statement_good
  item_good formals = formal_good t
  item_good fields = field_good t
  item_good arguments = e0_good t

  list_good : (l : Listed) → AllGood (whole (list l)) t (list_rules l t)
  list_good l = behind_good (whole (item l)) _ (further (more? l) ∷ []) t (item_rules l t) (climbs (item l) (more? l) (λ c v b d. d)) (item_good l)

  content_good : AllGood (whole content) t (content_rules t)
  content_good = both (whole content) t (list_rules statements t) (behind (further section_tail ∷ []) (list_rules declarations t))
      (also (list statements) content t (list_rules statements t) (λ b e a d. D.instructions d) (list_good statements))
      (behind_good (whole (list declarations)) _ (further section_tail ∷ []) t (list_rules declarations t) (climbs (list declarations) section_tail (λ c v b d. d)) (list_good declarations))

  sort_good : (s : Sort) → AllGood (whole s) t (sort_rules s t)
  sort_good e0 = e0_good t
  sort_good e1 = e1_good t
  sort_good e2 = e2_good t
  sort_good e3 = e3_good t
  sort_good e4 = e4_good t
  sort_good e5 = e5_good t
  sort_good e6 = e6_good t
  sort_good basic = basics t
  sort_good type = type_good t
  sort_good field = field_good t
  sort_good formal = formal_good t
  sort_good declaration = declaration_good t
  sort_good statement = statement_good
  sort_good branches = branches_good
  sort_good content = content_good
  sort_good (list l) = list_good l
  sort_good (enclosed k) = enclosed_good k

-- what stands behind an opening bracket
rest_nothing : (k : Bracket) (o t : Token) → Is (closing k) t → Fits (rest k o) t (make (pushed o) ∷ [])
rest_nothing k o t e z w u a (made end) = closed (λ i. D.nothing i e)

rest_something : (k : Bracket) (o : Token) → Extends (whole (contents k)) (make (undered o) ∷ token (closing k) dropped ∷ []) (rest k o)
rest_something k o z x u b m a (got d) (made (read e end)) = closed (λ i. D.something i d e)

-- the tails
abbrev Goes : Tail → Token → List Symbol → Type 0
Goes n t β = (v : Tree) (z : Stack) (w : List Token) (u : Stack) (a : List Token) → Means β (v ∷ z) w u a → Reads (tail n) (v ∷ z) (t ∷ w) u a

fits : (n : Tail) (t : Token) (β : List Symbol) → Goes n t β → Fits (tail n) t β
fits n t β g [] w u a m = astray
fits n t β g (v ∷ z) w u a m = g v z w u a m

abbrev TailNth : Tail → ℕ → Type 0
TailNth n i = (t : Token) → Is (get_or (tail_rules n t) i (Name ⟶ [])).first t → Goes n t (get_or (tail_rules n t) i (Name ⟶ [])).after

postfix_index : TailNth postfix? 0
postfix_index t e v z w u a (next (got f) (read c (made (next (turned g) end)))) = turned (λ x d. g _ (D.index d e f c))

postfix_select : TailNth postfix? 1
postfix_select t e v z w u a (read n (made (next (turned g) end))) = turned (λ x d. g _ (D.select d e n))

factor : (t : Token) → OneOf factors t → Goes factor? t (expect e5 ∷ make (joined t) ∷ further factor? ∷ [])
factor t e v z w u a (next (got r) (made (next (turned g) end))) = turned (λ x d. g _ (D.product d e r))

logic_and : TailNth logic? 0
logic_and t e v z w u a (next (got r) (made end)) = turned (λ x d. D.conjunction d e r)

logic_or : TailNth logic? 1
logic_or t e v z w u a (next (got r) (made end)) = turned (λ x d. D.disjunction d e r)

minus : TailNth minus? 0
minus t e v z w u a (next (got r) (made end)) = turned (λ x d. D.difference d e r)

plus : TailNth plus? 0
plus t e v z w u a (next (got r) (made (next (turned g) end))) = turned (λ x d. g _ (D.sum d e r))

relates : (t : Token) → OneOf relations t → Goes relation? t (expect e2 ∷ make (joined t) ∷ further relation? ∷ [])
relates t e v z w u a (next (got r) (made (next (turned g) end))) = turned (λ x d. g _ (D.relation d e r))

assigns : TailNth assign? 0
assigns t e v z w u a (next (got r) (made end)) = turned (λ x d. D.assignment d e r)

arrays : TailNth array? 0
arrays t e v z w u a (read n (read c (made (next (turned g) end)))) = turned (λ x d. g _ (D.array d e n c))

elses : TailNth else? 0
elses t e v z w u a (next (got r) (made end)) = turned (λ x d. D.else d e r)

mores : (l : Listed) → TailNth (more? l) 0
mores l t e v z w u a (next (got r) (made end)) = turned (λ x d. D.more d e r)

formal_value : TailNth formal_name 0
formal_value t e v z w u a (made end) = turned (λ x d. D.by_value d e)

formal_reference : TailNth formal_name 1
formal_reference t e v z w u a (made (read n end)) = turned (λ x d. D.by_reference d e n)

sections : TailNth section_tail 0
sections t e v z w u a (made (next (turned g) end)) = turned (λ x d. g _ (section d e))

units : Extends (whole (list statements)) (make united ∷ []) (tail statements?)
units [] x u b m a (got d) (made end) = astray
units (v ∷ z) x u b m a (got d) (made end) = turned (λ c s. go c v s d)
  where
    go : (c : List Token) (v : Tree) {e : Tree} → Declared c v b → Derives (list statements) b e m → Derives content c (grown v e) m
    go c v (section d i) r = D.both d i r

tail_good : (n : Tail) (t : Token) → AllGood (tail n) t (tail_rules n t)
tail_good postfix? t = ((λ e. fits postfix? t _ (postfix_index t e)), ((λ e. fits postfix? t _ (postfix_select t e)), tt))
tail_good factor? t = each_good _ t factors _ (λ o. fits factor? t _ (factor t o))
tail_good logic? t = ((λ e. fits logic? t _ (logic_and t e)), ((λ e. fits logic? t _ (logic_or t e)), tt))
tail_good minus? t = ((λ e. fits minus? t _ (minus t e)), tt)
tail_good plus? t = ((λ e. fits plus? t _ (plus t e)), tt)
tail_good relation? t = each_good _ t relations _ (λ o. fits relation? t _ (relates t o))
tail_good assign? t = ((λ e. fits assign? t _ (assigns t e)), tt)
tail_good array? t = ((λ e. fits array? t _ (arrays t e)), tt)
tail_good else? t = ((λ e. fits else? t _ (elses t e)), tt)
tail_good statements? t = behind_good (whole (list statements)) _ (make united ∷ []) t (list_rules statements t) units (list_good t statements)
tail_good (more? l) t = ((λ e. fits (more? l) t _ (mores l t e)), tt)
tail_good formal_name t = ((λ e. fits formal_name t _ (formal_value t e)), ((λ e. fits formal_name t _ (formal_reference t e)), tt))
tail_good section_tail t = ((λ e. fits section_tail t _ (sections t e)), tt)

pub good : (n : Part) (t : Token) → AllGood n t (rules n t)
good (whole s) t = sort_good t s
good (rest k o) t = (rest_nothing k o t, behind_good (whole (contents k)) _ _ t (sort_rules (contents k) t) (rest_something k o) (sort_good t (contents k)))
good (tail n) t = tail_good n t
