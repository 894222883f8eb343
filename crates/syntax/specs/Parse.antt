-- The parser of the specification. It reads one token at a time against a list of what is still
-- expected, and keeps a stack of the trees that it has read.
use Rattle.std.specs.Prelude.{Bool, true, false, cond, List, [], ◌∷◌, ◌++◌, pos, Some, None, Option}
use Rattle.tiny.specs.declared.tokens.Kind.{Kind}
use Rattle.tiny.specs.declared.tokens.Kind.TheVariants.{Name, Literal, StructWord, TypeWord, ProcWord, IfWord, ElseWord, WhileWord, ReadWord, WriteWord, NlWord, CallWord, And, Or, Plus, Minus, Open, Close, Becomes, Index, IndexEnd, Dot, Brace, BraceEnd, Ampersand, DoubleAmpersand, At}
use Rattle.tiny.specs.Token.{Token, is, truths, prefixes, factors, relations, basic_types}
use Rattle.syntax.specs.Shape.{Tree, token_of}
use Rattle.syntax.specs.Shape.Tree.{leaf, under, join}
use Rattle.syntax.specs.Grammar.{Sort, Listed, Bracket, block, separator, opening, closing, contents}
use Rattle.syntax.specs.Grammar.Sort.{e0, e1, e2, e3, e4, e5, e6, basic, type, field, formal, declaration, statement, branches, content, list, enclosed}
use Rattle.syntax.specs.Grammar.Listed.{declarations, statements, formals, fields, arguments}
use Rattle.syntax.specs.Grammar.Bracket.{braces, formal_parens, actual_parens}

-- What goes on from the tree read last. One that ends in a ? may be absent.
pub data Tail : Type 0 where
  postfix? factor? logic? minus? plus? relation? assign? array? else? statements? : Tail
  more? : Listed → Tail
  formal_name section_tail : Tail

-- A part of a program that begins with a token of its own: a whole of some sort, what stands behind
-- an opening bracket, or a tail.
pub data Part : Type 0 where
  whole : Sort → Part
  rest : Bracket → Token → Part
  tail : Tail → Part

abbrev pub Stack : Type 0
Stack = List Tree

pub data Symbol : Type 0 where
  -- a token of this kind, and what it does to the stack
  token : Kind → (Token → Stack → Stack) → Symbol
  part : Part → Symbol
  make : (Stack → Stack) → Symbol

abbrev pub expect : Sort → Symbol
expect s = part (whole s)

abbrev pub further : Tail → Symbol
further n = part (tail n)

abbrev pub dropped : Token → Stack → Stack
dropped t s = s

abbrev pub pushed : Token → Stack → Stack
pushed t s = leaf t ∷ s

abbrev pub undered : Token → Stack → Stack
undered t [] = []
undered t (e ∷ s) = under t e ∷ s

abbrev pub joined : Token → Stack → Stack
joined t [] = []
joined t (r ∷ []) = []
joined t (r ∷ l ∷ s) = join t l r ∷ s

-- a procedure's name takes its formals
abbrev pub titled : Stack → Stack
titled [] = []
titled (f ∷ []) = []
titled (f ∷ n ∷ s) = under (token_of n) f ∷ s

-- declarations take the instructions behind them
abbrev pub grown : Tree → Tree → Tree
grown (leaf t) e = e
grown (under t d) e = join t d e
grown (join t l r) e = e

abbrev pub united : Stack → Stack
united [] = []
united (e ∷ []) = []
united (e ∷ d ∷ s) = grown d e ∷ s

pub record Rule : Type 0 where
  pub first : Kind
  pub after : List Symbol

abbrev pub ◌⟶◌ : Kind → List Symbol → Rule
k ⟶ α = record { first = k; after = α }

infix 20 ◌⟶◌
abbrev pub each : List Kind → List Symbol → List Rule
each [] α = []
each (k ∷ ks) α = (k ⟶ α) ∷ each ks α

-- the same rules with more behind them
abbrev pub behind : List Symbol → List Rule → List Rule
behind γ [] = []
behind γ (r ∷ rs) = (r.first ⟶ r.after ++ γ) ∷ behind γ rs

-- What may follow the first token t of a part.
abbrev pub basic_rules : Token → List Rule
basic_rules t =
    (Name ⟶ make (pushed t) ∷ []) ∷ (Literal ⟶ make (pushed t) ∷ []) ∷ (Open ⟶ expect e0 ∷ token Close dropped ∷ []) ∷ each truths (make (pushed t) ∷ [])

abbrev pub e6_rules : Token → List Rule
e6_rules t = behind (further postfix? ∷ []) (basic_rules t)

abbrev pub prefix_rules : Token → List Rule
prefix_rules t = each prefixes (expect e5 ∷ make (undered t) ∷ [])

abbrev pub e5_rules : Token → List Rule
e5_rules t = e6_rules t ++ prefix_rules t

abbrev pub e4_rules : Token → List Rule
e4_rules t = behind (further factor? ∷ []) (e5_rules t)

abbrev pub e3_rules : Token → List Rule
e3_rules t = behind (further logic? ∷ []) (e4_rules t)

abbrev pub e2_rules : Token → List Rule
e2_rules t = behind (further minus? ∷ further plus? ∷ []) (e3_rules t)

abbrev pub e1_rules : Token → List Rule
e1_rules t = behind (further relation? ∷ []) (e2_rules t)

abbrev pub e0_rules : Token → List Rule
e0_rules t = behind (further assign? ∷ []) (e1_rules t)

abbrev pub simple_type_rules : Token → List Rule
simple_type_rules t =
    (Name ⟶ make (pushed t) ∷ [])
    ∷ (StructWord ⟶ token Brace dropped ∷ expect (list fields) ∷ token BraceEnd dropped ∷ make (undered t) ∷ [])
    ∷ each basic_types (make (pushed t) ∷ [])

abbrev pub type_rules : Token → List Rule
type_rules t = behind (further array? ∷ []) (simple_type_rules t)

abbrev pub field_rules : Token → List Rule
field_rules t = behind (token Name undered ∷ []) (type_rules t)

abbrev pub formal_rules : Token → List Rule
formal_rules t = behind (further formal_name ∷ []) (type_rules t)

abbrev pub naming_rules : Token → List Rule
naming_rules t =
    (TypeWord ⟶ expect type ∷ token Name undered ∷ make (undered t) ∷ [])
    ∷ (ProcWord ⟶ token Name pushed ∷ expect (enclosed formal_parens) ∷ make titled ∷ expect block ∷ make (joined t) ∷ [])
    ∷ []

abbrev pub declaration_rules : Token → List Rule
declaration_rules t = field_rules t ++ naming_rules t

abbrev pub enclosed_rules : Bracket → Token → List Rule
enclosed_rules k t = (opening k ⟶ part (rest k t) ∷ []) ∷ []

abbrev pub branches_rules : Token → List Rule
branches_rules t = behind (further else? ∷ []) (enclosed_rules braces t)

abbrev pub word_rules : Token → List Rule
word_rules t =
    (At ⟶ expect e0 ∷ make (undered t) ∷ [])
    ∷ (IfWord ⟶ expect e0 ∷ expect branches ∷ make (joined t) ∷ [])
    ∷ (WhileWord ⟶ expect e0 ∷ expect block ∷ make (joined t) ∷ [])
    ∷ (ReadWord ⟶ expect e0 ∷ make (undered t) ∷ [])
    ∷ (WriteWord ⟶ expect e0 ∷ make (undered t) ∷ [])
    ∷ (NlWord ⟶ make (pushed t) ∷ [])
    ∷ (CallWord ⟶ token Name pushed ∷ expect (enclosed actual_parens) ∷ make (joined t) ∷ [])
    ∷ []

abbrev pub statement_rules : Token → List Rule
statement_rules t = enclosed_rules braces t ++ word_rules t

abbrev pub item_rules : Listed → Token → List Rule
item_rules declarations t = declaration_rules t
item_rules statements t = statement_rules t
item_rules formals t = formal_rules t
item_rules fields t = field_rules t
item_rules arguments t = e0_rules t

abbrev pub list_rules : Listed → Token → List Rule
list_rules l t = behind (further (more? l) ∷ []) (item_rules l t)

abbrev pub content_rules : Token → List Rule
content_rules t = list_rules statements t ++ behind (further section_tail ∷ []) (list_rules declarations t)

abbrev pub sort_rules : Sort → Token → List Rule
sort_rules e0 t = e0_rules t
sort_rules e1 t = e1_rules t
sort_rules e2 t = e2_rules t
sort_rules e3 t = e3_rules t
sort_rules e4 t = e4_rules t
sort_rules e5 t = e5_rules t
sort_rules e6 t = e6_rules t
sort_rules basic t = basic_rules t
sort_rules type t = type_rules t
sort_rules field t = field_rules t
sort_rules formal t = formal_rules t
sort_rules declaration t = declaration_rules t
sort_rules statement t = statement_rules t
sort_rules branches t = branches_rules t
sort_rules content t = content_rules t
sort_rules (list l) t = list_rules l t
sort_rules (enclosed k) t = enclosed_rules k t

abbrev pub tail_rules : Tail → Token → List Rule
tail_rules postfix? t =
    (Index ⟶ expect e0 ∷ token IndexEnd dropped ∷ make (joined t) ∷ further postfix? ∷ [])
    ∷ (Dot ⟶ token Name pushed ∷ make (joined t) ∷ further postfix? ∷ []) ∷ []
tail_rules factor? t = each factors (expect e5 ∷ make (joined t) ∷ further factor? ∷ [])
tail_rules logic? t = (And ⟶ expect e3 ∷ make (joined t) ∷ []) ∷ (Or ⟶ expect e4 ∷ make (joined t) ∷ []) ∷ []
tail_rules minus? t = (Minus ⟶ expect e3 ∷ make (joined t) ∷ []) ∷ []
tail_rules plus? t = (Plus ⟶ expect e3 ∷ make (joined t) ∷ further plus? ∷ []) ∷ []
tail_rules relation? t = each relations (expect e2 ∷ make (joined t) ∷ further relation? ∷ [])
tail_rules assign? t = (Becomes ⟶ expect e0 ∷ make (joined t) ∷ []) ∷ []
tail_rules array? t = (Index ⟶ token Literal pushed ∷ token IndexEnd dropped ∷ make (joined t) ∷ further array? ∷ []) ∷ []
tail_rules else? t = (ElseWord ⟶ expect block ∷ make (joined t) ∷ []) ∷ []
tail_rules statements? t = behind (make united ∷ []) (list_rules statements t)
tail_rules (more? l) t = (separator l ⟶ expect (list l) ∷ make (joined t) ∷ []) ∷ []
tail_rules formal_name t = (Name ⟶ make (undered t) ∷ []) ∷ (Ampersand ⟶ make (undered t) ∷ token Name undered ∷ []) ∷ []
tail_rules section_tail t = (DoubleAmpersand ⟶ make (undered t) ∷ further statements? ∷ []) ∷ []

abbrev pub rules : Part → Token → List Rule
rules (whole s) t = sort_rules s t
rules (rest k o) t =
    (closing k ⟶ make (pushed o) ∷ []) ∷ behind (make (undered o) ∷ token (closing k) dropped ∷ []) (sort_rules (contents k) t)
rules (tail n) t = tail_rules n t

abbrev pub may_lack : Tail → Bool
may_lack formal_name = false
may_lack section_tail = false
may_lack postfix? = true
may_lack factor? = true
may_lack logic? = true
may_lack minus? = true
may_lack plus? = true
may_lack relation? = true
may_lack assign? = true
may_lack array? = true
may_lack else? = true
may_lack statements? = true
may_lack (more? l) = true

abbrev pub optional : Part → Bool
optional (whole s) = false
optional (rest k o) = false
optional (tail n) = may_lack n

abbrev pub chosen : Kind → List Rule → Option (List Symbol)
chosen k [] = None
chosen k (r ∷ rs) = cond (is k r.first) (Some r.after) (chosen k rs)

pub record State : Type 0 where
  pub expected : List Symbol
  pub stack : Stack

abbrev pub begun : Option (List Symbol) → List Symbol → Stack → Option State → Option State
begun (Some β) α s absent = Some (record { expected = β ++ α; stack = s })
begun None α s absent = absent

-- one token on: what a part may begin with comes first, and an optional part is absent if it may not
abbrev pub fed : List Symbol → Stack → Token → Option State
fed [] s t = None
fed (token k f ∷ α) s t = cond (is t.kind k) (Some (record { expected = α; stack = f t s })) None
fed (make f ∷ α) s t = fed α (f s) t
fed (part n ∷ α) s t = begun (chosen t.kind (rules n t)) α s (cond (optional n) (fed α s t) None)

-- the end of the tokens
abbrev pub ended : List Symbol → Stack → Option Stack
ended [] s = Some s
ended (token k f ∷ α) s = None
ended (make f ∷ α) s = ended α (f s)
ended (part n ∷ α) s = cond (optional n) (ended α s) None

abbrev pub blank : Token
blank = record { kind = Name; place = 0; text = []; value = pos 0 }

abbrev pub top : Stack → Tree
top [] = leaf blank
top (t ∷ s) = t

-- accepted with a tree, or refused with the tokens that are left: at the first of them, or at the end
pub data Outcome : Type 0 where
  accept : Tree → Outcome
  refuse : List Token → Outcome

abbrev pub run : List Symbol → Stack → List Token → Outcome
run α s [] = elim (ended α s) [ Some u ↦ accept (top u) | None ↦ refuse [] ]
run α s (t ∷ ts) = elim (fed α s t) [ Some u ↦ run u.expected u.stack ts | None ↦ refuse (t ∷ ts) ]

abbrev pub parse : List Token → Outcome
parse = run (expect block ∷ []) []
