-- What the parser has read the grammar can go on from.
use Rattle.std.proofs.Common.{◌≡◌, ℕ, List, [], ◌∷◌, ◌++◌, pos, Some, None, Option, refl, ap, arith}
use Rattle.tiny.specs.declared.tokens.Kind.{Kind}
use Rattle.tiny.specs.declared.tokens.Kind.TheVariants.{Name, NlWord, Brace, DoubleAmpersand}
use Rattle.tiny.specs.Token.{Token}
use Rattle.syntax.specs.Shape.{Tree}
use Rattle.syntax.specs.Shape.Tree.{leaf, under}
use Rattle.syntax.specs.Grammar.{Sort, Listed, Bracket, Derives, block, item, opening, closing}
use Rattle.syntax.specs.Grammar.{Derives as D}
use Rattle.syntax.specs.Grammar.Sort.{e0, e1, e2, e3, e4, e5, e6, basic, type, field, formal, declaration, statement, branches, content, list, enclosed}
use Rattle.syntax.specs.Grammar.Listed.{declarations, statements, formals, fields, arguments}
use Rattle.syntax.specs.Parse.{Part, Tail, Symbol, Stack, State, fed, ended, run, top}
use Rattle.syntax.specs.Parse.Part.{whole, rest, tail}
use Rattle.syntax.specs.Parse.Tail.{postfix?, factor?, logic?, minus?, plus?, relation?, assign?, array?, else?, statements?, more?, formal_name, section_tail}
use Rattle.syntax.specs.Parse.Symbol.{token, part, make}
use Rattle.syntax.specs.Parse.Outcome.{accept, refuse}
use Rattle.syntax.proofs.Reading.{Turns, Reads, Means}
use Rattle.syntax.proofs.Reading.Reads.{got, closed, turned, astray}
use Rattle.syntax.proofs.Reading.Means.{end, read, made, next}
use Rattle.syntax.proofs.Sound.{lacks, fed_sound}

abbrev some_token : Kind → Token
some_token k = record { kind = k; place = 0; text = []; value = pos 0 }

-- each sort has a short part, whose tree does not hang on what stands behind it
abbrev Sample : Sort → Tree → Type 0
Sample s t = (a : List Token) → (b : List Token) × Derives s b t a

abbrev a_name : Tree
a_name = leaf (some_token Name)

abbrev named : Tree
named = under (some_token Name) a_name

a_basic : Sample basic a_name
a_basic a = (_ ∷ a, D.name refl)

up : (s s' : Sort) (t : Tree) → ((b : List Token) (a : List Token) → Derives s b t a → Derives s' b t a) → Sample s t → Sample s' t
up s s' t f x a = let (b, d) = x a in (b, f b a d)

an_e6 : Sample e6 a_name
an_e6 = up basic e6 a_name (λ b a d. D.e6_basic d) a_basic

an_e5 : Sample e5 a_name
an_e5 = up e6 e5 a_name (λ b a d. D.e5_e6 d) an_e6

an_e4 : Sample e4 a_name
an_e4 = up e5 e4 a_name (λ b a d. D.e4_e5 d) an_e5

an_e3 : Sample e3 a_name
an_e3 = up e4 e3 a_name (λ b a d. D.e3_e4 d) an_e4

an_e2 : Sample e2 a_name
an_e2 = up e3 e2 a_name (λ b a d. D.e2_e3 d) an_e3

an_e1 : Sample e1 a_name
an_e1 = up e2 e1 a_name (λ b a d. D.e1_e2 d) an_e2

an_e0 : Sample e0 a_name
an_e0 = up e1 e0 a_name (λ b a d. D.e0_e1 d) an_e1

a_statement : Sample statement (leaf (some_token NlWord))
a_statement a = (_ ∷ a, D.nl refl)

a_declaration : Sample declaration named
a_declaration a = (_ ∷ _ ∷ a, D.variable (D.type_name refl) refl)

abbrev shortest_item : Listed → Tree
shortest_item declarations = named
shortest_item statements = leaf (some_token NlWord)
shortest_item formals = named
shortest_item fields = named
shortest_item arguments = a_name

an_item : (l : Listed) → Sample (item l) (shortest_item l)
an_item declarations = a_declaration
an_item statements = a_statement
an_item formals = λ a. (_ ∷ _ ∷ a, D.by_value (D.type_name refl) refl)
an_item fields = λ a. (_ ∷ _ ∷ a, D.field_of (D.type_name refl) refl)
an_item arguments = an_e0

a_list : (l : Listed) → Sample (list l) (shortest_item l)
a_list l = up (item l) (list l) _ (λ b a d. D.one d) (an_item l)

abbrev shortest : Sort → Tree
shortest e0 = a_name
shortest e1 = a_name
shortest e2 = a_name
shortest e3 = a_name
shortest e4 = a_name
shortest e5 = a_name
shortest e6 = a_name
shortest basic = a_name
shortest type = a_name
shortest field = named
shortest formal = named
shortest declaration = named
shortest statement = leaf (some_token NlWord)
shortest branches = leaf (some_token Brace)
shortest content = leaf (some_token NlWord)
shortest (list l) = shortest_item l
shortest (enclosed k) = leaf (some_token (opening k))

a_bracket : (k : Bracket) → Sample (enclosed k) (leaf (some_token (opening k)))
a_bracket k a = (_ ∷ some_token (closing k) ∷ a, D.nothing refl refl)

a_part : (s : Sort) → Sample s (shortest s)
a_part e0 = an_e0
a_part e1 = an_e1
a_part e2 = an_e2
a_part e3 = an_e3
a_part e4 = an_e4
a_part e5 = an_e5
a_part e6 = an_e6
a_part basic = a_basic
a_part type = λ a. (_ ∷ a, D.type_name refl)
a_part field = an_item fields
a_part formal = an_item formals
a_part declaration = a_declaration
a_part statement = a_statement
a_part branches = up block branches _ (λ b a d. D.then d) (a_bracket _)
a_part content = up (list statements) content _ (λ b a d. D.instructions d) (a_list statements)
a_part (list l) = a_list l
a_part (enclosed k) = a_bracket k

-- a tail that may be absent is, and the others have a short form too
abbrev turned_to : Tail → Tree → Tree
turned_to postfix? v = v
turned_to factor? v = v
turned_to logic? v = v
turned_to minus? v = v
turned_to plus? v = v
turned_to relation? v = v
turned_to assign? v = v
turned_to array? v = v
turned_to else? v = v
turned_to statements? v = v
turned_to (more? l) v = v
turned_to formal_name v = under (some_token Name) v
turned_to section_tail v = under (some_token DoubleAmpersand) v

a_tail : (n : Tail) (v : Tree) (a : List Token) → (b : List Token) × Turns n v b (turned_to n v) a
a_tail postfix? v a = (a, lacks postfix? refl v a)
a_tail factor? v a = (a, lacks factor? refl v a)
a_tail logic? v a = (a, lacks logic? refl v a)
a_tail minus? v a = (a, lacks minus? refl v a)
a_tail plus? v a = (a, lacks plus? refl v a)
a_tail relation? v a = (a, lacks relation? refl v a)
a_tail assign? v a = (a, lacks assign? refl v a)
a_tail array? v a = (a, lacks array? refl v a)
a_tail else? v a = (a, lacks else? refl v a)
a_tail statements? v a = (a, lacks statements? refl v a)
a_tail (more? l) v a = (a, lacks (more? l) refl v a)
a_tail formal_name v a = (_ ∷ a, λ c d. D.by_value d refl)
a_tail section_tail v a = (_ ∷ a, λ c d. D.declared d refl)

abbrev sampled : Part → Stack → Stack
sampled (whole s) z = shortest s ∷ z
sampled (rest k o) z = leaf o ∷ z
sampled (tail n) [] = []
sampled (tail n) (v ∷ z) = turned_to n v ∷ z

sample : (n : Part) (z : Stack) (a : List Token) → (b : List Token) × Reads n z b (sampled n z) a
sample (whole s) z a = let (b, d) = a_part s a in (b, got d)
sample (rest k o) z a = (some_token (closing k) ∷ a, closed (λ i. D.nothing i refl))
sample (tail n) [] a = (a, astray)
sample (tail n) (v ∷ z) a = let (b, f) = a_tail n v a in (b, turned f)

samples : (α : List Symbol) (z : Stack) → (w : List Token) × (u : Stack) × Means α z w u []
samples [] z = ([], z, end)
samples (token k f ∷ α) z = let (w, u, m) = samples α (f (some_token k) z) in (some_token k ∷ w, u, read refl m)
samples (make f ∷ α) z = let (w, u, m) = samples α (f z) in (w, u, made m)
samples (part n ∷ α) z =
    let (w, u, m) = samples α (sampled n z) in
    let (b, s) = sample n z w in
    (b, u, next s m)

-- what was read before a refusal can be read on
pub run_viable : (α : List Symbol) (z : Stack) (ts left : List Token) → run α z ts ≡ refuse left →
    (x : List Token) × (ts ≡ x ++ left) × (w : List Token) × (u : Stack) × Means α z (x ++ w) u []
run_viable α z [] left e = go (ended α z) e
  where
    go : (o : Option Stack) → elim o [ Some t ↦ accept (top t) | None ↦ refuse [] ] ≡ refuse left →
        (x : List Token) × ([] ≡ x ++ left) × (w : List Token) × (u : Stack) × Means α z (x ++ w) u []
    go (Some t) e = absurd (let z : ◌≡◌ {A = ℕ} 0 1 = cc in omega arith)
    go None e = let (w, u, m) = samples α z in ([], cc, w, u, m)
run_viable α z (t ∷ ts) left e = go (fed α z t) refl e (λ s e'. run_viable s.expected s.stack ts left e')
  where
    go : (o : Option State) → fed α z t ≡ o → elim o [ Some s ↦ run s.expected s.stack ts | None ↦ refuse (t ∷ ts) ] ≡ refuse left →
        ((s : State) → run s.expected s.stack ts ≡ refuse left →
        (x : List Token) × (ts ≡ x ++ left) × (w : List Token) × (u : Stack) × Means s.expected s.stack (x ++ w) u []) →
        (x : List Token) × (t ∷ ts ≡ x ++ left) × (w : List Token) × (u : Stack) × Means α z (x ++ w) u []
    go (Some s) o e later = let (x, ts≡, w, u, m) = later s e in (t ∷ x, ap (λ l. t ∷ l) ts≡, w, u, fed_sound α z t s o (x ++ w) u [] m)
    go None o e later = let (w, u, m) = samples α z in ([], cc, w, u, m)
