-- What it is to read a list of symbols: the derivations that its parts are.
use Rattle.std.proofs.Common.{List, [], ◌∷◌, ◌++◌}
use Rattle.tiny.specs.declared.tokens.Kind.{Kind}
use Rattle.tiny.specs.declared.tokens.Kind.TheVariants.{DoubleAmpersand}
use Rattle.tiny.specs.Token.{Token}
use Rattle.syntax.specs.Shape.{Tree}
use Rattle.syntax.specs.Shape.Tree.{under}
use Rattle.syntax.specs.Grammar.{Sort, Bracket, Derives, Is, block, item, opening}
use Rattle.syntax.specs.Grammar.Sort.{e0, e1, e2, e3, e4, e6, type, formal, branches, content, list, enclosed}
use Rattle.syntax.specs.Grammar.Listed.{declarations}
use Rattle.syntax.specs.Parse.{Part, Tail, Symbol, Stack}
use Rattle.syntax.specs.Parse.Part.{whole, rest, tail}
use Rattle.syntax.specs.Parse.Tail.{postfix?, factor?, logic?, minus?, plus?, relation?, assign?, array?, else?, statements?, more?, formal_name, section_tail}
use Rattle.syntax.specs.Parse.Symbol.{token, part, make}

-- declarations with the && that ends them
pub data Declared : List Token → Tree → List Token → Type 0 where
  section : {o : Token} {d : Tree} {b a : List Token} → Derives (list declarations) b d (o ∷ a) → Is DoubleAmpersand o → Declared b (under o d) a

-- what a tail goes on from, and what it makes of it
abbrev pub Before : Tail → List Token → Tree → List Token → Type 0
Before postfix? = Derives e6
Before factor? = Derives e4
Before logic? = Derives e4
Before minus? = Derives e3
Before plus? = Derives e2
Before relation? = Derives e1
Before assign? = Derives e1
Before array? = Derives type
Before else? = Derives block
Before statements? = Declared
Before (more? l) = Derives (item l)
Before formal_name = Derives type
Before section_tail = Derives (list declarations)

abbrev pub made_of : Tail → Sort
made_of postfix? = e6
made_of factor? = e4
made_of logic? = e3
made_of minus? = e2
made_of plus? = e2
made_of relation? = e1
made_of assign? = e0
made_of array? = type
made_of else? = branches
made_of statements? = content
made_of (more? l) = list l
made_of formal_name = formal
made_of section_tail = content

abbrev pub Turns : Tail → Tree → List Token → Tree → List Token → Type 0
Turns n v b t a = (c : List Token) → Before n c v b → Derives (made_of n) c t a

-- A part pushes its tree, and a tail changes the one on top. With no tree there, nothing is said.
pub data Reads : Part → Stack → List Token → Stack → List Token → Type 0 where
  got : {s : Sort} {z : Stack} {t : Tree} {b a : List Token} → Derives s b t a → Reads (whole s) z b (t ∷ z) a
  closed : {k : Bracket} {o : Token} {z : Stack} {t : Tree} {b a : List Token} →
      (Is (opening k) o → Derives (enclosed k) (o ∷ b) t a) → Reads (rest k o) z b (t ∷ z) a
  turned : {n : Tail} {v t : Tree} {z : Stack} {b a : List Token} → Turns n v b t a → Reads (tail n) (v ∷ z) b (t ∷ z) a
  astray : {n : Tail} {z : Stack} {b a : List Token} → Reads (tail n) [] b z a

pub data Means : List Symbol → Stack → List Token → Stack → List Token → Type 0 where
  end : {z : Stack} {a : List Token} → Means [] z a z a
  read : {k : Kind} {f : Token → Stack → Stack} {α : List Symbol} {z u : Stack} {t : Token} {m a : List Token} →
      Is k t → Means α (f t z) m u a → Means (token k f ∷ α) z (t ∷ m) u a
  made : {f : Stack → Stack} {α : List Symbol} {z u : Stack} {b a : List Token} → Means α (f z) b u a → Means (make f ∷ α) z b u a
  next : {n : Part} {α : List Symbol} {z x u : Stack} {b m a : List Token} → Reads n z b x m → Means α x m u a → Means (part n ∷ α) z b u a

pub split : (β : List Symbol) {α : List Symbol} {z u : Stack} {b a : List Token} →
    Means (β ++ α) z b u a → (x : Stack) × (m : List Token) × Means β z b x m × Means α x m u a
split [] m = (_, _, end, m)
split (token k f ∷ β) (read e m) = let (x, y, p, q) = split β m in (x, y, read e p, q)
split (make f ∷ β) (made m) = let (x, y, p, q) = split β m in (x, y, made p, q)
split (part n ∷ β) (next s m) = let (x, y, p, q) = split β m in (x, y, next s p, q)
