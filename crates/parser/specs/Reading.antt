-- What a function of the parser does.
use Rattle.std.specs.Prelude.{◌≡◌, ℕ, ◌+◌, ◌<◌, ◌≤◌, List, [], ◌∷◌, ◌++◌, length, Ok, Err, Result}
use Rattle.syntax.specs.Shape.{Tree}
use Rattle.tiny.specs.declared.tokens.Kind.{Kind}
use Rattle.tiny.specs.declared.tokens.Kind.TheVariants.{Brace, At, IfWord, WhileWord, ReadWord, WriteWord, NlWord, CallWord}
use Rattle.syntax.specs.Grammar.{block}
use Rattle.syntax.specs.Parse.{Tail, Symbol, Stack, run, expect, further}
use Rattle.syntax.specs.Parse.Outcome.{refuse}
use Rattle.nodes.specs.declared.node.Node.{Node}
use Rattle.nodes.specs.Shows.{Shows}
use Rattle.parser.specs.declared.parser.Parser.{Parser}
use Rattle.parser.specs.declared.faults.SyntaxCause.{SyntaxCause}
use Rattle.parser.specs.Ahead.{ahead, source_of, records, room}

-- it is the same source, and the same table, with the room that it had
pub record Same (p p' : Parser) : Type 0 where
  pub source : source_of p' ≡ source_of p
  pub lent : p'.nodes.ghost_name ≡ p.nodes.ghost_name
  pub room : room p' ≡ room p

-- It read the symbols α but for γ, and record i shows the tree: it takes the parser of the
-- specification as far. There are fewer tokens left, and no more records than tokens were added.
pub record Read (α γ : List Symbol) (p : Parser) (i : ℕ) (p' : Parser) : Type 0 where
  pub tree : Tree
  pub reads : (β : List Symbol) (z : Stack) → run (α ++ β) z (ahead p) ≡ run (γ ++ β) (tree ∷ z) (ahead p')
  pub shown : Shows (source_of p) (records p') i tree
  pub more : List Node
  pub grown : records p' ≡ records p ++ more
  pub fewer : length (ahead p') < length (ahead p)
  pub paid : length (records p') + length (ahead p') ≤ length (records p) + length (ahead p)
  pub same : Same p p'

-- the parser of the specification stops where it did
pub record Refused (α : List Symbol) (p p' : Parser) : Type 0 where
  pub stops : (β : List Symbol) (z : Stack) → run (α ++ β) z (ahead p) ≡ refuse (ahead p')
  pub same : Same p p'

abbrev pub Upto : List Symbol → List Symbol → Parser → Result ℕ SyntaxCause → Parser → Type 0
Upto α γ p (Ok i) p' = Read α γ p i p'
Upto α γ p (Err f) p' = Refused α p p'

abbrev pub Reads : List Symbol → Parser → Result ℕ SyntaxCause → Parser → Type 0
Reads α = Upto α []

-- It went on from the tree t by a tail, or by nothing: record i shows what the tree has grown to.
pub record Went (m : Tail) (t : Tree) (p : Parser) (i : ℕ) (p' : Parser) : Type 0 where
  pub tree : Tree
  pub reads : (β : List Symbol) (z : Stack) → run (further m ∷ β) (t ∷ z) (ahead p) ≡ run β (tree ∷ z) (ahead p')
  pub shown : Shows (source_of p) (records p') i tree
  pub more : List Node
  pub grown : records p' ≡ records p ++ more
  pub fewer : length (ahead p') ≤ length (ahead p)
  pub paid : length (records p') + length (ahead p') ≤ length (records p) + length (ahead p)
  pub same : Same p p'

-- the parser of the specification stops in the tail where it did
pub record Halted (m : Tail) (t : Tree) (p p' : Parser) : Type 0 where
  pub stops : (β : List Symbol) (z : Stack) → run (further m ∷ β) (t ∷ z) (ahead p) ≡ refuse (ahead p')
  pub same : Same p p'

abbrev pub WentOn : Tail → Tree → Parser → Result ℕ SyntaxCause → Parser → Type 0
WentOn m t p (Ok i) p' = Went m t p i p'
WentOn m t p (Err f) p' = Halted m t p p'

-- whatever tree record j shows, it goes on from that
abbrev pub Continues : Tail → ℕ → Parser → Result ℕ SyntaxCause → Parser → Type 0
Continues m j p r p' = (t : Tree) → Shows (source_of p) (records p) j t → WentOn m t p r p'

-- a block was read, with nothing behind it
pub record Whole (p : Parser) (i : ℕ) (p' : Parser) : Type 0 where
  pub read : Read (expect block ∷ []) [] p i p'
  pub nothing : ahead p' ≡ []

-- a program was read, or the parser of the specification refuses these tokens there
abbrev pub Programs : Parser → Result ℕ SyntaxCause → Parser → Type 0
Programs p (Ok i) p' = Whole p i p'
Programs p (Err f) p' = (run (expect block ∷ []) [] (ahead p) ≡ refuse (ahead p')) × Same p p'

-- what an instruction begins with
abbrev pub instructing : List Kind
instructing = Brace ∷ At ∷ IfWord ∷ WhileWord ∷ ReadWord ∷ WriteWord ∷ NlWord ∷ CallWord ∷ []
