-- What the parser of the specification has to do with the grammar.
use Rattle.std.specs.Prelude.{◌≡◌, ◌≤◌, ◌↔◌, List, [], ◌∷◌, ◌++◌, length}
use Rattle.tiny.specs.Token.{Token}
use Rattle.syntax.specs.Shape.{Tree, size}
use Rattle.syntax.specs.Grammar.{Program}
use Rattle.syntax.specs.Parse.{parse}
use Rattle.syntax.specs.Parse.Outcome.{accept, refuse}

-- it accepts with a tree just where the grammar derives that tree; so there is but one
abbrev pub Accepts : Type 0
Accepts = (ts : List Token) (t : Tree) → (parse ts ≡ accept t) ↔ Program ts t

-- some legal program begins with these tokens
abbrev pub Viable : List Token → Type 0
Viable u = (w : List Token) × (t : Tree) × Program (u ++ w) t

-- `rest` begins with the first token after which no legal syntax continues, or is the end
abbrev pub Stops : List Token → List Token → Type 0
Stops u [] = (t : Tree) → Program u t → ⊥
Stops u (t ∷ x) = Viable (u ++ t ∷ []) → ⊥

abbrev pub Refuses : Type 0
Refuses = (u rest : List Token) → (parse (u ++ rest) ≡ refuse rest) ↔ (Viable u × Stops u rest)

-- the tree of a program has no more nodes than the program has tokens
abbrev pub Paid : Type 0
Paid = (ts : List Token) (t : Tree) → Program ts t → size t ≤ length ts
