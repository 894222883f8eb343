-- What is left of a source that scans, with its next token read.
use Rattle.std.specs.Prelude.{ℕ, Bool, true, false, ◌||◌, List, [], ◌∷◌, Some, None, Option}
use Rattle.tiny.specs.declared.tokens.Lexeme.{Lexeme}
use Rattle.tiny.specs.declared.placed.Placed.{Placed}
use Rattle.tiny.specs.declared.tokens.Kind.{Kind}
use Rattle.tiny.specs.Token.{Token, is}
use Rattle.tiny.specs.Scan.{Scanned, token_in}
use Rattle.tiny.specs.Scan.Scanned.{tokens, refused}

abbrev pub scanned : Scanned → Bool
scanned (tokens ts) = true
scanned (refused c p) = false

abbrev pub listed : Scanned → List Token
listed (tokens ts) = ts
listed (refused c p) = []

abbrev pub tokens_of : List ℕ → Option (Placed Lexeme) → Scanned → List Token
tokens_of source None rest = []
tokens_of source (Some t) rest = token_in source t ∷ listed rest

-- a kind is one of several
abbrev pub among : Kind → List Kind → Bool
among k [] = false
among k (j ∷ js) = is k j || among k js
