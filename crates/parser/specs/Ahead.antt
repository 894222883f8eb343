-- What a parser has before it and behind it: the tokens that it has yet to take, and the records of its table.
use Rattle.std.specs.Prelude.{◌≡◌, ℕ, ◌+◌, ◌<◌, Bool, true, false, List, [], ◌∷◌, length, Some, None, Ok, Err, Option, Result}
use Rattle.tiny.specs.declared.tokens.Kind.{Kind}
use Rattle.tiny.specs.declared.tokens.Lexeme.{Lexeme}
use Rattle.tiny.specs.declared.placed.Placed.{Placed}
use Rattle.tiny.specs.Token.{Token}
use Rattle.tiny.specs.Scan.{token_in, left_of}
use Rattle.tables.specs.Items.{items, capacity, Pushed}
use Rattle.nodes.specs.declared.node.Node.{Node}
use Rattle.parser.specs.declared.parser.Parser.{Parser}
use Rattle.parser.specs.declared.faults.SyntaxCause.{SyntaxCause}
use Rattle.parser.specs.Rest.{among, tokens_of}

abbrev pub source_of : Parser → List ℕ
source_of p = p.scanner.source.now

abbrev pub ahead : Parser → List Token
ahead p = tokens_of (source_of p) p.next (left_of p.scanner.read (source_of p) p.scanner.at)

abbrev pub records : Parser → List Node
records p = items p.nodes.now

-- how many records there may be
abbrev pub room : Parser → ℕ
room p = capacity p.nodes.now

-- there is room for one record more than there are tokens ahead
abbrev pub Spare : Parser → Type 0
Spare p = length (records p) + length (ahead p) < room p

-- the first token, if there is one, is of one of these kinds
abbrev pub stands : List Kind → List Token → Bool
stands ks [] = false
stands ks (t ∷ ts) = among t.kind ks

-- a token of one of these kinds was taken, the first of those ahead
pub record Took (ks : List Kind) (p : Parser) (t : Placed Lexeme) (p' : Parser) : Type 0 where
  pub source : source_of p' ≡ source_of p
  pub first : ahead p ≡ token_in (source_of p) t ∷ ahead p'
  pub kind : among t.what.kind ks ≡ true
  pub nodes : p'.nodes ≡ p.nodes

-- a token was taken, or there is none of these kinds
abbrev pub Taken : List Kind → Parser → Option (Placed Lexeme) → Parser → Type 0
Taken ks p None p' = (p' ≡ p) × (stands ks (ahead p) ≡ false)
Taken ks p (Some t) p' = Took ks p t p'

abbrev pub Expected : List Kind → Parser → Result (Placed Lexeme) SyntaxCause → Parser → Type 0
Expected ks p (Ok t) p' = Took ks p t p'
Expected ks p (Err f) p' = (p' ≡ p) × (stands ks (ahead p) ≡ false)

-- a record was added, to the same table
pub record Added (p : Parser) (x : Node) (i : ℕ) (p' : Parser) : Type 0 where
  pub source : source_of p' ≡ source_of p
  pub still : ahead p' ≡ ahead p
  pub lent : p'.nodes.ghost_name ≡ p.nodes.ghost_name
  pub pushed : Pushed p.nodes.now x i p'.nodes.now

abbrev pub stopped : List Token → Bool
stopped [] = false
stopped (t ∷ ts) = true

-- nothing is ahead, or a token is
abbrev pub Ended : Parser → Result (Unit {0}) SyntaxCause → Type 0
Ended p (Ok u) = ahead p ≡ []
Ended p (Err f) = stopped (ahead p) ≡ true

abbrev pub place_ahead : List Token → Option ℕ
place_ahead [] = None
place_ahead (t ∷ ts) = Some t.place
