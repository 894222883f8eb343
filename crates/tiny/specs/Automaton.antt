-- The bytes of a token, one after the other.
use Rattle.std.specs.Prelude.{ℕ, suc, Bool, true, false, cond, ◌&&◌, List, [], ◌∷◌, Some, None, Option, ◌==◌}
use Rattle.tiny.specs.declared.tokens.Kind.{Kind}
use Rattle.tiny.specs.declared.tokens.Kind.TheVariants.{Name, Literal, Plus, Minus, Times, Over, Percent, Less, Greater, LessEqual, GreaterEqual, Equal, NotEqual, Open, Close, Semicolon, Becomes, Index, IndexEnd, Dot, Caret, Comma, Brace, BraceEnd, Ampersand, DoubleAmpersand, At}
use Rattle.tiny.specs.declared.states.State.{State}
use Rattle.tiny.specs.declared.states.State.TheVariants.{Start, Word, Zero, Digits, Sign, Order, Bang, Amp, Whole}
use Rattle.tiny.specs.Spelling.{Table, digit, letter, wordy, lower, words, blank, in_line}

-- the digits of a literal begin with 0, which is then all of it, or with another digit
abbrev pub numeral : ℕ → Option State
numeral b = cond (b == 48) (Some Zero) (cond (digit b) (Some Digits) None)

-- what the first byte of a symbol begins
abbrev pub marks : List (ℕ × State)
marks =
    (43, Sign Plus) ∷
    (45, Sign Minus) ∷
    (60, Order Less LessEqual) ∷
    (62, Order Greater GreaterEqual) ∷
    (61, Order Becomes Equal) ∷
    (33, Bang) ∷
    (38, Amp) ∷
    (42, Whole Times) ∷
    (47, Whole Over) ∷
    (37, Whole Percent) ∷
    (40, Whole Open) ∷
    (41, Whole Close) ∷
    (59, Whole Semicolon) ∷
    (91, Whole Index) ∷
    (93, Whole IndexEnd) ∷
    (46, Whole Dot) ∷
    (94, Whole Caret) ∷
    (44, Whole Comma) ∷
    (123, Whole Brace) ∷
    (125, Whole BraceEnd) ∷
    (64, Whole At) ∷
    []

abbrev pub mark : List (ℕ × State) → ℕ → Option State
mark [] b = None
mark (e ∷ es) b = cond (b == e.0) (Some e.1) (mark es b)

abbrev pub begin : ℕ → Option State
begin b = cond (letter b) (Some Word) (cond (digit b) (numeral b) (mark marks b))

-- the second byte of a symbol
abbrev pub followed : ℕ → ℕ → Kind → Option State
followed b second k = cond (b == second) (Some (Whole k)) None

-- one byte on, if it goes on with the token
abbrev pub step : State → ℕ → Option State
step Start b = begin b
step Word b = cond (wordy b) (Some Word) None
step Zero b = None
step Digits b = cond (digit b) (Some Digits) None
step (Sign k) b = numeral b
step (Order k j) b = followed b 61 j
step Bang b = followed b 61 NotEqual
step Amp b = followed b 38 DoubleAmpersand
step (Whole k) b = None

-- a text is the word, whatever its letter case
abbrev pub same : List ℕ → List ℕ → Bool
same [] [] = true
same [] (w ∷ ws) = false
same (b ∷ bs) [] = false
same (b ∷ bs) (w ∷ ws) = lower b == w && same bs ws

abbrev pub word_kind : Table → List ℕ → Kind
word_kind [] bs = Name
word_kind (e ∷ es) bs = cond (same bs e.0) e.1 (word_kind es bs)

-- the token that a text is which ends in a state
abbrev pub kind : State → List ℕ → Option Kind
kind Start bs = None
kind Word bs = Some (word_kind words bs)
kind Zero bs = Some Literal
kind Digits bs = Some Literal
kind (Sign k) bs = Some k
kind (Order k j) bs = Some k
kind Bang bs = None
kind Amp bs = Some Ampersand
kind (Whole k) bs = Some k

-- the state behind a whole text
abbrev pub after : State → List ℕ → Option State
after s [] = Some s
after s (b ∷ bs) = elim (step s b) [ Some t ↦ after t bs | None ↦ None ]

-- as far as it goes: the number of bytes, and the state behind them
abbrev pub reach : State → List ℕ → ℕ × State
reach s [] = (0, s)
reach s (b ∷ bs) = elim (step s b) [ Some t ↦ (suc (reach t bs).0, (reach t bs).1) | None ↦ (0, s) ]

abbrev pub hash : List ℕ → Bool
hash [] = false
hash (b ∷ bs) = b == 35

-- A byte that is ignored, in a comment or not, before a # or not: whether a comment goes on behind it.
abbrev pub ignore : Bool → ℕ → Bool → Option Bool
ignore true b h = Some (in_line b)
ignore false b h = cond (b == 35 && h) (Some true) (cond (blank b) (Some false) None)

-- how many bytes are ignored at the front: blanks, and comments from ## to the end of the line
abbrev pub skip : Bool → List ℕ → ℕ
skip c [] = 0
skip c (b ∷ bs) = elim (ignore c b (hash bs)) [ Some d ↦ suc (skip d bs) | None ↦ 0 ]
