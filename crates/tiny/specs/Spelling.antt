-- How each kind of token is spelled, and what is ignored between tokens.
use Rattle.std.specs.Prelude.{◌≡◌, ℕ, ◌+◌, ◌-◌, ◌*◌, Bool, true, cond, not, ◌&&◌, ◌||◌, ◌⊎◌, List, [], ◌∷◌, ◌++◌, map, codes, ℤ, pos, negsuc, neg_ℤ, Some, None, Option, ◌==◌, nat_le, nat_lt}
use Rattle.tiny.specs.Token.{is}
use Rattle.tiny.specs.declared.tokens.Kind.{Kind}
use Rattle.tiny.specs.declared.tokens.Kind.TheVariants.{Name, Literal, TrueWord, FalseWord, IntWord, BoolWord, StructWord, TypeWord, ProcWord, IfWord, ElseWord, WhileWord, ReadWord, WriteWord, NlWord, CallWord, And, Or, Not, RealWord, StringWord, NullWord, NewWord, DeleteWord, Plus, Minus, Times, Over, Percent, Less, Greater, LessEqual, GreaterEqual, Equal, NotEqual, Open, Close, Semicolon, Becomes, Index, IndexEnd, Dot, Caret, Comma, Brace, BraceEnd, Ampersand, DoubleAmpersand, At}

abbrev pub between : ℕ → ℕ → ℕ → Bool
between low high b = nat_le low b && nat_le b high

-- 0 to 9
abbrev pub digit : ℕ → Bool
digit b = between 48 57 b

-- a to z, A to Z and _
abbrev pub letter : ℕ → Bool
letter b = between 97 122 b || between 65 90 b || b == 95

abbrev pub wordy : ℕ → Bool
wordy b = letter b || digit b

-- a byte without its letter case
abbrev pub lower : ℕ → ℕ
lower b = cond (between 65 90 b) (b + 32) b

-- each byte is such a one
abbrev pub Every : (ℕ → Bool) → List ℕ → Type 0
Every p [] = Unit {0}
Every p (b ∷ bs) = (p b ≡ true) × Every p bs

-- a table of texts and their kinds
abbrev pub Table : Type 0
Table = List (List ℕ × Kind)

abbrev pub Listed : Table → List ℕ → Kind → Type 0
Listed [] bs k = ⊥
Listed (e ∷ es) bs k = ((bs ≡ e.0) × (k ≡ e.1)) ⊎ Listed es bs k

-- the reserved words, in small letters
abbrev pub words : Table
words =
    (codes "int", IntWord) ∷
    (codes "real", RealWord) ∷
    (codes "bool", BoolWord) ∷
    (codes "string", StringWord) ∷
    (codes "struct", StructWord) ∷
    (codes "and", And) ∷
    (codes "or", Or) ∷
    (codes "not", Not) ∷
    (codes "null", NullWord) ∷
    (codes "true", TrueWord) ∷
    (codes "false", FalseWord) ∷
    (codes "proc", ProcWord) ∷
    (codes "if", IfWord) ∷
    (codes "else", ElseWord) ∷
    (codes "while", WhileWord) ∷
    (codes "new", NewWord) ∷
    (codes "delete", DeleteWord) ∷
    (codes "read", ReadWord) ∷
    (codes "write", WriteWord) ∷
    (codes "nl", NlWord) ∷
    (codes "type", TypeWord) ∷
    (codes "call", CallWord) ∷
    []

abbrev pub symbols : Table
symbols =
    (codes "+", Plus) ∷
    (codes "-", Minus) ∷
    (codes "*", Times) ∷
    (codes "/", Over) ∷
    (codes "%", Percent) ∷
    (codes "<", Less) ∷
    (codes ">", Greater) ∷
    (codes "<=", LessEqual) ∷
    (codes ">=", GreaterEqual) ∷
    (codes "==", Equal) ∷
    (codes "!=", NotEqual) ∷
    (codes "(", Open) ∷
    (codes ")", Close) ∷
    (codes ";", Semicolon) ∷
    (codes "=", Becomes) ∷
    (codes "[", Index) ∷
    (codes "]", IndexEnd) ∷
    (codes ".", Dot) ∷
    (codes "^", Caret) ∷
    (codes ",", Comma) ∷
    (codes "{", Brace) ∷
    (codes "}", BraceEnd) ∷
    (codes "&", Ampersand) ∷
    (codes "&&", DoubleAmpersand) ∷
    (codes "@", At) ∷
    []

-- 0, or a digit 1 to 9 and any more digits
pub data Numeral : List ℕ → Type 0 where
  nought : Numeral (48 ∷ [])
  digits : {d : ℕ} {ds : List ℕ} → between 49 57 d ≡ true → Every digit ds → Numeral (d ∷ ds)

-- The text is a token of this kind. Reserved words are so in any letter case.
pub data Spells : Kind → List ℕ → Type 0 where
  name : {b : ℕ} {bs : List ℕ} → letter b ≡ true → Every wordy bs → ((k : Kind) → Listed words (map lower (b ∷ bs)) k → ⊥) → Spells Name (b ∷ bs)
  word : {k : Kind} {bs : List ℕ} → Listed words (map lower bs) k → Spells k bs
  literal : {bs : List ℕ} → Numeral bs → Spells Literal bs
  signed : {b : ℕ} {bs : List ℕ} → (b ≡ 43) ⊎ (b ≡ 45) → Numeral bs → Spells Literal (b ∷ bs)
  symbol : {k : Kind} {bs : List ℕ} → Listed symbols bs k → Spells k bs

-- the number that digits write, after what was read of them
abbrev pub number : ℕ → List ℕ → ℕ
number n [] = n
number n (d ∷ ds) = number (n * 10 + (d - 48)) ds

-- the number that a literal means
abbrev pub value : List ℕ → ℤ
value [] = pos 0
value (b ∷ ds) = cond (b == 45) (neg_ℤ (pos (number 0 ds))) (cond (b == 43) (pos (number 0 ds)) (pos (number 0 (b ∷ ds))))

-- from -2147483648 to 2147483647
abbrev pub in_int : ℤ → Bool
in_int (pos n) = nat_lt n 2147483648
in_int (negsuc n) = nat_lt n 2147483648

-- the value of a literal, none outside int
abbrev pub ranged : ℤ → Option ℤ
ranged v = cond (in_int v) (Some v) None

-- the value of a token; of what is no literal it is 0
abbrev pub meaning : Kind → List ℕ → Option ℤ
meaning k bs = cond (is k Literal) (ranged (value bs)) (Some (pos 0))

-- space, backspace, carriage return, tabulator, new line
abbrev pub blank : ℕ → Bool
blank b = b == 32 || b == 8 || b == 13 || b == 9 || b == 10

abbrev pub in_line : ℕ → Bool
in_line b = not (b == 10)

-- a line ends here: at the end of the source, or before a new line
abbrev pub LineEnds : List ℕ → Type 0
LineEnds [] = Unit {0}
LineEnds (b ∷ bs) = b ≡ 10

-- From the first place to the second all is ignored: blanks, and comments from ## to before the end of the line.
pub data Ignored : List ℕ → List ℕ → Type 0 where
  nothing : {bs : List ℕ} → Ignored bs bs
  blanks : {b : ℕ} {bs rest : List ℕ} → blank b ≡ true → Ignored bs rest → Ignored (b ∷ bs) rest
  comment : {bs rest : List ℕ} (line : List ℕ) → Every in_line line → LineEnds bs → Ignored bs rest → Ignored (35 ∷ 35 ∷ (line ++ bs)) rest
