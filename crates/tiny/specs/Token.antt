-- A token: its kind, the place of its first byte, its bytes, and of a literal its value.
use Rattle.std.specs.Prelude.{ℕ, Bool, List, [], ◌∷◌, ℤ, ◌==◌}
use Rattle.tiny.specs.declared.tokens.Kind.{Kind}
use Rattle.tiny.specs.declared.tokens.Class.{Class}
use Rattle.tiny.specs.declared.tokens.Class.TheVariants.{Word, Unused, Symbol}
use Rattle.tiny.specs.declared.tokens.Kind.TheVariants.{Name, Literal, TrueWord, FalseWord, IntWord, BoolWord, StructWord, TypeWord, ProcWord, IfWord, ElseWord, WhileWord, ReadWord, WriteWord, NlWord, CallWord, And, Or, Not, RealWord, StringWord, NullWord, NewWord, DeleteWord, Plus, Minus, Times, Over, Percent, Less, Greater, LessEqual, GreaterEqual, Equal, NotEqual, Open, Close, Semicolon, Becomes, Index, IndexEnd, Dot, Caret, Comma, Brace, BraceEnd, Ampersand, DoubleAmpersand, At}

pub record Token : Type 0 where
  pub kind : Kind
  pub place : ℕ
  pub text : List ℕ
  pub value : ℤ

-- kinds are told apart by their numbers
abbrev pub code : Kind → ℕ
code k = elim k [
  | Name ↦ 0
  | Literal ↦ 1
  | TrueWord ↦ 2
  | FalseWord ↦ 3
  | IntWord ↦ 4
  | BoolWord ↦ 5
  | StructWord ↦ 6
  | TypeWord ↦ 7
  | ProcWord ↦ 8
  | IfWord ↦ 9
  | ElseWord ↦ 10
  | WhileWord ↦ 11
  | ReadWord ↦ 12
  | WriteWord ↦ 13
  | NlWord ↦ 14
  | CallWord ↦ 15
  | And ↦ 16
  | Or ↦ 17
  | Not ↦ 18
  | RealWord ↦ 19
  | StringWord ↦ 20
  | NullWord ↦ 21
  | NewWord ↦ 22
  | DeleteWord ↦ 23
  | Plus ↦ 24
  | Minus ↦ 25
  | Times ↦ 26
  | Over ↦ 27
  | Percent ↦ 28
  | Less ↦ 29
  | Greater ↦ 30
  | LessEqual ↦ 31
  | GreaterEqual ↦ 32
  | Equal ↦ 33
  | NotEqual ↦ 34
  | Open ↦ 35
  | Close ↦ 36
  | Semicolon ↦ 37
  | Becomes ↦ 38
  | Index ↦ 39
  | IndexEnd ↦ 40
  | Dot ↦ 41
  | Caret ↦ 42
  | Comma ↦ 43
  | Brace ↦ 44
  | BraceEnd ↦ 45
  | Ampersand ↦ 46
  | DoubleAmpersand ↦ 47
  | At ↦ 48
]

-- words, words of no rule, and symbols
abbrev pub class : Kind → Class
class k = elim k [
  | Name ↦ Class.Name
  | Literal ↦ Class.Literal
  | TrueWord ↦ Word
  | FalseWord ↦ Word
  | IntWord ↦ Word
  | BoolWord ↦ Word
  | StructWord ↦ Word
  | TypeWord ↦ Word
  | ProcWord ↦ Word
  | IfWord ↦ Word
  | ElseWord ↦ Word
  | WhileWord ↦ Word
  | ReadWord ↦ Word
  | WriteWord ↦ Word
  | NlWord ↦ Word
  | CallWord ↦ Word
  | And ↦ Word
  | Or ↦ Word
  | Not ↦ Word
  | RealWord ↦ Unused
  | StringWord ↦ Unused
  | NullWord ↦ Unused
  | NewWord ↦ Unused
  | DeleteWord ↦ Unused
  | Plus ↦ Symbol
  | Minus ↦ Symbol
  | Times ↦ Symbol
  | Over ↦ Symbol
  | Percent ↦ Symbol
  | Less ↦ Symbol
  | Greater ↦ Symbol
  | LessEqual ↦ Symbol
  | GreaterEqual ↦ Symbol
  | Equal ↦ Symbol
  | NotEqual ↦ Symbol
  | Open ↦ Symbol
  | Close ↦ Symbol
  | Semicolon ↦ Symbol
  | Becomes ↦ Symbol
  | Index ↦ Symbol
  | IndexEnd ↦ Symbol
  | Dot ↦ Symbol
  | Caret ↦ Symbol
  | Comma ↦ Symbol
  | Brace ↦ Symbol
  | BraceEnd ↦ Symbol
  | Ampersand ↦ Symbol
  | DoubleAmpersand ↦ Symbol
  | At ↦ Symbol
]

abbrev pub is : Kind → Kind → Bool
is k j = code k == code j

abbrev pub truths : List Kind
truths = TrueWord ∷ FalseWord ∷ []

abbrev pub prefixes : List Kind
prefixes = Minus ∷ Not ∷ []

abbrev pub factors : List Kind
factors = Times ∷ Over ∷ Percent ∷ []

abbrev pub relations : List Kind
relations = Less ∷ Greater ∷ LessEqual ∷ GreaterEqual ∷ Equal ∷ NotEqual ∷ []

abbrev pub basic_types : List Kind
basic_types = IntWord ∷ BoolWord ∷ []
