-- Kinds are told apart by their numbers.
use Rattle.std.proofs.Common.{◌≡◌, true, List, [], ◌∷◌, get_or, sym, refl, ap, ◌∙◌, subst, inl, inr}
use Rattle.std.proofs.lemmas.Bool.{eqb-true}
use Rattle.tiny.specs.declared.tokens.Kind.{Kind}
use Rattle.tiny.specs.declared.tokens.Kind.TheVariants.{Name, Literal, TrueWord, FalseWord, IntWord, BoolWord, StructWord, TypeWord, ProcWord, IfWord, ElseWord, WhileWord, ReadWord, WriteWord, NlWord, CallWord, And, Or, Not, RealWord, StringWord, NullWord, NewWord, DeleteWord, Plus, Minus, Times, Over, Percent, Less, Greater, LessEqual, GreaterEqual, Equal, NotEqual, Open, Close, Semicolon, Becomes, Index, IndexEnd, Dot, Caret, Comma, Brace, BraceEnd, Ampersand, DoubleAmpersand, At}
use Rattle.tiny.specs.Token.{Token, code, is}
use Rattle.syntax.specs.Grammar.{OneOf}

abbrev all : List Kind
all = Name ∷ Literal ∷ TrueWord ∷ FalseWord ∷ IntWord ∷ BoolWord ∷ StructWord ∷ TypeWord ∷ ProcWord ∷ IfWord ∷ ElseWord ∷ WhileWord ∷ ReadWord
    ∷ WriteWord ∷ NlWord ∷ CallWord ∷ And ∷ Or ∷ Not ∷ RealWord ∷ StringWord ∷ NullWord ∷ NewWord ∷ DeleteWord ∷ Plus ∷ Minus ∷ Times ∷ Over
    ∷ Percent ∷ Less ∷ Greater ∷ LessEqual ∷ GreaterEqual ∷ Equal ∷ NotEqual ∷ Open ∷ Close ∷ Semicolon ∷ Becomes ∷ Index ∷ IndexEnd ∷ Dot
    ∷ Caret ∷ Comma ∷ Brace ∷ BraceEnd ∷ Ampersand ∷ DoubleAmpersand ∷ At ∷ []

decoded : (k : Kind) → get_or all (code k) Name ≡ k
decoded = elim [
  | Name ↦ refl
  | Literal ↦ refl
  | TrueWord ↦ refl
  | FalseWord ↦ refl
  | IntWord ↦ refl
  | BoolWord ↦ refl
  | StructWord ↦ refl
  | TypeWord ↦ refl
  | ProcWord ↦ refl
  | IfWord ↦ refl
  | ElseWord ↦ refl
  | WhileWord ↦ refl
  | ReadWord ↦ refl
  | WriteWord ↦ refl
  | NlWord ↦ refl
  | CallWord ↦ refl
  | And ↦ refl
  | Or ↦ refl
  | Not ↦ refl
  | RealWord ↦ refl
  | StringWord ↦ refl
  | NullWord ↦ refl
  | NewWord ↦ refl
  | DeleteWord ↦ refl
  | Plus ↦ refl
  | Minus ↦ refl
  | Times ↦ refl
  | Over ↦ refl
  | Percent ↦ refl
  | Less ↦ refl
  | Greater ↦ refl
  | LessEqual ↦ refl
  | GreaterEqual ↦ refl
  | Equal ↦ refl
  | NotEqual ↦ refl
  | Open ↦ refl
  | Close ↦ refl
  | Semicolon ↦ refl
  | Becomes ↦ refl
  | Index ↦ refl
  | IndexEnd ↦ refl
  | Dot ↦ refl
  | Caret ↦ refl
  | Comma ↦ refl
  | Brace ↦ refl
  | BraceEnd ↦ refl
  | Ampersand ↦ refl
  | DoubleAmpersand ↦ refl
  | At ↦ refl
]

pub is_same : (j k : Kind) → is j k ≡ true → j ≡ k
is_same j k e = sym (decoded j) ∙ ap (λ n. get_or all n Name) (eqb-true _ _ e) ∙ decoded k

-- what holds of each of some kinds holds of a token's that is one of them
abbrev pub All : (Kind → Type 0) → List Kind → Type 0
All P [] = Unit {0}
All P (k ∷ ks) = P k × All P ks

pub pick : (P : Kind → Type 0) (ks : List Kind) (t : Token) → OneOf ks t → All P ks → P t.kind
pick P [] t o a = absurd o
pick P (k ∷ ks) t (inl e) a = subst P (sym e) a.0
pick P (k ∷ ks) t (inr o) a = pick P ks t o a.1
