-- Kinds that are equal are those with one number.
use Rattle.std.proofs.Common.{◌≡◌, Bool, true, false, List, [], ◌∷◌, get_or, eq-eqb, refl, sym, ap, ◌∙◌, rules}
use Rattle.std.proofs.lemmas.Bool.{eqb-true}
use denote.Enum.Bare.{sameb, same_true, true_same}
use Rattle.tiny.specs.contracts.tokens.Kind.{the_type}
use Rattle.tiny.specs.declared.tokens.Kind.{Kind}
use Rattle.tiny.specs.declared.tokens.Kind.TheVariants.{Name, Literal, TrueWord, FalseWord, IntWord, BoolWord, StructWord, TypeWord, ProcWord, IfWord, ElseWord, WhileWord, ReadWord, WriteWord, NlWord, CallWord, And, Or, Not, RealWord, StringWord, NullWord, NewWord, DeleteWord, Plus, Minus, Times, Over, Percent, Less, Greater, LessEqual, GreaterEqual, Equal, NotEqual, Open, Close, Semicolon, Becomes, Index, IndexEnd, Dot, Caret, Comma, Brace, BraceEnd, Ampersand, DoubleAmpersand, At}
use Rattle.tiny.specs.Token.{is, code}

kinds : List Kind
kinds = Name ∷ Literal ∷ TrueWord ∷ FalseWord ∷ IntWord ∷ BoolWord ∷ StructWord ∷ TypeWord ∷ ProcWord ∷ IfWord ∷ ElseWord ∷ WhileWord ∷ ReadWord ∷ WriteWord ∷ NlWord ∷ CallWord ∷ And ∷ Or ∷ Not ∷ RealWord ∷ StringWord ∷ NullWord ∷ NewWord ∷ DeleteWord ∷ Plus ∷ Minus ∷ Times ∷ Over ∷ Percent ∷ Less ∷ Greater ∷ LessEqual ∷ GreaterEqual ∷ Equal ∷ NotEqual ∷ Open ∷ Close ∷ Semicolon ∷ Becomes ∷ Index ∷ IndexEnd ∷ Dot ∷ Caret ∷ Comma ∷ Brace ∷ BraceEnd ∷ Ampersand ∷ DoubleAmpersand ∷ At ∷ []

numbered : (k : Kind) → get_or kinds (code k) Name ≡ k
unfolding kinds
numbered k = elim k as (λ k. get_or kinds (code k) Name ≡ k) [
  | Name ↦ refl
  | Literal ↦ refl
  | TrueWord ↦ refl
  | FalseWord ↦ refl
  | IntWord ↦ refl
  | BoolWord ↦ refl
  | StructWord ↦ refl
  | TypeWord ↦ refl
  | ProcWord ↦ refl
  | IfWord ↦ refl
  | ElseWord ↦ refl
  | WhileWord ↦ refl
  | ReadWord ↦ refl
  | WriteWord ↦ refl
  | NlWord ↦ refl
  | CallWord ↦ refl
  | And ↦ refl
  | Or ↦ refl
  | Not ↦ refl
  | RealWord ↦ refl
  | StringWord ↦ refl
  | NullWord ↦ refl
  | NewWord ↦ refl
  | DeleteWord ↦ refl
  | Plus ↦ refl
  | Minus ↦ refl
  | Times ↦ refl
  | Over ↦ refl
  | Percent ↦ refl
  | Less ↦ refl
  | Greater ↦ refl
  | LessEqual ↦ refl
  | GreaterEqual ↦ refl
  | Equal ↦ refl
  | NotEqual ↦ refl
  | Open ↦ refl
  | Close ↦ refl
  | Semicolon ↦ refl
  | Becomes ↦ refl
  | Index ↦ refl
  | IndexEnd ↦ refl
  | Dot ↦ refl
  | Caret ↦ refl
  | Comma ↦ refl
  | Brace ↦ refl
  | BraceEnd ↦ refl
  | Ampersand ↦ refl
  | DoubleAmpersand ↦ refl
  | At ↦ refl
]

one_number : (k j : Kind) → code k ≡ code j → k ≡ j
one_number k j e = sym (numbered k) ∙ ap (λ n. get_or kinds n Name) e ∙ numbered j

alike : (b c : Bool) → (b ≡ true → c ≡ true) → (c ≡ true → b ≡ true) → b ≡ c
alike true c f g = sym (f refl)
alike false true f g = g refl
alike false false f g = refl

-- the flag of `==`
pub same_is : (k j : Kind) → sameb the_type k j ≡ is k j
same_is k j =
    alike (sameb the_type k j) (is k j)
    (λ e. eq-eqb (code k) (code j) (ap code (same_true the_type (search rules) k j e)))
    (λ e. true_same the_type k j (one_number k j (eqb-true (code k) (code j) e)))

pub told : {b : Bool} (k j : Kind) → b ≡ sameb the_type k j → b ≡ is k j
told k j e = e ∙ same_is k j

pub is_kind : {k j : Kind} → k ≡ j → is k j ≡ true
is_kind {k} {j} e = eq-eqb (code k) (code j) (ap code e)

pub is_other : {k j : Kind} → (k ≡ j → ⊥) → is k j ≡ false
is_other {k} {j} f = no (is k j) (λ e. f (one_number k j (eqb-true (code k) (code j) e)))
  where
    no : (b : Bool) → (b ≡ true → ⊥) → b ≡ false
    no true f = absurd (f refl)
    no false f = refl
