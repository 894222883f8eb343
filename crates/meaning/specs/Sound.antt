-- What the checks establish of a rule: each name stands for a thing of the kind and size that its use needs,
-- each frame base is one of nine, and no evaluation needs more than 128 operands.
use Rattle.std.specs.Prelude.{◌≡◌, ℕ, zero, suc, ◌+◌, ◌*◌, ◌≤◌, max, List, [], ◌∷◌}
use Rattle.meaning.specs.Rule.{Place, Value, Argument, Formal, Action, Actions, Declarations, Block}
use Rattle.meaning.specs.Rule as Rule

-- what a name stands for: that many cells, a reference to that many cells, or a procedure
pub data Slot : Type 0 where
  holds : ℕ → Slot
  refers : ℕ → Slot
  takes : List Formal → Slot
  missing : Slot

abbrev pub slot : List Slot → ℕ → Slot
slot [] i = missing
slot (x ∷ σ) zero = x
slot (x ∷ σ) (suc i) = slot σ i

abbrev mutual
  -- a designator of s cells
  pub FitsPlace : Place → List Slot → ℕ → Type 0
  FitsPlace (Rule.variable i) σ s = slot σ i ≡ holds s
  FitsPlace (Rule.reference i) σ s = slot σ i ≡ refers s
  FitsPlace (Rule.field p k) σ s = (whole : ℕ) × FitsPlace p σ whole × (k + s ≤ whole)
  FitsPlace (Rule.element p v n w) σ s = FitsPlace p σ (n * w) × FitsValue v σ × (s ≡ w)

  pub FitsValue : Value → List Slot → Type 0
  FitsValue (Rule.literal z) σ = Unit {0}
  FitsValue (Rule.content p) σ = FitsPlace p σ 1
  FitsValue (Rule.unary o v) σ = FitsValue v σ
  FitsValue (Rule.binary o u v) σ = FitsValue u σ × FitsValue v σ
  FitsValue (Rule.store p v) σ = FitsPlace p σ 1 × FitsValue v σ

abbrev pub FitsArgument : Formal → Argument → List Slot → Type 0
FitsArgument (Rule.by_value s) (Rule.value v) σ = (s ≡ 1) × FitsValue v σ
FitsArgument (Rule.by_value s) (Rule.address p) σ = ⊥
FitsArgument (Rule.by_value s) (Rule.copied p n) σ = (n ≡ s) × FitsPlace p σ s
FitsArgument (Rule.by_reference s) (Rule.value v) σ = ⊥
FitsArgument (Rule.by_reference s) (Rule.address p) σ = FitsPlace p σ s
FitsArgument (Rule.by_reference s) (Rule.copied p n) σ = ⊥

abbrev pub FitsArguments : List Formal → List Argument → List Slot → Type 0
FitsArguments [] [] σ = Unit {0}
FitsArguments [] (x ∷ xs) σ = ⊥
FitsArguments (f ∷ fs) [] σ = ⊥
FitsArguments (f ∷ fs) (x ∷ xs) σ = FitsArgument f x σ × FitsArguments fs xs σ

abbrev pub FitsCall : Slot → List Argument → List Slot → Type 0
FitsCall (holds s) xs σ = ⊥
FitsCall (refers s) xs σ = ⊥
FitsCall (takes fs) xs σ = FitsArguments fs xs σ
FitsCall missing xs σ = ⊥

abbrev pub formal_slot : Formal → Slot
formal_slot (Rule.by_value s) = holds s
formal_slot (Rule.by_reference s) = refers s

abbrev pub formal_slots : List Formal → List Slot → List Slot
formal_slots [] σ = σ
formal_slots (f ∷ fs) σ = formal_slots fs (formal_slot f ∷ σ)

abbrev pub slots : Declarations → List Slot → List Slot
slots Rule.none σ = σ
slots (Rule.local s ds) σ = slots ds (holds s ∷ σ)
slots (Rule.proc fs b ds) σ = slots ds (takes fs ∷ σ)

-- at level l
abbrev mutual
  pub FitsAction : Action → List Slot → ℕ → Type 0
  FitsAction (Rule.drop_place p) σ l = (s : ℕ) × FitsPlace p σ s
  FitsAction (Rule.drop_value v) σ l = FitsValue v σ
  FitsAction (Rule.copy p q n) σ l = FitsPlace p σ n × FitsPlace q σ n
  FitsAction (Rule.choose v b) σ l = FitsValue v σ × FitsBlock b σ l
  FitsAction (Rule.choose_else v b c) σ l = FitsValue v σ × FitsBlock b σ l × FitsBlock c σ l
  FitsAction (Rule.repeat v b) σ l = FitsValue v σ × FitsBlock b σ l
  FitsAction (Rule.read_int p) σ l = FitsPlace p σ 1
  FitsAction (Rule.read_bool p) σ l = FitsPlace p σ 1
  FitsAction (Rule.write_int v) σ l = FitsValue v σ
  FitsAction (Rule.write_bool v) σ l = FitsValue v σ
  FitsAction Rule.newline σ l = Unit {0}
  FitsAction (Rule.call i xs) σ l = FitsCall (slot σ i) xs σ
  FitsAction (Rule.inner b) σ l = FitsBlock b σ l

  pub FitsActions : Actions → List Slot → ℕ → Type 0
  FitsActions Rule.nothing σ l = Unit {0}
  FitsActions (Rule.◌then◌ a xs) σ l = FitsAction a σ l × FitsActions xs σ l

  pub FitsDeclarations : Declarations → List Slot → ℕ → Type 0
  FitsDeclarations Rule.none σ l = Unit {0}
  FitsDeclarations (Rule.local s ds) σ l = FitsDeclarations ds (holds s ∷ σ) l
  FitsDeclarations (Rule.proc fs b ds) σ l =
      (suc l ≤ 8) × FitsBlock b (formal_slots fs (takes fs ∷ σ)) (suc l) × FitsDeclarations ds (takes fs ∷ σ) l

  pub FitsBlock : Block → List Slot → ℕ → Type 0
  FitsBlock (Rule.block ds xs) σ l = FitsDeclarations ds σ l × FitsActions xs (slots ds σ) l

-- the most operands that stand at one time
abbrev mutual
  pub place_need : Place → ℕ
  place_need (Rule.variable i) = 1
  place_need (Rule.reference i) = 1
  place_need (Rule.field p k) = place_need p
  place_need (Rule.element p v n w) = max (place_need p) (1 + value_need v)

  pub value_need : Value → ℕ
  value_need (Rule.literal z) = 1
  value_need (Rule.content p) = place_need p
  value_need (Rule.unary o v) = value_need v
  value_need (Rule.binary o u v) = max (value_need u) (1 + value_need v)
  value_need (Rule.store p v) = max (place_need p) (1 + value_need v)

abbrev pub argument_need : Argument → ℕ
argument_need (Rule.value v) = value_need v
argument_need (Rule.address p) = place_need p
argument_need (Rule.copied p n) = place_need p

abbrev pub arguments_need : List Argument → ℕ
arguments_need [] = 0
arguments_need (x ∷ xs) = max (argument_need x) (arguments_need xs)

abbrev mutual
  pub action_need : Action → ℕ
  action_need (Rule.drop_place p) = place_need p
  action_need (Rule.drop_value v) = value_need v
  action_need (Rule.copy p q n) = max (place_need p) (1 + place_need q)
  action_need (Rule.choose v b) = max (value_need v) (block_need b)
  action_need (Rule.choose_else v b c) = max (value_need v) (max (block_need b) (block_need c))
  action_need (Rule.repeat v b) = max (value_need v) (block_need b)
  action_need (Rule.read_int p) = place_need p
  action_need (Rule.read_bool p) = place_need p
  action_need (Rule.write_int v) = value_need v
  action_need (Rule.write_bool v) = value_need v
  action_need Rule.newline = 0
  action_need (Rule.call i xs) = 2 + arguments_need xs
  action_need (Rule.inner b) = block_need b

  pub actions_need : Actions → ℕ
  actions_need Rule.nothing = 0
  actions_need (Rule.◌then◌ a xs) = max (action_need a) (actions_need xs)

  pub declarations_need : Declarations → ℕ
  declarations_need Rule.none = 0
  declarations_need (Rule.local s ds) = declarations_need ds
  declarations_need (Rule.proc fs b ds) = max (block_need b) (declarations_need ds)

  pub block_need : Block → ℕ
  block_need (Rule.block ds xs) = max (declarations_need ds) (actions_need xs)

pub record Sound (b : Block) : Type 0 where
  pub fits : FitsBlock b [] 0
  pub needs : block_need b ≤ 128
