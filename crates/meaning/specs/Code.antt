-- The code of a rule: what each row emits after its parts, then STOP, then the procedures in the order of their words.
use Rattle.std.specs.Prelude.{ℕ, zero, suc, ◌+◌, List, [], ◌∷◌, ◌++◌}
use Rattle.machine.specs.declared.instruction.Instruction.{Instruction}
use Rattle.machine.specs.declared.instruction.Instruction.TheVariants.{Lit, Var, Off, Ld, St, Stk, Copy, Index, Add, Sub, Mul, Div, Mod, Neg, Not, And, Or, Lt, Le, Gt, Ge, Eq, Ne, Jmp, Jf, Geti, Getb, Puti, Putb, Nl, Zero, Frame, Enter, Leave, Dup, Pop, Stop}
use Rattle.meaning.specs.Rule.{Unary, Binary, Place, Value, Argument, Formal, Action, Actions, Declarations, Block}
use Rattle.meaning.specs.Rule as Rule
use Rattle.meaning.specs.Evaluation.{formal_size, formals_size, own_size, frame_size}

-- what a name stands for in code: cells k of the frame at level l, or a procedure: its formals, frame, level and first instruction
pub data Entry : Type 0 where
  at : ℕ → ℕ → Entry
  procedure : List Formal → ℕ → ℕ → ℕ → Entry

abbrev pub Scope : Type 0
Scope = List Entry

abbrev pub var : Entry → Instruction
var (at l k) = Var l k
var (procedure fs n l t) = Var 0 0

-- what name i stands for
abbrev pub entry_of : Scope → ℕ → Entry
entry_of [] i = at 0 0
entry_of (e ∷ Γ) zero = e
entry_of (e ∷ Γ) (suc i) = entry_of Γ i

abbrev pub unary : Unary → Instruction
unary Rule.neg = Neg
unary Rule.not = Not

abbrev pub binary : Binary → Instruction
binary Rule.add = Add
binary Rule.sub = Sub
binary Rule.mul = Mul
binary Rule.quot = Div
binary Rule.rem = Mod
binary Rule.and = And
binary Rule.or = Or
binary Rule.lt = Lt
binary Rule.le = Le
binary Rule.gt = Gt
binary Rule.ge = Ge
binary Rule.eq = Eq
binary Rule.ne = Ne

abbrev mutual
  pub place : Place → Scope → List Instruction
  place (Rule.variable i) Γ = var (entry_of Γ i) ∷ []
  place (Rule.reference i) Γ = var (entry_of Γ i) ∷ Ld ∷ []
  place (Rule.field p k) Γ = place p Γ ++ (Off k ∷ [])
  place (Rule.element p v n s) Γ = place p Γ ++ (value v Γ ++ (Index n s ∷ []))

  pub value : Value → Scope → List Instruction
  value (Rule.literal z) Γ = Lit z ∷ []
  value (Rule.content p) Γ = place p Γ ++ (Ld ∷ [])
  value (Rule.unary o v) Γ = value v Γ ++ (unary o ∷ [])
  value (Rule.binary o u v) Γ = value u Γ ++ (value v Γ ++ (binary o ∷ []))
  value (Rule.store p v) Γ = place p Γ ++ (value v Γ ++ (Stk ∷ []))

abbrev pub argument : Argument → Scope → List Instruction
argument (Rule.value v) Γ = value v Γ ++ (St ∷ [])
argument (Rule.address p) Γ = place p Γ ++ (St ∷ [])
argument (Rule.copied p n) Γ = place p Γ ++ (Copy n ∷ [])

-- each argument into its formal's cells, from k on
abbrev pub arguments : List Formal → List Argument → ℕ → Scope → List Instruction
arguments [] xs k Γ = []
arguments (f ∷ fs) [] k Γ = []
arguments (f ∷ fs) (x ∷ xs) k Γ = Dup ∷ Off k ∷ (argument x Γ ++ arguments fs xs (k + formal_size f) Γ)

abbrev pub called : Entry → List Argument → Scope → List Instruction
called (at l k) xs Γ = []
called (procedure fs n l t) xs Γ = Frame n ∷ (arguments fs xs 2 Γ ++ (Enter l t ∷ []))

-- a block whose variables have any cells clears them
abbrev pub zeroing : ℕ → ℕ → ℕ → List Instruction
zeroing l k zero = []
zeroing l k (suc n) = Zero l k (suc n) ∷ []

-- how long the code of a block is, its procedures aside, and how long that of all the procedures inside it is
abbrev pub own_length : ℕ → ℕ
own_length zero = 0
own_length (suc n) = 1

abbrev mutual
  pub place_length : Place → ℕ
  place_length (Rule.variable i) = 1
  place_length (Rule.reference i) = 2
  place_length (Rule.field p k) = place_length p + 1
  place_length (Rule.element p v n s) = place_length p + (value_length v + 1)

  pub value_length : Value → ℕ
  value_length (Rule.literal z) = 1
  value_length (Rule.content p) = place_length p + 1
  value_length (Rule.unary o v) = value_length v + 1
  value_length (Rule.binary o u v) = value_length u + (value_length v + 1)
  value_length (Rule.store p v) = place_length p + (value_length v + 1)

abbrev pub argument_length : Argument → ℕ
argument_length (Rule.value v) = value_length v + 3
argument_length (Rule.address p) = place_length p + 3
argument_length (Rule.copied p n) = place_length p + 3

abbrev pub arguments_length : List Argument → ℕ
arguments_length [] = 0
arguments_length (x ∷ xs) = argument_length x + arguments_length xs

abbrev mutual
  pub action_length : Action → ℕ
  action_length (Rule.drop_place p) = place_length p + 1
  action_length (Rule.drop_value v) = value_length v + 1
  action_length (Rule.copy p q n) = place_length p + (place_length q + 1)
  action_length (Rule.choose v b) = value_length v + (1 + block_length b)
  action_length (Rule.choose_else v b c) = value_length v + (1 + (block_length b + (1 + block_length c)))
  action_length (Rule.repeat v b) = value_length v + (1 + (block_length b + 1))
  action_length (Rule.read_int p) = place_length p + 1
  action_length (Rule.read_bool p) = place_length p + 1
  action_length (Rule.write_int v) = value_length v + 1
  action_length (Rule.write_bool v) = value_length v + 1
  action_length Rule.newline = 1
  action_length (Rule.call i xs) = 1 + (arguments_length xs + 1)
  action_length (Rule.inner b) = block_length b

  pub actions_length : Actions → ℕ
  actions_length Rule.nothing = 0
  actions_length (Rule.◌then◌ a xs) = action_length a + actions_length xs

  pub block_length : Block → ℕ
  block_length (Rule.block ds xs) = own_length (own_size ds) + actions_length xs

abbrev mutual
  pub action_procs : Action → ℕ
  action_procs (Rule.drop_place p) = 0
  action_procs (Rule.drop_value v) = 0
  action_procs (Rule.copy p q n) = 0
  action_procs (Rule.choose v b) = block_procs b
  action_procs (Rule.choose_else v b c) = block_procs b + block_procs c
  action_procs (Rule.repeat v b) = block_procs b
  action_procs (Rule.read_int p) = 0
  action_procs (Rule.read_bool p) = 0
  action_procs (Rule.write_int v) = 0
  action_procs (Rule.write_bool v) = 0
  action_procs Rule.newline = 0
  action_procs (Rule.call i xs) = 0
  action_procs (Rule.inner b) = block_procs b

  pub actions_procs : Actions → ℕ
  actions_procs Rule.nothing = 0
  actions_procs (Rule.◌then◌ a xs) = action_procs a + actions_procs xs

  pub declared_procs : Declarations → ℕ
  declared_procs Rule.none = 0
  declared_procs (Rule.local s ds) = declared_procs ds
  declared_procs (Rule.proc fs b ds) = (block_length b + 1 + block_procs b) + declared_procs ds

  pub block_procs : Block → ℕ
  block_procs (Rule.block ds xs) = declared_procs ds + actions_procs xs

-- the names that a block declares: at level l, variables from k on, procedures from instruction t on
abbrev pub declared : Declarations → ℕ → ℕ → ℕ → Scope → Scope
declared Rule.none l k t Γ = Γ
declared (Rule.local s ds) l k t Γ = declared ds l (k + s) t (at l k ∷ Γ)
declared (Rule.proc fs b ds) l k t Γ = declared ds l k (t + (block_length b + 1 + block_procs b)) (procedure fs (frame_size fs b) (suc l) t ∷ Γ)

-- a procedure's formals, at level l from k on
abbrev pub formals : List Formal → ℕ → ℕ → Scope → Scope
formals [] l k Γ = Γ
formals (f ∷ fs) l k Γ = formals fs l (k + formal_size f) (at l k ∷ Γ)

-- l: level, k: next free cell of the frame, pc: where this code begins, t: where the code of the procedures inside begins
abbrev mutual
  pub action : Action → Scope → ℕ → ℕ → ℕ → ℕ → List Instruction
  action (Rule.drop_place p) Γ l k pc t = place p Γ ++ (Pop ∷ [])
  action (Rule.drop_value v) Γ l k pc t = value v Γ ++ (Pop ∷ [])
  action (Rule.copy p q n) Γ l k pc t = place p Γ ++ (place q Γ ++ (Copy n ∷ []))
  action (Rule.choose v b) Γ l k pc t =
      value v Γ ++ (Jf (pc + (value_length v + (1 + block_length b))) ∷ block b Γ l k (pc + (value_length v + 1)) t)
  action (Rule.choose_else v b c) Γ l k pc t =
      value v Γ ++ (Jf (pc + (value_length v + (1 + (block_length b + 1)))) ∷ (block b Γ l k (pc + (value_length v + 1)) t
      ++ (Jmp (pc + (value_length v + (1 + (block_length b + (1 + block_length c))))) ∷ block c Γ l k (pc + (value_length v + (1 + (block_length b + 1)))) (t + block_procs b))))
  action (Rule.repeat v b) Γ l k pc t =
      value v Γ ++ (Jf (pc + (value_length v + (1 + (block_length b + 1)))) ∷ (block b Γ l k (pc + (value_length v + 1)) t ++ (Jmp pc ∷ [])))
  action (Rule.read_int p) Γ l k pc t = place p Γ ++ (Geti ∷ [])
  action (Rule.read_bool p) Γ l k pc t = place p Γ ++ (Getb ∷ [])
  action (Rule.write_int v) Γ l k pc t = value v Γ ++ (Puti ∷ [])
  action (Rule.write_bool v) Γ l k pc t = value v Γ ++ (Putb ∷ [])
  action Rule.newline Γ l k pc t = Nl ∷ []
  action (Rule.call i xs) Γ l k pc t = called (entry_of Γ i) xs Γ
  action (Rule.inner b) Γ l k pc t = block b Γ l k pc t

  pub actions : Actions → Scope → ℕ → ℕ → ℕ → ℕ → List Instruction
  actions Rule.nothing Γ l k pc t = []
  actions (Rule.◌then◌ a xs) Γ l k pc t = action a Γ l k pc t ++ actions xs Γ l k (pc + action_length a) (t + action_procs a)

  pub block : Block → Scope → ℕ → ℕ → ℕ → ℕ → List Instruction
  block (Rule.block ds xs) Γ l k pc t =
      zeroing l k (own_size ds) ++ actions xs (declared ds l k t Γ) l (k + own_size ds) (pc + own_length (own_size ds)) (t + declared_procs ds)

-- the code of all the procedures inside, in the order in which they are declared
abbrev mutual
  pub procs_action : Action → Scope → ℕ → ℕ → ℕ → List Instruction
  procs_action (Rule.drop_place p) Γ l k t = []
  procs_action (Rule.drop_value v) Γ l k t = []
  procs_action (Rule.copy p q n) Γ l k t = []
  procs_action (Rule.choose v b) Γ l k t = procs_block b Γ l k t
  procs_action (Rule.choose_else v b c) Γ l k t = procs_block b Γ l k t ++ procs_block c Γ l k (t + block_procs b)
  procs_action (Rule.repeat v b) Γ l k t = procs_block b Γ l k t
  procs_action (Rule.read_int p) Γ l k t = []
  procs_action (Rule.read_bool p) Γ l k t = []
  procs_action (Rule.write_int v) Γ l k t = []
  procs_action (Rule.write_bool v) Γ l k t = []
  procs_action Rule.newline Γ l k t = []
  procs_action (Rule.call i xs) Γ l k t = []
  procs_action (Rule.inner b) Γ l k t = procs_block b Γ l k t

  pub procs_actions : Actions → Scope → ℕ → ℕ → ℕ → List Instruction
  procs_actions Rule.nothing Γ l k t = []
  procs_actions (Rule.◌then◌ a xs) Γ l k t = procs_action a Γ l k t ++ procs_actions xs Γ l k (t + action_procs a)

  pub procs_declared : Declarations → Scope → ℕ → ℕ → ℕ → List Instruction
  procs_declared Rule.none Γ l k t = []
  procs_declared (Rule.local s ds) Γ l k t = procs_declared ds (at l k ∷ Γ) l (k + s) t
  procs_declared (Rule.proc fs b ds) Γ l k t =
      let here : Scope = procedure fs (frame_size fs b) (suc l) t ∷ Γ in
      let inside : Scope = formals fs (suc l) 2 here in
      block b inside (suc l) (2 + formals_size fs) t (t + (block_length b + 1)) ++ (Leave (suc l) ∷
      (procs_block b inside (suc l) (2 + formals_size fs) (t + (block_length b + 1)) ++ procs_declared ds here l k (t + (block_length b + 1 + block_procs b))))

  pub procs_block : Block → Scope → ℕ → ℕ → ℕ → List Instruction
  procs_block (Rule.block ds xs) Γ l k t =
      procs_declared ds Γ l k t ++ procs_actions xs (declared ds l k t Γ) l (k + own_size ds) (t + declared_procs ds)

abbrev pub program : Block → List Instruction
program b = Frame (frame_size [] b) ∷ Pop ∷ (block b [] 0 2 2 (block_length b + 3) ++ (Stop ∷ procs_block b [] 0 2 (block_length b + 3)))
