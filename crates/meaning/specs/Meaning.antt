-- What a rule means.
-- A variable is an object of its own: a list of integers, new and all 0 when its block is entered, gone when the block ends.
-- A formal by value is an object of its own too: it begins as the argument, and is gone when the procedure's body ends.
-- A formal by reference is no object: it stands for the place that it was given.
-- Each row makes its charges, and the evaluation is cut off before charge `limit` + 1.
use Rattle.std.specs.Prelude.{ℕ, zero, suc, ◌+◌, ◌-◌, true, false, not, List, [], ◌∷◌, length, take, replicate, ℤ, pos, ◌==◌, nat_le}
use Rattle.meaning.specs.Rule.{Place, Value, Argument, Formal, Action, Actions, Declarations, Block}
use Rattle.meaning.specs.Rule as Rule
use Rattle.machine.specs.Ints.{unary_of, binary_of, is_zero}
use Rattle.machine.specs.Host.{Host, as_int, as_bool}
use Rattle.machine.specs.declared.host.Event.TheVariants.{Int as wrote_int, Bool as wrote_bool, Line as wrote_line}
use Rattle.meaning.specs.Sizes.{own_size, frame_size}
use Rattle.meaning.specs.Objects.{State, Outcome, done, cut, fault, ◌>>=◌, ◌>>◌, return, Reference, beyond, Binding, names, procedure, Env, reference_of, new, part, load, save, move, scoped, settle, indexed, hear, said, contents}

-- the names that a block declares, with a new object for each variable
abbrev pub declare : Declarations → Env → State → Outcome Env
declare Rule.none ρ = return ρ
declare (Rule.local n ds) ρ = do
  r ← new (replicate n (pos 0))
  declare ds (names r ∷ ρ)
declare (Rule.proc fs b ds) ρ = declare ds (procedure fs b ∷ ρ)

-- at most `limit` charges, and at most `room` cells in the open calls
module _ (limit room : ℕ) where
  abbrev pub charge : State → Outcome Unit
  charge s =
      elim (s.count == limit) [
        | true ↦ cut s
        | false ↦ done tt (record { objects = s.objects; used = s.used; host = s.host; count = suc s.count })
      ]

  abbrev mutual
    pub place : Place → Env → State → Outcome Reference
    place (Rule.variable i) ρ = do
      charge
      return (reference_of ρ i)
    place (Rule.reference i) ρ = do
      charge
      charge
      return (reference_of ρ i)
    place (Rule.field p k) ρ = do
      r ← place p ρ
      charge
      return (beyond r k)
    place (Rule.element p v n m) ρ = do
      r ← place p ρ
      i ← value v ρ
      charge
      indexed r i n m

    pub value : Value → Env → State → Outcome ℤ
    value (Rule.literal z) ρ = do
      charge
      return z
    value (Rule.content p) ρ = do
      r ← place p ρ
      charge
      load r
    value (Rule.unary o v) ρ = do
      x ← value v ρ
      charge
      settle (unary_of o x)
    value (Rule.binary o u v) ρ = do
      x ← value u ρ
      y ← value v ρ
      charge
      settle (binary_of o x y)
    value (Rule.store p v) ρ = do
      r ← place p ρ
      x ← value v ρ
      charge
      save r x
      return x

  -- a call counts n cells more; the answer is how many objects are open
  abbrev pub enter : ℕ → State → Outcome ℕ
  enter n s =
      elim (nat_le (s.used + n) room) [
        | true ↦ done (length s.objects) (record { objects = s.objects; used = s.used + n; host = s.host; count = s.count })
        | false ↦ fault 27 s
      ]

  -- the call's n cells go, and the objects past the first o
  abbrev pub leave : ℕ → ℕ → State → Outcome Unit
  leave n o s = done tt (record { objects = take o s.objects; used = s.used - n; host = s.host; count = s.count })

  -- what a formal stands for
  abbrev pub given : Argument → Env → State → Outcome Binding
  given (Rule.value v) ρ = do
    charge
    charge
    x ← value v ρ
    charge
    r ← new (x ∷ [])
    return (names r)
  given (Rule.address p) ρ = do
    charge
    charge
    r ← place p ρ
    charge
    return (names r)
  given (Rule.copied p n) ρ = do
    charge
    charge
    q ← place p ρ
    charge
    r ← (λ s. new (part s q n) s)
    return (names r)

  -- a call's arguments, left to right, each evaluated under the names ρ; the formals come before the names ρ'
  abbrev pub arguments : List Formal → List Argument → Env → Env → State → Outcome Env
  arguments [] xs ρ ρ' = return ρ'
  arguments (f ∷ fs) [] ρ ρ' = return ρ'
  arguments (f ∷ fs) (x ∷ xs) ρ ρ' = do
    b ← given x ρ
    arguments fs xs ρ (b ∷ ρ')

  -- a block whose variables have n integers, if any at all, makes a charge
  abbrev pub entry : ℕ → State → Outcome Unit
  entry zero = return tt
  entry (suc n) = charge

  -- `again` runs what a further charge stands before: a while's next turn, a procedure's body
  module _ (again : Action → Env → State → Outcome Unit) where
    -- a call, under the names ρ, of a procedure whose body sees the names ρ' behind its formals
    abbrev pub called : Binding → List Argument → Env → Env → State → Outcome Unit
    called (names r) xs ρ ρ' = return tt
    called (procedure fs b) xs ρ ρ' = do
      charge
      o ← enter (frame_size fs b)
      inside ← arguments fs xs ρ ρ'
      charge
      again (Rule.inner b) inside
      charge
      leave (frame_size fs b) o

    abbrev pub found : Env → ℕ → List Argument → Env → State → Outcome Unit
    found [] i xs ρ = return tt
    found (b ∷ ρ') zero xs ρ = called b xs ρ (b ∷ ρ')
    found (b ∷ ρ') (suc i) xs ρ = found ρ' i xs ρ

    abbrev mutual
      pub act : Action → Env → State → Outcome Unit
      act (Rule.drop_place p) ρ = do
        place p ρ
        charge
      act (Rule.drop_value v) ρ = do
        value v ρ
        charge
      act (Rule.copy p q n) ρ = do
        r ← place p ρ
        t ← place q ρ
        charge
        move r t n
      act (Rule.choose v b) ρ = do
        x ← value v ρ
        charge
        elim (is_zero x) [ true ↦ return tt | false ↦ scoped (block b ρ) ]
      act (Rule.choose_else v b c) ρ = do
        x ← value v ρ
        charge
        elim (is_zero x) [ true ↦ scoped (block c ρ) | false ↦ scoped (block b ρ) >> charge ]
      act (Rule.repeat v b) ρ = do
        x ← value v ρ
        charge
        elim (is_zero x) [ true ↦ return tt | false ↦ scoped (block b ρ) >> (charge >> again (Rule.repeat v b) ρ) ]
      act (Rule.read_int p) ρ = do
        r ← place p ρ
        charge
        z ← (λ s. hear s.host.items as_int s)
        save r z
      act (Rule.read_bool p) ρ = do
        r ← place p ρ
        charge
        z ← (λ s. hear s.host.items as_bool s)
        save r z
      act (Rule.write_int v) ρ = do
        x ← value v ρ
        charge
        said (wrote_int x)
      act (Rule.write_bool v) ρ = do
        x ← value v ρ
        charge
        said (wrote_bool (not (is_zero x)))
      act Rule.newline ρ = do
        charge
        said wrote_line
      act (Rule.call i xs) ρ = found ρ i xs ρ
      act (Rule.inner b) ρ = scoped (block b ρ)

      pub act_all : Actions → Env → State → Outcome Unit
      act_all Rule.nothing ρ = return tt
      act_all (Rule.◌then◌ a xs) ρ = do
        act a ρ
        act_all xs ρ

      -- a block, whose objects stay
      pub block : Block → Env → State → Outcome Unit
      block (Rule.block ds xs) ρ = do
        entry (own_size ds)
        inside ← declare ds ρ
        act_all xs inside

  -- Each use of `again` comes after a charge of its own, so `limit` ranks are enough for `limit` charges.
  abbrev pub ranked : ℕ → Action → Env → State → Outcome Unit
  ranked zero a ρ s = cut s
  ranked (suc r) a ρ s = act (ranked r) a ρ s

  -- a rule counts cells as a call without arguments does; the objects of its outermost block stay to be seen
  abbrev pub program : ℕ → Block → State → Outcome Unit
  program rank b = do
    charge
    enter (frame_size [] b)
    charge
    block (ranked rank) b []
    charge

-- with as many ranks as are given
abbrev pub ranked_meaning : ℕ → ℕ → Block → ℕ → Host → Outcome Unit
ranked_meaning rank limit b room h = program limit room rank b (record { objects = []; used = 0; host = h; count = 0 })

-- the meaning of a rule with a host, within `limit` charges and `room` cells
abbrev pub meaning : ℕ → Block → ℕ → Host → Outcome Unit
meaning limit b room h = ranked_meaning limit limit b room h

-- how many variables a block has
abbrev pub variables : Declarations → ℕ
variables Rule.none = 0
variables (Rule.local n ds) = suc (variables ds)
variables (Rule.proc fs b ds) = variables ds

-- what the outermost block's variables hold
abbrev pub outermost : Block → State → List ℤ
outermost (Rule.block ds xs) s = contents (take (variables ds) s.objects)
