-- The evaluation of a rule over a flat memory, in which a variable is cells at an address. Its rows and charges are those of
-- the meaning, its addresses and frames those of the code: it stands between the two in the proof, and nothing rests on it.
use Rattle.std.specs.Prelude.{ℕ, zero, suc, ◌+◌, ◌*◌, true, false, not, List, [], ◌∷◌, ◌++◌, length, ℤ, pos, ◌==◌, nat_le, slice_index_or, slice_set}
use Rattle.meaning.specs.Rule.{Place, Value, Argument, Formal, Action, Actions, Declarations, Block}
use Rattle.meaning.specs.Rule as Rule
use Rattle.machine.specs.Ints.{Answer, gives, faults, unary_of, binary_of, is_zero}
use Rattle.machine.specs.Host.{Host, Item}
use Rattle.machine.specs.declared.host.Event.{Event}
use Rattle.machine.specs.declared.host.Event.TheVariants.{Int as wrote_int, Bool as wrote_bool, Line as wrote_line}
pub use Rattle.meaning.specs.Sizes.{formal_size, formals_size, own_size, block_extent, actions_extent, action_extent, frame_size}
pub use Rattle.machine.specs.Cells.{zeroed, moved}
pub use Rattle.machine.specs.Ints.{in_range, nat}
pub use Rattle.machine.specs.Host.{as_int, as_bool}

pub record World : Type 0 where
  pub cells : List ℤ
  pub top : ℕ
  pub host : Host
  pub count : ℕ

pub data Outcome (A : Type 0) : Type 0 where
  done : A → World → Outcome A
  cut : World → Outcome A
  fault : ℕ → World → Outcome A

abbrev pub ◌>>=◌ : {A B : Type 0} → (World → Outcome A) → (A → World → Outcome B) → World → Outcome B
◌>>=◌ m k w = elim (m w) [ done a v ↦ k a v | cut v ↦ cut v | fault f v ↦ fault f v ]

abbrev pub ◌>>◌ : {A B : Type 0} → (World → Outcome A) → (World → Outcome B) → World → Outcome B
◌>>◌ m k = m >>= (λ _. k)

infixl 10 ◌>>=◌ ◌>>◌
abbrev pub return : {A : Type 0} → A → World → Outcome A
return a w = done a w

-- what a name stands for while the rule runs
pub data Binding : Type 0 where
  at : ℕ → Binding
  procedure : List Formal → Block → Binding

abbrev pub Env : Type 0
Env = List Binding

abbrev pub address_of : Env → ℕ → ℕ
address_of [] i = 0
address_of (at a ∷ ρ) zero = a
address_of (procedure fs b ∷ ρ) zero = 0
address_of (x ∷ ρ) (suc i) = address_of ρ i

module _ (limit : ℕ) where
  -- one charge
  abbrev pub charge : World → Outcome Unit
  charge w =
      elim (w.count == limit) [
        | true ↦ cut w
        | false ↦ done tt (record { cells = w.cells; top = w.top; host = w.host; count = suc w.count })
      ]

  abbrev pub load : ℕ → World → Outcome ℤ
  load a w = done (slice_index_or w.cells a (pos 0)) w

  abbrev pub save : ℕ → ℤ → World → Outcome Unit
  save a z w = done tt (record { cells = slice_set w.cells a z; top = w.top; host = w.host; count = w.count })

  abbrev pub settle : Answer → World → Outcome ℤ
  settle (gives z) w = done z w
  settle (faults f) w = fault f w

  abbrev pub indexed : ℕ → ℤ → ℕ → ℕ → World → Outcome ℕ
  indexed a i n s w = elim (in_range i n) [ true ↦ done (a + nat i * s) w | false ↦ fault 21 w ]

  abbrev mutual
    pub place : Place → Env → World → Outcome ℕ
    place (Rule.variable i) ρ = charge >> return (address_of ρ i)
    place (Rule.reference i) ρ = charge >> (charge >> return (address_of ρ i))
    place (Rule.field p k) ρ = place p ρ >>= (λ a. charge >> return (a + k))
    place (Rule.element p v n s) ρ = place p ρ >>= (λ a. value v ρ >>= (λ i. charge >> indexed a i n s))

    pub value : Value → Env → World → Outcome ℤ
    value (Rule.literal z) ρ = charge >> return z
    value (Rule.content p) ρ = place p ρ >>= (λ a. charge >> load a)
    value (Rule.unary o v) ρ = value v ρ >>= (λ x. charge >> settle (unary_of o x))
    value (Rule.binary o u v) ρ = value u ρ >>= (λ x. value v ρ >>= (λ y. charge >> settle (binary_of o x y)))
    value (Rule.store p v) ρ = place p ρ >>= (λ a. value v ρ >>= (λ x. charge >> (save a x >> return x)))

  -- takes a frame of n cells, all 0
  abbrev pub take_frame : ℕ → World → Outcome ℕ
  take_frame n w =
      elim (nat_le (w.top + n) (length w.cells)) [
        | true ↦ done w.top (record { cells = zeroed w.cells w.top n; top = w.top + n; host = w.host; count = w.count })
        | false ↦ fault 27 w
      ]

  abbrev pub give_back : ℕ → World → Outcome Unit
  give_back start w = done tt (record { cells = w.cells; top = start; host = w.host; count = w.count })

  abbrev pub clear : ℕ → ℕ → World → Outcome Unit
  clear a n w = done tt (record { cells = zeroed w.cells a n; top = w.top; host = w.host; count = w.count })

  -- a block's variables get new cells, all 0
  abbrev pub own_cells : ℕ → ℕ → World → Outcome Unit
  own_cells a zero w = done tt w
  own_cells a (suc n) w = (charge >> clear a (suc n)) w

  abbrev pub move : ℕ → ℕ → ℕ → World → Outcome Unit
  move a b n w = done tt (record { cells = moved w.cells a b n; top = w.top; host = w.host; count = w.count })

  -- an item is heard: it leaves the host, before the items `is`, unless its answer is a fault
  abbrev pub taken : List Item → Answer → World → Outcome ℤ
  taken is (faults k) w = fault k w
  taken is (gives z) w =
      done z (record { cells = w.cells; top = w.top; count = w.count; host = record { items = is; marks = w.host.marks; room = w.host.room; renders = w.host.renders } })

  -- the first item, which leaves the host only if it is of the kind that is asked for
  abbrev pub hear : List Item → (Item → Answer) → World → Outcome ℤ
  hear [] f w = fault 24 w
  hear (i ∷ is) f w = taken is (f i) w

  abbrev pub said : Event → World → Outcome Unit
  said e w =
      let h : Host = record { items = w.host.items; marks = w.host.marks ++ w.host.renders e; room = w.host.room; renders = w.host.renders } in
      elim (nat_le (length h.marks) h.room) [
        | true ↦ done tt (record { cells = w.cells; top = w.top; count = w.count; host = h })
        | false ↦ fault 26 w
      ]

  abbrev pub given : Formal → Argument → ℕ → Env → World → Outcome Binding
  given f (Rule.value v) a ρ = charge >> (charge >> (value v ρ >>= (λ x. charge >> (save a x >> return (at a)))))
  given f (Rule.address p) a ρ = charge >> (charge >> (place p ρ >>= (λ b. charge >> return (at b))))
  given f (Rule.copied p n) a ρ = charge >> (charge >> (place p ρ >>= (λ b. charge >> (move a b n >> return (at a)))))

  -- a call's arguments, left to right, each into its formal's cells from a on; the bindings stand behind ρ'
  abbrev pub arguments : List Formal → List Argument → ℕ → Env → Env → World → Outcome Env
  arguments [] xs a ρ ρ' = return ρ'
  arguments (f ∷ fs) [] a ρ ρ' = return ρ'
  arguments (f ∷ fs) (x ∷ xs) a ρ ρ' = given f x a ρ >>= (λ b. arguments fs xs (a + formal_size f) ρ (b ∷ ρ'))

  -- the names that a block declares, its variables from a on
  abbrev pub declared : Declarations → ℕ → Env → Env
  declared Rule.none a ρ = ρ
  declared (Rule.local s ds) a ρ = declared ds (a + s) (at a ∷ ρ)
  declared (Rule.proc fs b ds) a ρ = declared ds a (procedure fs b ∷ ρ)

  -- `again` runs what a further charge stands before: a while's next turn, a procedure's body
  module _ (again : Action → Env → ℕ → World → Outcome Unit) where
    abbrev pub called : Binding → List Argument → Env → Env → World → Outcome Unit
    called (at a) xs ρ ρ' = return tt
    called (procedure fs b) xs ρ ρ' =
        charge >> (take_frame (frame_size fs b) >>= (λ start.
        arguments fs xs (start + 2) ρ ρ' >>= (λ inside.
        charge >> (again (Rule.inner b) inside (start + 2 + formals_size fs) >> (charge >> give_back start)))))

    abbrev pub found : Env → ℕ → List Argument → Env → World → Outcome Unit
    found [] i xs ρ = return tt
    found (b ∷ ρ') zero xs ρ = called b xs ρ (b ∷ ρ')
    found (b ∷ ρ') (suc i) xs ρ = found ρ' i xs ρ

    abbrev mutual
      pub act : Action → Env → ℕ → World → Outcome Unit
      act (Rule.drop_place p) ρ free = place p ρ >> charge
      act (Rule.drop_value v) ρ free = value v ρ >> charge
      act (Rule.copy p q n) ρ free = place p ρ >>= (λ a. place q ρ >>= (λ b. charge >> move a b n))
      act (Rule.choose v b) ρ free =
          value v ρ >>= (λ x. charge >> (elim (is_zero x) [ true ↦ return tt | false ↦ run_block b ρ free ]))
      act (Rule.choose_else v b c) ρ free =
          value v ρ >>= (λ x. charge >> (elim (is_zero x) [ true ↦ run_block c ρ free | false ↦ run_block b ρ free >> charge ]))
      act (Rule.repeat v b) ρ free =
          value v ρ >>= (λ x. charge >> (elim (is_zero x) [ true ↦ return tt | false ↦ run_block b ρ free >> (charge >> again (Rule.repeat v b) ρ free) ]))
      act (Rule.read_int p) ρ free = place p ρ >>= (λ a. charge >> ((λ w. hear w.host.items as_int w) >>= save a))
      act (Rule.read_bool p) ρ free = place p ρ >>= (λ a. charge >> ((λ w. hear w.host.items as_bool w) >>= save a))
      act (Rule.write_int v) ρ free = value v ρ >>= (λ x. charge >> said (wrote_int x))
      act (Rule.write_bool v) ρ free = value v ρ >>= (λ x. charge >> said (wrote_bool (not (is_zero x))))
      act Rule.newline ρ free = charge >> said wrote_line
      act (Rule.call i xs) ρ free = found ρ i xs ρ
      act (Rule.inner b) ρ free = run_block b ρ free

      pub run_block : Block → Env → ℕ → World → Outcome Unit
      run_block (Rule.block ds xs) ρ free =
          own_cells free (own_size ds) >> act_all xs (declared ds free ρ) (free + own_size ds)

      pub act_all : Actions → Env → ℕ → World → Outcome Unit
      act_all Rule.nothing ρ free = return tt
      act_all (Rule.◌then◌ a xs) ρ free = act a ρ free >> act_all xs ρ free

  -- enough ranks for `limit` charges: each use of `again` comes after a charge of its own
  abbrev pub ranked : ℕ → Action → Env → ℕ → World → Outcome Unit
  ranked zero a ρ free w = cut w
  ranked (suc r) a ρ free w = act (ranked r) a ρ free w

  abbrev pub program : Block → World → Outcome Unit
  program b =
      charge >> (take_frame (frame_size [] b) >>= (λ start. charge >> (ranked (suc limit) (Rule.inner b) [] (start + 2) >> charge)))

-- the evaluation of a rule over the memory and the host as they are given, cut off at n
abbrev pub evaluated : ℕ → Block → List ℤ → Host → Outcome Unit
evaluated n b cs h = program n b (record { cells = cs; top = 0; host = h; count = 0 })
