-- Objects, references to places in them, and what a step does with them and with the host.
use Rattle.std.specs.Prelude.{ℕ, zero, suc, ◌+◌, ◌*◌, true, false, List, [], ◌∷◌, ◌++◌, length, take, drop, ℤ, pos, nat_le, slice_index_or, slice_set}
use Rattle.meaning.specs.Rule.{Formal, Block}
use Rattle.machine.specs.Ints.{Answer, gives, faults, in_range, nat}
use Rattle.machine.specs.Host.{Host, Item}
use Rattle.machine.specs.declared.host.Event.{Event}

abbrev pub Object : Type 0
Object = List ℤ

-- the open objects, outermost first; the cells that the open calls count; the host; the charges made
pub record State : Type 0 where
  pub objects : List Object
  pub used : ℕ
  pub host : Host
  pub count : ℕ

pub data Outcome (A : Type 0) : Type 0 where
  done : A → State → Outcome A
  cut : State → Outcome A
  fault : ℕ → State → Outcome A

abbrev pub ◌>>=◌ : {A B : Type 0} → (State → Outcome A) → (A → State → Outcome B) → State → Outcome B
◌>>=◌ m k s = elim (m s) [ done a t ↦ k a t | cut t ↦ cut t | fault f t ↦ fault f t ]

abbrev pub ◌>>◌ : {A B : Type 0} → (State → Outcome A) → (State → Outcome B) → State → Outcome B
◌>>◌ m k = m >>= (λ _. k)

infixl 10 ◌>>=◌ ◌>>◌
abbrev pub return : {A : Type 0} → A → State → Outcome A
return a s = done a s

-- a place: an object, by its number among the open ones from the outermost on, and how far into it
pub record Reference : Type 0 where
  pub object : ℕ
  pub offset : ℕ

abbrev pub beyond : Reference → ℕ → Reference
beyond r k = record { object = r.object; offset = r.offset + k }

-- what a name stands for
pub data Binding : Type 0 where
  names : Reference → Binding
  procedure : List Formal → Block → Binding

abbrev pub Env : Type 0
Env = List Binding

-- the place that name i stands for; a checked rule asks it of no other name
abbrev pub reference_of : Env → ℕ → Reference
reference_of [] i = record { object = 0; offset = 0 }
reference_of (names r ∷ ρ) zero = r
reference_of (procedure fs b ∷ ρ) zero = record { object = 0; offset = 0 }
reference_of (x ∷ ρ) (suc i) = reference_of ρ i

abbrev pub with_objects : State → List Object → State
with_objects s os = record { objects = os; used = s.used; host = s.host; count = s.count }

abbrev pub with_host : State → Host → State
with_host s h = record { objects = s.objects; used = s.used; host = h; count = s.count }

-- a new object, which holds x
abbrev pub new : Object → State → Outcome Reference
new x s = done (record { object = length s.objects; offset = 0 }) (with_objects s (s.objects ++ (x ∷ [])))

-- the object that r goes into holds x from now on
abbrev pub change : Reference → Object → State → Outcome Unit
change r x s = done tt (with_objects s (slice_set s.objects r.object x))

-- what it holds, and n integers of that from r on
abbrev pub held : State → Reference → Object
held s r = slice_index_or s.objects r.object []

abbrev pub part : State → Reference → ℕ → Object
part s r n = take n (drop r.offset (held s r))

abbrev pub load : Reference → State → Outcome ℤ
load r s = done (slice_index_or (held s r) r.offset (pos 0)) s

abbrev pub save : Reference → ℤ → State → Outcome Unit
save r z s = change r (slice_set (held s r) r.offset z) s

-- n integers from q on take the place of those from r on
abbrev pub move : Reference → Reference → ℕ → State → Outcome Unit
move r q n s = change r (take r.offset (held s r) ++ (part s q n ++ drop (r.offset + n) (held s r))) s

-- the objects that m makes go when it ends
abbrev pub scoped : (State → Outcome Unit) → State → Outcome Unit
scoped m s = (m >> (λ t. done tt (with_objects t (take (length s.objects) t.objects)))) s

abbrev pub settle : Answer → State → Outcome ℤ
settle (gives z) s = done z s
settle (faults f) s = fault f s

-- element i of n, each of m integers
abbrev pub indexed : Reference → ℤ → ℕ → ℕ → State → Outcome Reference
indexed r i n m s = elim (in_range i n) [ true ↦ done (beyond r (nat i * m)) s | false ↦ fault 21 s ]

-- an item is heard: it leaves the host, before the items `is`, unless its answer is a fault
abbrev pub taken : List Item → Answer → State → Outcome ℤ
taken is (faults k) s = fault k s
taken is (gives z) s = done z (with_host s (record { items = is; marks = s.host.marks; room = s.host.room; renders = s.host.renders }))

abbrev pub hear : List Item → (Item → Answer) → State → Outcome ℤ
hear [] f s = fault 24 s
hear (i ∷ is) f s = taken is (f i) s

-- an event is rendered behind the marks there are, if it fits
abbrev pub said : Event → State → Outcome Unit
said e s =
    let h : Host = record { items = s.host.items; marks = s.host.marks ++ s.host.renders e; room = s.host.room; renders = s.host.renders } in
    elim (nat_le (length h.marks) h.room) [ true ↦ done tt (with_host s h) | false ↦ fault 26 s ]

-- the contents of objects, one after another
abbrev pub contents : List Object → List ℤ
contents [] = []
contents (x ∷ os) = x ++ contents os
