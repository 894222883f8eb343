-- What a host means: items that wait to be read, marks written so far, room for marks, and how an event is rendered.
use Rattle.std.specs.Prelude.{ℕ, zero, suc, Bool, cond, List, [], ◌∷◌, ◌++◌, length, ℤ, pos, negsuc, Some, None, Ok, Err, Option, Result, nat_le}
use Rattle.machine.specs.declared.host.NoRoom.{NoRoom}
use Rattle.machine.specs.declared.host.Unreadable.{Unreadable}
use Rattle.machine.specs.Ints.{Answer, gives, faults}
use Rattle.machine.specs.declared.host.Event.{Event}

-- what waits to be read: a number, or an item that is none
abbrev pub Item : Type 0
Item = Result ℤ Unreadable

pub record Host : Type 0 where
  pub items : List Item
  pub marks : List ℤ
  pub room : ℕ
  pub renders : Event → List ℤ

-- the first waiting item, or none
abbrev pub first : List Item → Option Item
first [] = None
first (i ∷ is) = Some i

abbrev pub rest : List Item → List Item
rest [] = []
rest (i ∷ is) = is

-- the host with other items, or with other marks
abbrev pub with_items : List Item → Host → Host
with_items is h = record { items = is; marks = h.marks; room = h.room; renders = h.renders }

abbrev pub with_marks : List ℤ → Host → Host
with_marks ms h = record { items = h.items; marks = ms; room = h.room; renders = h.renders }

-- the host without its first waiting item
abbrev pub taken : Host → Host
taken h = with_items (rest h.items) h

-- whether an event's rendering fits, what a say of it answers, and the host after it
abbrev pub fits : Event → Host → Bool
fits e h = nat_le (length (h.marks ++ h.renders e)) h.room

abbrev pub said_answer : Event → Host → Result Unit NoRoom
said_answer e h = cond (fits e h) (Ok tt) (Err (record {}))

abbrev pub said : Event → Host → Host
said e h = cond (fits e h) (with_marks (h.marks ++ h.renders e) h) h

-- an item that is not of the kind that is asked for is fault 25
abbrev pub as_int : Item → Answer
as_int (Ok z) = gives z
as_int (Err e) = faults 25

abbrev pub bit : ℤ → Answer
bit (pos zero) = gives (pos 0)
bit (pos (suc zero)) = gives (pos 1)
bit (pos (suc (suc n))) = faults 25
bit (negsuc n) = faults 25

abbrev pub as_bool : Item → Answer
as_bool (Ok z) = bit z
as_bool (Err e) = faults 25
