-- The machine: operands, nine frame bases, cells and a host; one instruction at a time.
use Rattle.std.specs.Prelude.{ℕ, zero, suc, ◌+◌, ◌^◌, cond, not, List, [], ◌∷◌, ◌++◌, length, replicate, ℤ, pos, negsuc, ◌+ℤ◌, ◌*ℤ◌, Some, None, Option, nat_le, nat_lt, slice_index, slice_index_or, slice_set}
use Rattle.machine.specs.declared.instruction.Instruction.{Instruction}
use Rattle.machine.specs.declared.instruction.Instruction.TheVariants.{Lit, Var, Off, Ld, St, Stk, Copy, Index, Add, Sub, Mul, Div, Mod, Neg, Not, And, Or, Lt, Le, Gt, Ge, Eq, Ne, Jmp, Jf, Geti, Getb, Puti, Putb, Nl, Zero, Frame, Enter, Leave, Dup, Pop, Stop}
use Rattle.tiny.specs.Operators as Rule
use Rattle.machine.specs.Ints.{Answer, gives, faults, unary_of, binary_of, is_zero, in_range}
use Rattle.machine.specs.declared.host.Event.{Event}
use Rattle.machine.specs.declared.host.Event.TheVariants.{Int as wrote_int, Bool as wrote_bool, Line as wrote_line}
use Rattle.machine.specs.Host.{Host, Item, as_int, as_bool}
use Rattle.machine.specs.Cells.{zeroed, moved}
pub use Rattle.machine.specs.Shelves.{fetched}

pub record Machine : Type 0 where
  pub operands : List ℤ
  pub bases : List ℕ
  pub next : ℕ
  pub top : ℕ
  pub cells : List ℤ
  pub host : Host

pub data Effect : Type 0 where
  goes : Machine → Effect
  stops : Machine → Effect
  fails : ℕ → Effect

-- the next instruction in order, with other operands, cells or host
abbrev pub on : Machine → List ℤ → Machine
on m ops = record { operands = ops; bases = m.bases; next = suc m.next; top = m.top; cells = m.cells; host = m.host }

abbrev pub on_cells : Machine → List ℤ → List ℤ → Machine
on_cells m ops cs = record { operands = ops; bases = m.bases; next = suc m.next; top = m.top; cells = cs; host = m.host }

abbrev pub on_host : Machine → List ℤ → List ℤ → Host → Machine
on_host m ops cs h = record { operands = ops; bases = m.bases; next = suc m.next; top = m.top; cells = cs; host = h }

abbrev pub jump : Machine → List ℤ → ℕ → Machine
jump m ops t = record { operands = ops; bases = m.bases; next = t; top = m.top; cells = m.cells; host = m.host }

abbrev pub one : List ℤ → (ℤ → List ℤ → Effect) → Effect
one [] k = fails 42
one (x ∷ xs) k = k x xs

abbrev pub two : List ℤ → (ℤ → ℤ → List ℤ → Effect) → Effect
two [] k = fails 42
two (x ∷ []) k = fails 42
two (x ∷ y ∷ xs) k = k y x xs

-- room for one operand more
abbrev pub room : List ℤ → Effect → Effect
room ops e = cond (nat_lt (length ops) 128) e (fails 42)

-- an address: 0 to 2 ^ 31 - 1
abbrev pub made : ℤ → (ℕ → Effect) → Effect
made (pos a) k = cond (nat_lt a (2 ^ 31)) (k a) (fails 43)
made (negsuc a) k = fails 43

-- n cells from a on lie in memory; none at all lie anywhere
abbrev pub within : ℤ → ℕ → List ℤ → (ℕ → Effect) → Effect
within z zero cs k = k 0
within (pos a) (suc n) cs k = cond (nat_le (a + suc n) (length cs)) (k a) (fails 43)
within (negsuc a) (suc n) cs k = fails 43

abbrev pub settled : Answer → (ℤ → Effect) → Effect
settled (gives z) k = k z
settled (faults f) k = fails f

abbrev pub unary : Rule.Unary → Machine → Effect
unary o m = one m.operands (λ x ops. settled (unary_of o x) (λ z. goes (on m (z ∷ ops))))

abbrev pub binary : Rule.Binary → Machine → Effect
binary o m = two m.operands (λ x y ops. settled (binary_of o x y) (λ z. goes (on m (z ∷ ops))))

abbrev pub heard : List Item → (Item → Answer) → Host → (ℤ → Host → Effect) → Effect
heard [] f h k = fails 24
heard (i ∷ is) f h k = settled (f i) (λ z. k z (record { items = is; marks = h.marks; room = h.room; renders = h.renders }))

abbrev pub get : (Item → Answer) → Machine → Effect
get f m = one m.operands (λ a ops. heard m.host.items f m.host (λ z h. within a 1 m.cells (λ b. goes (on_host m ops (slice_set m.cells b z) h))))

abbrev pub say : Event → Machine → List ℤ → Effect
say e m ops =
    let more : List ℤ = m.host.marks ++ m.host.renders e in
    cond (nat_le (length more) m.host.room) (goes (on_host m ops m.cells (record { items = m.host.items; marks = more; room = m.host.room; renders = m.host.renders }))) (fails 26)

abbrev pub base : Machine → ℕ → ℕ
base m l = slice_index m.bases l

abbrev pub link : ℤ → (ℕ → Effect) → Effect
link (pos a) k = k a
link (negsuc a) k = fails 44

abbrev pub effect : Instruction → Machine → Effect
effect (Lit v) m = room m.operands (goes (on m (v ∷ m.operands)))
effect (Var l k) m = room m.operands (made (pos (base m l + k)) (λ a. goes (on m (pos a ∷ m.operands))))
effect (Off n) m = one m.operands (λ a ops. made (a +ℤ pos n) (λ b. goes (on m (pos b ∷ ops))))
effect Ld m = one m.operands (λ a ops. within a 1 m.cells (λ b. goes (on m (slice_index_or m.cells b (pos 0) ∷ ops))))
effect St m = two m.operands (λ a z ops. within a 1 m.cells (λ b. goes (on_cells m ops (slice_set m.cells b z))))
effect Stk m = two m.operands (λ a z ops. within a 1 m.cells (λ b. goes (on_cells m (z ∷ ops) (slice_set m.cells b z))))
effect (Copy n) m = two m.operands (λ a b ops. within b n m.cells (λ from. within a n m.cells (λ to. goes (on_cells m ops (moved m.cells to from n)))))
effect (Index n s) m =
    two m.operands (λ a i ops. cond (in_range i n) (made (a +ℤ i *ℤ pos s) (λ b. goes (on m (pos b ∷ ops)))) (fails 21))
effect Add m = binary Rule.add m
effect Sub m = binary Rule.sub m
effect Mul m = binary Rule.mul m
effect Div m = binary Rule.quot m
effect Mod m = binary Rule.rem m
effect Neg m = unary Rule.neg m
effect Not m = unary Rule.not m
effect And m = binary Rule.and m
effect Or m = binary Rule.or m
effect Lt m = binary Rule.lt m
effect Le m = binary Rule.le m
effect Gt m = binary Rule.gt m
effect Ge m = binary Rule.ge m
effect Eq m = binary Rule.eq m
effect Ne m = binary Rule.ne m
effect (Jmp t) m = goes (jump m m.operands t)
effect (Jf t) m = one m.operands (λ x ops. goes (cond (is_zero x) (jump m ops t) (on m ops)))
effect Geti m = get as_int m
effect Getb m = get as_bool m
effect Puti m = one m.operands (λ x ops. say (wrote_int x) m ops)
effect Putb m = one m.operands (λ x ops. say (wrote_bool (not (is_zero x))) m ops)
effect Nl m = say wrote_line m m.operands
effect (Zero l k n) m = within (pos (base m l + k)) n m.cells (λ a. goes (on_cells m m.operands (zeroed m.cells a n)))
effect (Frame n) m =
    room m.operands (cond (nat_le (m.top + n) (length m.cells))
    (goes (record { operands = pos m.top ∷ m.operands; bases = m.bases; next = suc m.next; top = m.top + n; cells = zeroed m.cells m.top n; host = m.host }))
    (fails 27))
effect (Enter l t) m =
    one m.operands (λ a ops. within a 2 m.cells (λ b.
    goes (record { operands = ops; bases = slice_set m.bases l b; next = t; top = m.top; cells = slice_set (slice_set m.cells b (pos (suc m.next))) (suc b) (pos (base m l)); host = m.host })))
effect (Leave l) m =
    within (pos (base m l)) 2 m.cells (λ b.
    link (slice_index_or m.cells b (pos 0)) (λ t. link (slice_index_or m.cells (suc b) (pos 0)) (λ old.
    goes (record { operands = m.operands; bases = slice_set m.bases l old; next = t; top = base m l; cells = m.cells; host = m.host }))))
effect Dup m = one m.operands (λ x ops. room m.operands (goes (on m (x ∷ m.operands))))
effect Pop m = one m.operands (λ x ops. goes (on m ops))
effect Stop m = stops (on m m.operands)

pub data Standing : Type 0 where
  going finished : Standing
  failed : ℕ → Standing

-- a run: where it stands, how many instructions it has carried out, and its machine
pub record Run : Type 0 where
  pub standing : Standing
  pub count : ℕ
  pub machine : Machine

abbrev pub attempted : Option Instruction → Machine → Effect
attempted None m = fails 41
attempted (Some i) m = effect i m

abbrev pub after : Effect → ℕ → Machine → Run
after (goes m) c old = record { standing = going; count = suc c; machine = m }
after (stops m) c old = record { standing = finished; count = suc c; machine = m }
after (fails f) c old = record { standing = failed f; count = suc c; machine = old }

abbrev pub one_more : List Instruction → Standing → Run → Run
one_more code going r = after (attempted (fetched code r.machine.next) r.machine) r.count r.machine
one_more code finished r = r
one_more code (failed f) r = r

abbrev pub run : List Instruction → ℕ → Run → Run
run code zero r = r
run code (suc n) r = let s = run code n r in one_more code s.standing s

abbrev pub opened : List ℤ → Host → Run
opened cs h = record { standing = going; count = 0; machine = record { operands = []; bases = replicate 9 0; next = 0; top = 0; cells = cs; host = h } }
