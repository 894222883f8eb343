-- No instruction alters the length of memory, and the host only goes onward.
use Rattle.std.proofs.Common.{◌≡◌, ℕ, zero, suc, ◌+◌, ◌-◌, ◌^◌, ◌≤◌, min, Bool, true, false, cond, not, T, ltb, leb, List, [], ◌∷◌, ◌++◌, length, get_or, take, drop, set, replicate, ℤ, pos, negsuc, ◌+ℤ◌, ◌*ℤ◌, Some, None, Option, refl, ap, ◌∙◌, arith, leb→le, length-drop, length-set, length-take}
use lib.ListN.{length-replicate}
use Rattle.machine.specs.declared.instruction.Instruction.{Instruction}
use Rattle.machine.specs.declared.instruction.Instruction.TheVariants.{Lit, Var, Off, Ld, St, Stk, Copy, Index, Add, Sub, Mul, Div, Mod, Neg, Not, And, Or, Lt, Le, Gt, Ge, Eq, Ne, Jmp, Jf, Geti, Getb, Puti, Putb, Nl, Zero, Frame, Enter, Leave, Dup, Pop, Stop}
use Rattle.meaning.specs.Rule as Rule
use Rattle.machine.specs.Ints.{Answer, gives, faults, unary_of, binary_of, is_zero}
use Rattle.machine.specs.Host.{Host, Item}
use Rattle.machine.specs.declared.host.Event.{Event}
use Rattle.machine.specs.declared.host.Event.TheVariants.{Int as wrote_int, Bool as wrote_bool, Line as wrote_line}
use Rattle.meaning.specs.Evaluation.{zeroed, moved, as_int, as_bool, in_range}
use Rattle.machine.specs.Machine.{Machine, Effect, goes, stops, fails, on, jump, one, two, room, made, within, settled, heard, get, say, base, link, unary, binary, effect, Standing, going, finished, failed, Run, fetched, attempted, after, one_more, run}
use Rattle.meaning.specs.Laws.{MemoryKept, Onward, HostOnward}
use Rattle.meaning.proofs.Cells.{patched_length}
use Rattle.meaning.proofs.Onward.{onward_refl, onward_trans, onward_taken, onward_said}

-- K holds of the machine that an effect leaves
abbrev Keeps : (Machine → Type 0) → Effect → Type 0
Keeps K (goes m) = K m
Keeps K (stops m) = K m
Keeps K (fails f) = Unit {0}

zeroed_length : (cs : List ℤ) (a n : ℕ) → a + n ≤ length cs → length (zeroed cs a n) ≡ length cs
zeroed_length cs a n h = patched_length cs a (replicate n (pos 0)) n (length-replicate n (pos 0)) h

moved_length : (cs : List ℤ) (a b n : ℕ) → a + n ≤ length cs → b + n ≤ length cs → length (moved cs a b n) ≡ length cs
moved_length cs a b n h k = patched_length cs a (take n (drop b cs)) n (length-take n (drop b cs) ∙ ap (λ (x : ℕ). min n x) (length-drop b cs) ∙ least) h
  where
    least : min n (length cs - b) ≡ n
    least = omega arith

module _ (l : Machine → Type 0) where
  either : (b : Bool) (x y : Effect) → (T b → Keeps l x) → Keeps l y → Keeps l (cond b x y)
  either true x y p q = p tt
  either false x y p q = q

  one_k : (ops : List ℤ) (k : ℤ → List ℤ → Effect) → ((x : ℤ) (xs : List ℤ) → Keeps l (k x xs)) → Keeps l (one ops k)
  one_k [] k p = tt
  one_k (x ∷ xs) k p = p x xs

  two_k : (ops : List ℤ) (k : ℤ → ℤ → List ℤ → Effect) → ((x y : ℤ) (xs : List ℤ) → Keeps l (k x y xs)) → Keeps l (two ops k)
  two_k [] k p = tt
  two_k (x ∷ []) k p = tt
  two_k (x ∷ y ∷ xs) k p = p y x xs

  room_k : (ops : List ℤ) (e : Effect) → Keeps l e → Keeps l (room ops e)
  room_k ops e p = either (ltb (length ops) 128) e (fails 42) (λ _. p) tt

  made_k : (z : ℤ) (k : ℕ → Effect) → ((a : ℕ) → Keeps l (k a)) → Keeps l (made z k)
  made_k (pos a) k p = either (ltb a (2 ^ 31)) (k a) (fails 43) (λ _. p a) tt
  made_k (negsuc a) k p = tt

  within_k : (z : ℤ) (n : ℕ) (cs : List ℤ) (k : ℕ → Effect) → ((a : ℕ) → a + n ≤ length cs → Keeps l (k a)) → Keeps l (within z n cs k)
  within_k z zero cs k p = p 0 (omega arith)
  within_k (pos a) (suc n) cs k p = either (leb (a + suc n) (length cs)) (k a) (fails 43) (λ t. p a (leb→le (a + suc n) (length cs) t)) tt
  within_k (negsuc a) (suc n) cs k p = tt

  settled_k : (a : Answer) (k : ℤ → Effect) → ((z : ℤ) → Keeps l (k z)) → Keeps l (settled a k)
  settled_k (gives z) k p = p z
  settled_k (faults f) k p = tt

  heard_k : (is : List Item) (f : Item → Answer) (h : Host) (k : ℤ → Host → Effect) → h.items ≡ is → ((z : ℤ) (g : Host) → Onward h g → Keeps l (k z g)) → Keeps l (heard is f h k)
  heard_k [] f h k e p = tt
  heard_k (i ∷ is) f h k e p = settled_k (f i) _ (λ z. p z _ (onward_taken h i is e))

  link_k : (z : ℤ) (k : ℕ → Effect) → ((a : ℕ) → Keeps l (k a)) → Keeps l (link z k)
  link_k (pos a) k p = p a
  link_k (negsuc a) k p = tt

module _ (m : Machine) where
  abbrev Kept : Machine → Type 0
  Kept n = (length n.cells ≡ length m.cells) × Onward m.host n.host

  still : Onward m.host m.host
  still = onward_refl m.host

  unary_k : (o : Rule.Unary) → Keeps Kept (unary o m)
  unary_k o = one_k Kept m.operands _ (λ x ops. settled_k Kept (unary_of o x) _ (λ z. (refl, still)))

  binary_k : (o : Rule.Binary) → Keeps Kept (binary o m)
  binary_k o = two_k Kept m.operands _ (λ x y ops. settled_k Kept (binary_of o x y) _ (λ z. (refl, still)))

  get_k : (f : Item → Answer) → Keeps Kept (get f m)
  get_k f = one_k Kept m.operands _ (λ a ops. heard_k Kept m.host.items f m.host _ refl (λ z h o. within_k Kept a 1 m.cells _ (λ b q. (length-set m.cells b z, o))))

  say_k : (e : Event) (ops : List ℤ) → Keeps Kept (say e m ops)
  say_k e ops = either Kept (leb (length (m.host.marks ++ m.host.renders e)) m.host.room) _ (fails 26) (λ _. (refl, onward_said m.host e)) tt

  effect_k : (i : Instruction) → Keeps Kept (effect i m)
  effect_k (Lit v) = room_k Kept m.operands _ (refl, still)
  effect_k (Var l k) = room_k Kept m.operands _ (made_k Kept (pos (base m l + k)) (λ a. goes (on m (pos a ∷ m.operands))) (λ a. (refl, still)))
  effect_k (Off n) = one_k Kept m.operands _ (λ a ops. made_k Kept (a +ℤ pos n) _ (λ b. (refl, still)))
  effect_k Ld = one_k Kept m.operands _ (λ a ops. within_k Kept a 1 m.cells _ (λ b q. (refl, still)))
  effect_k St = two_k Kept m.operands _ (λ a z ops. within_k Kept a 1 m.cells _ (λ b q. (length-set m.cells b z, still)))
  effect_k Stk = two_k Kept m.operands _ (λ a z ops. within_k Kept a 1 m.cells _ (λ b q. (length-set m.cells b z, still)))
  effect_k (Copy n) = two_k Kept m.operands _ (λ a b ops. within_k Kept b n m.cells _ (λ from p. within_k Kept a n m.cells _ (λ to q. (moved_length m.cells to from n q p, still))))
  effect_k (Index n s) = two_k Kept m.operands _ (λ a i ops. either Kept (in_range i n) _ (fails 21) (λ _. made_k Kept (a +ℤ i *ℤ pos s) _ (λ b. (refl, still))) tt)
  effect_k Add = binary_k Rule.add
  effect_k Sub = binary_k Rule.sub
  effect_k Mul = binary_k Rule.mul
  effect_k Div = binary_k Rule.quot
  effect_k Mod = binary_k Rule.rem
  effect_k Neg = unary_k Rule.neg
  effect_k Not = unary_k Rule.not
  effect_k And = binary_k Rule.and
  effect_k Or = binary_k Rule.or
  effect_k Lt = binary_k Rule.lt
  effect_k Le = binary_k Rule.le
  effect_k Gt = binary_k Rule.gt
  effect_k Ge = binary_k Rule.ge
  effect_k Eq = binary_k Rule.eq
  effect_k Ne = binary_k Rule.ne
  effect_k (Jmp t) = (refl, still)
  effect_k (Jf t) = one_k Kept m.operands _ (λ x ops. jumped (is_zero x) ops)
    where
      jumped : (b : Bool) (ops : List ℤ) → Kept (cond b (jump m ops t) (on m ops))
      jumped true ops = (refl, still)
      jumped false ops = (refl, still)
  effect_k Geti = get_k as_int
  effect_k Getb = get_k as_bool
  effect_k Puti = one_k Kept m.operands _ (λ x ops. say_k (wrote_int x) ops)
  effect_k Putb = one_k Kept m.operands _ (λ x ops. say_k (wrote_bool (not (is_zero x))) ops)
  effect_k Nl = say_k wrote_line m.operands
  effect_k (Zero l k n) = within_k Kept (pos (base m l + k)) n m.cells _ (λ a q. (zeroed_length m.cells a n q, still))
  effect_k (Frame n) = room_k Kept m.operands _ (either Kept (leb (m.top + n) (length m.cells)) _ (fails 27) (λ t. (zeroed_length m.cells m.top n (leb→le (m.top + n) (length m.cells) t), still)) tt)
  effect_k (Enter l t) = one_k Kept m.operands _ (λ a ops. within_k Kept a 2 m.cells _ (λ b q. (length-set (set m.cells b (pos (suc m.next))) (suc b) (pos (base m l)) ∙ length-set m.cells b (pos (suc m.next)), still)))
  effect_k (Leave l) =
      within_k Kept (pos (base m l)) 2 m.cells (λ b. link (get_or m.cells b (pos 0)) (λ t. link (get_or m.cells (suc b) (pos 0)) (λ old. back t old)))
      (λ b q. link_k Kept (get_or m.cells b (pos 0)) (λ t. link (get_or m.cells (suc b) (pos 0)) (λ old. back t old)) (λ t. link_k Kept (get_or m.cells (suc b) (pos 0)) (λ old. back t old) (λ old. (refl, still))))
    where
      back : ℕ → ℕ → Effect
      back t old = goes (record { operands = m.operands; bases = set m.bases l old; next = t; top = base m l; cells = m.cells; host = m.host })
  effect_k Dup = one_k Kept m.operands _ (λ x ops. room_k Kept m.operands _ (refl, still))
  effect_k Pop = one_k Kept m.operands _ (λ x ops. (refl, still))
  effect_k Stop = (refl, still)

  attempted_k : (o : Option Instruction) → Keeps Kept (attempted o m)
  attempted_k None = tt
  attempted_k (Some i) = effect_k i

  after_k : (e : Effect) (c : ℕ) → Keeps Kept e → Kept (after e c m).machine
  after_k (goes m') c p = p
  after_k (stops m') c p = p
  after_k (fails f) c p = (refl, still)

more_k : (c : List Instruction) (s : Standing) (r : Run) → Kept r.machine (one_more c s r).machine
more_k c going r = after_k r.machine (attempted (fetched c r.machine.next) r.machine) r.count (attempted_k r.machine (fetched c r.machine.next))
more_k c finished r = (refl, still r.machine)
more_k c (failed f) r = (refl, still r.machine)

pub memory_kept : MemoryKept
memory_kept c zero r = refl
memory_kept c (suc n) r = (more_k c (run c n r).standing (run c n r)).0 ∙ memory_kept c n r

pub host_onward : HostOnward
host_onward c zero r = onward_refl r.machine.host
host_onward c (suc n) r = onward_trans r.machine.host (run c n r).machine.host (run c (suc n) r).machine.host (host_onward c n r) (more_k c (run c n r).standing (run c n r)).1
