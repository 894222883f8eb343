-- What an instruction does where nothing of its own goes wrong.
use Rattle.std.proofs.Common.{◌≡◌, ℕ, zero, suc, ◌+◌, ◌^◌, ◌<◌, ◌≤◌, ltb, leb, List, ◌∷◌, ◌++◌, length, take, drop, ℤ, pos, sym, ap, ◌∙◌, add-zero, arith, le→leb, lt→ltb, take-append-drop}
use Rattle.machine.specs.declared.instruction.Instruction.{Instruction}
use Rattle.machine.specs.declared.instruction.Instruction.TheVariants.{Copy}
use Rattle.meaning.specs.Evaluation.{World, moved}
use Rattle.machine.specs.Machine.{Machine, Effect, goes, fails, after, effect, room, made, within, on_cells}
use Rattle.meaning.specs.Sizes.{own_cells}
use Rattle.machine.specs.Host.{Host}
use Rattle.meaning.proofs.Cells.{Private, Mem}
use Rattle.meaning.proofs.Tracks.{Setting, St, now, cond_yes}

pub room_ok : (ops : List ℤ) (e : Effect) → length ops < 128 → room ops e ≡ e
room_ok ops e h = cond_yes (ltb (length ops) 128) e (fails 42) (lt→ltb (length ops) 128 h)

pub made_ok : (a : ℕ) (k : ℕ → Effect) → a < 2 ^ 31 → made (pos a) k ≡ k a
made_ok a k h = cond_yes (ltb a (2 ^ 31)) (k a) (fails 43) (lt→ltb a (2 ^ 31) h)

pub within_ok : (a s : ℕ) (cs : List ℤ) (k : ℕ → Effect) → a + suc s ≤ length cs → within (pos a) (suc s) cs k ≡ k a
within_ok a s cs k h = cond_yes (leb (a + suc s) (length cs)) (k a) (fails 43) (le→leb (a + suc s) (length cs) h)

pub moved_none : (cs : List ℤ) (a b : ℕ) → moved cs a b 0 ≡ cs
moved_none cs a b = ap (λ (k : ℕ). take a cs ++ drop k cs) (add-zero a) ∙ take-append-drop a cs

pub copy_ok : (m : Machine) (a b s : ℕ) (ops : List ℤ) → m.operands ≡ pos b ∷ pos a ∷ ops → a + s ≤ length m.cells → b + s ≤ length m.cells →
    effect (Copy s) m ≡ goes (on_cells m ops (moved m.cells a b s))
copy_ok m a b zero ops e h k = rw e (ap (λ (cs : List ℤ). goes (on_cells m ops cs)) (sym (moved_none m.cells a b)))
copy_ok m a b (suc s) ops e h k =
    rw e (within_ok b s m.cells (λ from. within (pos a) (suc s) m.cells (λ to. goes (on_cells m ops (moved m.cells to from (suc s))))) k
    ∙ within_ok a s m.cells (λ to. goes (on_cells m ops (moved m.cells to b (suc s)))) h)

-- the run goes on by one instruction
pub advance : (g : Setting) (B : List ℕ) (L : Private) (top low : ℕ) (ops : List ℤ) (pc : ℕ) (w : World) (st : St g B L top low ops pc w) (i : Instruction) →
    w.count < g.n → g.R (suc w.count) ≡ after (effect i (now g B L top low ops pc w st)) w.count (now g B L top low ops pc w st) →
    (B' : List ℕ) (L' : Private) (top' : ℕ) (ops' : List ℤ) (pc' : ℕ) (M' E' : List ℤ) (t' : ℕ) (h' : Host) →
    effect i (now g B L top low ops pc w st) ≡ goes (record { operands = ops'; bases = B'; next = pc'; top = t'; cells = M'; host = h' }) →
    Mem (own_cells g.b) L' top' M' E' → t' ≡ top' → St g B' L' top' low ops' pc' (record { cells = E'; top = t'; host = h'; count = suc w.count })
advance g B L top low ops pc w st i l e B' L' top' ops' pc' M' E' t' h' f m q = record {
  cells = M';
  is = e ∙ ap (λ (x : Effect). after x w.count (now g B L top low ops pc w st)) f;
  mem = m;
  top_is = q;
  low_is = omega (arith, st.low_is);
  bound = l;
}
