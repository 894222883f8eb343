-- What an effect is once a call has settled what it waits for.
use Rattle.std.proofs.Common.{◌≡◌, ℕ, ◌<◌, List, length, ℤ, Result, sym, subst}
use Rattle.std.proofs.lemmas.Bool.{lt-ltb}
use Rattle.machine.specs.declared.fault.Fault.{Fault}
use Rattle.machine.specs.Machine.{Machine, Effect, room, made, within, link}
use Rattle.running.specs.declared.flow.Flow.{Flow}
use Rattle.running.specs.Calculations.{element}
use Rattle.running.specs.Running.{Went}
use Rattle.running.specs.Settling.{Settles, onward}

module _ (r : Result Flow Fault) (m o : Machine) where
  pub room_on : (ops : List ℤ) (e : Effect) → length ops < 128 → Went e r m o → Went (room ops e) r m o
  room_on ops e h w = let t = lt-ltb (length ops) 128 h in simp t w

  settled_on : (e e' : Effect) → e ≡ e' → Went e' r m o → Went e r m o
  settled_on e e' s w = subst (λ (x : Effect). Went x r m o) (sym s) w

  pub within_on : (z : ℤ) (n : ℕ) (cs : List ℤ) (go : ℕ → Effect) (a : Result ℕ Fault) → Settles (within z n cs) a → Went (onward go a) r m o → Went (within z n cs go) r m o
  within_on z n cs go a s w = settled_on (within z n cs go) (onward go a) (s.goes_on go) w

  pub made_on : (z : ℤ) (go : ℕ → Effect) (a : Result ℕ Fault) → Settles (made z) a → Went (onward go a) r m o → Went (made z go) r m o
  made_on z go a s w = settled_on (made z go) (onward go a) (s.goes_on go) w

  pub link_on : (z : ℤ) (go : ℕ → Effect) (a : Result ℕ Fault) → Settles (link z) a → Went (onward go a) r m o → Went (link z go) r m o
  link_on z go a s w = settled_on (link z go) (onward go a) (s.goes_on go) w

  pub element_on : (n s : ℕ) (b i : ℤ) (go : ℕ → Effect) (a : Result ℕ Fault) → Settles (element n s b i) a → Went (onward go a) r m o → Went (element n s b i go) r m o
  element_on n s b i go a t w = settled_on (element n s b i go) (onward go a) (t.goes_on go) w

pub ruleset settling = (room_on, within_on, made_on, link_on, element_on)
