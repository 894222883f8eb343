-- Laws of runs: one that is going takes a step, and one that has ended stays.
use Rattle.std.proofs.Common.{◌≡◌, ℕ, zero, suc, ◌+◌, ◌-◌, ◌≤◌, List, sym, refl, ap, ◌∙◌, subst, add-zero, add-suc, add-one, arith}
use Rattle.machine.specs.declared.instruction.Instruction.{Instruction}
use Rattle.running.specs.declared.advance.Standing.{Standing}
use Rattle.running.specs.declared.advance.Standing.TheVariants.{Going, Finished, Failed}
use Rattle.machine.specs.Shelves.{fetched}
use Rattle.machine.specs.Machine as Spec
use Rattle.machine.specs.Machine.{Machine, Effect, goes, stops, fails, Run, going, finished, failed, attempted, after, one_more, run}
use Rattle.running.specs.Standings.{standing_of, begun, Came, Shows}

came_going : (e : Effect) (n : ℕ) (b a : Machine) → Came e Going b a → after e n b ≡ begun (suc n) a
came_going (goes m) n b a p = ap (begun (suc n)) (sym p.1)
came_going (stops m) n b a p = let e = p.0 in let z : ◌≡◌ {A = ℕ} 0 1 = cc in absurd (omega arith)
came_going (fails k) n b a p = absurd p.0

came_ended : (e : Effect) (s : Standing) (n : ℕ) (b a : Machine) → (s ≡ Going → ⊥) → Came e s b a → Shows (after e n b) s (suc n) a
came_ended (goes m) s n b a h p = absurd (h p.0)
came_ended (stops m) s n b a h p =
    record { standing = ap standing_of (sym p.0); count = refl; cells = sym p.1; host = sym p.2; registers = λ g. absurd (h g) }
came_ended (fails k) Going n b a h p = absurd (h refl)
came_ended (fails k) Finished n b a h p = absurd p.0
came_ended (fails k) (Failed f) n b a h p =
    record { standing = ap failed (sym p.0); count = refl; cells = sym p.1; host = sym p.2; registers = λ g. absurd (h g) }

-- one instruction more of a run that was going
module _ (code : List Instruction) (r : Run) (n c : ℕ) (b : Machine) (inv : run code n r ≡ begun c b) where
  stepped : run code (n + 1) r ≡ after (attempted (fetched code b.next) b) c b
  stepped = ap (λ (k : ℕ). run code k r) (add-one n) ∙ ap (λ (q : Run). one_more code q.standing q) inv

  pub goes_on : (a : Machine) → Came (attempted (fetched code b.next) b) Going b a → run code (n + 1) r ≡ begun (c + 1) a
  goes_on a p = stepped ∙ came_going (attempted (fetched code b.next) b) c b a p ∙ ap (λ (k : ℕ). begun k a) (sym (add-one c))

  pub ends : (s : Standing) (a : Machine) → (s ≡ Going → ⊥) → Came (attempted (fetched code b.next) b) s b a → Shows (run code (n + 1) r) s (c + 1) a
  ends s a h p =
      subst (λ (q : Run). Shows q s (c + 1) a) (sym stepped)
      (subst (λ (k : ℕ). Shows (after (attempted (fetched code b.next) b) c b) s k a) (sym (add-one c)) (came_ended (attempted (fetched code b.next) b) s c b a h p))

-- a run that has ended stays, whatever is left of the budget
still : (code : List Instruction) (s : Spec.Standing) (r : Run) → (s ≡ going → ⊥) → one_more code s r ≡ r
still code going r h = absurd (h refl)
still code finished r h = refl
still code (failed f) r h = refl

stays : (code : List Instruction) (r : Run) (n k : ℕ) → ((run code n r).standing ≡ going → ⊥) → run code (n + k) r ≡ run code n r
stays code r n zero h = ap (λ (i : ℕ). run code i r) (add-zero n)
stays code r n (suc k) h =
    let before = stays code r n k h in
    ap (λ (i : ℕ). run code i r) (add-suc n k)
    ∙ ap (λ (q : Run). one_more code q.standing q) before
    ∙ still code (run code n r).standing (run code n r) h

not_going : (s : Standing) → (s ≡ Going → ⊥) → standing_of s ≡ going → ⊥
not_going Going h e = h refl
not_going Finished h e = let z : ◌≡◌ {A = ℕ} 0 1 = cc in omega arith
not_going (Failed f) h e = let z : ◌≡◌ {A = ℕ} 0 1 = cc in omega arith

pub ended : (code : List Instruction) (r : Run) (n budget count : ℕ) (s : Standing) (a : Machine) → (s ≡ Going → ⊥) → n ≤ budget
    → Shows (run code n r) s count a → Shows (run code budget r) s count a
ended code r n budget count s a h l p =
    let e : n + (budget - n) ≡ budget = omega arith in
    let same : run code budget r ≡ run code n r =
    ap (λ (i : ℕ). run code i r) (sym e) ∙ stays code r n (budget - n) (λ g. not_going s h (sym p.standing ∙ g)) in
    subst (λ (q : Run). Shows q s count a) (sym same) p

-- a run that is going shows all of its machine
pub going_on : (r : Run) (count : ℕ) (m : Machine) → r ≡ begun count m → Shows r Going count m
going_on r count m e = subst (λ (q : Run). Shows q Going count m) (sym e) (record { standing = refl; count = refl; cells = refl; host = refl; registers = λ _. refl })

-- and is known by what it shows
pub known : (r : Run) (count : ℕ) (m : Machine) → Shows r Going count m → r ≡ begun count m
known r count m p =
    ap (λ (s : Spec.Standing). record { standing = s; count = r.count; machine = r.machine }) p.standing
    ∙ ap (λ (c : ℕ). record { standing = going; count = c; machine = r.machine }) p.count
    ∙ ap (begun count) (p.registers refl)

-- what shows a machine shows the same one
pub shows_same : (r : Run) (s : Standing) (count : ℕ) (m n : Machine) → Shows r s count m → m ≡ n → Shows r s count n
shows_same r s count m n h e = subst (Shows r s count) e h
