-- The last charge of each row, beside its instruction.
use Rattle.std.proofs.Common.{◌≡◌, ℕ, zero, suc, ◌+◌, ◌<◌, ◌≤◌, Bool, true, false, cond, eqb, leb, List, [], ◌∷◌, ◌++◌, length, get_or, set, ℤ, pos, Some, sym, ap, ◌∙◌, subst, arith}
use Rattle.machine.specs.declared.instruction.Instruction.{Instruction}
use Rattle.machine.specs.declared.instruction.Instruction.TheVariants.{Copy, Jmp, Jf, Zero}
use Rattle.machine.specs.Ints.{Answer, gives, faults, is_zero}
use Rattle.machine.specs.Host.{Host, Item}
use Rattle.machine.specs.declared.host.Event.{Event}
use Rattle.meaning.specs.Evaluation.{World, Outcome, done, cut, fault, ◌>>=◌, ◌>>◌, charge, return, save, move, clear, hear, taken, said, own_cells, zeroed, moved}
use Rattle.machine.specs.Machine.{Machine, Effect, goes, fails, fetched, after, effect, within, on, on_cells, on_host, jump, one, get, say, heard, settled}
use Rattle.meaning.specs.Code.{zeroing, own_length}
use Rattle.meaning.specs.Sizes as Sizes
use Rattle.meaning.proofs.Cells.{Private, Free, mem_set, mem_zero, mem_move}
use Rattle.meaning.proofs.Tracks.{Setting, tick, mach, now, Ends, charged, fault_here}
use Rattle.meaning.proofs.Scopes.{Sits}
use Rattle.meaning.proofs.Effects.{within_ok, copy_ok, advance}
use Rattle.meaning.proofs.ExpressionRuns.{S, in_memory}

module _ (g : Setting) (B : List ℕ) (L : Private) (T low : ℕ) where
  -- a charge with nothing after it
  pub last : (Q : Unit → World → Type 0) (w : World) → Ends g ((charge g.n >> return tt) w) Q → Ends g (charge g.n w) Q
  last Q w h = go (eqb w.count g.n) h
    where
      go : (v : Bool) →
          Ends g (elim (elim v as (λ x. Outcome Unit) [ true ↦ cut w | false ↦ done tt (tick w) ]) as (λ x. Outcome Unit) [ done a v ↦ done tt v | cut v ↦ cut v | fault e v ↦ fault e v ]) Q →
          Ends g (elim v as (λ x. Outcome Unit) [ true ↦ cut w | false ↦ done tt (tick w) ]) Q
      go true h = h
      go false h = h

  pub relow : (low' : ℕ) (ops : List ℤ) (pc : ℕ) (w : World) → low' ≤ w.count → S g B L T low ops pc w → S g B L T low' ops pc w
  relow low' ops pc w h st = record { cells = st.cells; is = st.is; mem = st.mem; top_is = st.top_is; low_is = h; bound = st.bound }

  module _ (ops : List ℤ) (pc : ℕ) (w : World) where
    pub copy_row : (a b s : ℕ) (ops' : List ℤ) (pc' : ℕ) → pc' ≡ suc pc → ops ≡ pos b ∷ pos a ∷ ops' → fetched g.code pc ≡ Some (Copy s) → a + s ≤ T → b + s ≤ T → Free L a s → Free L b s → S g B L T low ops pc w →
        Ends g ((charge g.n >> move g.n a b s) w) (λ _. S g B L T low ops' pc')
    copy_row a b s ops' pc' e o f h k fa fb st =
        charged g B L T low ops pc w st (λ _. S g B L T low ops' pc') (move g.n a b s) (Copy s) f
        (λ l r. subst (λ q. S g B L T low ops' q (record { cells = moved w.cells a b s; top = w.top; host = w.host; count = suc w.count })) (sym e)
        (advance g B L T low ops pc w st (Copy s) l r B L T ops' (suc pc) (moved st.cells a b s) (moved w.cells a b s) w.top w.host
        (copy_ok (now g B L T low ops pc w st) a b s ops' o (in_memory g B L T low a s st.cells w.cells st.mem h) (in_memory g B L T low b s st.cells w.cells st.mem k))
        (mem_move (Sizes.own_cells g.b) L T st.cells w.cells st.mem a b s h k fa fb) st.top_is))

    pub jump_row : {A : Type 0} (Q : A → World → Type 0) (k : World → Outcome A) (t : ℕ) → fetched g.code pc ≡ Some (Jmp t) → S g B L T low ops pc w →
        (S g B L T (suc low) ops t (tick w) → Ends g (k (tick w)) Q) → Ends g ((charge g.n >> k) w) Q
    jump_row Q k t f st c =
        charged g B L T low ops pc w st Q k (Jmp t) f (λ l r. c (record { cells = st.cells; is = r; mem = st.mem; top_is = st.top_is; low_is = omega (arith, st.low_is); bound = l }))

    pub branch_row : {A : Type 0} (Q : A → World → Type 0) (x : ℤ) (ops' : List ℤ) (zer non : World → Outcome A) (t : ℕ) → ops ≡ x ∷ ops' → fetched g.code pc ≡ Some (Jf t) → S g B L T low ops pc w →
        (S g B L T low ops' t (tick w) → Ends g (zer (tick w)) Q) → (S g B L T low ops' (suc pc) (tick w) → Ends g (non (tick w)) Q) →
        Ends g ((charge g.n >> (elim (is_zero x) as (λ b. World → Outcome A) [ true ↦ zer | false ↦ non ])) w) Q
    branch_row {A} Q x ops' zer non t o f st y z =
        charged g B L T low ops pc w st Q (elim (is_zero x) as (λ b. World → Outcome A) [ true ↦ zer | false ↦ non ]) (Jf t) f (λ l r. go l (is_zero x) (rw o at r))
      where
        m : Machine
        m = mach w ops B pc st.cells

        go : w.count < g.n → (v : Bool) → g.R (suc w.count) ≡ after (goes (cond v (jump m ops' t) (on m ops'))) w.count m →
            Ends g ((elim v as (λ b. World → Outcome A) [ true ↦ zer | false ↦ non ]) (tick w)) Q
        go l true r = y (record { cells = st.cells; is = r; mem = st.mem; top_is = st.top_is; low_is = omega (arith, st.low_is); bound = l })
        go l false r = z (record { cells = st.cells; is = r; mem = st.mem; top_is = st.top_is; low_is = omega (arith, st.low_is); bound = l })

    pub said_row : (e : Event) (i : Instruction) (ops' : List ℤ) (pc' : ℕ) → pc' ≡ suc pc → ((st : S g B L T low ops pc w) → effect i (now g B L T low ops pc w st) ≡ say e (now g B L T low ops pc w st) ops') → fetched g.code pc ≡ Some i →
        S g B L T low ops pc w → Ends g ((charge g.n >> said g.n e) w) (λ _. S g B L T low ops' pc')
    said_row e i ops' pc' q s f st =
        charged g B L T low ops pc w st (λ _. S g B L T low ops' pc') (said g.n e) i f (λ l r. go l (leb (length h.marks) w.host.room) (r ∙ ap (λ (x : Effect). after x w.count m) (s st)))
      where
        m : Machine
        m = mach w ops B pc st.cells

        h : Host
        h = record { items = w.host.items; marks = w.host.marks ++ w.host.renders e; room = w.host.room; renders = w.host.renders }

        w' : World
        w' = record { cells = w.cells; top = w.top; count = suc w.count; host = h }

        go : w.count < g.n → (v : Bool) → g.R (suc w.count) ≡ after (cond v (goes (on_host m ops' st.cells h)) (fails 26)) w.count m →
            Ends g (elim v as (λ b. Outcome Unit) [ true ↦ done tt w' | false ↦ fault 26 (tick w) ]) (λ _. S g B L T low ops' pc')
        go l true r = subst (λ x. S g B L T low ops' x w') (sym q) (record { cells = st.cells; is = r; mem = st.mem; top_is = st.top_is; low_is = omega (arith, st.low_is); bound = l })
        go l false r = fault_here g B L T low ops pc w st 26 l r

    pub heard_row : (a : ℕ) (y : Item → Answer) (i : Instruction) (ops' : List ℤ) (pc' : ℕ) → pc' ≡ suc pc → ops ≡ pos a ∷ ops' → ((m : Machine) → effect i m ≡ get y m) → fetched g.code pc ≡ Some i →
        a + 1 ≤ T → Free L a 1 → S g B L T low ops pc w → Ends g ((charge g.n >> ((λ v. hear g.n v.host.items y v) >>= save g.n a)) w) (λ _. S g B L T low ops' pc')
    heard_row a y i ops' pc' q o s f h fr st =
        charged g B L T low ops pc w st Q ((λ v. hear g.n v.host.items y v) >>= save g.n a) i f
        (λ l r. go l w.host.items (r ∙ ap (λ (x : Effect). after x w.count m) (s m
        ∙ ap (λ (p : List ℤ). one p (λ c ops''. heard w.host.items y w.host (λ z h. within c 1 st.cells (λ b. goes (on_host m ops'' (set st.cells b z) h))))) o)))
      where
        Q : Unit {0} → World → Type 0
        Q = λ _. S g B L T low ops' pc'

        m : Machine
        m = mach w ops B pc st.cells

        k : ℤ → Host → Effect
        k = λ z h. within (pos a) 1 st.cells (λ b. goes (on_host m ops' (set st.cells b z) h))

        go₂ : w.count < g.n → (is : List Item) (x : Answer) →
            g.R (suc w.count) ≡ after (settled x (λ z. k z (record { items = is; marks = w.host.marks; room = w.host.room; renders = w.host.renders }))) w.count m →
            Ends g (((λ v. taken g.n is x v) >>= save g.n a) (tick w)) Q
        go₂ l is (faults c) r = fault_here g B L T low ops pc w st c l r
        go₂ l is (gives z) r =
            subst (λ x. S g B L T low ops' x w') (sym q) (record {
              cells = set st.cells a z;
              is = r ∙ ap (λ (x : Effect). after x w.count m) (within_ok a 0 st.cells (λ b. goes (on_host m ops' (set st.cells b z) h')) (in_memory g B L T low a 1 st.cells w.cells st.mem h));
              mem = mem_set (Sizes.own_cells g.b) L T st.cells w.cells st.mem a z (omega arith) (fr a (omega arith) (omega arith));
              top_is = st.top_is;
              low_is = omega (arith, st.low_is);
              bound = l;
            })
          where
            h' : Host
            h' = record { items = is; marks = w.host.marks; room = w.host.room; renders = w.host.renders }

            w' : World
            w' = record { cells = set w.cells a z; top = w.top; host = h'; count = suc w.count }

        go : w.count < g.n → (its : List Item) → g.R (suc w.count) ≡ after (heard its y w.host k) w.count m →
            Ends g (((λ v. hear g.n its y v) >>= save g.n a) (tick w)) Q
        go l [] r = fault_here g B L T low ops pc w st 24 l r
        go l (x ∷ is) r = go₂ l is (y x) r

    pub own_row : (l k a s : ℕ) → a ≡ get_or B l 0 + k → Sits g.code (zeroing l k s) pc → a + s ≤ T → Free L a s → S g B L T low ops pc w →
        Ends g (own_cells g.n a s w) (λ _. S g B L T low ops (pc + own_length s))
    own_row l k a zero e c h f st = subst (λ x. S g B L T low ops x w) p st
      where
        p : pc ≡ pc + 0
        p = omega arith
    own_row l k a (suc s) e c h f st =
        charged g B L T low ops pc w st (λ _. S g B L T low ops (pc + 1)) (clear g.n a (suc s)) (Zero l k (suc s)) c.0
        (λ i r. subst (λ x. S g B L T low ops x (record { cells = zeroed w.cells a (suc s); top = w.top; host = w.host; count = suc w.count })) p
        (advance g B L T low ops pc w st (Zero l k (suc s)) i r B L T ops (suc pc) (zeroed st.cells a (suc s)) (zeroed w.cells a (suc s)) w.top w.host
        (ap (λ (x : ℕ). within (pos x) (suc s) st.cells (λ b. goes (on_cells m ops (zeroed st.cells b (suc s))))) (sym e)
        ∙ within_ok a s st.cells (λ b. goes (on_cells m ops (zeroed st.cells b (suc s)))) (in_memory g B L T low a (suc s) st.cells w.cells st.mem h))
        (mem_zero (Sizes.own_cells g.b) L T st.cells w.cells st.mem a (suc s) h f) st.top_is))
      where
        m : Machine
        m = mach w ops B pc st.cells

        p : suc pc ≡ pc + 1
        p = omega arith
