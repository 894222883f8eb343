-- Actions, blocks and the bodies of procedures: their code beside their evaluation over addresses.
use Rattle.std.proofs.Common.{◌≡◌, ℕ, zero, suc, ◌+◌, ◌<◌, ◌≤◌, true, false, not, List, [], ◌∷◌, ◌++◌, length, ℤ, pos, Some, sym, refl, subst, arith}
use Rattle.machine.specs.declared.instruction.Instruction.{Instruction}
use Rattle.machine.specs.declared.instruction.Instruction.TheVariants.{Copy, Jmp, Geti, Getb, Puti, Putb, Nl, Pop}
use Rattle.meaning.specs.Rule.{Place, Value, Argument, Formal, Action, Actions, Block}
use Rattle.meaning.specs.Rule as Rule
use Rattle.machine.specs.Ints.{Answer, is_zero}
use Rattle.machine.specs.Host.{Item}
use Rattle.machine.specs.declared.host.Event.{Event}
use Rattle.machine.specs.declared.host.Event.TheVariants.{Int as wrote_int, Bool as wrote_bool, Line as wrote_line}
use Rattle.meaning.specs.Evaluation.{World, Outcome, done, cut, fault, ◌>>=◌, ◌>>◌, charge, return, save, move, hear, said, as_int, as_bool, Env, own_cells, act, act_all, run_block, found, called, ranked, own_size, actions_extent}
use Rattle.meaning.specs.Evaluation as Evaluation
use Rattle.machine.specs.Machine.{Machine, fetched, effect, get, say}
use Rattle.meaning.specs.Code.{Scope, entry_of, place_length, value_length, arguments_length, action_length, actions_length, block_length, own_length, action_procs, block_procs, declared_procs, zeroing, procs_action, procs_actions, procs_declared, procs_block}
use Rattle.meaning.specs.Code as Code
use Rattle.meaning.specs.Sound.{Slot, holds, refers, takes, missing, slot, slots, FitsPlace, FitsValue, FitsArguments, FitsCall, FitsActions, place_need, value_need, arguments_need, actions_need}
use Rattle.meaning.proofs.Cells.{Private, Free}
use Rattle.meaning.proofs.Tracks.{Setting, St, tick, now, Ends, ends_bind}
use Rattle.meaning.proofs.Scopes.{Sits, sits_left, sits_right, sits_at, Rel, RelProc}
use Rattle.meaning.proofs.Lengths.{Shape, place_long, value_long, action_long, block_long, zeroing_long, procs_action_long, procs_declared_long, procs_block_long}
use Rattle.meaning.proofs.ExpressionRuns.{plain, place_ok, value_ok}
use Rattle.meaning.proofs.Rows.{last, relow, copy_row, jump_row, branch_row, said_row, heard_row, own_row}
use Rattle.meaning.proofs.NameRuns.{rel_shape, rel_declared, below_declared}
use Rattle.meaning.proofs.CallRuns.{Ready, Act, Tracked, call_ok}

pub record Acts (g : Setting) (L : Private) (T : ℕ) (Γ : Scope) (σ : List Slot) (l k free pc t : ℕ) (xs : Actions) : Type 0 where
  pub code : Sits g.code (Code.actions xs Γ l k pc t) pc
  pub procs : Sits g.code (procs_actions xs Γ l k t) t
  pub fits : FitsActions xs σ l
  pub need : actions_need xs ≤ 128
  pub room : free + actions_extent xs ≤ T
  pub off : Free L free (actions_extent xs)

module _ (g : Setting) (again : Action → Env → ℕ → World → Outcome Unit) (r : ℕ) (again-ok : Tracked g again r)
    (B : List ℕ) (L : Private) (T low : ℕ) (enough : g.n < low + suc r) (l : ℕ) where
  abbrev At : ℕ → World → Type 0
  At pc w = St g B L T low [] pc w

  at_pc : (p q : ℕ) (w : World) → p ≡ q → At p w → At q w
  at_pc p q w e st = subst (λ x. At x w) e st

  ends_pc : (o : Outcome Unit) (p q : ℕ) → p ≡ q → Ends g o (λ _. At p) → Ends g o (λ _. At q)
  ends_pc o p q e h = subst (λ x. Ends g o (λ _. At x)) e h

  -- a call finds its procedure
  proc_ok : (nine : length B ≡ 9) (Γ : Scope) (ρ : Env) (σ : List Slot) (rel : Rel g.code B L T Γ ρ σ) (Γ' : Scope) (ρ' : Env) (σ' : List Slot) (rel' : Rel g.code B L T Γ' ρ' σ')
      (fs : List Formal) (sz lv t : ℕ) (fs' : List Formal) (b : Block) (x : Slot) (xs : List Argument) (pc : ℕ) (w : World) →
      RelProc g.code Γ' σ' fs sz lv t fs' b x → FitsCall x xs σ → Sits g.code (Code.called (Code.procedure fs sz lv t) xs Γ) pc → 2 + arguments_need xs ≤ 128 → At pc w →
      Ends g (called g.n again (Evaluation.procedure fs' b) xs ρ (Evaluation.procedure fs' b ∷ ρ') w) (λ _. At (pc + (1 + (arguments_length xs + 1))))
  proc_ok nine Γ ρ σ rel Γ' ρ' σ' rel' fs sz lv t fs' b (holds s) xs pc w p f c h st = absurd f
  proc_ok nine Γ ρ σ rel Γ' ρ' σ' rel' fs sz lv t fs' b (refers s) xs pc w p f c h st = absurd f
  proc_ok nine Γ ρ σ rel Γ' ρ' σ' rel' fs sz lv t fs' b (takes fs'') xs pc w p f c h st =
      subst (λ (y : List Formal). Ends g (called g.n again (Evaluation.procedure y b) xs ρ (Evaluation.procedure y b ∷ ρ') w) (λ _. At (pc + (1 + (arguments_length xs + 1))))) (sym p.0)
      (call_ok g again r again-ok B L T low nine enough Γ ρ σ rel Γ' ρ' σ' rel' fs sz lv t b p.2 xs (subst (λ (y : List Formal). FitsArguments y xs σ) p.1 f) h pc c w st)
  proc_ok nine Γ ρ σ rel Γ' ρ' σ' rel' fs sz lv t fs' b missing xs pc w p f c h st = absurd f

  cell_no : (x : Slot) (a k j : ℕ) (xs : List Argument) (σ : List Slot) → Rel g.code B L T (Code.at k j ∷ []) (Evaluation.at a ∷ []) (x ∷ []) → FitsCall x xs σ → ⊥
  cell_no (holds s) a k j xs σ q f = f
  cell_no (refers s) a k j xs σ q f = f
  cell_no (takes fs) a k j xs σ q f = q.0
  cell_no missing a k j xs σ q f = f

  found_ok : (nine : length B ≡ 9) (Γ : Scope) (ρ : Env) (σ : List Slot) (rel : Rel g.code B L T Γ ρ σ) (Γ' : Scope) (ρ' : Env) (σ' : List Slot) (i : ℕ) (xs : List Argument) (pc : ℕ) (w : World) →
      Rel g.code B L T Γ' ρ' σ' → FitsCall (slot σ' i) xs σ → Sits g.code (Code.called (entry_of Γ' i) xs Γ) pc → 2 + arguments_need xs ≤ 128 → At pc w →
      Ends g (found g.n again ρ' i xs ρ w) (λ _. At (pc + (1 + (arguments_length xs + 1))))
  found_ok nine Γ ρ σ rel [] [] [] i xs pc w q f c h st = absurd f
  found_ok nine Γ ρ σ rel [] [] (x ∷ σ') i xs pc w q f c h st = absurd q
  found_ok nine Γ ρ σ rel [] (b ∷ ρ') σ' i xs pc w q f c h st = absurd q
  found_ok nine Γ ρ σ rel (e ∷ Γ') [] σ' i xs pc w q f c h st = absurd q
  found_ok nine Γ ρ σ rel (e ∷ Γ') (b ∷ ρ') [] i xs pc w q f c h st = absurd q
  found_ok nine Γ ρ σ rel (Code.at k j ∷ Γ') (Evaluation.at a ∷ ρ') (x ∷ σ') zero xs pc w q f c h st = absurd (cell_no x a k j xs σ (q.0, tt) f)
  found_ok nine Γ ρ σ rel (Code.at k j ∷ Γ') (Evaluation.procedure fs b ∷ ρ') (x ∷ σ') zero xs pc w q f c h st = absurd q.0
  found_ok nine Γ ρ σ rel (Code.procedure fs sz lv t ∷ Γ') (Evaluation.at a ∷ ρ') (x ∷ σ') zero xs pc w q f c h st = absurd q.0
  found_ok nine Γ ρ σ rel (Code.procedure fs sz lv t ∷ Γ') (Evaluation.procedure fs' b ∷ ρ') (x ∷ σ') zero xs pc w q f c h st =
      proc_ok nine Γ ρ σ rel Γ' ρ' σ' q.1 fs sz lv t fs' b x xs pc w q.0 f c h st
  found_ok nine Γ ρ σ rel (e ∷ Γ') (b ∷ ρ') (x ∷ σ') (suc i) xs pc w q f c h st = found_ok nine Γ ρ σ rel Γ' ρ' σ' i xs pc w q.1 f c h st

  -- the last charge drops the operand
  pop_ok : (x : ℤ) (pc pc' : ℕ) (w : World) → pc' ≡ suc pc → fetched g.code pc ≡ Some Pop → St g B L T low (x ∷ []) pc w → Ends g (charge g.n w) (λ _. At pc')
  pop_ok x pc pc' w e f st = last g B L T low (λ _. At pc') w (plain g B L T low (λ _. At pc') (return tt) (x ∷ []) pc w st Pop f [] pc' e refl (λ st'. st'))

  module _ (Γ : Scope) (ρ : Env) (σ : List Slot) (k free : ℕ) (ready : Ready g B L T Γ ρ σ l k free) where
    abbrev PlaceAt : ℕ → List ℤ → ℕ → ℕ → World → Type 0
    PlaceAt s ops pc a w = (a + s ≤ T) × Free L a s × St g B L T low (pos a ∷ ops) pc w

    place_row : (p : Place) (s : ℕ) → FitsPlace p σ s → (ops : List ℤ) (pc : ℕ) (c : List Instruction) (w : World) → Sits g.code (Code.place p Γ ++ c) pc → length ops + place_need p ≤ 128 →
        St g B L T low ops pc w → Ends g (Evaluation.place g.n p ρ w) (PlaceAt s ops (pc + place_length p))
    place_row p s f ops pc c w h n st = place_ok g B L T low T (omega arith) Γ ρ σ ready.rel p s f ops pc w (sits_left g.code (Code.place p Γ) c pc h) n st

    value_row : (v : Value) → FitsValue v σ → (pc : ℕ) (c : List Instruction) (w : World) → Sits g.code (Code.value v Γ ++ c) pc → value_need v ≤ 128 →
        At pc w → Ends g (Evaluation.value g.n v ρ w) (λ x. St g B L T low (x ∷ []) (pc + value_length v))
    value_row v f pc c w h n st = value_ok g B L T low T (omega arith) Γ ρ σ ready.rel v f [] pc w (sits_left g.code (Code.value v Γ) c pc h) (omega arith) st

    after_place : (p : Place) (pc : ℕ) (c : List Instruction) → Sits g.code (Code.place p Γ ++ c) pc → Sits g.code c (pc + place_length p)
    after_place p pc c h = sits_right g.code (Code.place p Γ) c pc (place_length p) (place_long p Γ) h

    after_value : (v : Value) (pc : ℕ) (c : List Instruction) → Sits g.code (Code.value v Γ ++ c) pc → Sits g.code c (pc + value_length v)
    after_value v pc c h = sits_right g.code (Code.value v Γ) c pc (value_length v) (value_long v Γ) h

    copy_ok : (p q : Place) (s pc t : ℕ) (w : World) → Act g L T Γ σ l k free pc t (Rule.copy p q s) → At pc w → Ends g (act g.n again (Rule.copy p q s) ρ free w) (λ _. At (pc + (place_length p + (place_length q + 1))))
    copy_ok p q s pc t w a st =
        ends_bind g (PlaceAt s [] (pc + place_length p)) Q (Evaluation.place g.n p ρ) (λ x. Evaluation.place g.n q ρ >>= (λ y. charge g.n >> move g.n x y s)) w
        (place_row p s a.fits.0 [] pc _ w a.code (omega (arith, a.need)) st)
        (λ x v at. ends_bind g (PlaceAt s (pos x ∷ []) (pc + place_length p + place_length q)) Q (Evaluation.place g.n q ρ) (λ y. charge g.n >> move g.n x y s) v
        (place_row q s a.fits.1 (pos x ∷ []) (pc + place_length p) (Copy s ∷ []) v (after_place p pc _ a.code) (omega (arith, a.need)) at.2)
        (λ y v' at'. copy_row g B L T low (pos y ∷ pos x ∷ []) (pc + place_length p + place_length q) v' x y s [] (pc + (place_length p + (place_length q + 1))) (omega arith) refl
        (after_place q (pc + place_length p) (Copy s ∷ []) (after_place p pc _ a.code)).0 at.0 at'.0 at.1 at'.1 at'.2))
      where
        Q : Unit {0} → World → Type 0
        Q = λ _. At (pc + (place_length p + (place_length q + 1)))

    read_ok : (p : Place) (y : Item → Answer) (i : Instruction) → ((m : Machine) → effect i m ≡ get y m) → FitsPlace p σ 1 → place_need p ≤ 128 →
        (pc : ℕ) (w : World) → Sits g.code (Code.place p Γ ++ (i ∷ [])) pc → At pc w →
        Ends g ((Evaluation.place g.n p ρ >>= (λ a. charge g.n >> ((λ v. hear g.n v.host.items y v) >>= save g.n a))) w) (λ _. At (pc + (place_length p + 1)))
    read_ok p y i e f n pc w c st =
        ends_bind g (PlaceAt 1 [] (pc + place_length p)) (λ _. At (pc + (place_length p + 1))) (Evaluation.place g.n p ρ) (λ a. charge g.n >> ((λ v. hear g.n v.host.items y v) >>= save g.n a)) w
        (place_row p 1 f [] pc (i ∷ []) w c (omega arith) st)
        (λ a v at. heard_row g B L T low (pos a ∷ []) (pc + place_length p) v a y i [] (pc + (place_length p + 1)) (omega arith) refl e (after_place p pc (i ∷ []) c).0 at.0 at.1 at.2)

    write_ok : (u : Value) (y : ℤ → Event) (i : Instruction) → ((m : Machine) (x : ℤ) → m.operands ≡ x ∷ [] → effect i m ≡ say (y x) m []) → FitsValue u σ → value_need u ≤ 128 →
        (pc : ℕ) (w : World) → Sits g.code (Code.value u Γ ++ (i ∷ [])) pc → At pc w → Ends g ((Evaluation.value g.n u ρ >>= (λ x. charge g.n >> said g.n (y x))) w) (λ _. At (pc + (value_length u + 1)))
    write_ok u y i e f n pc w c st =
        ends_bind g (λ x. St g B L T low (x ∷ []) (pc + value_length u)) (λ _. At (pc + (value_length u + 1))) (Evaluation.value g.n u ρ) (λ x. charge g.n >> said g.n (y x)) w
        (value_row u f pc (i ∷ []) w c n st)
        (λ x v st'. said_row g B L T low (x ∷ []) (pc + value_length u) v (y x) i [] (pc + (value_length u + 1)) (omega arith) (λ s. e (now g B L T low (x ∷ []) (pc + value_length u) v s) x refl) (after_value u pc (i ∷ []) c).0 st')

    shape : Shape Γ σ
    shape = rel_shape g.code B L T Γ ρ σ ready.rel

    -- the parts of an action that are blocks
    choose_part : (u : Value) (b : Block) (pc t : ℕ) → Act g L T Γ σ l k free pc t (Rule.choose u b) → Act g L T Γ σ l k free (pc + (value_length u + 1)) t (Rule.inner b)
    choose_part u b pc t a = record {
      code = sits_at g.code (Code.block b Γ l k (pc + (value_length u + 1)) t) (suc (pc + value_length u)) (pc + (value_length u + 1)) (omega arith) (after_value u pc _ a.code).1;
      procs = a.procs;
      fits = a.fits.1;
      need = omega (arith, a.need);
      room = a.room;
      off = a.off;
    }

    repeat_part : (u : Value) (b : Block) (pc t : ℕ) → Act g L T Γ σ l k free pc t (Rule.repeat u b) → Act g L T Γ σ l k free (pc + (value_length u + 1)) t (Rule.inner b)
    repeat_part u b pc t a = record {
      code = sits_at g.code (Code.block b Γ l k (pc + (value_length u + 1)) t) (suc (pc + value_length u)) (pc + (value_length u + 1)) (omega arith)
          (sits_left g.code (Code.block b Γ l k (pc + (value_length u + 1)) t) (Jmp pc ∷ []) (suc (pc + value_length u)) (after_value u pc _ a.code).1);
      procs = a.procs;
      fits = a.fits.1;
      need = omega (arith, a.need);
      room = a.room;
      off = a.off;
    }

    repeat_jump : (u : Value) (b : Block) (pc t : ℕ) → Act g L T Γ σ l k free pc t (Rule.repeat u b) → fetched g.code (pc + (value_length u + 1) + block_length b) ≡ Some (Jmp pc)
    repeat_jump u b pc t a =
        (sits_at g.code (Jmp pc ∷ []) (suc (pc + value_length u) + block_length b) (pc + (value_length u + 1) + block_length b) (omega arith)
        (sits_right g.code (Code.block b Γ l k (pc + (value_length u + 1)) t) (Jmp pc ∷ []) (suc (pc + value_length u)) (block_length b)
        (block_long b Γ σ l k (pc + (value_length u + 1)) t shape a.fits.1) (after_value u pc _ a.code).1)).0

    first_part : (u : Value) (b c : Block) (pc t : ℕ) → Act g L T Γ σ l k free pc t (Rule.choose_else u b c) → Act g L T Γ σ l k free (pc + (value_length u + 1)) t (Rule.inner b)
    first_part u b c pc t a = record {
      code = sits_at g.code (Code.block b Γ l k (pc + (value_length u + 1)) t) (suc (pc + value_length u)) (pc + (value_length u + 1)) (omega arith)
          (sits_left g.code (Code.block b Γ l k (pc + (value_length u + 1)) t) _ (suc (pc + value_length u)) (after_value u pc _ a.code).1);
      procs = sits_left g.code (procs_block b Γ l k t) _ t a.procs;
      fits = a.fits.1;
      need = omega (arith, a.need);
      room = omega (arith, a.room);
      off = λ i p q. a.off i p (omega arith);
    }

    second_code : (u : Value) (b c : Block) (pc t : ℕ) → Act g L T Γ σ l k free pc t (Rule.choose_else u b c) →
        Sits g.code (Jmp (pc + (value_length u + (1 + (block_length b + (1 + block_length c))))) ∷ Code.block c Γ l k (pc + (value_length u + (1 + (block_length b + 1)))) (t + block_procs b)) (pc + (value_length u + 1) + block_length b)
    second_code u b c pc t a =
        sits_at g.code (Jmp (pc + (value_length u + (1 + (block_length b + (1 + block_length c))))) ∷ Code.block c Γ l k (pc + (value_length u + (1 + (block_length b + 1)))) (t + block_procs b)) (suc (pc + value_length u) + block_length b) (pc + (value_length u + 1) + block_length b) (omega arith)
        (sits_right g.code (Code.block b Γ l k (pc + (value_length u + 1)) t) _ (suc (pc + value_length u)) (block_length b)
        (block_long b Γ σ l k (pc + (value_length u + 1)) t shape a.fits.1) (after_value u pc _ a.code).1)

    second_part : (u : Value) (b c : Block) (pc t : ℕ) → Act g L T Γ σ l k free pc t (Rule.choose_else u b c) → Act g L T Γ σ l k free (pc + (value_length u + (1 + (block_length b + 1)))) (t + block_procs b) (Rule.inner c)
    second_part u b c pc t a = record {
      code = sits_at g.code (Code.block c Γ l k (pc + (value_length u + (1 + (block_length b + 1)))) (t + block_procs b)) (suc (pc + (value_length u + 1) + block_length b)) (pc + (value_length u + (1 + (block_length b + 1)))) (omega arith) (second_code u b c pc t a).1;
      procs = sits_right g.code (procs_block b Γ l k t) _ t (block_procs b) (procs_block_long b Γ σ l k t shape a.fits.1) a.procs;
      fits = a.fits.2;
      need = omega (arith, a.need);
      room = omega (arith, a.room);
      off = λ i p q. a.off i p (omega arith);
    }

  mutual
    pub act_ok : (a : Action) (Γ : Scope) (ρ : Env) (σ : List Slot) (k free pc t : ℕ) (w : World) → Ready g B L T Γ ρ σ l k free → Act g L T Γ σ l k free pc t a → At pc w →
        Ends g (act g.n again a ρ free w) (λ _. At (pc + action_length a))
    act_ok (Rule.drop_place p) Γ ρ σ k free pc t w rd a st =
        ends_bind g (PlaceAt Γ ρ σ k free rd a.fits.0 [] (pc + place_length p)) (λ _. At (pc + (place_length p + 1))) (Evaluation.place g.n p ρ) (λ _. charge g.n) w
        (place_row Γ ρ σ k free rd p a.fits.0 a.fits.1 [] pc (Pop ∷ []) w a.code (omega (arith, a.need)) st)
        (λ x v at. pop_ok (pos x) (pc + place_length p) (pc + (place_length p + 1)) v (omega arith) (after_place Γ ρ σ k free rd p pc (Pop ∷ []) a.code).0 at.2)
    act_ok (Rule.drop_value u) Γ ρ σ k free pc t w rd a st =
        ends_bind g (λ x. St g B L T low (x ∷ []) (pc + value_length u)) (λ _. At (pc + (value_length u + 1))) (Evaluation.value g.n u ρ) (λ _. charge g.n) w
        (value_row Γ ρ σ k free rd u a.fits pc (Pop ∷ []) w a.code a.need st)
        (λ x v st'. pop_ok x (pc + value_length u) (pc + (value_length u + 1)) v (omega arith) (after_value Γ ρ σ k free rd u pc (Pop ∷ []) a.code).0 st')
    act_ok (Rule.copy p q n) Γ ρ σ k free pc t w rd a st = copy_ok Γ ρ σ k free rd p q n pc t w a st
    act_ok (Rule.choose u b) Γ ρ σ k free pc t w rd a st =
        ends_bind g (λ x. St g B L T low (x ∷ []) (pc + value_length u)) (λ _. At (pc + (value_length u + (1 + block_length b)))) (Evaluation.value g.n u ρ)
        (λ x. charge g.n >> (elim (is_zero x) as (λ z. World → Outcome Unit) [ true ↦ return tt | false ↦ run_block g.n again b ρ free ])) w
        (value_row Γ ρ σ k free rd u a.fits.0 pc _ w a.code (omega (arith, a.need)) st)
        (λ x v st'. branch_row g B L T low (x ∷ []) (pc + value_length u) v (λ _. At (pc + (value_length u + (1 + block_length b)))) x [] (return tt) (run_block g.n again b ρ free) (pc + (value_length u + (1 + block_length b))) refl
        (after_value Γ ρ σ k free rd u pc _ a.code).0 st' (λ s. s)
        (λ s. ends_pc (run_block g.n again b ρ free (tick v)) (pc + (value_length u + 1) + block_length b) (pc + (value_length u + (1 + block_length b))) (omega arith)
        (block_ok b Γ ρ σ k free (pc + (value_length u + 1)) t (tick v) rd (choose_part Γ ρ σ k free rd u b pc t a) (at_pc (suc (pc + value_length u)) (pc + (value_length u + 1)) (tick v) (omega arith) s))))
    act_ok (Rule.choose_else u b c) Γ ρ σ k free pc t w rd a st =
        ends_bind g (λ x. St g B L T low (x ∷ []) (pc + value_length u)) Q (Evaluation.value g.n u ρ)
        (λ x. charge g.n >> (elim (is_zero x) as (λ z. World → Outcome Unit) [ true ↦ run_block g.n again c ρ free | false ↦ run_block g.n again b ρ free >> charge g.n ])) w
        (value_row Γ ρ σ k free rd u a.fits.0 pc _ w a.code (omega (arith, a.need)) st)
        (λ x v st'. branch_row g B L T low (x ∷ []) (pc + value_length u) v Q x [] (run_block g.n again c ρ free) (run_block g.n again b ρ free >> charge g.n) (pc + (value_length u + (1 + (block_length b + 1)))) refl
        (after_value Γ ρ σ k free rd u pc _ a.code).0 st'
        (λ s. ends_pc (run_block g.n again c ρ free (tick v)) (pc + (value_length u + (1 + (block_length b + 1))) + block_length c) (pc + (value_length u + (1 + (block_length b + (1 + block_length c))))) (omega arith)
        (block_ok c Γ ρ σ k free (pc + (value_length u + (1 + (block_length b + 1)))) (t + block_procs b) (tick v) rd (second_part Γ ρ σ k free rd u b c pc t a) s))
        (λ s. ends_bind g (λ _. At (pc + (value_length u + 1) + block_length b)) Q (run_block g.n again b ρ free) (λ _. charge g.n) (tick v)
        (block_ok b Γ ρ σ k free (pc + (value_length u + 1)) t (tick v) rd (first_part Γ ρ σ k free rd u b c pc t a) (at_pc (suc (pc + value_length u)) (pc + (value_length u + 1)) (tick v) (omega arith) s))
        (λ _ v' s'. last g B L T low Q v' (jump_row g B L T low [] (pc + (value_length u + 1) + block_length b) v' Q (return tt) (pc + (value_length u + (1 + (block_length b + (1 + block_length c)))))
        (second_code Γ ρ σ k free rd u b c pc t a).0 s' (λ s''. relow g B L T (suc low) low [] (pc + (value_length u + (1 + (block_length b + (1 + block_length c))))) (tick v') (omega (arith, s''.low_is)) s'')))))
      where
        Q : Unit {0} → World → Type 0
        Q = λ _. At (pc + (value_length u + (1 + (block_length b + (1 + block_length c)))))
    act_ok (Rule.repeat u b) Γ ρ σ k free pc t w rd a st =
        ends_bind g (λ x. St g B L T low (x ∷ []) (pc + value_length u)) Q (Evaluation.value g.n u ρ)
        (λ x. charge g.n >> (elim (is_zero x) as (λ z. World → Outcome Unit) [ true ↦ return tt | false ↦ run_block g.n again b ρ free >> (charge g.n >> again (Rule.repeat u b) ρ free) ])) w
        (value_row Γ ρ σ k free rd u a.fits.0 pc _ w a.code (omega (arith, a.need)) st)
        (λ x v st'. branch_row g B L T low (x ∷ []) (pc + value_length u) v Q x [] (return tt) (run_block g.n again b ρ free >> (charge g.n >> again (Rule.repeat u b) ρ free)) (pc + (value_length u + (1 + (block_length b + 1)))) refl
        (after_value Γ ρ σ k free rd u pc _ a.code).0 st' (λ s. s)
        (λ s. ends_bind g (λ _. At (pc + (value_length u + 1) + block_length b)) Q (run_block g.n again b ρ free) (λ _. charge g.n >> again (Rule.repeat u b) ρ free) (tick v)
        (block_ok b Γ ρ σ k free (pc + (value_length u + 1)) t (tick v) rd (repeat_part Γ ρ σ k free rd u b pc t a) (at_pc (suc (pc + value_length u)) (pc + (value_length u + 1)) (tick v) (omega arith) s))
        (λ _ v' s'. jump_row g B L T low [] (pc + (value_length u + 1) + block_length b) v' Q (again (Rule.repeat u b) ρ free) pc (repeat_jump Γ ρ σ k free rd u b pc t a) s'
        (λ s''. lowered (again (Rule.repeat u b) ρ free (tick v')) (again-ok B L T (suc low) Γ ρ σ l k free rd (omega arith) (Rule.repeat u b) pc t a (tick v') s'')))))
      where
        Q : Unit {0} → World → Type 0
        Q = λ _. At (pc + (value_length u + (1 + (block_length b + 1))))

        lowered : (o : Outcome Unit) → Ends g o (λ _. St g B L T (suc low) [] (pc + (value_length u + (1 + (block_length b + 1))))) → Ends g o Q
        lowered (done x v) s = relow g B L T (suc low) low [] (pc + (value_length u + (1 + (block_length b + 1)))) v (omega (arith, s.low_is)) s
        lowered (cut v) s = s
        lowered (fault f v) s = s
    act_ok (Rule.read_int p) Γ ρ σ k free pc t w rd a st = read_ok Γ ρ σ k free rd p as_int Geti (λ m. refl) a.fits a.need pc w a.code st
    act_ok (Rule.read_bool p) Γ ρ σ k free pc t w rd a st = read_ok Γ ρ σ k free rd p as_bool Getb (λ m. refl) a.fits a.need pc w a.code st
    act_ok (Rule.write_int u) Γ ρ σ k free pc t w rd a st = write_ok Γ ρ σ k free rd u (λ x. wrote_int x) Puti (λ m x e. rw e refl) a.fits a.need pc w a.code st
    act_ok (Rule.write_bool u) Γ ρ σ k free pc t w rd a st = write_ok Γ ρ σ k free rd u (λ x. wrote_bool (not (is_zero x))) Putb (λ m x e. rw e refl) a.fits a.need pc w a.code st
    act_ok Rule.newline Γ ρ σ k free pc t w rd a st = said_row g B L T low [] pc w wrote_line Nl [] (pc + 1) (omega arith) (λ s. refl) a.code.0 st
    act_ok (Rule.call i xs) Γ ρ σ k free pc t w rd a st = found_ok rd.nine Γ ρ σ rd.rel Γ ρ σ i xs pc w rd.rel a.fits a.code a.need st
    act_ok (Rule.inner b) Γ ρ σ k free pc t w rd a st = block_ok b Γ ρ σ k free pc t w rd a st

    pub acts_ok : (xs : Actions) (Γ : Scope) (ρ : Env) (σ : List Slot) (k free pc t : ℕ) (w : World) → Ready g B L T Γ ρ σ l k free → Acts g L T Γ σ l k free pc t xs → At pc w →
        Ends g (act_all g.n again xs ρ free w) (λ _. At (pc + actions_length xs))
    acts_ok Rule.nothing Γ ρ σ k free pc t w rd a st = at_pc pc (pc + 0) w (omega arith) st
    acts_ok (Rule.◌then◌ x xs) Γ ρ σ k free pc t w rd a st =
        ends_bind g (λ _. At (pc + action_length x)) (λ _. At (pc + (action_length x + actions_length xs))) (act g.n again x ρ free) (λ _. act_all g.n again xs ρ free) w
        (act_ok x Γ ρ σ k free pc t w rd head st)
        (λ _ v s. ends_pc (act_all g.n again xs ρ free v) (pc + action_length x + actions_length xs) (pc + (action_length x + actions_length xs)) (omega arith)
        (acts_ok xs Γ ρ σ k free (pc + action_length x) (t + action_procs x) v rd tail s))
      where
        sh : Shape Γ σ
        sh = rel_shape g.code B L T Γ ρ σ rd.rel

        head : Act g L T Γ σ l k free pc t x
        head = record {
          code = sits_left g.code (Code.action x Γ l k pc t) _ pc a.code;
          procs = sits_left g.code (procs_action x Γ l k t) _ t a.procs;
          fits = a.fits.0;
          need = omega (arith, a.need);
          room = omega (arith, a.room);
          off = λ i p q. a.off i p (omega arith);
        }

        tail : Acts g L T Γ σ l k free (pc + action_length x) (t + action_procs x) xs
        tail = record {
          code = sits_right g.code (Code.action x Γ l k pc t) _ pc (action_length x) (action_long x Γ σ l k pc t sh a.fits.0) a.code;
          procs = sits_right g.code (procs_action x Γ l k t) _ t (action_procs x) (procs_action_long x Γ σ l k t sh a.fits.0) a.procs;
          fits = a.fits.1;
          need = omega (arith, a.need);
          room = omega (arith, a.room);
          off = λ i p q. a.off i p (omega arith);
        }

    pub block_ok : (b : Block) (Γ : Scope) (ρ : Env) (σ : List Slot) (k free pc t : ℕ) (w : World) → Ready g B L T Γ ρ σ l k free → Act g L T Γ σ l k free pc t (Rule.inner b) → At pc w →
        Ends g (run_block g.n again b ρ free w) (λ _. At (pc + block_length b))
    block_ok (Rule.block ds xs) Γ ρ σ k free pc t w rd a st =
        ends_bind g (λ _. At (pc + own_length (own_size ds))) (λ _. At (pc + (own_length (own_size ds) + actions_length xs))) (own_cells g.n free (own_size ds)) (λ _. act_all g.n again xs (Evaluation.declared g.n ds free ρ) (free + own_size ds)) w
        (own_row g B L T low [] pc w l k free (own_size ds) rd.free_is (sits_left g.code (zeroing l k (own_size ds)) _ pc a.code) (omega (arith, a.room)) (λ i p q. a.off i p (omega arith)) st)
        (λ _ v s. ends_pc (act_all g.n again xs (Evaluation.declared g.n ds free ρ) (free + own_size ds) v) (pc + own_length (own_size ds) + actions_length xs) (pc + (own_length (own_size ds) + actions_length xs)) (omega arith)
        (acts_ok xs (Code.declared ds l k t Γ) (Evaluation.declared g.n ds free ρ) (slots ds σ) (k + own_size ds) (free + own_size ds) (pc + own_length (own_size ds)) (t + declared_procs ds) v ready' rest s))
      where
        sh : Shape Γ σ
        sh = rel_shape g.code B L T Γ ρ σ rd.rel

        ready' : Ready g B L T (Code.declared ds l k t Γ) (Evaluation.declared g.n ds free ρ) (slots ds σ) l (k + own_size ds) (free + own_size ds)
        ready' = record {
          rel = rel_declared g.code B L T g.n ds Γ ρ σ l k free t rd.rel rd.below rd.free_is (omega (arith, a.room)) (λ i p q. a.off i p (omega arith))
              (sits_left g.code (procs_declared ds Γ l k t) _ t a.procs) a.fits.0 (omega (arith, a.need));
          below = below_declared ds l k t Γ rd.below;
          nine = rd.nine;
          free_is = omega (arith, rd.free_is);
        }

        rest : Acts g L T (Code.declared ds l k t Γ) (slots ds σ) l (k + own_size ds) (free + own_size ds) (pc + own_length (own_size ds)) (t + declared_procs ds) xs
        rest = record {
          code = sits_right g.code (zeroing l k (own_size ds)) _ pc (own_length (own_size ds)) (zeroing_long l k (own_size ds)) a.code;
          procs = sits_right g.code (procs_declared ds Γ l k t) _ t (declared_procs ds) (procs_declared_long ds Γ σ l k t sh a.fits.0) a.procs;
          fits = a.fits.1;
          need = omega (arith, a.need);
          room = omega (arith, a.room);
          off = λ i p q. a.off i (omega arith) (omega arith);
        }

-- every rank
pub ranked_ok : (g : Setting) (r : ℕ) → Tracked g (ranked g.n r) r
ranked_ok g zero B L T low Γ ρ σ l k free rd h a pc t ac w st = absurd (never st.low_is st.bound)
  where
    never : low ≤ w.count → w.count ≤ g.n → ⊥
    never p q = omega arith
ranked_ok g (suc r) B L T low Γ ρ σ l k free rd h a pc t ac w st = act_ok g (ranked g.n r) r (ranked_ok g r) B L T low h l a Γ ρ σ k free pc t w rd ac st
