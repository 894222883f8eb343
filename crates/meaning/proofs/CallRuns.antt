-- A call: the frame, the arguments, the body and the return, beside their code.
use Rattle.std.proofs.Common.{◌≡◌, ℕ, suc, ◌+◌, ◌<◌, ◌≤◌, Bool, true, false, cond, leb, List, [], ◌∷◌, ◌++◌, length, get_or, set, ℤ, pos, Some, sym, refl, ap, ◌∙◌, subst, arith, leb→le, length-set}
use Rattle.std.proofs.lemmas.List.{get_or-set_same, get_or-set_other, set-set, set-get_or}
use Rattle.machine.specs.declared.instruction.Instruction.TheVariants.{Frame, Enter, Leave}
use Rattle.meaning.specs.Rule.{Argument, Formal, Action, Block}
use Rattle.meaning.specs.Rule as Rule
use Rattle.meaning.specs.Evaluation.{World, Outcome, done, cut, fault, ◌>>=◌, ◌>>◌, charge, take_frame, give_back, called, Env, zeroed, formal_size, formals_size, frame_size, action_extent}
use Rattle.meaning.specs.Evaluation as Evaluation
use Rattle.machine.specs.Machine.{Machine, Effect, goes, fails, fetched, after, effect, within, link}
use Rattle.meaning.specs.Code.{Scope, arguments, formals, action, procs_action, action_length, block_length, arguments_length}
use Rattle.meaning.specs.Code as Code
use Rattle.meaning.specs.Sound.{Slot, takes, FitsArguments, FitsAction, formal_slots, arguments_need, action_need}
use Rattle.meaning.specs.Sizes as Sizes
use Rattle.meaning.proofs.Cells as Cells
use Rattle.meaning.proofs.Cells.{Private, held, reserved, Free, Under, Kept, Mem, Ext, ext_refl, ext_held, ext_reserved, off_above, off_clear, under_more, mem_frame, mem_reserve, mem_keep, mem_back}
use Rattle.meaning.proofs.Tracks.{Setting, St, tick, mach, Ends, ends_bind, charged, fault_here}
use Rattle.meaning.proofs.Scopes.{Sits, sits_left, sits_right, Below, below_more, Proc, inside, Rel, fixed_same, fixed_below, rel_more}
use Rattle.meaning.proofs.Effects.{within_ok, advance}
use Rattle.meaning.proofs.Lengths.{arguments_long}
use Rattle.meaning.proofs.Rows.{relow}
use Rattle.meaning.proofs.ArgumentRuns.{Passed, arguments_ok}

pub below_formals : (fs : List Formal) (l k m : ℕ) (Γ : Scope) → l < m → Below m Γ → Below m (formals fs l k Γ)
below_formals [] l k m Γ h b = b
below_formals (f ∷ fs) l k m Γ h b = below_formals fs l (k + formal_size f) m (Code.at l k ∷ Γ) h (h, b)

-- names at level l, with the next free cell k of its frame
pub record Ready (g : Setting) (B : List ℕ) (L : Private) (T : ℕ) (Γ : Scope) (ρ : Env) (σ : List Slot) (l k free : ℕ) : Type 0 where
  pub rel : Rel g.code B L T Γ ρ σ
  pub below : Below (suc l) Γ
  pub nine : length B ≡ 9
  pub free_is : free ≡ get_or B l 0 + k

-- an action, its code and its cells
pub record Act (g : Setting) (L : Private) (T : ℕ) (Γ : Scope) (σ : List Slot) (l k free pc t : ℕ) (a : Action) : Type 0 where
  pub code : Sits g.code (action a Γ l k pc t) pc
  pub procs : Sits g.code (procs_action a Γ l k t) t
  pub fits : FitsAction a σ l
  pub need : action_need a ≤ 128
  pub room : free + action_extent a ≤ T
  pub off : Free L free (action_extent a)

-- what runs actions at rank r
abbrev pub Tracked : Setting → (Action → Env → ℕ → World → Outcome Unit) → ℕ → Type 0
Tracked g f r =
    (B : List ℕ) (L : Private) (T low : ℕ) (Γ : Scope) (ρ : Env) (σ : List Slot) (l k free : ℕ) → Ready g B L T Γ ρ σ l k free → g.n < low + r →
    (a : Action) (pc t : ℕ) → Act g L T Γ σ l k free pc t a → (w : World) → St g B L T low [] pc w → Ends g (f a ρ free w) (λ _. St g B L T low [] (pc + action_length a))

module _ (g : Setting) (again : Action → Env → ℕ → World → Outcome Unit) (r : ℕ) (again-ok : Tracked g again r)
    (B : List ℕ) (L : Private) (T low : ℕ) (nine : length B ≡ 9) (enough : g.n < low + suc r)
    (Γ : Scope) (ρ : Env) (σ : List Slot) (rel : Rel g.code B L T Γ ρ σ)
    (Γ'' : Scope) (ρ'' : Env) (σ'' : List Slot) (rel'' : Rel g.code B L T Γ'' ρ'' σ'')
    (fs : List Formal) (sz lv t : ℕ) (b : Block) (proc : Proc g.code Γ'' σ'' fs sz lv t b) (xs : List Argument) (fits : FitsArguments fs xs σ) (need : 2 + arguments_need xs ≤ 128)
    (pc : ℕ) (code : Sits g.code (Frame sz ∷ (arguments fs xs 2 Γ ++ (Enter lv t ∷ []))) pc) where
  lv<9 : lv < length B
  lv<9 = omega (arith, proc.level)

  abbrev scope : Scope
  scope = inside fs sz lv t Γ''

  abbrev slots : List Slot
  slots = formal_slots fs (takes fs ∷ σ'')

  -- the frame that begins at `start`
  module _ (start : ℕ) (start_is : start ≡ T) (outer : Free L 2 (Sizes.own_cells g.b)) (under : Under L T) (reach : 2 + Sizes.own_cells g.b ≤ T) where
    base_is : get_or (set B lv start) lv 0 ≡ start
    base_is = get_or-set_same B lv start 0 lv<9

    base_same : (l : ℕ) → l < lv → get_or (set B lv start) l 0 ≡ get_or B l 0
    base_same l h = get_or-set_other B lv l start 0 (omega arith)

    abbrev Done : ℕ → Env → World → Type 0
    Done p ρ' w = Passed g B L T low Γ ρ σ rel reach (set B lv start) (T + frame_size fs b) start lv start_is base_is (2 + formals_size fs) (inside fs sz lv t Γ'') (formal_slots fs (takes fs ∷ σ'')) p ρ' w

    -- the return
    leave_ok : (L₂ : Private) (pcE : ℕ) (w : World) → Ext L T L₂ → ((M : List ℤ) → Kept L₂ M → get_or M start (pos 0) ≡ pos (suc pcE)) → ((M : List ℤ) → Kept L₂ M → get_or M (suc start) (pos 0) ≡ pos (get_or B lv 0)) →
        St g (set B lv start) L₂ (T + frame_size fs b) low [] (t + block_length b) w → Ends g ((charge g.n >> give_back g.n start) w) (λ _. St g B L T low [] (suc pcE))
    leave_ok L₂ pcE w ext k₁ k₂ st =
        charged g (set B lv start) L₂ (T + frame_size fs b) low [] (t + block_length b) w st (λ _. St g B L T low [] (suc pcE)) (give_back g.n start) (Leave lv) proc.leave
        (λ l e. advance g (set B lv start) L₂ (T + frame_size fs b) low [] (t + block_length b) w st (Leave lv) l e B L T [] (suc pcE) st.cells w.cells start w.host eff
        (mem_back (Sizes.own_cells g.b) L T L₂ (T + frame_size fs b) st.cells w.cells ext (omega arith) under outer reach st.mem) start_is)
      where
        M : List ℤ
        M = st.cells

        to : ℕ → ℕ → ℕ → Effect
        to = λ h p old. goes (record { operands = []; bases = set (set B lv start) lv old; next = p; top = h; cells = M; host = w.host })

        old_is : set (set B lv start) lv (get_or B lv 0) ≡ B
        old_is = set-set B lv start (get_or B lv 0) ∙ set-get_or B lv 0

        eff : effect (Leave lv) (mach w [] (set B lv start) (t + block_length b) M) ≡ goes (record { operands = []; bases = B; next = suc pcE; top = start; cells = M; host = w.host })
        eff =
            ap (λ (h : ℕ). within (pos h) 2 M (λ b. link (get_or M b (pos 0)) (λ p. link (get_or M (suc b) (pos 0)) (λ old. to h p old)))) base_is
            ∙ within_ok start 1 M (λ b. link (get_or M b (pos 0)) (λ p. link (get_or M (suc b) (pos 0)) (λ old. to start p old))) (omega (arith, st.mem.len, st.mem.fits))
            ∙ ap (λ (z : ℤ). link z (λ p. link (get_or M (suc start) (pos 0)) (λ old. to start p old))) (k₁ M st.mem.kept)
            ∙ ap (λ (z : ℤ). link z (λ old. to start (suc pcE) old)) (k₂ M st.mem.kept)
            ∙ ap (λ (x : List ℕ). goes (record { operands = []; bases = x; next = suc pcE; top = start; cells = M; host = w.host })) old_is

    -- the body
    enter_ok : (pcE : ℕ) (ρ' : Env) (w : World) → fetched g.code pcE ≡ Some (Enter lv t) → Done pcE ρ' w →
        Ends g ((charge g.n >> (again (Rule.inner b) ρ' (start + 2 + formals_size fs) >> (charge g.n >> give_back g.n start))) w) (λ _. St g B L T low [] (suc pcE))
    enter_ok pcE ρ' w f d =
        charged g B L₁ (T + frame_size fs b) low (pos start ∷ []) pcE w st (λ _. St g B L T low [] (suc pcE)) (again (Rule.inner b) ρ' (start + 2 + formals_size fs) >> (charge g.n >> give_back g.n start)) (Enter lv t) f
        (λ l e. ends_bind g (λ _. St g (set B lv start) L₂ (T + frame_size fs b) (suc low) [] (t + block_length b)) (λ _. St g B L T low [] (suc pcE)) (again (Rule.inner b) ρ' (start + 2 + formals_size fs)) (λ _. charge g.n >> give_back g.n start) (tick w)
        (again-ok (set B lv start) L₂ (T + frame_size fs b) (suc low) scope ρ' slots lv (2 + formals_size fs) (start + 2 + formals_size fs) ready (omega arith) (Rule.inner b) t (t + (block_length b + 1)) body (tick w)
        (relow g (set B lv start) L₂ (T + frame_size fs b) low (suc low) [] t (tick w) (omega (arith, st.low_is))
        (advance g B L₁ (T + frame_size fs b) low (pos start ∷ []) pcE w st (Enter lv t) l e (set B lv start) L₂ (T + frame_size fs b) [] t M₂ w.cells w.top w.host
        (within_ok start 1 st.cells (λ a. goes (record { operands = []; bases = set B lv a; next = t; top = w.top; cells = set (set st.cells a (pos (suc pcE))) (suc a) (pos (get_or B lv 0)); host = w.host })) (omega (arith, st.mem.len, st.mem.fits)))
        (mem_keep (Sizes.own_cells g.b) (held start (pos (suc pcE)) ∷ L₁) (T + frame_size fs b) (set st.cells start (pos (suc pcE))) w.cells
        (mem_keep (Sizes.own_cells g.b) L₁ (T + frame_size fs b) st.cells w.cells st.mem start (pos (suc pcE)) (omega arith) (omega arith) d.clear.0)
        (suc start) (pos (get_or B lv 0)) (omega arith) (omega arith) (omega arith, d.clear.1))
        st.top_is)))
        (λ _ v st'. leave_ok L₂ pcE v
        (ext_held L T (held start (pos (suc pcE)) ∷ L₁) (suc start) (pos (get_or B lv 0)) (omega arith) (ext_held L T L₁ start (pos (suc pcE)) (omega arith) d.ext))
        (λ M k. k.1.0) (λ M k. k.0)
        (relow g (set B lv start) L₂ (T + frame_size fs b) (suc low) low [] (t + block_length b) v (omega (arith, st'.low_is)) st')))
      where
        L₁ : Private
        L₁ = d.L'

        st : St g B L₁ (T + frame_size fs b) low (pos start ∷ []) pcE w
        st = d.st

        L₂ : Private
        L₂ = held (suc start) (pos (get_or B lv 0)) ∷ held start (pos (suc pcE)) ∷ L₁

        M₂ : List ℤ
        M₂ = set (set st.cells start (pos (suc pcE))) (suc start) (pos (get_or B lv 0))

        off_more : (i : ℕ) → Cells.Off L₁ i → Cells.Off L₂ i
        off_more i f = ((d.apart i f).1, ((d.apart i f).0, f))

        ready : Ready g (set B lv start) L₂ (T + frame_size fs b) scope ρ' slots lv (2 + formals_size fs) (start + 2 + formals_size fs)
        ready = record {
          rel = rel_more g.code (set B lv start) L₁ (start + (2 + formals_size fs)) (set B lv start) L₂ (T + frame_size fs b) (omega arith) (record { off = λ i l f. off_more i f; kept = λ M k. k.1.1 })
              scope ρ' slots (fixed_same (set B lv start) scope) d.callee;
          below = below_formals fs lv 2 (suc lv) (Code.procedure fs sz lv t ∷ Γ'') (omega arith) (below_more lv (suc lv) Γ'' (omega arith) proc.below);
          nine = length-set B lv start ∙ nine;
          free_is = rw base_is (omega arith);
        }

        body : Act g L₂ (T + frame_size fs b) scope slots lv (2 + formals_size fs) (start + 2 + formals_size fs) t (t + (block_length b + 1)) (Rule.inner b)
        body = record {
          code = proc.body;
          procs = proc.inner;
          fits = proc.fits;
          need = proc.needs;
          room = omega arith;
          off = λ i l h. off_more i (off_above L₁ (start + (2 + formals_size fs)) i d.under (omega arith));
        }

    -- the arguments and what follows them
    passed_ok : (w : World) → St g B L (T + frame_size fs b) low (pos start ∷ []) (suc pc) w →
        Ends g ((Evaluation.arguments g.n fs xs (start + 2) ρ (Evaluation.procedure fs b ∷ ρ'') >>= (λ ρ'.
        charge g.n >> (again (Rule.inner b) ρ' (start + 2 + formals_size fs) >> (charge g.n >> give_back g.n start)))) w) (λ _. St g B L T low [] (pc + (1 + (arguments_length xs + 1))))
    passed_ok w st =
        ends_bind g (λ ρ'. Done (suc pc + arguments_length xs) ρ') (λ _. St g B L T low [] (pc + (1 + (arguments_length xs + 1)))) (Evaluation.arguments g.n fs xs (start + 2) ρ (Evaluation.procedure fs b ∷ ρ''))
        (λ ρ'. charge g.n >> (again (Rule.inner b) ρ' (start + 2 + formals_size fs) >> (charge g.n >> give_back g.n start))) w
        (arguments_ok g B L T low Γ ρ σ rel reach (set B lv start) (T + frame_size fs b) start lv start_is base_is fs xs 2 (Code.procedure fs sz lv t ∷ Γ'') (takes fs ∷ σ'') (suc pc) (start + 2) (Evaluation.procedure fs b ∷ ρ'') w
        refl (omega arith) fits (sits_left g.code (arguments fs xs 2 Γ) (Enter lv t ∷ []) (suc pc) code.1) (omega arith) need first)
        (λ ρ' v d. subst (λ x. Ends g ((charge g.n >> (again (Rule.inner b) ρ' (start + 2 + formals_size fs) >> (charge g.n >> give_back g.n start))) v) (λ _. St g B L T low [] x)) end
        (enter_ok (suc pc + arguments_length xs) ρ' v (sits_right g.code (arguments fs xs 2 Γ) (Enter lv t ∷ []) (suc pc) (arguments_length xs) (arguments_long fs xs 2 Γ σ fits) code.1).0 d))
      where
        end : suc (suc pc + arguments_length xs) ≡ pc + (1 + (arguments_length xs + 1))
        end = omega arith

        L₁ : Private
        L₁ = reserved (suc start) ∷ reserved start ∷ L

        off_L : (a : ℕ) → start ≤ a → Cells.Off L a
        off_L a h = off_above L T a under (omega arith)

        ext : Ext L T L₁
        ext = ext_reserved L T (reserved start ∷ L) (suc start) (omega arith) (ext_reserved L T L start (omega arith) (ext_refl L T))

        first : Passed g B L T low Γ ρ σ rel reach (set B lv start) (T + frame_size fs b) start lv start_is base_is 2 (Code.procedure fs sz lv t ∷ Γ'') (takes fs ∷ σ'') (suc pc) (Evaluation.procedure fs b ∷ ρ'') w
        first = record {
          L' = L₁;
          ext = ext;
          under = (omega arith, (omega arith, under_more L T (start + 2) (omega arith) under));
          apart = λ i o. (o.1.0, o.0);
          clear = (off_clear L start (off_L start (omega arith)), off_clear L (suc start) (off_L (suc start) (omega arith)));
          callee = ((refl, refl, proc), rel_more g.code B L T (set B lv start) L₁ (start + 2) (omega arith) ext Γ'' ρ'' σ'' (fixed_below B (set B lv start) lv base_same Γ'' proc.below) rel'');
          st = record {
            cells = st.cells;
            is = st.is;
            mem = mem_reserve (Sizes.own_cells g.b) (reserved start ∷ L) (T + frame_size fs b) st.cells w.cells
                (mem_reserve (Sizes.own_cells g.b) L (T + frame_size fs b) st.cells w.cells st.mem start (omega arith) (omega arith)) (suc start) (omega arith) (omega arith);
            top_is = st.top_is;
            low_is = st.low_is;
            bound = st.bound;
          };
        }

  pub call_ok : (w : World) → St g B L T low [] pc w → Ends g (called g.n again (Evaluation.procedure fs b) xs ρ (Evaluation.procedure fs b ∷ ρ'') w) (λ _. St g B L T low [] (pc + (1 + (arguments_length xs + 1))))
  call_ok w st =
      charged g B L T low [] pc w st Q (take_frame g.n (frame_size fs b) >>= rest) (Frame sz) code.0
      (λ l e. go l (leb (w.top + frame_size fs b) (length w.cells)) refl
      (e ∙ ap (λ (x : ℕ). after (effect (Frame x) m) w.count m) proc.size ∙ ap (λ (x : ℕ). after (cond (leb (w.top + frame_size fs b) x) framed (fails 27)) w.count m) st.mem.len))
    where
      Q : Unit {0} → World → Type 0
      Q = λ _. St g B L T low [] (pc + (1 + (arguments_length xs + 1)))

      rest : ℕ → World → Outcome Unit
      rest = λ start. Evaluation.arguments g.n fs xs (start + 2) ρ (Evaluation.procedure fs b ∷ ρ'') >>= (λ ρ'.
          charge g.n >> (again (Rule.inner b) ρ' (start + 2 + formals_size fs) >> (charge g.n >> give_back g.n start)))

      m : Machine
      m = mach w [] B pc st.cells

      framed : Effect
      framed = goes (record { operands = pos w.top ∷ []; bases = B; next = suc pc; top = w.top + frame_size fs b; cells = zeroed st.cells w.top (frame_size fs b); host = w.host })

      w' : World
      w' = record { cells = zeroed w.cells w.top (frame_size fs b); top = w.top + frame_size fs b; host = w.host; count = suc w.count }

      go : w.count < g.n → (v : Bool) → leb (w.top + frame_size fs b) (length w.cells) ≡ v → g.R (suc w.count) ≡ after (cond v framed (fails 27)) w.count m →
          Ends g (elim (elim v as (λ x. Outcome ℕ) [ true ↦ done w.top w' | false ↦ fault 27 (tick w) ]) as (λ x. Outcome Unit) [ done a v ↦ rest a v | cut v ↦ cut v | fault e v ↦ fault e v ]) Q
      go l true q e = passed_ok w.top st.top_is st.mem.outer st.mem.under st.mem.reach w' (record {
        cells = zeroed st.cells w.top (frame_size fs b);
        is = e;
        mem = subst (λ x. Mem (Sizes.own_cells g.b) L (T + frame_size fs b) (zeroed st.cells x (frame_size fs b)) (zeroed w.cells x (frame_size fs b))) (sym st.top_is)
            (mem_frame (Sizes.own_cells g.b) L T st.cells w.cells st.mem (frame_size fs b) room);
        top_is = ap (λ (x : ℕ). x + frame_size fs b) st.top_is;
        low_is = omega (arith, st.low_is);
        bound = l;
      })
        where
          enough_room : w.top + frame_size fs b ≤ length w.cells
          enough_room = leb→le (w.top + frame_size fs b) (length w.cells) (subst lib.Dec.T (sym q) tt)

          room : T + frame_size fs b ≤ length w.cells
          room = subst (λ (x : ℕ). x + frame_size fs b ≤ length w.cells) st.top_is enough_room
      go l false q e = fault_here g B L T low [] pc w st 27 l e
