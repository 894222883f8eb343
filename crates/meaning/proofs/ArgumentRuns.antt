-- A call's arguments: their code beside their evaluation over addresses.
use Rattle.std.proofs.Common.{◌≡◌, ℕ, suc, ◌+◌, ◌≤◌, ◌≢◌, List, [], ◌∷◌, length, get_or, set, pos, Some, sym, refl, subst, arith}
use Rattle.machine.specs.declared.instruction.Instruction.TheVariants.{Off, St, Copy, Dup}
use Rattle.meaning.specs.Rule.{Place, Value, Argument, Formal}
use Rattle.meaning.specs.Rule as Rule
use Rattle.meaning.specs.Evaluation.{World, Outcome, ◌>>=◌, ◌>>◌, charge, return, save, move, given, Env, Binding, formal_size, formals_size}
use Rattle.meaning.specs.Evaluation as Evaluation
use Rattle.machine.specs.Machine.{goes, fetched, on, on_cells}
use Rattle.meaning.specs.Code.{Scope, argument, arguments, formals, place_length, value_length, argument_length, arguments_length}
use Rattle.meaning.specs.Code as Code
use Rattle.meaning.specs.Sound.{Slot, holds, refers, FitsArgument, FitsArguments, formal_slot, formal_slots, place_need, value_need, argument_need, arguments_need}
use Rattle.meaning.specs.Sizes as Sizes
use Rattle.meaning.proofs.Cells as Cells
use Rattle.meaning.proofs.Cells.{Private, held, Free, Under, Clear, Ext, ext_refl, ext_held, off_above, off_clear, under_more, mem_set, mem_keep}
use Rattle.meaning.proofs.Tracks.{Setting, tick, mach, Ends, ends_bind, ends_assoc, charged}
use Rattle.meaning.proofs.Scopes.{Sits, sits_left, sits_right, sits_at, Rel, fixed_same, rel_more}
use Rattle.meaning.proofs.Effects.{room_ok, made_ok, within_ok, advance}
use Rattle.meaning.proofs.Lengths.{place_long, value_long, argument_long}
use Rattle.meaning.proofs.ExpressionRuns.{S, AtPlace, plain, small_address, in_memory, place_ok, value_ok}
use Rattle.meaning.proofs.Rows.{copy_row}

-- B, L, T: bases, private cells and open cells before the call; B₁: the bases inside; T₁: open cells inside; the frame begins at `start`
module _ (g : Setting) (B : List ℕ) (L : Private) (T low : ℕ) (Γ : Scope) (ρ : Env) (σ : List Slot) (rel : Rel g.code B L T Γ ρ σ) (reach : 2 + Sizes.own_cells g.b ≤ T)
    (B₁ : List ℕ) (T₁ start lv : ℕ) (start_is : start ≡ T) (base_is : get_or B₁ lv 0 ≡ start) where
  -- the formals so far, which end at k
  pub record Passed (k : ℕ) (Γ' : Scope) (σ' : List Slot) (pc : ℕ) (ρ' : Env) (w : World) : Type 0 where
    pub L' : Private
    pub ext : Ext L T L'
    pub under : Under L' (start + k)
    pub apart : (i : ℕ) → Cells.Off L' i → (i ≢ start) × (i ≢ suc start)
    pub clear : Clear L' start × Clear L' (suc start)
    pub callee : Rel g.code B₁ L' (start + k) Γ' ρ' σ'
    pub st : S g B L' T₁ low (pos start ∷ []) pc w

  module _ (k : ℕ) (Γ' : Scope) (σ' : List Slot) (pc : ℕ) (ρ' : Env) (w : World) (two : 2 ≤ k) (p : Passed k Γ' σ' pc ρ' w) where
    caller : Rel g.code B p.L' T Γ ρ σ
    caller = rel_more g.code B L T B p.L' T (omega arith) p.ext Γ ρ σ (fixed_same B Γ) rel

    -- the formal's address is pushed
    front : {A : Type 0} (Q : A → World → Type 0) (j : World → Outcome A) → fetched g.code pc ≡ Some Dup → fetched g.code (suc pc) ≡ Some (Off k) → start + k ≤ T₁ →
        (S g B p.L' T₁ low (pos (start + k) ∷ pos start ∷ []) (suc (suc pc)) (tick (tick w)) → Ends g (j (tick (tick w))) Q) → Ends g ((charge g.n >> (charge g.n >> j)) w) Q
    front Q j f f' h c =
        plain g B p.L' T₁ low Q (charge g.n >> j) (pos start ∷ []) pc w p.st Dup f (pos start ∷ pos start ∷ []) (suc pc) refl (room_ok (pos start ∷ []) _ (omega arith))
        (λ st'. plain g B p.L' T₁ low Q j (pos start ∷ pos start ∷ []) (suc pc) (tick w) st' (Off k) f' (pos (start + k) ∷ pos start ∷ []) (suc (suc pc)) refl
        (made_ok (start + k) (λ b. goes (on (mach (tick w) (pos start ∷ pos start ∷ []) B (suc pc) st'.cells) (pos b ∷ pos start ∷ []))) (small_address g B p.L' T₁ low (start + k) 0 st'.cells w.cells st'.mem (omega arith)))
        c)

    -- a formal by value has its cells
    valued : (s pc' : ℕ) (v : World) → S g B p.L' T₁ low (pos start ∷ []) pc' v → Passed (k + s) (Code.at lv k ∷ Γ') (holds s ∷ σ') pc' (Evaluation.at (start + k) ∷ ρ') v
    valued s pc' v st = record {
      L' = p.L';
      ext = p.ext;
      under = under_more p.L' (start + k) (start + (k + s)) (omega arith) p.under;
      apart = p.apart;
      clear = p.clear;
      callee = (
        (rw base_is refl, omega arith, λ i a b. off_above p.L' (start + k) i p.under a),
        rel_more g.code B₁ p.L' (start + k) B₁ p.L' (start + (k + s)) (omega arith) (ext_refl p.L' (start + k)) Γ' ρ' σ' (fixed_same B₁ Γ') p.callee,
      );
      st = st;
    }

    value_given : (s : ℕ) (u : Value) → FitsArgument (Rule.by_value s) (Rule.value u) σ → Sits g.code (Dup ∷ Off k ∷ argument (Rule.value u) Γ) pc → start + k + s ≤ T₁ → 2 + value_need u ≤ 128 →
        Ends g (given g.n (Rule.by_value s) (Rule.value u) (start + k) ρ w) (λ b. Passed (k + s) (Code.at lv k ∷ Γ') (holds s ∷ σ') (pc + (value_length u + 3)) (b ∷ ρ'))
    value_given s u f c h n =
        front Q (Evaluation.value g.n u ρ >>= (λ x. charge g.n >> (save g.n (start + k) x >> return (Evaluation.at (start + k))))) c.0 c.1.0 (omega arith)
        (λ st. ends_bind g (λ x. S g B p.L' T₁ low (x ∷ pos (start + k) ∷ pos start ∷ []) (suc (suc pc) + value_length u)) Q (Evaluation.value g.n u ρ)
        (λ x. charge g.n >> (save g.n (start + k) x >> return (Evaluation.at (start + k)))) (tick (tick w))
        (value_ok g B p.L' T₁ low T (omega arith) Γ ρ σ caller u f.1 (pos (start + k) ∷ pos start ∷ []) (suc (suc pc)) (tick (tick w)) (sits_left g.code (Code.value u Γ) (St ∷ []) (suc (suc pc)) c.1.1) (omega arith) st)
        (λ x v st'. charged g B p.L' T₁ low (x ∷ pos (start + k) ∷ pos start ∷ []) (suc (suc pc) + value_length u) v st' Q (save g.n (start + k) x >> return (Evaluation.at (start + k))) St
        (sits_right g.code (Code.value u Γ) (St ∷ []) (suc (suc pc)) (value_length u) (value_long u Γ) c.1.1).0
        (λ l r. valued s (pc + (value_length u + 3)) (record { cells = set v.cells (start + k) x; top = v.top; host = v.host; count = suc v.count })
        (subst (λ q. S g B p.L' T₁ low (pos start ∷ []) q (record { cells = set v.cells (start + k) x; top = v.top; host = v.host; count = suc v.count })) there
        (advance g B p.L' T₁ low (x ∷ pos (start + k) ∷ pos start ∷ []) (suc (suc pc) + value_length u) v st' St l r B p.L' T₁ (pos start ∷ []) (suc (suc (suc pc) + value_length u))
        (set st'.cells (start + k) x) (set v.cells (start + k) x) v.top v.host
        (within_ok (start + k) 0 st'.cells (λ b. goes (on_cells (mach v (x ∷ pos (start + k) ∷ pos start ∷ []) B (suc (suc pc) + value_length u) st'.cells) (pos start ∷ []) (set st'.cells b x)))
        (in_memory g B p.L' T₁ low (start + k) 1 st'.cells v.cells st'.mem (omega (arith, f.0))))
        (mem_set (Sizes.own_cells g.b) p.L' T₁ st'.cells v.cells st'.mem (start + k) x (omega (arith, f.0)) (off_above p.L' (start + k) (start + k) p.under (omega arith)))
        st'.top_is)))))
      where
        Q : Binding → World → Type 0
        Q = λ b. Passed (k + s) (Code.at lv k ∷ Γ') (holds s ∷ σ') (pc + (value_length u + 3)) (b ∷ ρ')

        there : suc (suc (suc pc) + value_length u) ≡ pc + (value_length u + 3)
        there = omega arith

    copied_given : (s : ℕ) (q : Place) (m : ℕ) → FitsArgument (Rule.by_value s) (Rule.copied q m) σ → Sits g.code (Dup ∷ Off k ∷ argument (Rule.copied q m) Γ) pc → start + k + s ≤ T₁ → 2 + place_need q ≤ 128 →
        Ends g (given g.n (Rule.by_value s) (Rule.copied q m) (start + k) ρ w) (λ b. Passed (k + s) (Code.at lv k ∷ Γ') (holds s ∷ σ') (pc + (place_length q + 3)) (b ∷ ρ'))
    copied_given s q m f c h n =
        front Q (Evaluation.place g.n q ρ >>= (λ b. charge g.n >> (move g.n (start + k) b m >> return (Evaluation.at (start + k))))) c.0 c.1.0 (omega arith)
        (λ st. ends_bind g (AtPlace g B p.L' T₁ low T (omega arith) Γ ρ σ caller m (pos (start + k) ∷ pos start ∷ []) (suc (suc pc) + place_length q)) Q (Evaluation.place g.n q ρ)
        (λ b. charge g.n >> (move g.n (start + k) b m >> return (Evaluation.at (start + k)))) (tick (tick w))
        (place_ok g B p.L' T₁ low T (omega arith) Γ ρ σ caller q m (rw f.0 f.1) (pos (start + k) ∷ pos start ∷ []) (suc (suc pc)) (tick (tick w)) (sits_left g.code (Code.place q Γ) (Copy m ∷ []) (suc (suc pc)) c.1.1) (omega arith) st)
        (λ b v at. ends_assoc g Q (charge g.n) (λ _. move g.n (start + k) b m) (λ _. return (Evaluation.at (start + k))) v
        (ends_bind g (λ _. S g B p.L' T₁ low (pos start ∷ []) (pc + (place_length q + 3))) Q (charge g.n >> move g.n (start + k) b m) (λ _. return (Evaluation.at (start + k))) v
        (copy_row g B p.L' T₁ low (pos b ∷ pos (start + k) ∷ pos start ∷ []) (suc (suc pc) + place_length q) v (start + k) b m (pos start ∷ []) (pc + (place_length q + 3)) (omega arith) refl
        (sits_right g.code (Code.place q Γ) (Copy m ∷ []) (suc (suc pc)) (place_length q) (place_long q Γ) c.1.1).0
        (omega (arith, f.0)) (omega (arith, at.0)) (λ i a b. off_above p.L' (start + k) i p.under a) at.1 at.2)
        (λ _ v' st'. valued s (pc + (place_length q + 3)) v' st'))))
      where
        Q : Binding → World → Type 0
        Q = λ b. Passed (k + s) (Code.at lv k ∷ Γ') (holds s ∷ σ') (pc + (place_length q + 3)) (b ∷ ρ')

    -- a formal by reference has a private cell
    referred : (s pc' b : ℕ) (v : World) → b + s ≤ T → Free p.L' b s → start + k + 1 ≤ T₁ → S g B (held (start + k) (pos b) ∷ p.L') T₁ low (pos start ∷ []) pc' v →
        Passed (k + 1) (Code.at lv k ∷ Γ') (refers s ∷ σ') pc' (Evaluation.at b ∷ ρ') v
    referred s pc' b v h fr up st = record {
      L' = held (start + k) (pos b) ∷ p.L';
      ext = ext_held L T p.L' (start + k) (pos b) (omega arith) p.ext;
      under = (omega arith, under_more p.L' (start + k) (start + (k + 1)) (omega arith) p.under);
      apart = λ i o. p.apart i o.1;
      clear = ((omega arith, p.clear.0), (omega arith, p.clear.1));
      callee = (
        (rw base_is (omega arith), rw base_is (λ M c. c.0), omega arith, λ i a c. (omega arith, fr i a c)),
        rel_more g.code B₁ p.L' (start + k) B₁ (held (start + k) (pos b) ∷ p.L') (start + (k + 1)) (omega arith)
            (ext_held p.L' (start + k) p.L' (start + k) (pos b) (omega arith) (ext_refl p.L' (start + k))) Γ' ρ' σ' (fixed_same B₁ Γ') p.callee,
      );
      st = st;
    }

    address_given : (s : ℕ) (q : Place) → FitsArgument (Rule.by_reference s) (Rule.address q) σ → Sits g.code (Dup ∷ Off k ∷ argument (Rule.address q) Γ) pc → start + k + 1 ≤ T₁ → 2 + place_need q ≤ 128 →
        Ends g (given g.n (Rule.by_reference s) (Rule.address q) (start + k) ρ w) (λ b. Passed (k + 1) (Code.at lv k ∷ Γ') (refers s ∷ σ') (pc + (place_length q + 3)) (b ∷ ρ'))
    address_given s q f c h n =
        front Q (Evaluation.place g.n q ρ >>= (λ b. charge g.n >> return (Evaluation.at b))) c.0 c.1.0 (omega arith)
        (λ st. ends_bind g (AtPlace g B p.L' T₁ low T (omega arith) Γ ρ σ caller s (pos (start + k) ∷ pos start ∷ []) (suc (suc pc) + place_length q)) Q (Evaluation.place g.n q ρ)
        (λ b. charge g.n >> return (Evaluation.at b)) (tick (tick w))
        (place_ok g B p.L' T₁ low T (omega arith) Γ ρ σ caller q s f (pos (start + k) ∷ pos start ∷ []) (suc (suc pc)) (tick (tick w)) (sits_left g.code (Code.place q Γ) (St ∷ []) (suc (suc pc)) c.1.1) (omega arith) st)
        (λ b v at. let st' = at.2 in
        charged g B p.L' T₁ low (pos b ∷ pos (start + k) ∷ pos start ∷ []) (suc (suc pc) + place_length q) v st' Q (return (Evaluation.at b)) St
        (sits_right g.code (Code.place q Γ) (St ∷ []) (suc (suc pc)) (place_length q) (place_long q Γ) c.1.1).0
        (λ l r. referred s (pc + (place_length q + 3)) b (tick v) at.0 at.1 h
        (subst (λ x. S g B (held (start + k) (pos b) ∷ p.L') T₁ low (pos start ∷ []) x (tick v)) there
        (advance g B p.L' T₁ low (pos b ∷ pos (start + k) ∷ pos start ∷ []) (suc (suc pc) + place_length q) v st' St l r B (held (start + k) (pos b) ∷ p.L') T₁ (pos start ∷ []) (suc (suc (suc pc) + place_length q))
        (set st'.cells (start + k) (pos b)) v.cells v.top v.host
        (within_ok (start + k) 0 st'.cells (λ y. goes (on_cells (mach v (pos b ∷ pos (start + k) ∷ pos start ∷ []) B (suc (suc pc) + place_length q) st'.cells) (pos start ∷ []) (set st'.cells y (pos b))))
        (in_memory g B p.L' T₁ low (start + k) 1 st'.cells v.cells st'.mem h))
        (mem_keep (Sizes.own_cells g.b) p.L' T₁ st'.cells v.cells st'.mem (start + k) (pos b) (omega arith) (omega (arith, reach)) (off_clear p.L' (start + k) (off_above p.L' (start + k) (start + k) p.under (omega arith))))
        st'.top_is)))))
      where
        Q : Binding → World → Type 0
        Q = λ b. Passed (k + 1) (Code.at lv k ∷ Γ') (refers s ∷ σ') (pc + (place_length q + 3)) (b ∷ ρ')

        there : suc (suc (suc pc) + place_length q) ≡ pc + (place_length q + 3)
        there = omega arith

    given_ok : (f : Formal) (x : Argument) → FitsArgument f x σ → Sits g.code (Dup ∷ Off k ∷ argument x Γ) pc → start + k + formal_size f ≤ T₁ → 2 + argument_need x ≤ 128 →
        Ends g (given g.n f x (start + k) ρ w) (λ b. Passed (k + formal_size f) (Code.at lv k ∷ Γ') (formal_slot f ∷ σ') (pc + argument_length x) (b ∷ ρ'))
    given_ok (Rule.by_value s) (Rule.value u) f c h n = value_given s u f c h n
    given_ok (Rule.by_value s) (Rule.address q) f c h n = absurd f
    given_ok (Rule.by_value s) (Rule.copied q m) f c h n = copied_given s q m f c h n
    given_ok (Rule.by_reference s) (Rule.value u) f c h n = absurd f
    given_ok (Rule.by_reference s) (Rule.address q) f c h n = address_given s q f c h n
    given_ok (Rule.by_reference s) (Rule.copied q m) f c h n = absurd f

  pub arguments_ok : (fs : List Formal) (xs : List Argument) (k : ℕ) (Γ' : Scope) (σ' : List Slot) (pc a : ℕ) (ρ' : Env) (w : World) → a ≡ start + k → 2 ≤ k → FitsArguments fs xs σ → Sits g.code (arguments fs xs k Γ) pc →
      start + k + formals_size fs ≤ T₁ → 2 + arguments_need xs ≤ 128 → Passed k Γ' σ' pc ρ' w →
      Ends g (Evaluation.arguments g.n fs xs a ρ ρ' w) (λ ρ''. Passed (k + formals_size fs) (formals fs lv k Γ') (formal_slots fs σ') (pc + arguments_length xs) ρ'')
  arguments_ok [] [] k Γ' σ' pc a ρ' w e two f c h n p = subst (λ x. Passed x Γ' σ' (pc + 0) ρ' w) k_is (subst (λ x. Passed k Γ' σ' x ρ' w) pc_is p)
    where
      k_is : k ≡ k + 0
      k_is = omega arith

      pc_is : pc ≡ pc + 0
      pc_is = omega arith
  arguments_ok [] (x ∷ xs) k Γ' σ' pc a ρ' w e two f c h n p = absurd f
  arguments_ok (y ∷ fs) [] k Γ' σ' pc a ρ' w e two f c h n p = absurd f
  arguments_ok (y ∷ fs) (x ∷ xs) k Γ' σ' pc a ρ' w e two f c h n p =
      ends_bind g P Q (given g.n y x a ρ) (λ b. Evaluation.arguments g.n fs xs (a + formal_size y) ρ (b ∷ ρ')) w
      (subst (λ z. Ends g (given g.n y x z ρ w) P) (sym e) (given_ok k Γ' σ' pc ρ' w two p y x f.0 (c.0, (c.1.0, sits_left g.code (argument x Γ) (arguments fs xs (k + formal_size y) Γ) (suc (suc pc)) c.1.1)) (omega arith) (omega arith)))
      (λ b v q. subst (λ z. Ends g (Evaluation.arguments g.n fs xs (a + formal_size y) ρ (b ∷ ρ') v) (λ ρ''. Passed z (formals (y ∷ fs) lv k Γ') (formal_slots (y ∷ fs) σ') (pc + arguments_length (x ∷ xs)) ρ'')) k_is
      (subst (λ z. Ends g (Evaluation.arguments g.n fs xs (a + formal_size y) ρ (b ∷ ρ') v) (λ ρ''. Passed (k + formal_size y + formals_size fs) (formals (y ∷ fs) lv k Γ') (formal_slots (y ∷ fs) σ') z ρ'')) pc_is
      (arguments_ok fs xs (k + formal_size y) (Code.at lv k ∷ Γ') (formal_slot y ∷ σ') (pc + argument_length x) (a + formal_size y) (b ∷ ρ') v (omega arith) (omega arith) f.1
      (sits_at g.code (arguments fs xs (k + formal_size y) Γ) (suc (suc pc) + length (argument x Γ)) (pc + argument_length x) rest_is
      (sits_right g.code (argument x Γ) (arguments fs xs (k + formal_size y) Γ) (suc (suc pc)) (length (argument x Γ)) refl c.1.1))
      (omega arith) (omega arith) q)))
    where
      P : Binding → World → Type 0
      P = λ b. Passed (k + formal_size y) (Code.at lv k ∷ Γ') (formal_slot y ∷ σ') (pc + argument_length x) (b ∷ ρ')

      Q : Env → World → Type 0
      Q = λ ρ''. Passed (k + formals_size (y ∷ fs)) (formals (y ∷ fs) lv k Γ') (formal_slots (y ∷ fs) σ') (pc + arguments_length (x ∷ xs)) ρ''

      k_is : k + formal_size y + formals_size fs ≡ k + (formal_size y + formals_size fs)
      k_is = omega arith

      pc_is : pc + argument_length x + arguments_length xs ≡ pc + (argument_length x + arguments_length xs)
      pc_is = omega arith

      rest_is : suc (suc pc) + length (argument x Γ) ≡ pc + argument_length x
      rest_is = omega (arith, argument_long x Γ)
