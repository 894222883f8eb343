-- The arguments of a call, as objects of the formals and as cells of the new frame.
use Rattle.std.proofs.Common.{◌≡◌, ℕ, ◌+◌, ◌-◌, ◌<◌, ◌≤◌, List, [], ◌∷◌, ◌++◌, length, get_or, take, drop, set, ℤ, pos, sym, refl, ap, ◌∙◌, subst, arith, length-set}
use Rattle.std.proofs.lemmas.List.{get_or-set_same, get_or-set_other}
use Rattle.meaning.specs.Rule.{Block, Place, Value, Argument, Formal}
use Rattle.meaning.specs.Rule as Rule
use Rattle.meaning.specs.Evaluation.{World, formal_size, formals_size}
use Rattle.meaning.specs.Evaluation as Evaluation
use Rattle.meaning.specs.Objects.{State, Object, Reference}
use Rattle.meaning.specs.Objects as Objects
use Rattle.meaning.specs.Meaning as Meaning
use Rattle.meaning.specs.Sound.{Slot, holds, formal_slot, formal_slots, FitsPlace, FitsValue, FitsArgument, FitsArguments}
use Rattle.meaning.proofs.Cells.{patched_length, patched_before, patched_in}
use Rattle.meaning.proofs.Stretches.{Layout, Apart, Grown, push, apart_push, apart_more, grown_append, grown_more}
use Rattle.meaning.proofs.Pairs.{Alike, dones, next, Both, outer, charge_both, PlaceAt}
use Rattle.meaning.proofs.Bindings.{Bound, a_cell, a_reference, grown_bound}
use Rattle.meaning.proofs.ExpressionObjects.{place_ok, value_ok, part_same, part_long, stretch_long}
use Rattle.meaning.proofs.FrameObjects.{both_push, place_new}

-- P: the caller's objects; U: where the new frame ends
module _ (b : Block) (n M : ℕ) (P : Layout) (U : ℕ) {ρ : Objects.Env} {τ : Evaluation.Env} {σ : List Slot} (caller : Bound P ρ τ σ) where
  -- the formals so far, in cells below a
  pub record Given (a : ℕ) (σ' : List Slot) (ρ' : Objects.Env) (s : State) (τ' : Evaluation.Env) (w : World) : Type 0 where
    pub Q : Layout
    pub grown : Grown P Q
    pub apart : Apart Q a
    pub bound : Bound Q ρ' τ' σ'
    pub both : Both b (outer b) M Q U s w

  module _ (a : ℕ) (ρ' : Objects.Env) (τ' : Evaluation.Env) (σ' : List Slot) where
    -- a formal by value is a new object
    valued : (Q : Layout) (z : ℕ) (x : Object) (E : List ℤ) (s : State) (w : World) → Grown P Q → Apart Q a → Bound Q ρ' τ' σ' → Both b (outer b) M Q U s w → length x ≡ z → length E ≡ length w.cells →
        ((i : ℕ) → i < a → get_or E i (pos 0) ≡ get_or w.cells i (pos 0)) → ((i : ℕ) → i < z → get_or E (a + i) (pos 0) ≡ get_or x i (pos 0)) →
        Given (a + z) (holds z ∷ σ') (Objects.names (record { object = length s.objects; offset = 0 }) ∷ ρ') (Objects.with_objects s (s.objects ++ (x ∷ []))) (Evaluation.at a ∷ τ') (record { cells = E; top = w.top; host = w.host; count = w.count })
    valued Q z x E s w g ap bd h lx lE before inside = record {
      Q = push Q a z;
      grown = grown_more P Q (push Q a z) g (grown_append Q (record { from = a; many = z } ∷ []));
      apart = apart_push Q a z ap;
      bound = a_cell (place_new b (outer b) M Q a z U s w h) (grown_bound Q (push Q a z) (grown_append Q (record { from = a; many = z } ∷ [])) bd);
      both = both_push b (outer b) M Q a z U x E s w ap h lx lE before inside;
    }

    abbrev Taken : Formal → Objects.Binding → State → Evaluation.Binding → World → Type 0
    Taken f c s c' w = Given (a + formal_size f) (formal_slot f ∷ σ') (c ∷ ρ') s (c' ∷ τ') w

    value_given : (v : Value) → FitsValue v σ → a + 1 ≤ U → (s : State) (w : World) → Given a σ' ρ' s τ' w →
        Alike b (Taken (Rule.by_value 1)) (Meaning.given n M (Rule.value v) ρ s) (Evaluation.given n (Rule.by_value 1) (Rule.value v) a τ w)
    value_given v f room s w g =
        next (charge_both b n M Q U s w g.both) (λ _ s _ w h. next (charge_both b n M Q U s w h) (λ _ s _ w h.
        next (value_ok b n M Q U a g.apart (omega arith) (grown_bound P Q g.grown caller) v f s w h) (λ x s y w e. next (charge_both b n M Q U s w e.1) (λ _ s _ w h.
        subst (λ y. Alike b (Taken (Rule.by_value 1)) (Objects.◌>>=◌ (Objects.new (x ∷ [])) (λ r. Objects.return (Objects.names r)) s) (Evaluation.◌>>◌ (Evaluation.save n a y) (Evaluation.return (Evaluation.at a)) w)) e.0
        (dones (valued Q 1 (x ∷ []) (set w.cells a x) s w g.grown g.apart g.bound h refl (length-set w.cells a x)
        (λ i l. get_or-set_other w.cells a i x (pos 0) (omega arith)) (one w x (omega (arith, h.fits, h.long)))))))))
      where
        Q : Layout
        Q = g.Q

        one : (w : World) (x : ℤ) → a < length w.cells → (i : ℕ) → i < 1 → get_or (set w.cells a x) (a + i) (pos 0) ≡ get_or (x ∷ []) i (pos 0)
        one w x inside i l = subst (λ (j : ℕ). get_or (set w.cells a x) (a + j) (pos 0) ≡ get_or (x ∷ []) j (pos 0)) zero_is (ap (λ (j : ℕ). get_or (set w.cells a x) j (pos 0)) here ∙ get_or-set_same w.cells a x (pos 0) inside)
          where
            zero_is : 0 ≡ i
            zero_is = omega arith

            here : a + 0 ≡ a
            here = omega arith

    copied_given : (p : Place) (z : ℕ) → FitsPlace p σ z → a + z ≤ U → (s : State) (w : World) → Given a σ' ρ' s τ' w →
        Alike b (Taken (Rule.by_value z)) (Meaning.given n M (Rule.copied p z) ρ s) (Evaluation.given n (Rule.by_value z) (Rule.copied p z) a τ w)
    copied_given p z f room s w g =
        next (charge_both b n M Q U s w g.both) (λ _ s _ w h. next (charge_both b n M Q U s w h) (λ _ s _ w h.
        next (place_ok b n M Q U a g.apart (omega arith) (grown_bound P Q g.grown caller) p z f s w h) (λ q s c w e. next (charge_both b n M Q U s w e.1) (λ _ s _ w h. dones (copied q c s w e.0 h)))))
      where
        Q : Layout
        Q = g.Q

        copied : (q : Reference) (c : ℕ) (s : State) (w : World) → PlaceAt Q q c z → Both b (outer b) M Q U s w →
            Given (a + z) (holds z ∷ σ') (Objects.names (record { object = length s.objects; offset = 0 }) ∷ ρ') (Objects.with_objects s (s.objects ++ (Objects.part s q z ∷ []))) (Evaluation.at a ∷ τ')
            (record { cells = Evaluation.moved w.cells a c z; top = w.top; host = w.host; count = w.count })
        copied q c s w e h = valued Q z (Objects.part s q z) (Evaluation.moved w.cells a c z) s w g.grown g.apart g.bound h (part_long b n M Q U a g.apart (omega arith) q c z s w e h)
            (patched_length w.cells a mid z long fits)
            (λ i l. patched_before w.cells a mid z long fits i l)
            (λ i l. patched_in w.cells a mid z long fits (a + i) (omega arith) (omega arith) ∙ ap (λ (j : ℕ). get_or mid j (pos 0)) (there i) ∙ part_same b n M Q U a g.apart (omega arith) q c z s w e h i l)
          where
            mid : List ℤ
            mid = take z (drop c w.cells)

            long : length mid ≡ z
            long = stretch_long b n M Q U a g.apart (omega arith) q c z s w e h

            fits : a + z ≤ length w.cells
            fits = omega (arith, h.fits, h.long)

            there : (i : ℕ) → a + i - a ≡ i
            there i = omega arith

    address_given : (p : Place) (z : ℕ) → FitsPlace p σ z → a + 1 ≤ U → (s : State) (w : World) → Given a σ' ρ' s τ' w →
        Alike b (Taken (Rule.by_reference z)) (Meaning.given n M (Rule.address p) ρ s) (Evaluation.given n (Rule.by_reference z) (Rule.address p) a τ w)
    address_given p z f room s w g =
        next (charge_both b n M Q U s w g.both) (λ _ s _ w h. next (charge_both b n M Q U s w h) (λ _ s _ w h.
        next (place_ok b n M Q U a g.apart (omega arith) (grown_bound P Q g.grown caller) p z f s w h) (λ r s c w e. next (charge_both b n M Q U s w e.1) (λ _ s _ w h.
        dones (record { Q = Q; grown = g.grown; apart = apart_more Q a (a + 1) (omega arith) g.apart; bound = a_reference e.0 g.bound; both = h })))))
      where
        Q : Layout
        Q = g.Q

    given_ok : (f : Formal) (x : Argument) → FitsArgument f x σ → a + formal_size f ≤ U → (s : State) (w : World) → Given a σ' ρ' s τ' w →
        Alike b (Taken f) (Meaning.given n M x ρ s) (Evaluation.given n f x a τ w)
    given_ok (Rule.by_value z) (Rule.value v) f room s w g =
        subst (λ z. Alike b (Taken (Rule.by_value z)) (Meaning.given n M (Rule.value v) ρ s) (Evaluation.given n (Rule.by_value z) (Rule.value v) a τ w)) (sym f.0) (value_given v f.1 (omega (arith, f.0)) s w g)
    given_ok (Rule.by_value z) (Rule.address p) f room s w g = absurd f
    given_ok (Rule.by_value z) (Rule.copied p m) f room s w g =
        subst (λ m. Alike b (Taken (Rule.by_value z)) (Meaning.given n M (Rule.copied p m) ρ s) (Evaluation.given n (Rule.by_value z) (Rule.copied p m) a τ w)) (sym f.0) (copied_given p z f.1 room s w g)
    given_ok (Rule.by_reference z) (Rule.value v) f room s w g = absurd f
    given_ok (Rule.by_reference z) (Rule.address p) f room s w g = address_given p z f room s w g
    given_ok (Rule.by_reference z) (Rule.copied p m) f room s w g = absurd f

  pub arguments_ok : (fs : List Formal) (xs : List Argument) (a top : ℕ) (σ' : List Slot) (ρ' : Objects.Env) (τ' : Evaluation.Env) → a + formals_size fs ≡ top → FitsArguments fs xs σ → top ≤ U → (s : State) (w : World) → Given a σ' ρ' s τ' w →
      Alike b (Given top (formal_slots fs σ')) (Meaning.arguments n M fs xs ρ ρ' s) (Evaluation.arguments n fs xs a τ τ' w)
  arguments_ok [] [] a top σ' ρ' τ' e f room s w g = dones (subst (λ k. Given k σ' ρ' s τ' w) at_top g)
    where
      at_top : a ≡ top
      at_top = omega arith
  arguments_ok [] (x ∷ xs) a top σ' ρ' τ' e f room s w g = absurd f
  arguments_ok (y ∷ fs) [] a top σ' ρ' τ' e f room s w g = absurd f
  arguments_ok (y ∷ fs) (x ∷ xs) a top σ' ρ' τ' e f room s w g =
      next (given_ok a ρ' τ' σ' y x f.0 (omega arith) s w g) (λ c s c' w g. arguments_ok fs xs (a + formal_size y) top (formal_slot y ∷ σ') (c ∷ ρ') (c' ∷ τ') (omega arith) f.1 room s w g)
