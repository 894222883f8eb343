-- New objects, and the frames of calls.
use Rattle.std.proofs.Common.{◌≡◌, ℕ, suc, ◌+◌, ◌-◌, ◌<◌, ◌≤◌, Bool, true, false, T, leb, List, [], ◌∷◌, ◌++◌, length, get_or, take, replicate, ℤ, pos, sym, refl, ap, ◌∙◌, subst, arith, leb→le}
use lib.ListN.{length-replicate}
use Rattle.std.proofs.lemmas.List.{append_assoc, get_or-replicate}
use Rattle.meaning.specs.Rule.{Block, Declarations}
use Rattle.meaning.specs.Rule as Rule
use Rattle.meaning.specs.Evaluation.{World, own_size, zeroed}
use Rattle.meaning.specs.Evaluation as Evaluation
use Rattle.meaning.specs.Objects.{State, Object, Reference}
use Rattle.meaning.specs.Objects as Objects
use Rattle.meaning.specs.Meaning as Meaning
use Rattle.meaning.specs.Sound.{Slot, holds, slots, FitsDeclarations}
use Rattle.meaning.specs.Halves.{Like}
use Rattle.meaning.proofs.Cells.{patched_length, patched_before, patched_in}
use Rattle.meaning.proofs.Stretches.{Stretch, Layout, Apart, Store, Grown, push, push_new, push_length, apart_push, store_push, store_cells, store_cut, grown_append, grown_more, layout}
use Rattle.meaning.proofs.Pairs.{Alike, dones, faults, Both, outer, like, PlaceAt}
use Rattle.meaning.proofs.Bindings.{Bound, a_cell, a_procedure, grown_bound}

-- m cells from a on hold 0
abbrev pub Zeros : List ℤ → ℕ → ℕ → Type 0
Zeros E a m = (i : ℕ) → i < m → get_or E (a + i) (pos 0) ≡ pos 0

pub zeroed_zeros : (E : List ℤ) (a m : ℕ) → a + m ≤ length E → Zeros (zeroed E a m) a m
zeroed_zeros E a m h i l =
    patched_in E a (replicate m (pos 0)) m (length-replicate m (pos 0)) h (a + i) (omega arith) (omega arith) ∙ ap (λ (j : ℕ). get_or (replicate m (pos 0)) j (pos 0)) there ∙ get_or-replicate m i (pos 0) (pos 0) l
  where
    there : a + i - a ≡ i
    there = omega arith

module _ (b : Block) (F : Layout) (M : ℕ) where
  -- an object more, of z cells from a on
  pub both_push : (P : Layout) (a z U : ℕ) (x : Object) (E : List ℤ) (s : State) (w : World) → Apart P a → Both b F M P U s w → length x ≡ z → length E ≡ length w.cells →
      ((i : ℕ) → i < a → get_or E i (pos 0) ≡ get_or w.cells i (pos 0)) → ((i : ℕ) → i < z → get_or E (a + i) (pos 0) ≡ get_or x i (pos 0)) →
      Both b F M (push P a z) U (Objects.with_objects s (s.objects ++ (x ∷ []))) (record { cells = E; top = w.top; host = w.host; count = w.count })
  both_push P a z U x E s w apart h lx lE before inside = record {
    store = store_push P a z s.objects E x (store_cells P a s.objects w.cells E apart before h.store) lx inside;
    used = h.used;
    top = h.top;
    host = h.host;
    count = h.count;
    long = lE ∙ h.long;
    fits = h.fits;
    first = grown_more F P (push P a z) h.first (grown_append P (record { from = a; many = z } ∷ []));
    reach = h.reach;
  }

  pub place_new : (P : Layout) (a z U : ℕ) (s : State) (w : World) → Both b F M P U s w → PlaceAt (push P a z) (record { object = length s.objects; offset = 0 }) a z
  place_new P a z U s w h = subst (λ (o : ℕ). PlaceAt (push P a z) (record { object = o; offset = 0 }) a z) (sym h.store.number) (record {
    inside = omega (arith, push_length P a z);
    is = subst (λ (x : Stretch). a ≡ x.from + 0) (sym (push_new P a z)) (omega arith);
    room = subst (λ (x : Stretch). 0 + z ≤ x.many) (sym (push_new P a z)) (omega arith);
  })

  -- the variables of a block become objects
  pub record Declared (P : Layout) (top U : ℕ) (σ : List Slot) (ρ : Objects.Env) (s : State) (τ : Evaluation.Env) (w : World) : Type 0 where
    pub bound : Bound P ρ τ σ
    pub apart : Apart P top
    pub both : Both b F M P U s w

  pub declare_ok : (n : ℕ) (ds : Declarations) (P : Layout) (a top U l : ℕ) {ρ : Objects.Env} {τ : Evaluation.Env} {σ : List Slot} → Bound P ρ τ σ → Apart P a → a + own_size ds ≡ top → FitsDeclarations ds σ l →
      (s : State) (w : World) → Zeros w.cells a (own_size ds) → Both b F M P U s w →
      Alike b (Declared (P ++ layout ds a) top U (slots ds σ)) (Meaning.declare ds ρ s) (Evaluation.done (Evaluation.declared n ds a τ) w)
  declare_ok n Rule.none P a top U l {ρ} {τ} {σ} bound apart e f s w z h =
      subst (λ Q. Alike b (Declared Q top U σ) (Objects.done ρ s) (Evaluation.done τ w)) (sym (Rattle.std.proofs.lemmas.List.append-nil P)) (dones (record { bound = bound; apart = subst (λ k. Apart P k) at_top apart; both = h }))
    where
      at_top : a ≡ top
      at_top = omega arith
  declare_ok n (Rule.local m ds) P a top U l {ρ} {τ} {σ} bound apart e f s w z h =
      subst (λ Q. Alike b (Declared Q top U (slots ds (holds m ∷ σ))) (Meaning.declare ds (Objects.names r ∷ ρ) s') (Evaluation.done (Evaluation.declared n ds (a + m) (Evaluation.at a ∷ τ)) w))
      (append_assoc P (record { from = a; many = m } ∷ []) (layout ds (a + m)))
      (declare_ok n ds (push P a m) (a + m) top U l (a_cell (place_new P a m U s w h) (grown_bound P (push P a m) (grown_append P (record { from = a; many = m } ∷ [])) bound)) (apart_push P a m apart) (omega arith) f s' w
      (λ i k. ap (λ (j : ℕ). get_or w.cells j (pos 0)) (there i) ∙ z (m + i) (omega arith))
      (both_push P a m U (replicate m (pos 0)) w.cells s w apart h (length-replicate m (pos 0)) refl (λ i k. refl) (λ i k. z i (omega arith) ∙ sym (get_or-replicate m i (pos 0) (pos 0) k))))
    where
      r : Reference
      r = record { object = length s.objects; offset = 0 }

      s' : State
      s' = Objects.with_objects s (s.objects ++ (replicate m (pos 0) ∷ []))

      there : (i : ℕ) → a + m + i ≡ a + (m + i)
      there i = omega arith
  declare_ok n (Rule.proc fs c ds) P a top U l bound apart e f s w z h = declare_ok n ds P a top U l (a_procedure (suc l) f.1 bound) apart e f.2 s w z h

-- a frame of m cells
pub enter_like : {Q : ℕ → State → ℕ → World → Type 0} (b : Block) (n M U m : ℕ) (s : State) (w : World) → Like b s w → s.used ≡ U → w.top ≡ U → length w.cells ≡ M →
    (U + m ≤ M → Q (length s.objects) (record { objects = s.objects; used = s.used + m; host = s.host; count = s.count })
    w.top (record { cells = zeroed w.cells w.top m; top = w.top + m; host = w.host; count = w.count })) →
    Alike b Q (Meaning.enter n M m s) (Evaluation.take_frame n m w)
enter_like {Q} b n M U m s w l u t g h = go (leb (s.used + m) M) (leb (w.top + m) (length w.cells)) (ap (λ (x : ℕ). leb (x + m) M) u) (ap (λ (x : ℕ). leb (x + m) (length w.cells)) t ∙ ap (λ (x : ℕ). leb (U + m) x) g)
  where
    s' : State
    s' = record { objects = s.objects; used = s.used + m; host = s.host; count = s.count }

    w' : World
    w' = record { cells = zeroed w.cells w.top m; top = w.top + m; host = w.host; count = w.count }

    go : (x y : Bool) → x ≡ leb (U + m) M → y ≡ leb (U + m) M →
        Alike b Q (elim x as (λ x. Objects.Outcome ℕ) [ true ↦ Objects.done (length s.objects) s' | false ↦ Objects.fault 27 s ]) (elim y as (λ x. Evaluation.Outcome ℕ) [ true ↦ Evaluation.done w.top w' | false ↦ Evaluation.fault 27 w ])
    go true true p q = dones (h (leb→le (U + m) M (subst T p tt)))
    go false false p q = faults l
    go true false p q = absurd (subst T (p ∙ sym q) tt)
    go false true p q = absurd (subst T (q ∙ sym p) tt)

module _ (b : Block) (n M : ℕ) (P : Layout) (U free : ℕ) (apart : Apart P free) (below : free ≤ U) where
  pub record Entered (m o : ℕ) (s : State) (start : ℕ) (w : World) : Type 0 where
    pub objects : o ≡ length P
    pub frame : start ≡ U
    pub both : Both b (outer b) M P (U + m) s w

  pub enter_ok : (m : ℕ) (s : State) (w : World) → Both b (outer b) M P U s w → Alike b (Entered m) (Meaning.enter n M m s) (Evaluation.take_frame n m w)
  enter_ok m s w h = enter_like b n M U m s w (like b M P U s w h) h.used h.top h.long (λ room. record {
    objects = h.store.number;
    frame = h.top;
    both = record {
      store = store_cells P free s.objects w.cells (zeroed w.cells w.top m) apart
          (λ i l. patched_before w.cells w.top (replicate m (pos 0)) m (length-replicate m (pos 0)) (omega (arith, h.top, h.long)) i (omega (arith, h.top))) h.store;
      used = ap (λ (x : ℕ). x + m) h.used;
      top = ap (λ (x : ℕ). x + m) h.top;
      host = h.host;
      count = h.count;
      long = patched_length w.cells w.top (replicate m (pos 0)) m (length-replicate m (pos 0)) (omega (arith, h.top, h.long)) ∙ h.long;
      fits = room;
      first = h.first;
      reach = h.reach;
    };
  })

-- the objects behind those of P go, and the frame from U on
pub left : (b : Block) (M : ℕ) (P Q : Layout) (U m : ℕ) → Grown P Q → Grown (outer b) P → (o start : ℕ) → o ≡ length P → start ≡ U → (s : State) (w : World) → Both b (outer b) M Q (U + m) s w →
    Both b (outer b) M P U (record { objects = take o s.objects; used = s.used - m; host = s.host; count = s.count }) (record { cells = w.cells; top = start; host = w.host; count = w.count })
left b M P Q U m g f o start eo es s w h = record {
  store = subst (λ (k : ℕ). Store P (take k s.objects) w.cells) (sym eo) (store_cut P Q s.objects w.cells g h.store);
  used = omega (arith, h.used);
  top = es;
  host = h.host;
  count = h.count;
  long = h.long;
  fits = omega (arith, h.fits);
  first = f;
  reach = h.reach;
}
