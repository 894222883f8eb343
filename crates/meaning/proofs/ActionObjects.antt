-- Actions, blocks and calls, over objects and over addresses.
use Rattle.std.proofs.Common.{◌≡◌, ℕ, zero, suc, ◌+◌, ◌<◌, ◌≤◌, Bool, true, false, not, leb, List, [], ◌∷◌, ◌++◌, length, take, replicate, ℤ, pos, sym, refl, ap, ◌∙◌, subst, arith}
use lib.ListN.{length-replicate}
use Rattle.meaning.specs.Rule.{Block, Place, Value, Argument, Formal, Action, Actions}
use Rattle.meaning.specs.Rule as Rule
use Rattle.machine.specs.Ints.{Answer, gives, is_zero}
use Rattle.machine.specs.Ints as Ints
use Rattle.machine.specs.Host.{Host, Item}
use Rattle.machine.specs.declared.host.Event.{Event}
use Rattle.machine.specs.declared.host.Event.TheVariants.{Int as wrote_int, Bool as wrote_bool, Line as wrote_line}
use Rattle.meaning.specs.Evaluation.{World, own_size, formals_size, frame_size, action_extent, actions_extent, block_extent, zeroed, as_int, as_bool}
use Rattle.meaning.specs.Evaluation as Evaluation
use Rattle.meaning.specs.Objects.{State}
use Rattle.meaning.specs.Objects as Objects
use Rattle.meaning.specs.Meaning as Meaning
use Rattle.meaning.specs.Sound.{Slot, takes, slot, formal_slots, FitsPlace, FitsValue, FitsArguments, FitsCall, FitsAction, FitsActions, FitsBlock}
use Rattle.meaning.proofs.Cells.{patched_length, patched_before}
use Rattle.meaning.proofs.Stretches.{Layout, Apart, Store, Grown, layout, store_cut, store_cells, grown_same, grown_append}
use Rattle.meaning.proofs.Pairs.{Alike, dones, cuts, faults, next, next_left, next_right, Both, outer, like, charge_both}
use Rattle.meaning.proofs.Bindings.{Bound, no_names, a_cell, a_reference, a_procedure}
use Rattle.meaning.proofs.ExpressionObjects.{Valued, Placed, place_ok, value_ok, save_ok, move_ok}
use Rattle.meaning.proofs.FrameObjects.{Zeros, zeroed_zeros, declare_ok, enter_ok, left}
use Rattle.meaning.proofs.ArgumentObjects.{arguments_ok}

-- what runs actions
abbrev pub Tracks : Block → ℕ → (Action → Objects.Env → State → Objects.Outcome Unit) → (Action → Evaluation.Env → ℕ → World → Evaluation.Outcome Unit) → Type 0
Tracks b M f g =
    (P : Layout) (U free l : ℕ) (ρ : Objects.Env) (τ : Evaluation.Env) (σ : List Slot) → Bound P ρ τ σ → Apart P free → (a : Action) → FitsAction a σ l → free + action_extent a ≤ U →
    (s : State) (w : World) → Both b (outer b) M P U s w → Alike b (λ _ t _ v. Both b (outer b) M P U t v) (f a ρ s) (g a τ free w)

-- the objects that a block made go
close_ok : {o : Objects.Outcome Unit} {e : Evaluation.Outcome Unit} (b : Block) (M : ℕ) (P : Layout) (U k : ℕ) → k ≡ length P → Grown (outer b) P →
    Alike b (λ _ t _ v. (Q : Layout) × Grown P Q × Both b (outer b) M Q U t v) o e →
    Alike b (λ _ t _ v. Both b (outer b) M P U t v) (elim o as (λ x. Objects.Outcome Unit) [ Objects.done a t ↦ Objects.done tt (Objects.with_objects t (take k t.objects)) | Objects.cut t ↦ Objects.cut t | Objects.fault f t ↦ Objects.fault f t ]) e
close_ok b M P U k e f (dones {s = s} {w = w} (Q, g, h)) = dones (record {
  store = subst (λ (k : ℕ). Store P (take k s.objects) w.cells) (sym e) (store_cut P Q s.objects w.cells g h.store);
  used = h.used;
  top = h.top;
  host = h.host;
  count = h.count;
  long = h.long;
  fits = h.fits;
  first = f;
  reach = h.reach;
})
close_ok b M P U k e f (cuts l) = cuts l
close_ok b M P U k e f (faults l) = faults l

-- two ways
branch : {Q : Unit {0} → State → Unit {0} → World → Type 0} (b : Block) (x y : ℤ) (m k : State → Objects.Outcome Unit) (m' k' : World → Evaluation.Outcome Unit) (s : State) (w : World) → x ≡ y →
    Alike b Q (m s) (m' w) → Alike b Q (k s) (k' w) →
    Alike b Q ((elim (is_zero x) as (λ c. State → Objects.Outcome Unit) [ true ↦ m | false ↦ k ]) s) ((elim (is_zero y) as (λ c. World → Evaluation.Outcome Unit) [ true ↦ m' | false ↦ k' ]) w)
branch {Q} b x y m k m' k' s w e yes_ok no_Ok =
    subst (λ (y : ℤ). Alike b Q ((elim (is_zero x) as (λ c. State → Objects.Outcome Unit) [ true ↦ m | false ↦ k ]) s) ((elim (is_zero y) as (λ c. World → Evaluation.Outcome Unit) [ true ↦ m' | false ↦ k' ]) w)) e (go (is_zero x))
  where
    go : (v : Bool) → Alike b Q ((elim v as (λ c. State → Objects.Outcome Unit) [ true ↦ m | false ↦ k ]) s) ((elim v as (λ c. World → Evaluation.Outcome Unit) [ true ↦ m' | false ↦ k' ]) w)
    go true = yes_ok
    go false = no_Ok

-- the host
module _ (b : Block) (n M : ℕ) (P : Layout) (U : ℕ) where
  abbrev Here : State → World → Type 0
  Here s w = Both b (outer b) M P U s w

  abbrev hosted : World → Host → World
  hosted w h = record { cells = w.cells; top = w.top; host = h; count = w.count }

  with_host : (h : Host) (s : State) (w : World) → Here s w → Here (Objects.with_host s h) (hosted w h)
  with_host h s w p = record { store = p.store; used = p.used; top = p.top; host = refl; count = p.count; long = p.long; fits = p.fits; first = p.first; reach = p.reach }

  said_ok : (e : Event) (s : State) (w : World) → Here s w → Alike b (λ _ t _ v. Here t v) (Objects.said e s) (Evaluation.said n e w)
  said_ok e s w p = subst (λ (h : Host). Alike b (λ _ t _ v. Here t v) (Objects.said e s) (Evaluation.said n e (hosted w h))) (sym p.host) (go (leb (length h.marks) s.host.room))
    where
      h : Host
      h = record { items = s.host.items; marks = s.host.marks ++ s.host.renders e; room = s.host.room; renders = s.host.renders }

      go : (v : Bool) → Alike b (λ _ t _ v. Here t v) (elim v as (λ x. Objects.Outcome Unit) [ true ↦ Objects.done tt (Objects.with_host s h) | false ↦ Objects.fault 26 s ])
          (elim v as (λ x. Evaluation.Outcome Unit) [ true ↦ Evaluation.done tt (hosted w h) | false ↦ Evaluation.fault 26 (hosted w s.host) ])
      go true = dones (with_host h s w p)
      go false = faults (like b M P U s (hosted w s.host) (with_host s.host s w p))

  hear_ok : (f : Item → Answer) (s : State) (w : World) → Here s w → Alike b (Valued b n M P U) (Objects.hear s.host.items f s) (Evaluation.hear n w.host.items f w)
  hear_ok f s w p = subst (λ (h : Host). Alike b (Valued b n M P U) (Objects.hear s.host.items f s) (Evaluation.hear n h.items f (hosted w h))) (sym p.host) (go s.host.items)
    where
      w' : World
      w' = hosted w s.host

      p' : Here s w'
      p' = with_host s.host s w p

      go₂ : (is : List Item) (a : Answer) → Alike b (Valued b n M P U) (Objects.taken is a s) (Evaluation.taken n is a w')
      go₂ is (gives z) = dones (refl, with_host (record { items = is; marks = s.host.marks; room = s.host.room; renders = s.host.renders }) s w p)
      go₂ is (Ints.faults k) = faults (like b M P U s w' p')

      go : (its : List Item) → Alike b (Valued b n M P U) (Objects.hear its f s) (Evaluation.hear n its f w')
      go [] = faults (like b M P U s w' p')
      go (i ∷ is) = go₂ is (f i)

  -- a block's own cells are cleared
  entry_ok : (free m : ℕ) → Apart P free → free + m ≤ U → (s : State) (w : World) → Here s w →
      Alike b (λ _ t _ v. Here t v × Zeros v.cells free m) (Meaning.entry n M m s) (Evaluation.own_cells n free m w)
  entry_ok free zero apart room s w h = dones (h, λ i l. absurd (never i l))
    where
      never : (i : ℕ) → i < 0 → ⊥
      never i l = omega arith
  entry_ok free (suc m) apart room s w h = next_right (charge_both b n M P U s w h) (λ _ s _ w h. dones (cleared s w h, zeroed_zeros w.cells free (suc m) (fits w h)))
    where
      fits : {s : State} (w : World) → Here s w → free + suc m ≤ length w.cells
      fits w h = omega (arith, h.fits, h.long)

      cleared : (s : State) (w : World) → Here s w → Here s (record { cells = zeroed w.cells free (suc m); top = w.top; host = w.host; count = w.count })
      cleared s w h = record {
        store = store_cells P free s.objects w.cells (zeroed w.cells free (suc m)) apart (λ i l. patched_before w.cells free (replicate (suc m) (pos 0)) (suc m) (length-replicate (suc m) (pos 0)) (fits w h) i l) h.store;
        used = h.used;
        top = h.top;
        host = h.host;
        count = h.count;
        long = patched_length w.cells free (replicate (suc m) (pos 0)) (suc m) (length-replicate (suc m) (pos 0)) (fits w h) ∙ h.long;
        fits = h.fits;
        first = h.first;
        reach = h.reach;
      }

module _ (b : Block) (n M : ℕ) (again : Action → Objects.Env → State → Objects.Outcome Unit) (again' : Action → Evaluation.Env → ℕ → World → Evaluation.Outcome Unit) (tracks : Tracks b M again again') where
  module _ (P : Layout) (U free : ℕ) (apart : Apart P free) (below : free ≤ U) {ρ : Objects.Env} {τ : Evaluation.Env} {σ : List Slot} (bound : Bound P ρ τ σ) where
    call_ok : (fs : List Formal) (c : Block) (xs : List Argument) (l : ℕ) (ρ' : Objects.Env) (τ' : Evaluation.Env) (σ' : List Slot) → FitsBlock c (formal_slots fs (takes fs ∷ σ')) l →
        Bound P (Objects.procedure fs c ∷ ρ') (Evaluation.procedure fs c ∷ τ') (takes fs ∷ σ') → FitsArguments fs xs σ → (s : State) (w : World) → Here b n M P U s w →
        Alike b (λ _ t _ v. Here b n M P U t v) (Meaning.called n M again (Objects.procedure fs c) xs ρ (Objects.procedure fs c ∷ ρ') s) (Evaluation.called n again' (Evaluation.procedure fs c) xs τ (Evaluation.procedure fs c ∷ τ') w)
    call_ok fs c xs l ρ' τ' σ' body names f s w h =
        next (charge_both b n M P U s w h) (λ _ s _ w h. next (enter_ok b n M P U free apart below (frame_size fs c) s w h) (λ o s start w e.
        next (arguments_ok b n M P (U + frame_size fs c) bound fs xs (start + 2) (start + 2 + formals_size fs) (takes fs ∷ σ') (Objects.procedure fs c ∷ ρ') (Evaluation.procedure fs c ∷ τ') refl f (omega (arith, e.frame)) s w
        (record { Q = P; grown = grown_same P; apart = more start e.frame; bound = names; both = e.both })) (λ inside s inside' w g.
        next (charge_both b n M g.Q (U + frame_size fs c) s w g.both) (λ _ s _ w h.
        next (tracks g.Q (U + frame_size fs c) (start + 2 + formals_size fs) l inside inside' (formal_slots fs (takes fs ∷ σ')) g.bound g.apart (Rule.inner c) body (omega (arith, e.frame)) s w h) (λ _ s _ w h.
        next (charge_both b n M g.Q (U + frame_size fs c) s w h) (λ _ s _ w h. dones (left b M P g.Q U (frame_size fs c) g.grown first o start e.objects e.frame s w h)))))))
      where
        first : Grown (outer b) P
        first = h.first

        more : (start : ℕ) → start ≡ U → Apart P (start + 2)
        more start e = record { under = λ o i. omega (arith, apart.under o i); order = apart.order }

    found_ok : {ρ' : Objects.Env} {τ' : Evaluation.Env} {σ' : List Slot} (i : ℕ) (xs : List Argument) → Bound P ρ' τ' σ' → FitsCall (slot σ' i) xs σ → (s : State) (w : World) → Here b n M P U s w →
        Alike b (λ _ t _ v. Here b n M P U t v) (Meaning.found n M again ρ' i xs ρ s) (Evaluation.found n again' τ' i xs τ w)
    found_ok i xs no_names f s w h = absurd f
    found_ok zero xs (a_cell p m) f s w h = absurd f
    found_ok zero xs (a_reference p m) f s w h = absurd f
    found_ok zero xs (a_procedure {fs} {b = c} {ρ = ρ'} {τ = τ'} {σ = σ'} l body m) f s w h = call_ok fs c xs l ρ' τ' σ' body (a_procedure l body m) f s w h
    found_ok (suc i) xs (a_cell p m) f s w h = found_ok i xs m f s w h
    found_ok (suc i) xs (a_reference p m) f s w h = found_ok i xs m f s w h
    found_ok (suc i) xs (a_procedure l body m) f s w h = found_ok i xs m f s w h

    -- the first row of each action
    place_row : (p : Place) (z : ℕ) → FitsPlace p σ z → (s : State) (w : World) → Here b n M P U s w → Alike b (Placed b n M P U z) (Meaning.place n M p ρ s) (Evaluation.place n p τ w)
    place_row p z f s w h = place_ok b n M P U free apart below bound p z f s w h

    value_row : (v : Value) → FitsValue v σ → (s : State) (w : World) → Here b n M P U s w → Alike b (Valued b n M P U) (Meaning.value n M v ρ s) (Evaluation.value n v τ w)
    value_row v f s w h = value_ok b n M P U free apart below bound v f s w h

    read_ok : (p : Place) (y : Item → Answer) → FitsPlace p σ 1 → (s : State) (w : World) → Here b n M P U s w →
        Alike b (λ _ t _ v. Here b n M P U t v) (Objects.◌>>=◌ (Meaning.place n M p ρ) (λ r. Objects.◌>>◌ (Meaning.charge n M) (Objects.◌>>=◌ (λ s. Objects.hear s.host.items y s) (Objects.save r))) s)
        (Evaluation.◌>>=◌ (Evaluation.place n p τ) (λ a. Evaluation.◌>>◌ (Evaluation.charge n) (Evaluation.◌>>=◌ (λ w. Evaluation.hear n w.host.items y w) (Evaluation.save n a))) w)
    read_ok p y f s w h =
        next (place_row p 1 f s w h) (λ r s a w g. next (charge_both b n M P U s w g.1) (λ _ s _ w h. next (hear_ok b n M P U y s w h) (λ x s x' w e.
        subst (λ (x' : ℤ). Alike b (λ _ t _ v. Here b n M P U t v) (Objects.save r x s) (Evaluation.save n a x' w)) e.0 (save_ok b n M P U free apart below r a x s w g.0 e.1))))

    write_ok : (v : Value) (y : ℤ → Event) → FitsValue v σ → (s : State) (w : World) → Here b n M P U s w →
        Alike b (λ _ t _ v. Here b n M P U t v) (Objects.◌>>=◌ (Meaning.value n M v ρ) (λ x. Objects.◌>>◌ (Meaning.charge n M) (Objects.said (y x))) s)
        (Evaluation.◌>>=◌ (Evaluation.value n v τ) (λ x. Evaluation.◌>>◌ (Evaluation.charge n) (Evaluation.said n (y x))) w)
    write_ok v y f s w h =
        next (value_row v f s w h) (λ x s x' w e. next (charge_both b n M P U s w e.1) (λ _ s _ w h.
        subst (λ (x' : ℤ). Alike b (λ _ t _ v. Here b n M P U t v) (Objects.said (y x) s) (Evaluation.said n (y x') w)) e.0 (said_ok b n M P U (y x) s w h)))

  mutual
    pub act_ok : (a : Action) (P : Layout) (U free l : ℕ) {ρ : Objects.Env} {τ : Evaluation.Env} {σ : List Slot} → Bound P ρ τ σ → Apart P free → FitsAction a σ l → free + action_extent a ≤ U →
        (s : State) (w : World) → Here b n M P U s w → Alike b (λ _ t _ v. Here b n M P U t v) (Meaning.act n M again a ρ s) (Evaluation.act n again' a τ free w)
    act_ok (Rule.drop_place p) P U free l bd ap f room s w h = next (place_row P U free ap (omega arith) bd p f.0 f.1 s w h) (λ r s a w g. charge_both b n M P U s w g.1)
    act_ok (Rule.drop_value v) P U free l bd ap f room s w h = next (value_row P U free ap (omega arith) bd v f s w h) (λ x s y w e. charge_both b n M P U s w e.1)
    act_ok (Rule.copy p q z) P U free l bd ap f room s w h =
        next (place_row P U free ap (omega arith) bd p z f.0 s w h) (λ r s a w g. next (place_row P U free ap (omega arith) bd q z f.1 s w g.1) (λ r' s c w g'.
        next (charge_both b n M P U s w g'.1) (λ _ s _ w h. move_ok b n M P U free ap (omega arith) r r' a c z s w g.0 g'.0 h)))
    act_ok (Rule.choose v c) P U free l bd ap f room s w h =
        next (value_row P U free ap (omega arith) bd v f.0 s w h) (λ x s y w e. next (charge_both b n M P U s w e.1) (λ _ s _ w h.
        branch b x y _ _ _ _ s w e.0 (dones h) (inner_ok c P U free l bd ap f.1 room s w h)))
    act_ok (Rule.choose_else v c d) P U free l bd ap f room s w h =
        next (value_row P U free ap (omega arith) bd v f.0 s w h) (λ x s y w e. next (charge_both b n M P U s w e.1) (λ _ s _ w h.
        branch b x y _ _ _ _ s w e.0 (inner_ok d P U free l bd ap f.2 (omega arith) s w h)
        (next (inner_ok c P U free l bd ap f.1 (omega arith) s w h) (λ _ s _ w h. charge_both b n M P U s w h))))
    act_ok (Rule.repeat v c) P U free l {ρ} {τ} {σ} bd ap f room s w h =
        next (value_row P U free ap (omega arith) bd v f.0 s w h) (λ x s y w e. next (charge_both b n M P U s w e.1) (λ _ s _ w h.
        branch b x y _ _ _ _ s w e.0 (dones h)
        (next (inner_ok c P U free l bd ap f.1 room s w h) (λ _ s _ w h. next (charge_both b n M P U s w h) (λ _ s _ w h. tracks P U free l ρ τ σ bd ap (Rule.repeat v c) f room s w h)))))
    act_ok (Rule.read_int p) P U free l bd ap f room s w h = read_ok P U free ap (omega arith) bd p as_int f s w h
    act_ok (Rule.read_bool p) P U free l bd ap f room s w h = read_ok P U free ap (omega arith) bd p as_bool f s w h
    act_ok (Rule.write_int v) P U free l bd ap f room s w h = write_ok P U free ap (omega arith) bd v (λ x. wrote_int x) f s w h
    act_ok (Rule.write_bool v) P U free l bd ap f room s w h = write_ok P U free ap (omega arith) bd v (λ x. wrote_bool (not (is_zero x))) f s w h
    act_ok Rule.newline P U free l bd ap f room s w h = next (charge_both b n M P U s w h) (λ _ s _ w h. said_ok b n M P U wrote_line s w h)
    act_ok (Rule.call i xs) P U free l bd ap f room s w h = found_ok P U free ap (omega arith) bd i xs bd f s w h
    act_ok (Rule.inner c) P U free l bd ap f room s w h = inner_ok c P U free l bd ap f room s w h

    pub acts_ok : (xs : Actions) (P : Layout) (U free l : ℕ) {ρ : Objects.Env} {τ : Evaluation.Env} {σ : List Slot} → Bound P ρ τ σ → Apart P free → FitsActions xs σ l → free + actions_extent xs ≤ U →
        (s : State) (w : World) → Here b n M P U s w → Alike b (λ _ t _ v. Here b n M P U t v) (Meaning.act_all n M again xs ρ s) (Evaluation.act_all n again' xs τ free w)
    acts_ok Rule.nothing P U free l bd ap f room s w h = dones h
    acts_ok (Rule.◌then◌ a xs) P U free l bd ap f room s w h =
        next (act_ok a P U free l bd ap f.0 (omega arith) s w h) (λ _ s _ w h. acts_ok xs P U free l bd ap f.1 (omega arith) s w h)

    inner_ok : (c : Block) (P : Layout) (U free l : ℕ) {ρ : Objects.Env} {τ : Evaluation.Env} {σ : List Slot} → Bound P ρ τ σ → Apart P free → FitsBlock c σ l → free + block_extent c ≤ U →
        (s : State) (w : World) → Here b n M P U s w → Alike b (λ _ t _ v. Here b n M P U t v) (Objects.scoped (Meaning.block n M again c ρ) s) (Evaluation.run_block n again' c τ free w)
    inner_ok (Rule.block ds xs) P U free l {ρ} {τ} {σ} bd ap f room s w h =
        close_ok b M P U (length s.objects) h.store.number h.first
        (next (entry_ok b n M P U free (own_size ds) ap (omega arith) s w h) (λ _ s _ w e.
        next_left (declare_ok b (outer b) M n ds P free (free + own_size ds) U l bd ap refl f.0 s w e.1 e.0) (λ ρ' s d.
        widen (acts_ok xs (P ++ layout ds free) U (free + own_size ds) l d.bound d.apart f.1 (omega arith) s w d.both))))
      where
        widen : {o : Objects.Outcome Unit} {e : Evaluation.Outcome Unit} → Alike b (λ _ t _ v. Here b n M (P ++ layout ds free) U t v) o e → Alike b (λ _ t _ v. (Q : Layout) × Grown P Q × Here b n M Q U t v) o e
        widen (dones h) = dones (P ++ layout ds free, grown_append P (layout ds free), h)
        widen (cuts h) = cuts h
        widen (faults h) = faults h

-- every rank
pub ranked_ok : (b : Block) (n M r : ℕ) → Tracks b M (Meaning.ranked n M r) (Evaluation.ranked n r)
ranked_ok b n M zero P U free l ρ τ σ bd ap a f room s w h = cuts (like b M P U s w h)
ranked_ok b n M (suc r) P U free l ρ τ σ bd ap a f room s w h = act_ok b n M (Meaning.ranked n M r) (Evaluation.ranked n r) (ranked_ok b n M r) a P U free l bd ap f room s w h
