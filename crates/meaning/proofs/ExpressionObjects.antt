-- Designators and values, over objects and over addresses.
use Rattle.std.proofs.Common.{◌≡◌, ℕ, suc, ◌+◌, ◌-◌, ◌*◌, ◌<◌, ◌≤◌, Bool, true, false, T, ltb, List, [], ◌++◌, length, get_or, take, drop, set, ℤ, pos, negsuc, sym, refl, ap, ◌∙◌, subst, mul-le-mul_right, arith, ltb→lt, length-drop, length-set}
use native.Mathlib.Decide.{dec_lt, ℕ_discrete}
use Rattle.std.proofs.lemmas.List.{length-take-le, get_or-set_same, get_or-set_other, get_or-take, get_or-drop}
use Rattle.meaning.specs.Rule.{Block, Place, Value}
use Rattle.meaning.specs.Rule as Rule
use Rattle.machine.specs.Ints.{Answer, gives, unary_of, binary_of}
use Rattle.machine.specs.Ints as Ints
use Rattle.meaning.specs.Evaluation.{World}
use Rattle.meaning.specs.Evaluation as Evaluation
use Rattle.meaning.specs.Objects.{State, Object, Reference, beyond}
use Rattle.meaning.specs.Objects as Objects
use Rattle.meaning.specs.Meaning as Meaning
use Rattle.meaning.specs.Sound.{Slot, FitsPlace, FitsValue}
use Rattle.meaning.proofs.Cells.{patched_length, patched_before, patched_in, patched_after}
use Rattle.meaning.proofs.Stretches.{Layout, Apart, start, size, store_change}
use Rattle.meaning.proofs.Pairs.{outer, Alike, dones, faults, next, Both, like, charge_both, PlaceAt}
use Rattle.meaning.proofs.Bindings.{Bound, of_variable, of_reference}

-- what the operations on memory do, if P has its objects apart
module _ (b : Block) (n M : ℕ) (P : Layout) (U : ℕ) where
  abbrev pub Beside : State → World → Type 0
  Beside s w = Both b (outer b) M P U s w

  abbrev pub Placed : ℕ → Reference → State → ℕ → World → Type 0
  Placed z r s a w = PlaceAt P r a z × Beside s w

  abbrev pub Valued : ℤ → State → ℤ → World → Type 0
  Valued x s y w = (x ≡ y) × Beside s w

  pub load_ok : (r : Reference) (a : ℕ) (s : State) (w : World) → PlaceAt P r a 1 → Beside s w → Alike b Valued (Objects.load r s) (Evaluation.load n a w)
  load_ok r a s w p h = dones (sym (h.store.same r.object p.inside r.offset (omega (arith, p.room))) ∙ ap (λ (i : ℕ). get_or w.cells i (pos 0)) (sym p.is), h)

  pub settle_ok : (a : Answer) (s : State) (w : World) → Beside s w → Alike b Valued (Objects.settle a s) (Evaluation.settle n a w)
  settle_ok (gives z) s w h = dones (refl, h)
  settle_ok (Ints.faults f) s w h = faults (like b M P U s w h)

  pub indexed_ok : (r : Reference) (a : ℕ) (i : ℤ) (m z : ℕ) (s : State) (w : World) → PlaceAt P r a (m * z) → Beside s w → Alike b (Placed z) (Objects.indexed r i m z s) (Evaluation.indexed n a i m z w)
  indexed_ok r a (negsuc i) m z s w p h = faults (like b M P U s w h)
  indexed_ok r a (pos i) m z s w p h = go (ltb i m) refl
    where
      go : (v : Bool) → ltb i m ≡ v → Alike b (Placed z) (elim v as (λ x. Objects.Outcome Reference) [ true ↦ Objects.done (beyond r (i * z)) s | false ↦ Objects.fault 21 s ])
          (elim v as (λ x. Evaluation.Outcome ℕ) [ true ↦ Evaluation.done (a + i * z) w | false ↦ Evaluation.fault 21 w ])
      go true q = dones (record { inside = p.inside; is = omega (arith, p.is); room = omega (arith, p.room, wide) }, h)
        where
          wide : suc i * z ≤ m * z
          wide = mul-le-mul_right z (ltb→lt i m (subst T (sym q) tt))
      go false q = faults (like b M P U s w h)

  -- the object and the cells that a change leaves
  changed : (top : ℕ) → Apart P top → (s : State) (w : World) → Beside s w → (o : ℕ) (x : Object) (F : List ℤ) → o < length P → length F ≡ length w.cells → length x ≡ size P o →
      ((i : ℕ) → i < size P o → get_or F (start P o + i) (pos 0) ≡ get_or x i (pos 0)) →
      ((i : ℕ) → i < start P o → get_or F i (pos 0) ≡ get_or w.cells i (pos 0)) → ((i : ℕ) → start P o + size P o ≤ i → get_or F i (pos 0) ≡ get_or w.cells i (pos 0)) →
      Beside (Objects.with_objects s (set s.objects o x)) (record { cells = F; top = w.top; host = w.host; count = w.count })
  changed top ap s w h o x F l lF lx inside before behind = record {
    store = store_change P top s.objects w.cells F o x ap h.store l lx inside before behind;
    used = h.used;
    top = h.top;
    host = h.host;
    count = h.count;
    long = lF ∙ h.long;
    fits = h.fits;
    first = h.first;
    reach = h.reach;
  }

  module _ (top : ℕ) (apart : Apart P top) (in_memory : top ≤ U) where
    within : (r : Reference) (a z : ℕ) (s : State) (w : World) → PlaceAt P r a z → Beside s w → start P r.object + size P r.object ≤ length w.cells
    within r a z s w p h = omega (arith, apart.under r.object p.inside, h.long, h.fits)

    pub save_ok : (r : Reference) (a : ℕ) (x : ℤ) (s : State) (w : World) → PlaceAt P r a 1 → Beside s w → Alike b (λ _ t _ v. Beside t v) (Objects.save r x s) (Evaluation.save n a x w)
    save_ok r a x s w p h = dones (changed top apart s w h o (set y k x) (set w.cells a x) p.inside (length-set w.cells a x) (length-set y k x ∙ long)
        (λ i l. inside i l (ℕ_discrete i k))
        (λ i l. get_or-set_other w.cells a i x (pos 0) (omega (arith, p.is)))
        (λ i l. get_or-set_other w.cells a i x (pos 0) (omega (arith, p.is, p.room))))
      where
        o : ℕ
        o = r.object

        k : ℕ
        k = r.offset

        y : Object
        y = get_or s.objects o []

        long : length y ≡ size P o
        long = h.store.sized o p.inside

        inside : (i : ℕ) → i < size P o → Dec (i ≡ k) → get_or (set w.cells a x) (start P o + i) (pos 0) ≡ get_or (set y k x) i (pos 0)
        inside i l (yes e) =
            ap (λ (j : ℕ). get_or (set w.cells a x) j (pos 0)) here ∙ get_or-set_same w.cells a x (pos 0) (omega (arith, within r a 1 s w p h, p.is, p.room))
            ∙ sym (get_or-set_same y k x (pos 0) (omega (arith, p.room, long))) ∙ ap (λ (j : ℕ). get_or (set y k x) j (pos 0)) (sym e)
          where
            here : start P o + i ≡ a
            here = omega (arith, p.is)
        inside i l (no f) = get_or-set_other w.cells a (start P o + i) x (pos 0) (omega (arith, p.is)) ∙ h.store.same o p.inside i l ∙ sym (get_or-set_other y k i x (pos 0) f)

    -- z cells of an object
    pub part_same : (r : Reference) (a z : ℕ) (s : State) (w : World) → PlaceAt P r a z → Beside s w → (i : ℕ) → i < z → get_or (take z (drop a w.cells)) i (pos 0) ≡ get_or (Objects.part s r z) i (pos 0)
    part_same r a z s w p h i l =
        get_or-take z (drop a w.cells) i (pos 0) l ∙ get_or-drop a w.cells i (pos 0) ∙ ap (λ (j : ℕ). get_or w.cells j (pos 0)) there ∙ h.store.same r.object p.inside (r.offset + i) (omega (arith, p.room))
        ∙ sym (get_or-drop r.offset (get_or s.objects r.object []) i (pos 0)) ∙ sym (get_or-take z (drop r.offset (get_or s.objects r.object [])) i (pos 0) l)
      where
        there : a + i ≡ start P r.object + (r.offset + i)
        there = omega (arith, p.is)

    pub part_long : (r : Reference) (a z : ℕ) (s : State) (w : World) → PlaceAt P r a z → Beside s w → length (Objects.part s r z) ≡ z
    part_long r a z s w p h = length-take-le z (drop r.offset y) (rw (length-drop r.offset y) (omega (arith, p.room, h.store.sized r.object p.inside)))
      where
        y : Object
        y = get_or s.objects r.object []

    pub stretch_long : (r : Reference) (a z : ℕ) (s : State) (w : World) → PlaceAt P r a z → Beside s w → length (take z (drop a w.cells)) ≡ z
    stretch_long r a z s w p h = length-take-le z (drop a w.cells) (rw (length-drop a w.cells) (omega (arith, p.room, p.is, within r a z s w p h)))

    pub move_ok : (r q : Reference) (a c z : ℕ) (s : State) (w : World) → PlaceAt P r a z → PlaceAt P q c z → Beside s w → Alike b (λ _ t _ v. Beside t v) (Objects.move r q z s) (Evaluation.move n a c z w)
    move_ok r q a c z s w p p' h = dones (changed top apart s w h o y' E' p.inside (patched_length E a mE z lE inE) (patched_length y k mO z lO in_o ∙ long)
        (λ i l. inside i l (dec_lt i k) (dec_lt i (k + z)))
        (λ i l. patched_before E a mE z lE inE i (omega (arith, p.is)))
        (λ i l. patched_after E a mE z lE inE i (omega (arith, p.is, p.room))))
      where
        o : ℕ
        o = r.object

        k : ℕ
        k = r.offset

        E : List ℤ
        E = w.cells

        y : Object
        y = get_or s.objects o []

        mO : Object
        mO = Objects.part s q z

        mE : List ℤ
        mE = take z (drop c E)

        y' : Object
        y' = take k y ++ (mO ++ drop (k + z) y)

        E' : List ℤ
        E' = take a E ++ (mE ++ drop (a + z) E)

        long : length y ≡ size P o
        long = h.store.sized o p.inside

        lO : length mO ≡ z
        lO = part_long q c z s w p' h

        lE : length mE ≡ z
        lE = stretch_long q c z s w p' h

        inE : a + z ≤ length E
        inE = omega (arith, p.room, p.is, within r a z s w p h)

        in_o : k + z ≤ length y
        in_o = omega (arith, p.room, long)

        inside : (i : ℕ) → i < size P o → Dec (i < k) → Dec (i < k + z) → get_or E' (start P o + i) (pos 0) ≡ get_or y' i (pos 0)
        inside i l (yes f) d = patched_before E a mE z lE inE (start P o + i) (omega (arith, p.is)) ∙ h.store.same o p.inside i l ∙ sym (patched_before y k mO z lO in_o i f)
        inside i l (no f) (yes d) =
            patched_in E a mE z lE inE (start P o + i) (omega (arith, p.is)) (omega (arith, p.is)) ∙ ap (λ (j : ℕ). get_or mE j (pos 0)) there ∙ part_same q c z s w p' h (i - k) (omega arith)
            ∙ sym (patched_in y k mO z lO in_o i (omega arith) d)
          where
            there : start P o + i - a ≡ i - k
            there = omega (arith, p.is)
        inside i l (no f) (no d) = patched_after E a mE z lE inE (start P o + i) (omega (arith, p.is)) ∙ h.store.same o p.inside i l ∙ sym (patched_after y k mO z lO in_o i (omega arith))

    module _ {ρ : Objects.Env} {τ : Evaluation.Env} {σ : List Slot} (bound : Bound P ρ τ σ) where
      charge_ok : (s : State) (w : World) → Beside s w → Alike b (λ _ t _ v. Beside t v) (Meaning.charge n M s) (Evaluation.charge n w)
      charge_ok s w h = charge_both b n M P U s w h

      mutual
        pub place_ok : (p : Place) (z : ℕ) → FitsPlace p σ z → (s : State) (w : World) → Beside s w → Alike b (Placed z) (Meaning.place n M p ρ s) (Evaluation.place n p τ w)
        place_ok (Rule.variable i) z f s w h = next (charge_ok s w h) (λ _ s _ w h. dones (of_variable P i z bound f, h))
        place_ok (Rule.reference i) z f s w h = next (charge_ok s w h) (λ _ s _ w h. next (charge_ok s w h) (λ _ s _ w h. dones (of_reference P i z bound f, h)))
        place_ok (Rule.field p k) z f s w h =
            next (place_ok p f.0 f.1 s w h) (λ r s a w g. next (charge_ok s w g.1) (λ _ s _ w h. dones (further r a f.0 k z f.2 g.0, h)))
          where
            further : (r : Reference) (a y k z : ℕ) → k + z ≤ y → PlaceAt P r a y → PlaceAt P (beyond r k) (a + k) z
            further r a y k z l p = record { inside = p.inside; is = omega (arith, p.is); room = omega (arith, p.room) }
        place_ok (Rule.element p v m y) z f s w h =
            subst (λ z. Alike b (Placed z) (Meaning.place n M (Rule.element p v m y) ρ s) (Evaluation.place n (Rule.element p v m y) τ w)) (sym f.2)
            (next (place_ok p (m * y) f.0 s w h) (λ r s a w g. next (value_ok v f.1 s w g.1) (λ i s j w e. next (charge_ok s w e.1) (λ _ s _ w h.
            subst (λ j. Alike b (Placed y) (Objects.indexed r i m y s) (Evaluation.indexed n a j m y w)) e.0 (indexed_ok r a i m y s w g.0 h)))))

        pub value_ok : (v : Value) → FitsValue v σ → (s : State) (w : World) → Beside s w → Alike b Valued (Meaning.value n M v ρ s) (Evaluation.value n v τ w)
        value_ok (Rule.literal z) f s w h = next (charge_ok s w h) (λ _ s _ w h. dones (refl, h))
        value_ok (Rule.content p) f s w h = next (place_ok p 1 f s w h) (λ r s a w g. next (charge_ok s w g.1) (λ _ s _ w h. load_ok r a s w g.0 h))
        value_ok (Rule.unary o v) f s w h =
            next (value_ok v f s w h) (λ x s y w e. next (charge_ok s w e.1) (λ _ s _ w h.
            subst (λ y. Alike b Valued (Objects.settle (unary_of o x) s) (Evaluation.settle n (unary_of o y) w)) e.0 (settle_ok (unary_of o x) s w h)))
        value_ok (Rule.binary o u v) f s w h =
            next (value_ok u f.0 s w h) (λ x s x' w e. next (value_ok v f.1 s w e.1) (λ y s y' w e'. next (charge_ok s w e'.1) (λ _ s _ w h.
            subst (λ c. Alike b Valued (Objects.settle (binary_of o x y) s) (Evaluation.settle n c w)) (ap₂ e.0 e'.0) (settle_ok (binary_of o x y) s w h))))
          where
            ap₂ : {x x' y y' : ℤ} → x ≡ x' → y ≡ y' → binary_of o x y ≡ binary_of o x' y'
            ap₂ {x} {x'} {y} {y'} p q = ap (λ (c : ℤ). binary_of o c y) p ∙ ap (λ (c : ℤ). binary_of o x' c) q
        value_ok (Rule.store p v) f s w h =
            next (place_ok p 1 f.0 s w h) (λ r s a w g. next (value_ok v f.1 s w g.1) (λ x s y w e. next (charge_ok s w e.1) (λ _ s _ w h.
            subst (λ y. Alike b Valued (Objects.◌>>◌ (Objects.save r x) (Objects.return x) s) (Evaluation.◌>>◌ (Evaluation.save n a y) (Evaluation.return y) w)) e.0
            (next (save_ok r a x s w g.0 h) (λ _ s _ w h. dones (refl, h))))))
