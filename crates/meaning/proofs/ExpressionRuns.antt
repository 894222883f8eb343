-- Designators and values: their code beside their evaluation over addresses.
use Rattle.std.proofs.Common.{◌≡◌, ℕ, suc, ◌+◌, ◌*◌, ◌^◌, ◌<◌, ◌≤◌, Bool, true, false, cond, T, ltb, List, [], ◌∷◌, length, get_or, set, ℤ, pos, negsuc, Some, sym, refl, ap, ◌∙◌, subst, mul-le-mul_right, arith, ltb→lt}
use Rattle.machine.specs.declared.instruction.Instruction.{Instruction}
use Rattle.machine.specs.declared.instruction.Instruction.TheVariants.{Lit, Var, Off, Ld, Stk, Index}
use Rattle.meaning.specs.Rule.{Place, Value, Unary, Binary}
use Rattle.meaning.specs.Rule as Rule
use Rattle.machine.specs.Ints.{Answer, gives, faults, unary_of, binary_of}
use Rattle.meaning.specs.Evaluation.{World, Outcome, done, fault, ◌>>=◌, ◌>>◌, charge, return, load, save, settle, indexed, Env, address_of}
use Rattle.meaning.specs.Evaluation as Evaluation
use Rattle.machine.specs.Machine.{Machine, Effect, goes, fails, fetched, after, effect, room, made, on, on_cells, settled}
use Rattle.machine.specs.Machine as Machine
use Rattle.meaning.specs.Code.{Scope, Entry, var, entry_of, place_length, value_length}
use Rattle.meaning.specs.Code as Code
use Rattle.meaning.specs.Sound.{Slot, holds, refers, slot, FitsPlace, FitsValue, place_need, value_need}
use Rattle.meaning.specs.Sizes.{own_cells}
use Rattle.meaning.proofs.Cells.{Private, Free, Mem, mem_set}
use Rattle.meaning.proofs.Tracks.{Setting, tick, now, Ends, ends_bind, charged, fault_here}
use Rattle.meaning.proofs.Tracks as Tracks
use Rattle.meaning.proofs.Scopes.{Sits, sits_left, sits_right, Rel, RelCell, IsCell, Found, found_cell}
use Rattle.meaning.proofs.Effects.{room_ok, made_ok, within_ok, advance}
use Rattle.meaning.proofs.Lengths.{place_long, value_long}

pub unary_is : (o : Unary) (m : Machine) → effect (Code.unary o) m ≡ Machine.unary o m
unary_is Rule.neg m = refl
unary_is Rule.not m = refl

pub binary_is : (o : Binary) (m : Machine) → effect (Code.binary o) m ≡ Machine.binary o m
binary_is Rule.add m = refl
binary_is Rule.sub m = refl
binary_is Rule.mul m = refl
binary_is Rule.quot m = refl
binary_is Rule.rem m = refl
binary_is Rule.and m = refl
binary_is Rule.or m = refl
binary_is Rule.lt m = refl
binary_is Rule.le m = refl
binary_is Rule.gt m = refl
binary_is Rule.ge m = refl
binary_is Rule.eq m = refl
binary_is Rule.ne m = refl

module _ (g : Setting) (B : List ℕ) (L : Private) (T low : ℕ) where
  abbrev pub S : List ℤ → ℕ → World → Type 0
  S ops pc w = Tracks.St g B L T low ops pc w

  -- a charge beside an instruction that changes operands alone
  pub plain : {A : Type 0} (Q : A → World → Type 0) (k : World → Outcome A) (ops : List ℤ) (pc : ℕ) (w : World) (st : S ops pc w) (i : Instruction) →
      fetched g.code pc ≡ Some i → (ops' : List ℤ) (pc' : ℕ) → pc' ≡ suc pc → effect i (now g B L T low ops pc w st) ≡ goes (on (now g B L T low ops pc w st) ops') →
      (S ops' pc' (tick w) → Ends g (k (tick w)) Q) → Ends g ((charge g.n >> k) w) Q
  plain Q k ops pc w st i f ops' pc' p e c =
      charged g B L T low ops pc w st Q k i f (λ l r. c (subst (λ q. S ops' q (tick w)) (sym p)
      (advance g B L T low ops pc w st i l r B L T ops' (suc pc) st.cells w.cells w.top w.host e st.mem st.top_is)))

  -- an answer that may be a fault
  pub answered : (Q : ℤ → World → Type 0) (ops : List ℤ) (pc : ℕ) (w : World) (st : S ops pc w) (i : Instruction) →
      fetched g.code pc ≡ Some i → (a : Answer) (ops' : List ℤ) (pc' : ℕ) → pc' ≡ suc pc →
      effect i (now g B L T low ops pc w st) ≡ settled a (λ z. goes (on (now g B L T low ops pc w st) (z ∷ ops'))) →
      ((z : ℤ) → S (z ∷ ops') pc' (tick w) → Q z (tick w)) → Ends g ((charge g.n >> settle g.n a) w) Q
  answered Q ops pc w st i f (gives z) ops' pc' p e c = plain Q (settle g.n (gives z)) ops pc w st i f (z ∷ ops') pc' p e (c z)
  answered Q ops pc w st i f (faults x) ops' pc' p e c =
      charged g B L T low ops pc w st Q (settle g.n (faults x)) i f (λ l r. fault_here g B L T low ops pc w st x l (r ∙ ap (λ (y : Effect). after y w.count (now g B L T low ops pc w st)) e))

  pub small_address : (a s : ℕ) (M E : List ℤ) → Mem (own_cells g.b) L T M E → a + s ≤ T → a < 2 ^ 31
  small_address a s M E m h = omega (arith, m.small, m.fits)

  pub in_memory : (a s : ℕ) (M E : List ℤ) → Mem (own_cells g.b) L T M E → a + s ≤ T → a + s ≤ length M
  in_memory a s M E m h = omega (arith, m.len, m.fits)

  -- U: where the cells of the names end
  module _ (U : ℕ) (le : U ≤ T) (Γ : Scope) (ρ : Env) (σ : List Slot) (rel : Rel g.code B L U Γ ρ σ) where
    abbrev pub AtPlace : ℕ → List ℤ → ℕ → ℕ → World → Type 0
    AtPlace s ops pc a w = (a + s ≤ U) × Free L a s × S (pos a ∷ ops) pc w

    variable_ok : (i s : ℕ) → slot σ i ≡ holds s → (ops : List ℤ) (pc : ℕ) (w : World) → fetched g.code pc ≡ Some (var (entry_of Γ i)) → length ops < 128 → S ops pc w →
        Ends g (Evaluation.place g.n (Rule.variable i) ρ w) (AtPlace s ops (pc + 1))
    variable_ok i s e ops pc w f h st =
        plain (AtPlace s ops (pc + 1)) (return (address_of ρ i)) ops pc w st (Var found.l found.k) (f ∙ ap (λ (x : Entry). Some (var x)) found.seen_is)
        (pos (address_of ρ i) ∷ ops) (pc + 1) (omega arith)
        (room_ok ops _ h ∙ made_ok (get_or B found.l 0 + found.k) (λ a. goes (on m (pos a ∷ ops))) (subst (λ (x : ℕ). x < 2 ^ 31) c.0 (small_address (address_of ρ i) s st.cells w.cells st.mem (omega (arith, c.1))))
        ∙ ap (λ (x : ℕ). goes (on m (pos x ∷ ops))) (sym c.0))
        (λ st'. (c.1, c.2, st'))
      where
        m : Machine
        m = now g B L T low ops pc w st

        found : Found g.code B L U Γ ρ i (holds s)
        found = subst (λ x. Found g.code B L U Γ ρ i x) e (found_cell g.code B L U Γ ρ σ i rel (subst (IsCell g.code B L U) (sym e) tt))

        c : RelCell g.code B L U found.l found.k (address_of ρ i) (holds s)
        c = found.cell

    reference_ok : (i s : ℕ) → slot σ i ≡ refers s → (ops : List ℤ) (pc : ℕ) (w : World) → fetched g.code pc ≡ Some (var (entry_of Γ i)) → fetched g.code (suc pc) ≡ Some Ld →
        length ops < 128 → S ops pc w → Ends g (Evaluation.place g.n (Rule.reference i) ρ w) (AtPlace s ops (pc + 2))
    reference_ok i s e ops pc w f f' h st =
        plain (AtPlace s ops (pc + 2)) (charge g.n >> return (address_of ρ i)) ops pc w st (Var found.l found.k) (f ∙ ap (λ (x : Entry). Some (var x)) found.seen_is)
        (pos p ∷ ops) (suc pc) refl
        (room_ok ops _ h ∙ made_ok p (λ a. goes (on m (pos a ∷ ops))) (small_address p 1 st.cells w.cells st.mem p_in))
        (λ st'. plain (AtPlace s ops (pc + 2)) (return (address_of ρ i)) (pos p ∷ ops) (suc pc) (tick w) st' Ld f' (pos (address_of ρ i) ∷ ops) (pc + 2) (omega arith)
        (within_ok p 0 st'.cells (λ b. goes (on (now g B L T low (pos p ∷ ops) (suc pc) (tick w) st') (get_or st'.cells b (pos 0) ∷ ops))) (in_memory p 1 st'.cells w.cells st'.mem p_in)
        ∙ ap (λ (x : ℤ). goes (on (now g B L T low (pos p ∷ ops) (suc pc) (tick w) st') (x ∷ ops))) (c.1 st'.cells st'.mem.kept))
        (λ st''. (c.2, c.3, st'')))
      where
        m : Machine
        m = now g B L T low ops pc w st

        found : Found g.code B L U Γ ρ i (refers s)
        found = subst (λ x. Found g.code B L U Γ ρ i x) e (found_cell g.code B L U Γ ρ σ i rel (subst (IsCell g.code B L U) (sym e) tt))

        c : RelCell g.code B L U found.l found.k (address_of ρ i) (refers s)
        c = found.cell

        p : ℕ
        p = get_or B found.l 0 + found.k

        p_in : p + 1 ≤ T
        p_in = omega (arith, c.0)

    field_ok : (a k s whole : ℕ) → k + s ≤ whole → (ops : List ℤ) (pc pc' : ℕ) → pc' ≡ suc pc → (w : World) → fetched g.code pc ≡ Some (Off k) → AtPlace whole ops pc a w →
        Ends g ((charge g.n >> return (a + k)) w) (AtPlace s ops pc')
    field_ok a k s whole h ops pc pc' e w f at =
        plain (AtPlace s ops pc') (return (a + k)) (pos a ∷ ops) pc w st (Off k) f (pos (a + k) ∷ ops) pc' e
        (made_ok (a + k) (λ b. goes (on (now g B L T low (pos a ∷ ops) pc w st) (pos b ∷ ops))) (small_address (a + k) s st.cells w.cells st.mem (omega (arith, at.0))))
        (λ st'. (omega (arith, at.0), λ i u v. at.1 i (omega arith) (omega arith), st'))
      where
        st : S (pos a ∷ ops) pc w
        st = at.2

    index_ok : (a : ℕ) (i : ℤ) (n s : ℕ) (ops : List ℤ) (pc pc' : ℕ) → pc' ≡ suc pc → (w : World) → fetched g.code pc ≡ Some (Index n s) → a + n * s ≤ U → Free L a (n * s) → S (i ∷ pos a ∷ ops) pc w →
        Ends g ((charge g.n >> indexed g.n a i n s) w) (AtPlace s ops pc')
    index_ok a (negsuc j) n s ops pc pc' e w f h fr st =
        charged g B L T low (negsuc j ∷ pos a ∷ ops) pc w st (AtPlace s ops pc') (indexed g.n a (negsuc j) n s) (Index n s) f (λ l r. fault_here g B L T low (negsuc j ∷ pos a ∷ ops) pc w st 21 l r)
    index_ok a (pos j) n s ops pc pc' e w f h fr st =
        charged g B L T low (pos j ∷ pos a ∷ ops) pc w st Q (indexed g.n a (pos j) n s) (Index n s) f (λ l r. go l (ltb j n) refl r)
      where
        Q : ℕ → World → Type 0
        Q = AtPlace s ops pc'

        m : Machine
        m = now g B L T low (pos j ∷ pos a ∷ ops) pc w st

        k : ℕ → Effect
        k = λ b. goes (on m (pos b ∷ ops))

        go : w.count < g.n → (v : Bool) → ltb j n ≡ v → g.R (suc w.count) ≡ after (cond v (made (pos (a + j * s)) k) (fails 21)) w.count m →
            Ends g (elim v as (λ x. Outcome ℕ) [ true ↦ done (a + j * s) (tick w) | false ↦ fault 21 (tick w) ]) Q
        go l true q r = (fit, (λ i u v. fr i (omega arith) (omega (arith, room))), subst (λ x. S (pos (a + j * s) ∷ ops) x (tick w)) (sym e) on_it)
          where
            under : j < n
            under = ltb→lt j n (subst T' (sym q) tt)
              where
                T' : Bool → Type 0
                T' b = lib.Dec.T b

            room : suc j * s ≤ n * s
            room = mul-le-mul_right s under

            fit : a + j * s + s ≤ U
            fit = omega (arith, room)

            on_it : S (pos (a + j * s) ∷ ops) (suc pc) (tick w)
            on_it = advance' (r ∙ ap (λ (x : Effect). after x w.count m) (made_ok (a + j * s) k (small_address (a + j * s) s st.cells w.cells st.mem (omega (arith, fit)))))
              where
                advance' : g.R (suc w.count) ≡ after (goes (on m (pos (a + j * s) ∷ ops))) w.count m → S (pos (a + j * s) ∷ ops) (suc pc) (tick w)
                advance' x = record { cells = st.cells; is = x; mem = st.mem; top_is = st.top_is; low_is = omega (arith, st.low_is); bound = l }
        go l false q r = fault_here g B L T low (pos j ∷ pos a ∷ ops) pc w st 21 l r

    load_ok : (a : ℕ) (ops : List ℤ) (pc pc' : ℕ) → pc' ≡ suc pc → (w : World) → fetched g.code pc ≡ Some Ld → AtPlace 1 ops pc a w →
        Ends g ((charge g.n >> load g.n a) w) (λ x. S (x ∷ ops) pc')
    load_ok a ops pc pc' e w f at =
        plain (λ x. S (x ∷ ops) pc') (load g.n a) (pos a ∷ ops) pc w st Ld f (get_or w.cells a (pos 0) ∷ ops) pc' e
        (within_ok a 0 st.cells (λ b. goes (on m (get_or st.cells b (pos 0) ∷ ops))) (in_memory a 1 st.cells w.cells st.mem (omega (arith, at.0)))
        ∙ ap (λ (x : ℤ). goes (on m (x ∷ ops))) (st.mem.same a (omega (arith, at.0)) (at.1 a (omega arith) (omega arith))))
        (λ st'. st')
      where
        st : S (pos a ∷ ops) pc w
        st = at.2

        m : Machine
        m = now g B L T low (pos a ∷ ops) pc w st

    store_ok : (a : ℕ) (x : ℤ) (ops : List ℤ) (pc pc' : ℕ) → pc' ≡ suc pc → (w : World) → fetched g.code pc ≡ Some Stk → a + 1 ≤ U → Free L a 1 → S (x ∷ pos a ∷ ops) pc w →
        Ends g ((charge g.n >> (save g.n a x >> return x)) w) (λ x. S (x ∷ ops) pc')
    store_ok a x ops pc pc' e w f h fr st =
        charged g B L T low (x ∷ pos a ∷ ops) pc w st (λ x. S (x ∷ ops) pc') (save g.n a x >> return x) Stk f
        (λ l r. subst (λ q. S (x ∷ ops) q (record { cells = set w.cells a x; top = w.top; host = w.host; count = suc w.count })) (sym e)
        (advance g B L T low (x ∷ pos a ∷ ops) pc w st Stk l r B L T (x ∷ ops) (suc pc) (set st.cells a x) (set w.cells a x) w.top w.host
        (within_ok a 0 st.cells (λ b. goes (on_cells m (x ∷ ops) (set st.cells b x))) (in_memory a 1 st.cells w.cells st.mem (omega arith)))
        (mem_set (own_cells g.b) L T st.cells w.cells st.mem a x (omega arith) (fr a (omega arith) (omega arith))) st.top_is))
      where
        m : Machine
        m = now g B L T low (x ∷ pos a ∷ ops) pc w st

    mutual
      pub place_ok : (p : Place) (s : ℕ) → FitsPlace p σ s → (ops : List ℤ) (pc : ℕ) (w : World) → Sits g.code (Code.place p Γ) pc → length ops + place_need p ≤ 128 → S ops pc w →
          Ends g (Evaluation.place g.n p ρ w) (AtPlace s ops (pc + place_length p))
      place_ok (Rule.variable i) s e ops pc w c h st = variable_ok i s e ops pc w c.0 (omega arith) st
      place_ok (Rule.reference i) s e ops pc w c h st = reference_ok i s e ops pc w c.0 c.1.0 (omega arith) st
      place_ok (Rule.field p k) s e ops pc w c h st =
          ends_bind g (AtPlace e.0 ops (pc + place_length p)) (AtPlace s ops (pc + (place_length p + 1))) (Evaluation.place g.n p ρ) (λ a. charge g.n >> return (a + k)) w
          (place_ok p e.0 e.1 ops pc w (sits_left g.code (Code.place p Γ) (Off k ∷ []) pc c) h st)
          (λ a v at. field_ok a k s e.0 e.2 ops (pc + place_length p) (pc + (place_length p + 1)) (omega arith) v (sits_right g.code (Code.place p Γ) (Off k ∷ []) pc (place_length p) (place_long p Γ) c).0 at)
      place_ok (Rule.element p u n x) s e ops pc w c h st =
          subst (λ y. Ends g (Evaluation.place g.n (Rule.element p u n x) ρ w) (AtPlace y ops (pc + (place_length p + (value_length u + 1))))) (sym e.2)
          (ends_bind g (AtPlace (n * x) ops (pc + place_length p)) (AtPlace x ops (pc + (place_length p + (value_length u + 1)))) (Evaluation.place g.n p ρ)
          (λ a. Evaluation.value g.n u ρ >>= (λ i. charge g.n >> indexed g.n a i n x)) w
          (place_ok p (n * x) e.0 ops pc w (sits_left g.code (Code.place p Γ) _ pc c) (omega arith) st)
          (λ a v at. ends_bind g (λ z. S (z ∷ pos a ∷ ops) (pc + place_length p + value_length u)) (AtPlace x ops (pc + (place_length p + (value_length u + 1)))) (Evaluation.value g.n u ρ)
          (λ i. charge g.n >> indexed g.n a i n x) v
          (value_ok u e.1 (pos a ∷ ops) (pc + place_length p) v (sits_left g.code (Code.value u Γ) (Index n x ∷ []) (pc + place_length p) (sits_right g.code (Code.place p Γ) _ pc (place_length p) (place_long p Γ) c)) (omega arith) at.2)
          (λ i v' st'. index_ok a i n x ops (pc + place_length p + value_length u) (pc + (place_length p + (value_length u + 1))) (omega arith) v'
          (sits_right g.code (Code.value u Γ) (Index n x ∷ []) (pc + place_length p) (value_length u) (value_long u Γ) (sits_right g.code (Code.place p Γ) _ pc (place_length p) (place_long p Γ) c)).0 at.0 at.1 st')))

      pub value_ok : (u : Value) → FitsValue u σ → (ops : List ℤ) (pc : ℕ) (w : World) → Sits g.code (Code.value u Γ) pc → length ops + value_need u ≤ 128 → S ops pc w →
          Ends g (Evaluation.value g.n u ρ w) (λ x. S (x ∷ ops) (pc + value_length u))
      value_ok (Rule.literal z) e ops pc w c h st =
          plain (λ x. S (x ∷ ops) (pc + 1)) (return z) ops pc w st (Lit z) c.0 (z ∷ ops) (pc + 1) (omega arith) (room_ok ops _ (omega arith)) (λ st'. st')
      value_ok (Rule.content p) e ops pc w c h st =
          ends_bind g (AtPlace 1 ops (pc + place_length p)) (λ x. S (x ∷ ops) (pc + (place_length p + 1))) (Evaluation.place g.n p ρ) (λ a. charge g.n >> load g.n a) w
          (place_ok p 1 e ops pc w (sits_left g.code (Code.place p Γ) (Ld ∷ []) pc c) h st)
          (λ a v at. load_ok a ops (pc + place_length p) (pc + (place_length p + 1)) (omega arith) v (sits_right g.code (Code.place p Γ) (Ld ∷ []) pc (place_length p) (place_long p Γ) c).0 at)
      value_ok (Rule.unary o u) e ops pc w c h st =
          ends_bind g (λ x. S (x ∷ ops) (pc + value_length u)) (λ x. S (x ∷ ops) (pc + (value_length u + 1))) (Evaluation.value g.n u ρ) (λ x. charge g.n >> settle g.n (unary_of o x)) w
          (value_ok u e ops pc w (sits_left g.code (Code.value u Γ) (Code.unary o ∷ []) pc c) h st)
          (λ x v st'. answered (λ y. S (y ∷ ops) (pc + (value_length u + 1))) (x ∷ ops) (pc + value_length u) v st' (Code.unary o)
          (sits_right g.code (Code.value u Γ) (Code.unary o ∷ []) pc (value_length u) (value_long u Γ) c).0 (unary_of o x) ops (pc + (value_length u + 1)) (omega arith) (unary_is o _) (λ z s. s))
      value_ok (Rule.binary o t u) e ops pc w c h st =
          ends_bind g (λ x. S (x ∷ ops) (pc + value_length t)) (λ x. S (x ∷ ops) (pc + (value_length t + (value_length u + 1)))) (Evaluation.value g.n t ρ)
          (λ x. Evaluation.value g.n u ρ >>= (λ y. charge g.n >> settle g.n (binary_of o x y))) w
          (value_ok t e.0 ops pc w (sits_left g.code (Code.value t Γ) _ pc c) (omega arith) st)
          (λ x v st'. ends_bind g (λ y. S (y ∷ x ∷ ops) (pc + value_length t + value_length u)) (λ x. S (x ∷ ops) (pc + (value_length t + (value_length u + 1)))) (Evaluation.value g.n u ρ)
          (λ y. charge g.n >> settle g.n (binary_of o x y)) v
          (value_ok u e.1 (x ∷ ops) (pc + value_length t) v (sits_left g.code (Code.value u Γ) (Code.binary o ∷ []) (pc + value_length t) (sits_right g.code (Code.value t Γ) _ pc (value_length t) (value_long t Γ) c)) (omega arith) st')
          (λ y v' st''. answered (λ y. S (y ∷ ops) (pc + (value_length t + (value_length u + 1)))) (y ∷ x ∷ ops) (pc + value_length t + value_length u) v' st'' (Code.binary o)
          (sits_right g.code (Code.value u Γ) (Code.binary o ∷ []) (pc + value_length t) (value_length u) (value_long u Γ) (sits_right g.code (Code.value t Γ) _ pc (value_length t) (value_long t Γ) c)).0
          (binary_of o x y) ops (pc + (value_length t + (value_length u + 1))) (omega arith) (binary_is o _) (λ z s. s)))
      value_ok (Rule.store p u) e ops pc w c h st =
          ends_bind g (AtPlace 1 ops (pc + place_length p)) (λ x. S (x ∷ ops) (pc + (place_length p + (value_length u + 1)))) (Evaluation.place g.n p ρ)
          (λ a. Evaluation.value g.n u ρ >>= (λ x. charge g.n >> (save g.n a x >> return x))) w
          (place_ok p 1 e.0 ops pc w (sits_left g.code (Code.place p Γ) _ pc c) (omega arith) st)
          (λ a v at. ends_bind g (λ x. S (x ∷ pos a ∷ ops) (pc + place_length p + value_length u)) (λ x. S (x ∷ ops) (pc + (place_length p + (value_length u + 1)))) (Evaluation.value g.n u ρ)
          (λ x. charge g.n >> (save g.n a x >> return x)) v
          (value_ok u e.1 (pos a ∷ ops) (pc + place_length p) v (sits_left g.code (Code.value u Γ) (Stk ∷ []) (pc + place_length p) (sits_right g.code (Code.place p Γ) _ pc (place_length p) (place_long p Γ) c)) (omega arith) at.2)
          (λ x v' st'. store_ok a x ops (pc + place_length p + value_length u) (pc + (place_length p + (value_length u + 1))) (omega arith) v'
          (sits_right g.code (Code.value u Γ) (Stk ∷ []) (pc + place_length p) (value_length u) (value_long u Γ) (sits_right g.code (Code.place p Γ) _ pc (place_length p) (place_long p Γ) c)).0 at.0 at.1 st'))
