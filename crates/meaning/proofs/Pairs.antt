-- The meaning of a rule beside its evaluation over addresses.
use Rattle.std.proofs.Common.{◌≡◌, ℕ, suc, ◌+◌, ◌<◌, ◌≤◌, Bool, true, false, T, eqb, length, take, drop, sym, ap, ◌∙◌, subst, arith}
use Rattle.meaning.specs.Rule.{Block}
use Rattle.meaning.specs.Rule as Rule
use Rattle.meaning.specs.Evaluation.{World, own_size}
use Rattle.meaning.specs.Evaluation as Evaluation
use Rattle.meaning.specs.Objects.{State, Reference, contents}
use Rattle.meaning.specs.Objects as Objects
use Rattle.meaning.specs.Meaning.{variables}
use Rattle.meaning.specs.Meaning as Meaning
use Rattle.meaning.specs.Sizes.{own_cells}
use Rattle.meaning.specs.Halves.{Like}
use Rattle.meaning.proofs.Stretches.{Stretch, Layout, Store, Grown, start, size, layout, layout_length, store_cut, flat}

-- both end in the same way, with Q if they are done
pub data Alike (b : Block) {A B : Type 0} (Q : A → State → B → World → Type 0) : Objects.Outcome A → Evaluation.Outcome B → Type 0 where
  dones : {a : A} {s : State} {c : B} {w : World} → Q a s c w → Alike b Q (Objects.done a s) (Evaluation.done c w)
  cuts : {s : State} {w : World} → Like b s w → Alike b Q (Objects.cut s) (Evaluation.cut w)
  faults : {f : ℕ} {s : State} {w : World} → Like b s w → Alike b Q (Objects.fault f s) (Evaluation.fault f w)

-- one after the other
pub next : {b : Block} {A B C D : Type 0} {P : A → State → B → World → Type 0} {Q : C → State → D → World → Type 0} {o : Objects.Outcome A} {e : Evaluation.Outcome B}
    {k : A → State → Objects.Outcome C} {j : B → World → Evaluation.Outcome D} → Alike b P o e →
    ((a : A) (s : State) (c : B) (w : World) → P a s c w → Alike b Q (k a s) (j c w)) →
    Alike b Q (elim o as (λ x. Objects.Outcome C) [ Objects.done a s ↦ k a s | Objects.cut s ↦ Objects.cut s | Objects.fault f s ↦ Objects.fault f s ])
    (elim e as (λ x. Evaluation.Outcome D) [ Evaluation.done c w ↦ j c w | Evaluation.cut w ↦ Evaluation.cut w | Evaluation.fault f w ↦ Evaluation.fault f w ])
next (dones h) f = f _ _ _ _ h
next (cuts h) f = cuts h
next (faults h) f = faults h

abbrev pub outer : Block → Layout
outer (Rule.block ds xs) = layout ds 2

-- the state of the meaning beside the world of the evaluation: objects as P has them, those of F first, frames up to T, M cells in all
pub record Both (b : Block) (F : Layout) (M : ℕ) (P : Layout) (T : ℕ) (s : State) (w : World) : Type 0 where
  pub store : Store P s.objects w.cells
  pub used : s.used ≡ T
  pub top : w.top ≡ T
  pub host : w.host ≡ s.host
  pub count : w.count ≡ s.count
  pub long : length w.cells ≡ M
  pub fits : T ≤ M
  pub first : Grown F P
  pub reach : 2 + own_cells b ≤ M

-- what is seen of them is the same
pub like : (b : Block) (M : ℕ) (P : Layout) (T : ℕ) (s : State) (w : World) → Both b (outer b) M P T s w → Like b s w
like (Rule.block ds xs) M P T s w p = record { count = p.count; host = p.host; variables = λ h. seen }
  where
    seen : take (own_size ds) (drop 2 w.cells) ≡ contents (take (variables ds) s.objects)
    seen = sym (flat ds 2 (take (length (layout ds 2)) s.objects) w.cells (store_cut (layout ds 2) P s.objects w.cells p.first p.store) (omega (arith, p.reach, p.long)))
        ∙ ap (λ (k : ℕ). contents (take k s.objects)) (layout_length ds 2)

-- then one only
pub next_left : {b : Block} {A B C D : Type 0} {P : A → State → B → World → Type 0} {Q : C → State → D → World → Type 0} {o : Objects.Outcome A} {c : B} {w : World}
    {k : A → State → Objects.Outcome C} {e : Evaluation.Outcome D} → Alike b P o (Evaluation.done c w) → ((a : A) (s : State) → P a s c w → Alike b Q (k a s) e) →
    Alike b Q (elim o as (λ x. Objects.Outcome C) [ Objects.done a s ↦ k a s | Objects.cut s ↦ Objects.cut s | Objects.fault f s ↦ Objects.fault f s ]) e
next_left (dones h) f = f _ _ h

pub next_right : {b : Block} {A B D : Type 0} {P : A → State → B → World → Type 0} {Q : A → State → D → World → Type 0} {o : Objects.Outcome A} {e : Evaluation.Outcome B}
    {j : B → World → Evaluation.Outcome D} → Alike b P o e → ((a : A) (s : State) (c : B) (w : World) → P a s c w → Alike b Q (Objects.done a s) (j c w)) →
    Alike b Q o (elim e as (λ x. Evaluation.Outcome D) [ Evaluation.done c w ↦ j c w | Evaluation.cut w ↦ Evaluation.cut w | Evaluation.fault f w ↦ Evaluation.fault f w ])
next_right (dones h) f = f _ _ _ _ h
next_right (cuts h) f = cuts h
next_right (faults h) f = faults h

-- one charge in both
pub charge_like : {Q : Unit {0} → State → Unit {0} → World → Type 0} (b : Block) (n M : ℕ) (s : State) (w : World) → Like b s w →
    Q tt (record { objects = s.objects; used = s.used; host = s.host; count = suc s.count }) tt (record { cells = w.cells; top = w.top; host = w.host; count = suc w.count }) →
    Alike b Q (Meaning.charge n M s) (Evaluation.charge n w)
charge_like {Q} b n M s w l h = go (eqb s.count n) (eqb w.count n) (ap (λ (c : ℕ). eqb c n) (sym l.count))
  where
    s' : State
    s' = record { objects = s.objects; used = s.used; host = s.host; count = suc s.count }

    w' : World
    w' = record { cells = w.cells; top = w.top; host = w.host; count = suc w.count }

    go : (u v : Bool) → u ≡ v → Alike b Q (elim u as (λ x. Objects.Outcome Unit) [ true ↦ Objects.cut s | false ↦ Objects.done tt s' ]) (elim v as (λ x. Evaluation.Outcome Unit) [ true ↦ Evaluation.cut w | false ↦ Evaluation.done tt w' ])
    go true true e = cuts l
    go false false e = dones h
    go true false e = absurd (subst T e tt)
    go false true e = absurd (subst T (sym e) tt)

pub charge_both : (b : Block) (n M : ℕ) (P : Layout) (U : ℕ) (s : State) (w : World) → Both b (outer b) M P U s w → Alike b (λ _ t _ v. Both b (outer b) M P U t v) (Meaning.charge n M s) (Evaluation.charge n w)
charge_both b n M P U s w p = charge_like b n M s w (like b M P U s w p)
    (record { store = p.store; used = p.used; top = p.top; host = p.host; count = ap (λ (c : ℕ). suc c) p.count; long = p.long; fits = p.fits; first = p.first; reach = p.reach })

-- a place in an object beside its address, with z cells from there on
pub record PlaceAt (P : Layout) (r : Reference) (a z : ℕ) : Type 0 where
  pub inside : r.object < length P
  pub is : a ≡ start P r.object + r.offset
  pub room : r.offset + z ≤ size P r.object

pub grown_place : (P Q : Layout) (r : Reference) (a z : ℕ) → Grown P Q → PlaceAt P r a z → PlaceAt Q r a z
grown_place P Q r a z g p = record {
  inside = omega (arith, p.inside, g.longer);
  is = subst (λ (x : Stretch). a ≡ x.from + r.offset) (sym (g.same r.object p.inside)) p.is;
  room = subst (λ (x : Stretch). r.offset + z ≤ x.many) (sym (g.same r.object p.inside)) p.room;
}
