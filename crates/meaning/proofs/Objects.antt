-- The meaning of a sound rule beside its evaluation over addresses.
use Rattle.std.proofs.Common.{◌≡◌, ℕ, zero, suc, ◌+◌, ◌<◌, ◌≤◌, List, [], length, replicate, ℤ, pos, sym, refl, ap, ◌∙◌, subst, arith}
use lib.ListN.{length-replicate}
use Rattle.meaning.specs.Rule.{Block}
use Rattle.meaning.specs.Rule as Rule
use Rattle.machine.specs.Host.{Host}
use Rattle.meaning.specs.Evaluation.{World, own_size, frame_size, zeroed, evaluated}
use Rattle.meaning.specs.Evaluation as Evaluation
use Rattle.meaning.specs.Objects.{State}
use Rattle.meaning.specs.Objects as Objects
use Rattle.meaning.specs.Meaning.{meaning}
use Rattle.meaning.specs.Meaning as Meaning
use Rattle.meaning.specs.Sound.{Sound}
use Rattle.meaning.specs.Sizes.{own_cells}
use Rattle.meaning.specs.Halves.{Like, Likewise, ObjectsAgree}
use Rattle.meaning.specs.Halves as Halves
use Rattle.meaning.proofs.Cells.{patched_length}
use Rattle.meaning.proofs.Stretches.{Layout, apart_none, store_none, Store, grown_same, layout}
use Rattle.meaning.proofs.Pairs.{Alike, dones, cuts, faults, next, next_left, next_right, Both, outer, like, charge_like, charge_both}
use Rattle.meaning.proofs.Bindings.{no_names}
use Rattle.meaning.proofs.FrameObjects.{Zeros, zeroed_zeros, declare_ok, enter_like}
use Rattle.meaning.proofs.ActionObjects.{acts_ok, ranked_ok}

-- before the outermost variables come to be: k charges, and a frame up to U
record Opening (M k U : ℕ) (s : State) (w : World) : Type 0 where
  none : s.objects ≡ []
  used : s.used ≡ U
  top : w.top ≡ U
  host : w.host ≡ s.host
  count : w.count ≡ s.count
  charges : s.count ≡ k
  long : length w.cells ≡ M

opening_like : (b : Block) (M k U : ℕ) (s : State) (w : World) → k < 3 → Opening M k U s w → Like b s w
opening_like b M k U s w l o = record { count = o.count; host = o.host; variables = λ h. absurd (never h) }
  where
    never : 3 ≤ s.count → ⊥
    never h = omega (arith, o.charges)

opening_charge : (b : Block) (n M k U : ℕ) (s : State) (w : World) → k < 3 → Opening M k U s w → Alike b (λ _ t _ v. Opening M (suc k) U t v) (Meaning.charge n M s) (Evaluation.charge n w)
opening_charge b n M k U s w l o = charge_like b n M s w (opening_like b M k U s w l o)
    (record { none = o.none; used = o.used; top = o.top; host = o.host; count = ap (λ (c : ℕ). suc c) o.count; charges = ap (λ (c : ℕ). suc c) o.charges; long = o.long })

opening_enter : (b : Block) (n M m : ℕ) (s : State) (w : World) → Opening M 1 0 s w →
    Alike b (λ _ t a v. (a ≡ 0) × (m ≤ M) × Opening M 1 m t v) (Meaning.enter n M m s) (Evaluation.take_frame n m w)
opening_enter b n M m s w o = enter_like b n M 0 m s w (opening_like b M 1 0 s w (omega arith) o) o.used o.top o.long (λ room. (
  o.top,
  omega arith,
  record {
    none = o.none;
    used = omega (arith, o.used);
    top = omega (arith, o.top);
    host = o.host;
    count = o.count;
    charges = o.charges;
    long = patched_length w.cells w.top (replicate m (pos 0)) m (length-replicate m (pos 0)) (omega (arith, o.top, o.long)) ∙ o.long;
  },
))

-- the outermost block is entered, and its variables are not yet objects
module _ (b : Block) (n M U : ℕ) (fits : U ≤ M) (reach : 2 + own_cells b ≤ M) where
  opened_both : (k : ℕ) (s : State) (w : World) → Opening M k U s w → Both b [] M [] U s w
  opened_both k s w o = record {
    store = subst (λ O. Store [] O w.cells) (sym o.none) (store_none w.cells);
    used = o.used;
    top = o.top;
    host = o.host;
    count = o.count;
    long = o.long;
    fits = fits;
    first = grown_same [];
    reach = reach;
  }

  opening_entry : (m : ℕ) → 2 + m ≤ M → (s : State) (w : World) → Opening M 2 U s w → Alike b (λ _ t _ v. Both b [] M [] U t v × Zeros v.cells 2 m) (Meaning.entry n M m s) (Evaluation.own_cells n 2 m w)
  opening_entry zero room s w o = dones (opened_both 2 s w o, λ i l. absurd (never i l))
    where
      never : (i : ℕ) → i < 0 → ⊥
      never i l = omega arith
  opening_entry (suc m) room s w o = next_right (opening_charge b n M 2 U s w (omega arith) o) (λ _ s _ w o.
      dones (
        opened_both 3 s (cleared w) (record { none = o.none; used = o.used; top = o.top; host = o.host; count = o.count; charges = o.charges; long = patched_length w.cells 2 (replicate (suc m) (pos 0)) (suc m) (length-replicate (suc m) (pos 0)) (omega (arith, o.long)) ∙ o.long }),
        zeroed_zeros w.cells 2 (suc m) (omega (arith, o.long)),
      ))
    where
      cleared : World → World
      cleared w = record { cells = zeroed w.cells 2 (suc m); top = w.top; host = w.host; count = w.count }

-- the outermost block
block_ok : (b : Block) → Sound b → (n M : ℕ) → frame_size [] b ≤ M → (s : State) (w : World) → Opening M 2 (frame_size [] b) s w →
    Alike b (λ _ t _ v. Both b (outer b) M (outer b) (frame_size [] b) t v) (Meaning.block n M (Meaning.ranked n M n) b [] s) (Evaluation.run_block n (Evaluation.ranked n n) b [] 2 w)
block_ok (Rule.block ds xs) sound n M room s w o =
    next (opening_entry b n M (frame_size [] b) room (omega arith) (own_size ds) (omega arith) s w o) (λ _ s _ w e.
    next_left (declare_ok b [] M n ds [] 2 (2 + own_size ds) (frame_size [] b) 0 no_names (apart_none 2) refl sound.fits.0 s w e.1 e.0) (λ ρ s d.
    acts_ok b n M (Meaning.ranked n M n) (Evaluation.ranked n n) (ranked_ok b n M n) xs (layout ds 2) (frame_size [] b) (2 + own_size ds) 0 d.bound d.apart sound.fits.1 (omega arith) s w (outermost_first s w d.both)))
  where
    b : Block
    b = Rule.block ds xs

    outermost_first : (s : State) (w : World) → Both b [] M (layout ds 2) (frame_size [] b) s w → Both b (layout ds 2) M (layout ds 2) (frame_size [] b) s w
    outermost_first s w h = record { store = h.store; used = h.used; top = h.top; host = h.host; count = h.count; long = h.long; fits = h.fits; first = grown_same (layout ds 2); reach = h.reach }

whole : (b : Block) → Sound b → (cs : List ℤ) (h : Host) (n : ℕ) →
    Alike b (λ _ t _ v. Both b (outer b) (length cs) (outer b) (frame_size [] b) t v) (meaning n b (length cs) h) (evaluated n b cs h)
whole b sound cs h n =
    next (opening_charge b n M 0 0 s₀ w₀ (omega arith) (record { none = refl; used = refl; top = refl; host = refl; count = refl; charges = refl; long = refl })) (λ _ s _ w o.
    next (opening_enter b n M (frame_size [] b) s w o) (λ _ s a w e.
    subst (λ (a : ℕ). Alike b Q (Objects.◌>>◌ (Meaning.charge n M) (Objects.◌>>◌ (Meaning.block n M (Meaning.ranked n M n) b []) (Meaning.charge n M)) s)
    (Evaluation.◌>>◌ (Evaluation.charge n) (Evaluation.◌>>◌ (Evaluation.ranked n (suc n) (Rule.inner b) [] (a + 2)) (Evaluation.charge n)) w)) (sym e.0)
    (next (opening_charge b n M 1 (frame_size [] b) s w (omega arith) e.2) (λ _ s _ w o.
    next (block_ok b sound n M e.1 s w o) (λ _ s _ w h. charge_both b n M (outer b) (frame_size [] b) s w h)))))
  where
    M : ℕ
    M = length cs

    s₀ : State
    s₀ = record { objects = []; used = 0; host = h; count = 0 }

    w₀ : World
    w₀ = record { cells = cs; top = 0; host = h; count = 0 }

    Q : Unit {0} → State → Unit {0} → World → Type 0
    Q = λ _ t _ v. Both b (outer b) M (outer b) (frame_size [] b) t v

seen : (b : Block) (M U : ℕ) (P : Layout) {o : Objects.Outcome Unit} {e : Evaluation.Outcome Unit} → Alike b (λ _ t _ v. Both b (outer b) M P U t v) o e → Likewise b o e
seen b M U P (dones {s = s} {w = w} h) = Halves.dones (like b M P U s w h)
seen b M U P (cuts h) = Halves.cuts h
seen b M U P (faults h) = Halves.faults h

pub objects_agree : ObjectsAgree
objects_agree b sound cs h n = seen b (length cs) (frame_size [] b) (outer b) (whole b sound cs h n)
