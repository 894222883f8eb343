-- The laws of the meaning.
use Rattle.std.proofs.Common.{◌≡◌, ℕ, ◌≤◌, min, [], sym, refl, ap, arith}
use native.Mathlib.Decide.{dec_le}
use Rattle.machine.specs.Host.{Host}
use Rattle.meaning.specs.Objects.{State, Outcome, done, cut, fault}
use Rattle.meaning.specs.Meaning.{ranked_meaning, meaning}
use Rattle.meaning.specs.MeaningLaws.{state, Foretells, CutLater, IsCut, Counted, FaultKnown, FaultsKnown, RankFree, MeaningLaws}
use Rattle.meaning.proofs.Limits.{Known}
use Rattle.meaning.proofs.Later.{pick, program_ok}

abbrev start : Host → State
start h = record { objects = []; used = 0; host = h; count = 0 }

foretells : (n m : ℕ) (o p : Outcome Unit) → Known (pick n m) o p → Foretells n o p
foretells n m (done tt s) p (c, e) = (c, e)
foretells n m (cut s) p (c, f, x) = (c, f)
foretells n m (fault f s) p (c, a, b, e) = (c, e)

pub cut_later : CutLater
cut_later b room h n m order =
    foretells n m (meaning n b room h) (meaning m b room h) ((program_ok n m order room n m (omega arith) (omega arith) b).known (start h) (omega arith) (omega arith))

known_fault : (n m : ℕ) (o p : Outcome Unit) → Known (pick n m) o p → FaultKnown o
known_fault n m (done tt s) p k = tt
known_fault n m (cut s) p k = tt
known_fault n m (fault f s) p (c, a, b, e) = (a, b)

pub faults_known : FaultsKnown
faults_known b room h n =
    known_fault n n (meaning n b room h) (meaning n b room h) ((program_ok n n (omega arith) room n n (omega arith) (omega arith) b).known (start h) (omega arith) (omega arith))

known_same : (n : ℕ) (o p : Outcome Unit) → Known (pick n n) o p → o ≡ p
known_same n (done a s) p (c, e) = sym e
known_same n (cut s) p (c, f, x) = sym (x refl)
known_same n (fault f s) p (c, a, b, e) = sym e

rank_free : RankFree
rank_free b room h n rank l =
    known_same n (ranked_meaning rank n b room h) (meaning n b room h) ((program_ok n n (omega arith) room rank n l (omega arith) b).known (start h) (omega arith) (omega arith))

-- the early one ends, or is cut off at n
counted_early : (n : ℕ) (o p : Outcome Unit) → Foretells n o p → (state o).count ≡ min n (state p).count
counted_early n (done tt s) p (c, e) = let x : (state p).count ≡ s.count = ap (λ (q : Outcome Unit). (state q).count) e in omega arith
counted_early n (cut s) p (c, f) = omega (arith, f.count)
counted_early n (fault k s) p (c, e) = let x : (state p).count ≡ s.count = ap (λ (q : Outcome Unit). (state q).count) e in omega arith

counted_late : (n m : ℕ) → m ≤ n → (o p : Outcome Unit) → Foretells m o p → ¬ IsCut o → (state p).count ≡ min n (state o).count
counted_late n m l (done tt s) p (c, e) ends = let x : (state p).count ≡ s.count = ap (λ (q : Outcome Unit). (state q).count) e in omega arith
counted_late n m l (cut s) p f ends = absurd (ends tt)
counted_late n m l (fault k s) p (c, e) ends = let x : (state p).count ≡ s.count = ap (λ (q : Outcome Unit). (state q).count) e in omega arith

counted : Counted
counted b room h n m ends = go (dec_le n m)
  where
    go : Dec (n ≤ m) → (state (meaning n b room h)).count ≡ min n (state (meaning m b room h)).count
    go (yes l) = counted_early n (meaning n b room h) (meaning m b room h) (cut_later b room h n m l)
    go (no l) =
        let k : m ≤ n = omega arith in
        counted_late n m k (meaning m b room h) (meaning n b room h) (cut_later b room h m n k) ends

pub meaning_laws : MeaningLaws
meaning_laws = record { cut_later = cut_later; counted = counted; faults_known = faults_known; rank_free = rank_free }
