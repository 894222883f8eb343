-- Laws of the meaning, whatever the rule: sound or not.
use Rattle.std.specs.Prelude.{◌≡◌, ℕ, ◌≤◌, min}
use Rattle.machine.specs.Host.{Host}
use Rattle.meaning.specs.Rule.{Block}
use Rattle.meaning.specs.Objects.{State, Outcome, done, cut, fault}
use Rattle.meaning.specs.Meaning.{ranked_meaning, meaning}
use Rattle.meaning.specs.Laws.{Onward}

-- the state in which an evaluation is done, cut off or at a fault
abbrev pub state : {A : Type 0} → Outcome A → State
state (done a s) = s
state (cut s) = s
state (fault f s) = s

-- from s to t no charge is taken back, and the host only goes onward
pub record Further (s t : State) : Type 0 where
  pub count : s.count ≤ t.count
  pub host : Onward s.host t.host

-- What the meaning cut off at n says of the one that is cut off later: done or at a fault, that one is the same;
-- cut, it has made exactly n charges, and that one only goes further.
abbrev pub Foretells : ℕ → Outcome Unit → Outcome Unit → Type 0
Foretells n (done _ s) o = (s.count ≤ n) × (o ≡ done tt s)
Foretells n (fault f s) o = (s.count ≤ n) × (o ≡ fault f s)
Foretells n (cut s) o = (s.count ≡ n) × Further s (state o)

abbrev pub CutLater : Type 0
CutLater = (b : Block) (room : ℕ) (h : Host) (n m : ℕ) → n ≤ m → Foretells n (meaning n b room h) (meaning m b room h)

abbrev pub IsCut : {A : Type 0} → Outcome A → Type 0
IsCut (done a s) = ⊥
IsCut (cut s) = Unit {0}
IsCut (fault f s) = ⊥

-- a rule that ends within m charges makes at n the smaller of n and all its charges
abbrev pub Counted : Type 0
Counted = (b : Block) (room : ℕ) (h : Host) (n m : ℕ) → ¬ IsCut (meaning m b room h) →
    (state (meaning n b room h)).count ≡ min n (state (meaning m b room h)).count

abbrev pub FaultKnown : {A : Type 0} → Outcome A → Type 0
FaultKnown (done a s) = Unit {0}
FaultKnown (cut s) = Unit {0}
FaultKnown (fault f s) = (21 ≤ f) × (f ≤ 27)

-- the faults of a rule are 21 to 27
abbrev pub FaultsKnown : Type 0
FaultsKnown = (b : Block) (room : ℕ) (h : Host) (n : ℕ) → FaultKnown (meaning n b room h)

-- the rank is a device: from the limit on, any rank gives the same
abbrev pub RankFree : Type 0
RankFree = (b : Block) (room : ℕ) (h : Host) (n rank : ℕ) → n ≤ rank → ranked_meaning rank n b room h ≡ meaning n b room h

pub record MeaningLaws : Type 0 where
  pub cut_later : CutLater
  pub counted : Counted
  pub faults_known : FaultsKnown
  pub rank_free : RankFree
