-- The agreement of the meaning and the run, from its two halves and the laws of both.
use Rattle.std.proofs.Common.{◌≡◌, ℕ, suc, ◌≤◌, length, sym, ap, ◌∙◌, subst, arith}
use Rattle.machine.specs.Host.{Host}
use Rattle.machine.specs.Machine.{Run, Standing, going, finished, failed, run, opened}
use Rattle.meaning.specs.Rule.{Block}
use Rattle.meaning.specs.Objects.{Outcome, done, cut, fault}
use Rattle.meaning.specs.Meaning.{meaning}
use Rattle.meaning.specs.MeaningLaws.{state, IsCut, Foretells, FaultKnown}
use Rattle.meaning.specs.Evaluation.{World}
use Rattle.meaning.specs.Evaluation as Evaluation
use Rattle.meaning.specs.Code.{program}
use Rattle.meaning.specs.Halves.{Like, Likewise, dones, cuts, faults, Same, Follows}
use Rattle.meaning.specs.Agreement.{standing_of, Agrees, MeaningAgrees, AcceptedTreesAgree, ChargesAreInstructions}
use Rattle.meaning.proofs.Addresses.{addresses_agree}
use Rattle.meaning.proofs.Objects.{objects_agree}
use Rattle.meaning.proofs.MeaningLaws.{cut_later, faults_known}
use Rattle.meaning.proofs.Runs.{going_counts}
use Rattle.meaning.proofs.Accepted.{accepted_sound}

abbrev NotFailed : Standing → Type 0
NotFailed going = Unit {0}
NotFailed finished = Unit {0}
NotFailed (failed f) = ⊥

module _ (b : Block) (r : Run) where
  never : {A : Type 0} (f : ℕ) (x : Standing) → NotFailed x → r.standing ≡ x → r.standing ≡ failed f → A
  never f going c e q = let z : ◌≡◌ {A = ℕ} 0 1 = cc in absurd (omega arith)
  never f finished c e q = let z : ◌≡◌ {A = ℕ} 0 1 = cc in absurd (omega arith)
  never f (failed g) c e q = absurd c

  one_fault : (f g : ℕ) → r.standing ≡ failed f → r.standing ≡ failed g → f ≡ g
  one_fault f g e q = cc

  seen : (o : Outcome Unit) (w : World) → r.standing ≡ standing_of o → Like b (state o) w → Same b w r → ((f : ℕ) → r.standing ≡ failed f → (21 ≤ f) × (f ≤ 27)) → Agrees b o r
  seen o w e l same lawful = record {
    standing = e;
    count = same.count ∙ l.count;
    output = ap (λ (h : Host). h.marks) (same.host ∙ l.host);
    input = ap (λ (h : Host). h.items) (same.host ∙ l.host);
    variables = λ h. same.variables ∙ l.variables h;
    lawful = lawful;
  }

  agrees : {o : Outcome Unit} {e : Evaluation.Outcome Unit} → Likewise b o e → Follows b e r → FaultKnown o → Agrees b o r
  agrees (dones {s = s} {w = w} l) (e, same) known = seen (done tt s) w e l same (λ f q. never f finished tt e q)
  agrees (cuts {s = s} {w = w} l) (e, same) known = seen (cut s) w e l same (λ f q. never f going tt e q)
  agrees (faults {f = g} {s = s} {w = w} l) (e, same) known =
      seen (fault g s) w e l same (λ f q. subst (λ (j : ℕ). (21 ≤ j) × (j ≤ 27)) (one_fault g f e q) known)

pub meaning_agrees : MeaningAgrees
meaning_agrees b sound cs small h n =
    agrees b (run (program b) n (opened cs h)) (objects_agree b sound cs h n) (addresses_agree b sound cs small h n) (faults_known b (length cs) h n)

pub accepted_trees_agree_lem : AcceptedTreesAgree
accepted_trees_agree_lem t b e cs small h n = meaning_agrees b (accepted_sound t b e) cs small h n

-- one that is cut off at n has made n charges, and its run is going
cut_count : (n : ℕ) (o p : Outcome Unit) → Foretells n o p → IsCut o → (state o).count ≡ n
cut_count n (done a s) p f c = absurd c
cut_count n (cut s) p (e, f) c = e
cut_count n (fault k s) p f c = absurd c

cut_going : (b : Block) (r : Run) (o : Outcome Unit) → Agrees b o r → IsCut o → r.standing ≡ going
cut_going b r (done a s) a' c = absurd c
cut_going b r (cut s) a c = a.standing
cut_going b r (fault k s) a c = absurd c

pub charges_are_instructions : ChargesAreInstructions
charges_are_instructions t b e cs small h n c = (at, sym later.count ∙ more, more)
  where
    o : Outcome Unit
    o = meaning n b (length cs) h

    r : Run
    r = run (program b) n (opened cs h)

    now : Agrees b o r
    now = accepted_trees_agree_lem t b e cs small h n

    later : Agrees b (meaning (suc n) b (length cs) h) (run (program b) (suc n) (opened cs h))
    later = accepted_trees_agree_lem t b e cs small h (suc n)

    at : r.count ≡ n
    at = now.count ∙ cut_count n o o (cut_later b (length cs) h n n (omega arith)) c

    more : (run (program b) (suc n) (opened cs h)).count ≡ suc n
    more = going_counts (program b) r (cut_going b r o now c) ∙ ap suc at
