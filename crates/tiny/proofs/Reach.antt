-- How far the scanner goes: the turns of its loops.
use Rattle.std.proofs.Common.{◌≡◌, ℕ, suc, ◌+◌, ◌<◌, ◌≤◌, Bool, List, [], ◌∷◌, length, get_or, drop, Some, None, Option, ap, ◌∙◌, arith}
use Rattle.std.proofs.lemmas.List.{drop_more}
use Rattle.tiny.specs.declared.states.State.{State}
use Rattle.tiny.specs.Automaton.{step, reach, hash, ignore, skip}

-- what `reach` does at its first byte
abbrev pub on : Option State → State → List ℕ → ℕ × State
on o s bs = elim o [ Some t ↦ (suc (reach t bs).0, (reach t bs).1) | None ↦ (0, s) ]

abbrev pub shifted : ℕ → ℕ × State → ℕ × State
shifted n p = (n + p.0, p.1)

-- the turns of the scanner's loop
module _ (s : State) (bs : List ℕ) (i : ℕ) where
  pub one_more : (t : State) → i < length bs → step s (get_or bs i 0) ≡ Some t → shifted i (reach s (drop i bs)) ≡ shifted (i + 1) (reach t (drop (i + 1) bs))
  one_more t h e =
      ap (λ (l : List ℕ). shifted i (reach s l)) (drop_more bs i 0 h) ∙ ap (λ (o : Option State). shifted i (on o s (drop (i + 1) bs))) e
      ∙ ap (λ (n : ℕ). (n, (reach t (drop (i + 1) bs)).1)) (omega arith)

  pub no_more : i < length bs → step s (get_or bs i 0) ≡ None → shifted i (reach s (drop i bs)) ≡ (i, s)
  no_more h e =
      ap (λ (l : List ℕ). shifted i (reach s l)) (drop_more bs i 0 h) ∙ ap (λ (o : Option State). shifted i (on o s (drop (i + 1) bs))) e
      ∙ ap (λ (n : ℕ). (n, s)) (omega arith)

pub reach_within : (s : State) (bs : List ℕ) → (reach s bs).0 ≤ length bs
reach_within s [] = omega arith
reach_within s (b ∷ bs) = go (step s b) (λ t. reach_within t bs)
  where
    go : (o : Option State) → ((t : State) → (reach t bs).0 ≤ length bs) → (on o s bs).0 ≤ suc (length bs)
    go (Some t) ih = let h = ih t in omega arith
    go None ih = omega arith

-- what `skip` does at its first byte
abbrev pub past : Option Bool → List ℕ → ℕ
past o bs = elim o [ Some c ↦ suc (skip c bs) | None ↦ 0 ]

-- the turns of the loop over what is ignored
module _ (c : Bool) (bs : List ℕ) (i : ℕ) where
  pub ignored_more : (d : Bool) → i < length bs → ignore c (get_or bs i 0) (hash (drop (i + 1) bs)) ≡ Some d → i + skip c (drop i bs) ≡ (i + 1) + skip d (drop (i + 1) bs)
  ignored_more d h e =
      ap (λ (l : List ℕ). i + skip c l) (drop_more bs i 0 h) ∙ ap (λ (o : Option Bool). i + past o (drop (i + 1) bs)) e ∙ omega arith

  pub ignored_no_more : i < length bs → ignore c (get_or bs i 0) (hash (drop (i + 1) bs)) ≡ None → i + skip c (drop i bs) ≡ i
  ignored_no_more h e =
      ap (λ (l : List ℕ). i + skip c l) (drop_more bs i 0 h) ∙ ap (λ (o : Option Bool). i + past o (drop (i + 1) bs)) e ∙ omega arith

pub skip_within : (c : Bool) (bs : List ℕ) → skip c bs ≤ length bs
skip_within c [] = omega arith
skip_within c (b ∷ bs) = go (ignore c b (hash bs)) (λ d. skip_within d bs)
  where
    go : (o : Option Bool) → ((d : Bool) → skip d bs ≤ length bs) → past o bs ≤ suc (length bs)
    go (Some d) ih = let h = ih d in omega arith
    go None ih = omega arith
