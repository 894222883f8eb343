-- The scanner goes as far into a token as any token goes.
use Rattle.std.proofs.Common.{◌≡◌, ℕ, zero, suc, ◌<◌, ◌≤◌, Bool, true, false, cond, eqb, List, [], ◌∷◌, length, take, Some, None, Option, sym, refl, ap, ◌∙◌, subst, inl, inr, arith}
use Rattle.std.proofs.lemmas.Bool.{cases_order}
use Rattle.tiny.specs.declared.tokens.Kind.{Kind}
use Rattle.tiny.specs.declared.tokens.Kind.TheVariants.{Literal, DoubleAmpersand}
use Rattle.tiny.specs.declared.states.State.{State}
use Rattle.tiny.specs.declared.states.State.TheVariants.{Start, Word, Zero, Digits, Sign, Order, Bang, Amp, Whole}
use Rattle.tiny.specs.Spelling.{digit, Spells}
use Rattle.tiny.specs.Automaton.{step, after, kind, reach}
use Rattle.tiny.specs.Law.{Longest}
use Rattle.tiny.proofs.Reach.{on, reach_within}
use Rattle.tiny.proofs.Spelled.{then, some_none, sound, complete}

-- as far as it goes it is a text
reach_text : (s : State) (bs : List ℕ) → after s (take (reach s bs).0 bs) ≡ Some (reach s bs).1
reach_text s [] = refl
reach_text s (b ∷ bs) = go (step s b) refl (λ t. reach_text t bs)
  where
    go : (o : Option State) → step s b ≡ o → ((t : State) → after t (take (reach t bs).0 bs) ≡ Some (reach t bs).1) →
        after s (take (on o s bs).0 (b ∷ bs)) ≡ Some (on o s bs).1
    go (Some t) e ih = ap (λ (o : Option State). then o (take (reach t bs).0 bs)) e ∙ ih t
    go None e ih = refl

-- no text goes further
reach_most : (s : State) (bs : List ℕ) (m : ℕ) → (reach s bs).0 < m → m ≤ length bs → after s (take m bs) ≡ None
reach_most s [] m h l = absurd (omega arith)
reach_most s (b ∷ bs) zero h l = absurd (omega arith)
reach_most s (b ∷ bs) (suc m) h l = go (step s b) refl h (λ t h'. reach_most t bs m h' (omega arith))
  where
    go : (o : Option State) → step s b ≡ o → (on o s bs).0 < suc m → ((t : State) → (reach t bs).0 < m → after t (take m bs) ≡ None) → after s (take (suc m) (b ∷ bs)) ≡ None
    go (Some t) e h ih = ap (λ (o : Option State). then o (take m bs)) e ∙ ih t (omega arith)
    go None e h ih = ap (λ (o : Option State). then o (take m bs)) e

-- What goes on from a token is a token.
picked : (c : Bool) (x t : State) → cond c (Some x) None ≡ Some t → t ≡ x
picked true x t e = cc
picked false x t e = cc

number_kind : (a c : Bool) (t : State) (cs : List ℕ) → cond a (Some Zero) (cond c (Some Digits) None) ≡ Some t → kind t cs ≡ Some Literal
number_kind true c t cs e = let h : t ≡ Zero = cc in ap (λ (s : State). kind s cs) h
number_kind false c t cs e = ap (λ (s : State). kind s cs) (picked c Digits t e)

quiet : (s t : State) (b : ℕ) (cs ds : List ℕ) → step s b ≡ Some t → kind t cs ≡ None → kind s ds ≡ None
quiet Start t b cs ds e n = refl
quiet Word t b cs ds e n = some_none (ap (λ (s : State). kind s cs) (picked _ Word t e)) n
quiet Zero t b cs ds e n = some_none e refl
quiet Digits t b cs ds e n = some_none (ap (λ (s : State). kind s cs) (picked _ Digits t e)) n
quiet (Sign k) t b cs ds e n = some_none (number_kind (eqb b 48) (digit b) t cs e) n
quiet (Order k j) t b cs ds e n = some_none (ap (λ (s : State). kind s cs) (picked _ (Whole j) t e)) n
quiet Bang t b cs ds e n = refl
quiet Amp t b cs ds e n = some_none (ap (λ (s : State). kind s cs) (picked _ (Whole DoubleAmpersand) t e)) n
quiet (Whole k) t b cs ds e n = some_none e refl

-- whether a state is a token hangs on the state alone
quiet_same : (s : State) (cs ds : List ℕ) → kind s cs ≡ None → kind s ds ≡ None
quiet_same Start cs ds n = refl
quiet_same Word cs ds n = some_none refl n
quiet_same Zero cs ds n = some_none refl n
quiet_same Digits cs ds n = some_none refl n
quiet_same (Sign k) cs ds n = some_none refl n
quiet_same (Order k j) cs ds n = some_none refl n
quiet_same Bang cs ds n = refl
quiet_same Amp cs ds n = some_none refl n
quiet_same (Whole k) cs ds n = some_none refl n

quiet_first : (s : State) (bs cs ds : List ℕ) → kind (reach s bs).1 cs ≡ None → kind s ds ≡ None
quiet_first s [] cs ds n = quiet_same s cs ds n
quiet_first s (b ∷ bs) cs ds n = go (step s b) refl n (λ t. quiet_first t bs cs ds)
  where
    go : (o : Option State) → step s b ≡ o → kind (on o s bs).1 cs ≡ None → ((t : State) → kind (reach t bs).1 cs ≡ None → kind t ds ≡ None) → kind s ds ≡ None
    go (Some t) e n ih = quiet s t b ds ds e (ih t n)
    go None e n ih = quiet_same s cs ds n

-- where it ends in no token, no text on the way was one
quiet_all : (s u : State) (bs : List ℕ) (m : ℕ) (cs ds : List ℕ) → kind (reach s bs).1 cs ≡ None → after s (take m bs) ≡ Some u → kind u ds ≡ None
quiet_all s u bs zero cs ds n a = let h : u ≡ s = cc in ap (λ (x : State). kind x ds) h ∙ quiet_first s bs cs ds n
quiet_all s u [] (suc m) cs ds n a = let h : u ≡ s = cc in ap (λ (x : State). kind x ds) h ∙ quiet_same s cs ds n
quiet_all s u (b ∷ bs) (suc m) cs ds n a = go (step s b) refl n a (λ t. quiet_all t u bs m cs ds)
  where
    go : (o : Option State) → step s b ≡ o → kind (on o s bs).1 cs ≡ None → then o (take m bs) ≡ Some u →
        ((t : State) → kind (reach t bs).1 cs ≡ None → after t (take m bs) ≡ Some u → kind u ds ≡ None) → kind u ds ≡ None
    go (Some t) e n a ih = ih t n a
    go None e n a ih = some_none a refl

abbrev pub reached : List ℕ → ℕ
reached bs = (reach Start bs).0

abbrev pub kind_of : List ℕ → Option Kind
kind_of bs = kind (reach Start bs).1 (take (reach Start bs).0 bs)

pub is_longest : (bs : List ℕ) (k : Kind) → kind_of bs ≡ Some k → Longest bs (reached bs) k
is_longest bs k e = (
  reach_within Start bs,
  sound (take (reached bs) bs) k ((reach Start bs).1, reach_text Start bs, e),
  λ m j h l t. some_none (complete (take m bs) j t).1 (reach_most Start bs m h l),
)

pub is_none : (bs : List ℕ) → kind_of bs ≡ None → (m : ℕ) (j : Kind) → m ≤ length bs → Spells j (take m bs) → ⊥
is_none bs n m j l t = let (s, e, f) = complete (take m bs) j t in some_none f (quiet_all Start s bs m (take (reached bs) bs) (take m bs) n e)

pub one_kind : (bs : List ℕ) (j k : Kind) → Spells j bs → Spells k bs → j ≡ k
one_kind bs j k s t =
    let (x, e, f) = complete bs j s in
    let (y, g, h) = complete bs k t in
    let x≡ : x ≡ y = cc in
    let k≡ : Some j ≡ Some k = sym f ∙ ap (λ (z : State). kind z bs) x≡ ∙ h in
    cc

-- the longest token is what the scanner finds
pub found_longest : (bs : List ℕ) (n : ℕ) (k : Kind) → Longest bs n k → (reached bs ≡ n) × (kind_of bs ≡ Some k)
found_longest bs n k (within, spells, none) = go (kind_of bs) refl
  where
    go : (o : Option Kind) → kind_of bs ≡ o → (reached bs ≡ n) × (kind_of bs ≡ Some k)
    go None e = absurd (is_none bs e n k within spells)
    go (Some j) e =
        let (w, s, no_more) = is_longest bs j e in
        let r≡ : reached bs ≡ n = elim (cases_order (reached bs) n) [
          | inl h ↦ h
          | inr h ↦ elim h [ inl h ↦ absurd (no_more n k h within spells) | inr h ↦ absurd (none (reached bs) j h w s) ]
        ] in
        (r≡, e ∙ ap Some (one_kind (take n bs) j k (subst (λ (m : ℕ). Spells j (take m bs)) r≡ s) spells))
