-- What the scanner passes over is what is ignored.
use Rattle.std.proofs.Common.{◌≡◌, ℕ, suc, Bool, true, false, cond, not, ◌&&◌, eqb, List, [], ◌∷◌, ◌++◌, drop, Some, None, sym, refl, ap, ◌∙◌, subst, ap₂, arith}
use Rattle.std.proofs.lemmas.Bool.{eqb-true, eq-eqb, and_parts, true≢false, false≢true}
use Rattle.tiny.specs.Spelling.{Every, blank, in_line, LineEnds, Ignored}
use Rattle.tiny.specs.Spelling.Ignored.{nothing, blanks, comment}
use Rattle.tiny.specs.Automaton.{hash, skip}
use Rattle.tiny.proofs.Reach.{past}

-- the bytes that are left
abbrev left : Bool → List ℕ → List ℕ
left c bs = drop (skip c bs) bs

-- inside a comment: the rest of its line, and what is ignored behind
abbrev Inside : List ℕ → List ℕ → Type 0
Inside bs rest = (line : List ℕ) × (mid : List ℕ) × (bs ≡ line ++ mid) × Every in_line line × LineEnds mid × Ignored mid rest

begun : (b : ℕ) (bs rest : List ℕ) → b ≡ 35 → hash bs ≡ true → Inside bs rest → Ignored (b ∷ bs) rest
begun b [] rest e h i = absurd (false≢true h)
begun b (c ∷ bs) rest e h ([], mid, s, l, m, g) =
    absurd (let f : c ≡ 35 = eqb-true c 35 h in let x : c ≡ 10 = subst LineEnds (sym s) m in omega arith)
begun b (c ∷ bs) rest e h (x ∷ line, mid, s, l, m, g) =
    let f : c ≡ 35 = eqb-true c 35 h in
    let t : bs ≡ line ++ mid = cc in
    subst (λ (z : List ℕ). Ignored z rest) (ap₂ (λ (y : ℕ) (ys : List ℕ). y ∷ ys) (sym e) (ap₂ (λ (y : ℕ) (ys : List ℕ). y ∷ ys) (sym f) (sym t))) (comment line l.1 m g)

skips : (bs : List ℕ) → Ignored bs (left false bs) × Inside bs (left true bs)
skips [] = (nothing, ([], [], refl, tt, tt, nothing))
skips (b ∷ bs) = (outside (eqb b 35 && hash bs) (blank b) refl refl (skips bs), inside (eqb b 10) refl (skips bs))
  where
    outside : (x y : Bool) → (eqb b 35 && hash bs) ≡ x → blank b ≡ y → Ignored bs (left false bs) × Inside bs (left true bs) →
        Ignored (b ∷ bs) (drop (past (cond x (Some true) (cond y (Some false) None)) bs) (b ∷ bs))
    outside true y x≡ y≡ ih = let (p, q) = and_parts _ _ x≡ in begun b bs (left true bs) (eqb-true b 35 p) q ih.1
    outside false true x≡ y≡ ih = blanks y≡ ih.0
    outside false false x≡ y≡ ih = nothing

    inside : (x : Bool) → eqb b 10 ≡ x → Ignored bs (left false bs) × Inside bs (left true bs) → Inside (b ∷ bs) (drop (suc (skip (not x) bs)) (b ∷ bs))
    inside true x≡ ih = let e = eqb-true b 10 x≡ in ([], b ∷ bs, refl, tt, e, blanks (ap blank e) ih.0)
    inside false x≡ ih =
        let (line, mid, s, l, m, g) = ih.1 in
        (b ∷ line, mid, ap (λ (t : List ℕ). b ∷ t) s, (ap not x≡, l), m, g)

pub skip_ignored : (bs : List ℕ) → Ignored bs (drop (skip false bs) bs)
skip_ignored bs = (skips bs).0

-- what is ignored is passed over
blank_step : (x : Bool) (b : ℕ) (bs : List ℕ) → blank b ≡ true → eqb b 35 ≡ x → past (cond (x && hash bs) (Some true) (cond (blank b) (Some false) None)) bs ≡ suc (skip false bs)
blank_step true b bs h e = absurd (let f : b ≡ 35 = eqb-true b 35 e in true≢false (sym h ∙ ap blank f))
blank_step false b bs h e = ap (λ (y : Bool). past (cond y (Some false) None) bs) h

pub skip_blank : (b : ℕ) (bs : List ℕ) → blank b ≡ true → skip false (b ∷ bs) ≡ suc (skip false bs)
skip_blank b bs h = blank_step (eqb b 35) b bs h refl

line_end : (bs : List ℕ) → LineEnds bs → skip true bs ≡ skip false bs
line_end [] e = refl
line_end (b ∷ bs) e = ap (λ (x : Bool). suc (skip (not x) bs)) (eq-eqb b 10 e) ∙ sym (skip_blank b bs (ap blank e))

skip_line : (line bs : List ℕ) → Every in_line line → LineEnds bs → drop (skip true (line ++ bs)) (line ++ bs) ≡ drop (skip false bs) bs
skip_line [] bs l e = ap (λ (n : ℕ). drop n bs) (line_end bs e)
skip_line (b ∷ line) bs l e = ap (λ (x : Bool). drop (skip x (line ++ bs)) (line ++ bs)) l.0 ∙ skip_line line bs l.1 e

pub ignored_left : (bs rest : List ℕ) → Ignored bs rest → left false bs ≡ left false rest
ignored_left bs rest nothing = refl
ignored_left (b ∷ bs) rest (blanks h i) = ap (λ (n : ℕ). drop n (b ∷ bs)) (skip_blank b bs h) ∙ ignored_left bs rest i
ignored_left bs rest (comment {bs = ds} line l e i) = skip_line line ds l e ∙ ignored_left ds rest i

-- where nothing is passed over, nothing is ignored
pub none_ignored : (bs rest : List ℕ) → skip false bs ≡ 0 → Ignored bs rest → rest ≡ bs
none_ignored bs rest z nothing = refl
none_ignored (b ∷ bs) rest z (blanks h i) = absurd (let e = skip_blank b bs h in omega arith)
none_ignored bs rest z (comment line l e i) = absurd (let f : suc (suc _) ≡ 0 = z in omega arith)
