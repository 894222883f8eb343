-- The automaton takes the texts that are tokens, and no other.
use Rattle.std.proofs.Common.{◌≡◌, ℕ, zero, suc, ◌+◌, ◌<◌, ◌≤◌, Bool, true, false, cond, ◌&&◌, eqb, ◌⊎◌, List, [], ◌∷◌, map, length, get_or, Some, None, Option, sym, refl, ap, ◌∙◌, subst, ap₂, inl, inr, arith, lit<}
use Rattle.std.proofs.lemmas.Bool.{eqb-true, eqb-false, ne_eqb, leb-true, le-leb, lt-leb, and_parts, and_from, and_left, or_from, or_left, or_right, true≢false, false≢true}
use Rattle.std.proofs.lemmas.Slice.Eq.{bytes_eq-Decides}
use Rattle.std.specs.Str.{bytes_eq}
use Rattle.tiny.specs.declared.tokens.Kind.{Kind}
use Rattle.tiny.specs.declared.tokens.Kind.TheVariants.{Name, Literal, Plus, Minus, Times, Over, Percent, Less, Greater, LessEqual, GreaterEqual, Equal, NotEqual, Open, Close, Semicolon, Becomes, Index, IndexEnd, Dot, Caret, Comma, Brace, BraceEnd, Ampersand, DoubleAmpersand, At}
use Rattle.tiny.specs.declared.states.State.{State}
use Rattle.tiny.specs.declared.states.State.TheVariants.{Start, Word, Zero, Digits, Sign, Order, Bang, Amp, Whole}
use Rattle.tiny.specs.Spelling.{between, digit, letter, wordy, lower, Every, Table, Listed, words, symbols, Numeral, Spells}
use Rattle.tiny.specs.Spelling.Numeral.{nought, digits}
use Rattle.tiny.specs.Spelling.Spells.{name, word, literal, signed, symbol}
use Rattle.tiny.specs.Automaton.{numeral, marks, mark, begin, followed, step, same, word_kind, kind, after}

-- a whole text is a token of this kind, by the automaton
abbrev pub Text : List ℕ → Kind → Type 0
Text bs k = (s : State) × (after Start bs ≡ Some s) × (kind s bs ≡ Some k)

abbrev pub then : Option State → List ℕ → Option State
then o bs = elim o [ Some t ↦ after t bs | None ↦ None ]

pub some_none : {A B : Type 0} {x : A} {o : Option A} → o ≡ Some x → o ≡ None → B
some_none e n = cc

-- words
same_equal : (bs ws : List ℕ) → same bs ws ≡ bytes_eq (map lower bs) ws
same_equal [] [] = refl
same_equal [] (w ∷ ws) = refl
same_equal (b ∷ bs) [] = refl
same_equal (b ∷ bs) (w ∷ ws) = ap (λ (c : Bool). eqb (lower b) w && c) (same_equal bs ws)

-- the kind of a word without its letter case
find : Table → List ℕ → Kind
find [] w = Name
find (e ∷ es) w = cond (bytes_eq w e.0) e.1 (find es w)

word_find : (t : Table) (bs : List ℕ) → word_kind t bs ≡ find t (map lower bs)
unfolding find
word_find [] bs = refl
word_find (e ∷ es) bs = ap₂ (λ (c : Bool) (k : Kind). cond c e.1 k) (same_equal bs e.0) (word_find es bs)

find_cases : (t : Table) (w : List ℕ) → ((find t w ≡ Name) × ((k : Kind) → Listed t w k → ⊥)) ⊎ Listed t w (find t w)
unfolding find
find_cases [] w = inl (refl, λ k l. l)
find_cases (e ∷ es) w = go (bytes_eq w e.0) refl (find_cases es w)
  where
    go : (c : Bool) → bytes_eq w e.0 ≡ c → ((find es w ≡ Name) × ((k : Kind) → Listed es w k → ⊥)) ⊎ Listed es w (find es w) →
        ((cond c e.1 (find es w) ≡ Name) × ((k : Kind) → Listed (e ∷ es) w k → ⊥)) ⊎ Listed (e ∷ es) w (cond c e.1 (find es w))
    go true c≡ ih = inr (inl ((bytes_eq-Decides w e.0).0 c≡, refl))
    go false c≡ (inl h) = inl (h.0, λ k l. elim l [ inl p ↦ true≢false (sym (ap (bytes_eq w) (sym p.0) ∙ (bytes_eq-Decides w w).1 refl) ∙ c≡) | inr l ↦ h.1 k l ])
    go false c≡ (inr l) = inr (inr l)

-- what holds of each entry of a table holds of what is listed
abbrev Each : (List ℕ → Kind → Type 0) → Table → Type 0
Each P [] = Unit {0}
Each P (e ∷ es) = P e.0 e.1 × Each P es

each : (P : List ℕ → Kind → Type 0) (t : Table) (w : List ℕ) (k : Kind) → Each P t → Listed t w k → P w k
each P [] w k h l = absurd l
each P (e ∷ es) w k h (inl p) = subst (λ (x : List ℕ). P x k) (sym p.0) (subst (λ (x : Kind). P e.0 x) (sym p.1) h.0)
each P (e ∷ es) w k h (inr l) = each P es w k h.1 l

find_listed : (w : List ℕ) (k : Kind) → Listed words w k → find words w ≡ k
unfolding find
find_listed w k l = each (λ (w : List ℕ) (k : Kind). find words w ≡ k) words w k
    (refl, (refl, (refl, (refl, (refl, (refl, (refl, (refl, (refl, (refl, (refl, (refl, (refl, (refl, (refl, (refl, (refl, (refl, (refl, (refl, (refl, (refl, tt)))))))))))))))))))))) l

-- words are of letters
small : List ℕ → Bool
small [] = true
small (b ∷ bs) = between 97 122 b && small bs

worded : List ℕ → Bool
worded [] = false
worded (b ∷ bs) = small (b ∷ bs)

words_small : (w : List ℕ) (k : Kind) → Listed words w k → worded w ≡ true
unfolding worded small
words_small w k l = each (λ (w : List ℕ) (k : Kind). worded w ≡ true) words w k
    (refl, (refl, (refl, (refl, (refl, (refl, (refl, (refl, (refl, (refl, (refl, (refl, (refl, (refl, (refl, (refl, (refl, (refl, (refl, (refl, (refl, (refl, tt)))))))))))))))))))))) l

lower_letter : (b : ℕ) → between 97 122 (lower b) ≡ true → letter b ≡ true
lower_letter b h = go (between 65 90 b) refl h
  where
    go : (c : Bool) → between 65 90 b ≡ c → between 97 122 (cond c (b + 32) b) ≡ true → letter b ≡ true
    go true c≡ h = or_left _ _ (or_right _ _ c≡)
    go false c≡ h = or_left _ _ (or_left _ _ h)

small_wordy : (bs : List ℕ) → small (map lower bs) ≡ true → Every wordy bs
unfolding small
small_wordy [] h = tt
small_wordy (b ∷ bs) h = let (p, q) = and_parts _ _ h in (or_left _ _ (lower_letter b p), small_wordy bs q)

-- the states of an automaton that goes on, or stops
module _ (w : State) (p : ℕ → Bool) (stays : (b : ℕ) → step w b ≡ cond (p b) (Some w) None) where
  pub loops : (bs : List ℕ) (s : State) → after w bs ≡ Some s → (s ≡ w) × Every p bs
  loops [] s e = (let f : s ≡ w = cc in f, tt)
  loops (b ∷ bs) s e = go (p b) refl (loops bs s)
    where
      go : (c : Bool) → p b ≡ c → (after w bs ≡ Some s → (s ≡ w) × Every p bs) → (s ≡ w) × Every p (b ∷ bs)
      go true c≡ ih =
          let (f, g) = ih (ap (λ (c : Bool). then (cond c (Some w) None) bs) (sym c≡) ∙ ap (λ (o : Option State). then o bs) (sym (stays b)) ∙ e) in
          (f, (c≡, g))
      go false c≡ ih = some_none e (ap (λ (o : Option State). then o bs) (stays b) ∙ ap (λ (c : Bool). then (cond c (Some w) None) bs) c≡)

  pub looped : (bs : List ℕ) → Every p bs → after w bs ≡ Some w
  looped [] h = refl
  looped (b ∷ bs) h = ap (λ (o : Option State). then o bs) (stays b) ∙ ap (λ (c : Bool). then (cond c (Some w) None) bs) h.0 ∙ looped bs h.1

stops : (w : State) → ((b : ℕ) → step w b ≡ None) → (bs : List ℕ) (s : State) → after w bs ≡ Some s → (bs ≡ []) × (s ≡ w)
stops w n [] s e = (refl, let f : s ≡ w = cc in f)
stops w n (b ∷ bs) s e = some_none e (ap (λ (o : Option State). then o bs) (n b))

-- numerals
numeral_sound : (b : ℕ) (bs : List ℕ) (s : State) → then (numeral b) bs ≡ Some s → Numeral (b ∷ bs) × ((cs : List ℕ) → kind s cs ≡ Some Literal)
numeral_sound b bs s e = go (eqb b 48) (digit b) refl refl e
  where
    go : (x y : Bool) → eqb b 48 ≡ x → digit b ≡ y → then (cond x (Some Zero) (cond y (Some Digits) None)) bs ≡ Some s → Numeral (b ∷ bs) × ((cs : List ℕ) → kind s cs ≡ Some Literal)
    go true y x≡ y≡ e =
        let (f, g) = stops Zero (λ b. refl) bs s e in
        (subst (λ (l : List ℕ). Numeral l) (ap₂ (λ (x : ℕ) (xs : List ℕ). x ∷ xs) (sym (eqb-true b 48 x≡)) (sym f)) nought, λ cs. ap (λ (t : State). kind t cs) g)
    go false true x≡ y≡ e =
        let (f, g) = loops Digits digit (λ b. refl) bs s e in
        let (p, q) = and_parts _ _ y≡ in
        let ne = eqb-false b 48 x≡ in
        let low = leb-true 48 b p in
        (digits (and_from _ _ (le-leb 49 b (omega arith)) q) g, λ cs. ap (λ (t : State). kind t cs) f)
    go false false x≡ y≡ e = some_none e refl

numeral_after : (w : State) → ((b : ℕ) → step w b ≡ numeral b) → (bs : List ℕ) → Numeral bs → (s : State) × (after w bs ≡ Some s) × ((cs : List ℕ) → kind s cs ≡ Some Literal)
numeral_after w n [] x = elim x [ ]
numeral_after w n (b ∷ bs) nought = (Zero, ap (λ (o : Option State). then o []) (n 48), λ cs. refl)
numeral_after w n (b ∷ bs) (digits d ds) =
    let (p, q) = and_parts _ _ d in
    let low = leb-true 49 b p in (
      Digits,
      ap (λ (o : Option State). then o bs) (n b)
          ∙ ap₂ (λ (x y : Bool). then (cond x (Some Zero) (cond y (Some Digits) None)) bs) (ne_eqb b 48 (λ e. omega arith)) (and_from _ _ (le-leb 48 b (omega arith)) q)
          ∙ looped Digits digit (λ b. refl) bs ds,
      λ cs. refl,
    )

-- symbols
listed_at : (t : Table) (n : ℕ) (d : List ℕ × Kind) → n < length t → Listed t (get_or t n d).0 (get_or t n d).1
listed_at [] n d h = absurd (omega arith)
listed_at (e ∷ es) zero d h = inl (refl, refl)
listed_at (e ∷ es) (suc n) d h = inr (listed_at es n d (omega arith))

in_symbols : (n : ℕ) → n < length symbols → Listed symbols (get_or symbols n ([], Name)).0 (get_or symbols n ([], Name)).1
in_symbols n h = listed_at symbols n ([], Name) h

-- what a first byte and a state take is a token
abbrev Takes : ℕ → State → Type 0
Takes b t = (bs : List ℕ) (s : State) (k : Kind) → after t bs ≡ Some s → kind s (b ∷ bs) ≡ Some k → Spells k (b ∷ bs)

wholes : (b : ℕ) (k : Kind) → Listed symbols (b ∷ []) k → Takes b (Whole k)
wholes b k l bs s j e f =
    let (g, h) = stops (Whole k) (λ b. refl) bs s e in
    let k≡ : k ≡ j = (let i : Some k ≡ Some j = ap (λ (t : State). kind t (b ∷ bs)) (sym h) ∙ f in cc) in
    subst (λ (x : Kind). Spells x (b ∷ bs)) k≡ (subst (λ (x : List ℕ). Spells k (b ∷ x)) (sym g) (symbol l))

seconds : (w : State) (c : ℕ) (j : Kind) → ((b : ℕ) → step w b ≡ followed b c j) → (bs : List ℕ) (s : State) → after w bs ≡ Some s →
    ((bs ≡ []) × (s ≡ w)) ⊎ ((bs ≡ c ∷ []) × (s ≡ Whole j))
seconds w c j n [] s e = inl (refl, let f : s ≡ w = cc in f)
seconds w c j n (b ∷ bs) s e = go (eqb b c) refl
  where
    go : (x : Bool) → eqb b c ≡ x → ((b ∷ bs ≡ []) × (s ≡ w)) ⊎ ((b ∷ bs ≡ c ∷ []) × (s ≡ Whole j))
    go true x≡ =
        let (f, g) = stops (Whole j) (λ b. refl) bs s (ap (λ (x : Bool). then (cond x (Some (Whole j)) None) bs) (sym x≡) ∙ ap (λ (o : Option State). then o bs) (sym (n b)) ∙ e) in
        inr (ap₂ (λ (x : ℕ) (xs : List ℕ). x ∷ xs) (eqb-true b c x≡) f, g)
    go false x≡ = some_none e (ap (λ (o : Option State). then o bs) (n b) ∙ ap (λ (x : Bool). then (cond x (Some (Whole j)) None) bs) x≡)

twos : (b c : ℕ) (w : State) (k j : Kind) → ((b : ℕ) → step w b ≡ followed b c j) → ((cs : List ℕ) → kind w cs ≡ Some k) → Listed symbols (b ∷ []) k → Listed symbols (b ∷ c ∷ []) j → Takes b w
twos b c w k j n one l₁ l₂ bs s i e f = go (seconds w c j n bs s e)
  where
    go : ((bs ≡ []) × (s ≡ w)) ⊎ ((bs ≡ c ∷ []) × (s ≡ Whole j)) → Spells i (b ∷ bs)
    go (inl p) =
        let k≡ : k ≡ i = (let h : Some k ≡ Some i = sym (one (b ∷ bs)) ∙ ap (λ (t : State). kind t (b ∷ bs)) (sym p.1) ∙ f in cc) in
        subst (λ (x : Kind). Spells x (b ∷ bs)) k≡ (subst (λ (x : List ℕ). Spells k (b ∷ x)) (sym p.0) (symbol l₁))
    go (inr p) =
        let k≡ : j ≡ i = (let h : Some j ≡ Some i = ap (λ (t : State). kind t (b ∷ bs)) (sym p.1) ∙ f in cc) in
        subst (λ (x : Kind). Spells x (b ∷ bs)) k≡ (subst (λ (x : List ℕ). Spells j (b ∷ x)) (sym p.0) (symbol l₂))

bangs : Takes 33 Bang
bangs bs s i e f = go (seconds Bang 61 NotEqual (λ b. refl) bs s e)
  where
    go : ((bs ≡ []) × (s ≡ Bang)) ⊎ ((bs ≡ 61 ∷ []) × (s ≡ Whole NotEqual)) → Spells i (33 ∷ bs)
    go (inl p) = some_none f (ap (λ (t : State). kind t (33 ∷ bs)) p.1)
    go (inr p) =
        let k≡ : NotEqual ≡ i = (let h : Some NotEqual ≡ Some i = ap (λ (t : State). kind t (33 ∷ bs)) (sym p.1) ∙ f in cc) in
        subst (λ (x : Kind). Spells x (33 ∷ bs)) k≡ (subst (λ (x : List ℕ). Spells NotEqual (33 ∷ x)) (sym p.0) (symbol (in_symbols 10 (lit< tt))))

signs : (b : ℕ) (k : Kind) → (b ≡ 43) ⊎ (b ≡ 45) → Listed symbols (b ∷ []) k → Takes b (Sign k)
signs b k sign l [] s i e f =
    let s≡ : s ≡ Sign k = cc in
    let k≡ : k ≡ i = (let h : Some k ≡ Some i = ap (λ (t : State). kind t (b ∷ [])) (sym s≡) ∙ f in cc) in
    subst (λ (x : Kind). Spells x (b ∷ [])) k≡ (symbol l)
signs b k sign l (c ∷ cs) s i e f =
    let (n, lit) = numeral_sound c cs s e in
    let k≡ : Literal ≡ i = (let h : Some Literal ≡ Some i = sym (lit (b ∷ c ∷ cs)) ∙ f in cc) in
    subst (λ (x : Kind). Spells x (b ∷ c ∷ cs)) k≡ (signed sign n)

abbrev AllTake : List (ℕ × State) → Type 0
AllTake [] = Unit {0}
AllTake (e ∷ es) = Takes e.0 e.1 × AllTake es

marked : (es : List (ℕ × State)) (b : ℕ) → AllTake es → (bs : List ℕ) (s : State) (k : Kind) → then (mark es b) bs ≡ Some s → kind s (b ∷ bs) ≡ Some k → Spells k (b ∷ bs)
marked [] b h bs s k e f = some_none e refl
marked (m ∷ es) b h bs s k e f = go (eqb b m.0) refl e (marked es b h.1 bs s k)
  where
    go : (x : Bool) → eqb b m.0 ≡ x → then (cond x (Some m.1) (mark es b)) bs ≡ Some s → (then (mark es b) bs ≡ Some s → kind s (b ∷ bs) ≡ Some k → Spells k (b ∷ bs)) → Spells k (b ∷ bs)
    go true x≡ e ih = subst (λ (c : ℕ). Takes c m.1) (sym (eqb-true b m.0 x≡)) h.0 bs s k e f
    go false x≡ e ih = ih e f

marks_take : AllTake marks
marks_take = (
  signs 43 Plus (inl refl) (in_symbols 0 (lit< tt)),
  (
    signs 45 Minus (inr refl) (in_symbols 1 (lit< tt)),
    (
      twos 60 61 (Order Less LessEqual) Less LessEqual (λ c. refl) (λ cs. refl) (in_symbols 5 (lit< tt)) (in_symbols 7 (lit< tt)),
      (
        twos 62 61 (Order Greater GreaterEqual) Greater GreaterEqual (λ c. refl) (λ cs. refl) (in_symbols 6 (lit< tt)) (in_symbols 8 (lit< tt)),
        (
          twos 61 61 (Order Becomes Equal) Becomes Equal (λ c. refl) (λ cs. refl) (in_symbols 14 (lit< tt)) (in_symbols 9 (lit< tt)),
          (
            bangs,
            (
              twos 38 38 Amp Ampersand DoubleAmpersand (λ c. refl) (λ cs. refl) (in_symbols 22 (lit< tt)) (in_symbols 23 (lit< tt)),
              (
                wholes 42 Times (in_symbols 2 (lit< tt)),
                (
                  wholes 47 Over (in_symbols 3 (lit< tt)),
                  (
                    wholes 37 Percent (in_symbols 4 (lit< tt)),
                    (
                      wholes 40 Open (in_symbols 11 (lit< tt)),
                      (
                        wholes 41 Close (in_symbols 12 (lit< tt)),
                        (
                          wholes 59 Semicolon (in_symbols 13 (lit< tt)),
                          (
                            wholes 91 Index (in_symbols 15 (lit< tt)),
                            (
                              wholes 93 IndexEnd (in_symbols 16 (lit< tt)),
                              (
                                wholes 46 Dot (in_symbols 17 (lit< tt)),
                                (
                                  wholes 94 Caret (in_symbols 18 (lit< tt)),
                                  (
                                    wholes 44 Comma (in_symbols 19 (lit< tt)),
                                    (
                                      wholes 123 Brace (in_symbols 20 (lit< tt)),
                                      (
                                        wholes 125 BraceEnd (in_symbols 21 (lit< tt)),
                                        (
                                          wholes 64 At (in_symbols 24 (lit< tt)),
                                          tt,
                                        ),
                                      ),
                                    ),
                                  ),
                                ),
                              ),
                            ),
                          ),
                        ),
                      ),
                    ),
                  ),
                ),
              ),
            ),
          ),
        ),
      ),
    ),
  ),
)

pub sound : (bs : List ℕ) (k : Kind) → Text bs k → Spells k bs
sound [] k (s, e, f) = some_none f (ap (λ (t : State). kind t []) (let g : s ≡ Start = cc in g))
sound (b ∷ bs) k (s, e, f) = go (letter b) (digit b) refl refl e
  where
    go : (x y : Bool) → letter b ≡ x → digit b ≡ y → then (cond x (Some Word) (cond y (numeral b) (mark marks b))) bs ≡ Some s → Spells k (b ∷ bs)
    go true y x≡ y≡ e =
        let (g, h) = loops Word wordy (λ b. refl) bs s e in
        let k≡ : find words (map lower (b ∷ bs)) ≡ k =
        (let i : Some (word_kind words (b ∷ bs)) ≡ Some k = ap (λ (t : State). kind t (b ∷ bs)) (sym g) ∙ f in let j = word_find words (b ∷ bs) in cc) in
        elim (find_cases words (map lower (b ∷ bs))) [
          | inl p ↦ subst (λ (x : Kind). Spells x (b ∷ bs)) (sym p.0 ∙ k≡) (name x≡ h p.1)
          | inr l ↦ subst (λ (x : Kind). Spells x (b ∷ bs)) k≡ (word l)
        ]
    go false true x≡ y≡ e =
        let (n, lit) = numeral_sound b bs s e in
        let k≡ : Literal ≡ k = (let h : Some Literal ≡ Some k = sym (lit (b ∷ bs)) ∙ f in cc) in
        subst (λ (x : Kind). Spells x (b ∷ bs)) k≡ (literal n)
    go false false x≡ y≡ e = marked marks b marks_take bs s k e f

-- a token is taken
worded_after : (b : ℕ) (bs : List ℕ) (k : Kind) → letter b ≡ true → Every wordy bs → find words (map lower (b ∷ bs)) ≡ k → Text (b ∷ bs) k
worded_after b bs k l h e =
    (Word, ap (λ (x : Bool). then (cond x (Some Word) (cond (digit b) (numeral b) (mark marks b))) bs) l ∙ looped Word wordy (λ b. refl) bs h, ap Some (word_find words (b ∷ bs) ∙ e))

no_letter : (b : ℕ) → b ≤ 57 → letter b ≡ false
no_letter b h = or_from _ _ (or_from _ _ (and_left _ _ (lt-leb 97 b (omega arith))) (and_left _ _ (lt-leb 65 b (omega arith)))) (ne_eqb b 95 (λ e. omega arith))

begin_digit : (b : ℕ) → digit b ≡ true → begin b ≡ numeral b
begin_digit b d =
    let (p, q) = and_parts _ _ d in
    ap₂ (λ (x y : Bool). cond x (Some Word) (cond y (numeral b) (mark marks b))) (no_letter b (leb-true b 57 q)) d

numeral_digit : (b : ℕ) (bs : List ℕ) → Numeral (b ∷ bs) → digit b ≡ true
numeral_digit b bs nought = refl
numeral_digit b bs (digits d ds) = let (p, q) = and_parts _ _ d in let low = leb-true 49 b p in and_from _ _ (le-leb 48 b (omega arith)) q

symbols_taken : (w : List ℕ) (k : Kind) → Listed symbols w k → Text w k
symbols_taken w k l = each Text symbols w k ((Sign Plus, refl, refl), ((Sign Minus, refl, refl), ((Whole Times, refl, refl), ((Whole Over, refl, refl), ((Whole Percent, refl, refl), ((Order Less LessEqual, refl, refl), ((Order Greater GreaterEqual, refl, refl), ((Whole LessEqual, refl, refl), ((Whole GreaterEqual, refl, refl), ((Whole Equal, refl, refl), ((Whole NotEqual, refl, refl), ((Whole Open, refl, refl), ((Whole Close, refl, refl), ((Whole Semicolon, refl, refl), ((Order Becomes Equal, refl, refl), ((Whole Index, refl, refl), ((Whole IndexEnd, refl, refl), ((Whole Dot, refl, refl), ((Whole Caret, refl, refl), ((Whole Comma, refl, refl), ((Whole Brace, refl, refl), ((Whole BraceEnd, refl, refl), ((Amp, refl, refl), ((Whole DoubleAmpersand, refl, refl), ((Whole At, refl, refl), tt))))))))))))))))))))))))) l

pub complete : (bs : List ℕ) (k : Kind) → Spells k bs → Text bs k
complete (b ∷ bs) k (name l h none) = worded_after b bs Name l h (elim (find_cases words (map lower (b ∷ bs))) [ inl p ↦ p.0 | inr l ↦ absurd (none _ l) ])
complete bs k (word l) = go bs l
  where
    go : (bs : List ℕ) → Listed words (map lower bs) k → Text bs k
    go [] l = absurd (unfold worded in false≢true (words_small [] k l))
    go (b ∷ bs) l = unfold worded small in (let (p, q) = and_parts _ _ (words_small (map lower (b ∷ bs)) k l) in worded_after b bs k (lower_letter b p) (small_wordy bs q) (find_listed (map lower (b ∷ bs)) k l))
complete bs k (literal n) = go bs n
  where
    go : (bs : List ℕ) → Numeral bs → Text bs Literal
    go [] n = elim n [ ]
    go (b ∷ bs) n = let (s, e, f) = numeral_after (Sign Plus) (λ b. refl) (b ∷ bs) n in (s, ap (λ (o : Option State). then o bs) (begin_digit b (numeral_digit b bs n)) ∙ e, f (b ∷ bs))
complete bs k (signed {b = b} {bs = ds} sign n) = go b sign
  where
    go : (b : ℕ) → (b ≡ 43) ⊎ (b ≡ 45) → Text (b ∷ ds) Literal
    go b (inl e) = let (s, f, g) = numeral_after (Sign Plus) (λ b. refl) ds n in (s, ap (λ (x : ℕ). after Start (x ∷ ds)) e ∙ f, g (b ∷ ds))
    go b (inr e) = let (s, f, g) = numeral_after (Sign Minus) (λ b. refl) ds n in (s, ap (λ (x : ℕ). after Start (x ∷ ds)) e ∙ f, g (b ∷ ds))
complete bs k (symbol l) = symbols_taken bs k l
