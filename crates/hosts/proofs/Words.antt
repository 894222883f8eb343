-- Laws of the parts of a text.
use Rattle.std.proofs.Common.{◌≡◌, ℕ, ◌<◌, ◌≤◌, true, false, not, cond, ltb, Some, None, List, [], ◌∷◌, length, take, drop, sym, refl, ap, ◌∙◌, ⊎_elim, one-add, arith, length-take}
use Rattle.std.specs.List.{position, position_or_len, prefix_len}
use Rattle.std.specs.Option.{unwrap_or}
use Rattle.std.proofs.lemmas.List.Sums.{prefix_len-le-length}
use Rattle.std.proofs.lemmas.Bool.{cases_Bool, cases_lt, lt-ltb, le-ltb}
use Rattle.hosts.specs.Parts.{blank, onto, split, filled, parts}

-- what follows the first part
abbrev after : List ℕ → List (List ℕ)
after [] = []
after (b ∷ bs) = split bs

-- blanks before a part are none of its bytes
skipped : (xs : List ℕ) → parts (drop (prefix_len blank xs) xs) ≡ parts xs
unfolding parts
skipped [] = refl
skipped (b ∷ bs) = ⊎_elim (λ (h : blank b ≡ true). simp (h, one-add) (skipped bs)) (λ (h : blank b ≡ false). simp h) (cases_Bool (blank b))

-- the first part, and what follows it
cut : (xs : List ℕ) → split xs ≡ take (position_or_len blank xs) xs ∷ after (drop (position_or_len blank xs) xs)
cut [] = refl
cut (b ∷ bs) = ⊎_elim (λ (h : blank b ≡ true). simp h) (λ (h : blank b ≡ false). simp (h, one-add) (ap (onto b) (cut bs))) (cases_Bool (blank b))

followed : (xs : List ℕ) → filled (after (drop (position_or_len blank xs) xs)) ≡ parts (drop (position_or_len blank xs) xs)
unfolding parts
followed [] = refl
followed (b ∷ bs) = ⊎_elim (λ (h : blank b ≡ true). simp h) (λ (h : blank b ≡ false). simp (h, one-add) (followed bs)) (cases_Bool (blank b))

filled_some : (p : List ℕ) (ps : List (List ℕ)) → 0 < length p → filled (p ∷ ps) ≡ p ∷ filled ps
filled_some [] ps h = absurd (omega arith)
filled_some (b ∷ p) ps h = refl

-- no part where there are blanks alone
pub no_part : (bytes text : List ℕ) → text ≡ drop (prefix_len blank bytes) bytes → length text ≡ 0 → parts bytes ≡ []
unfolding parts
no_part bytes [] e h = sym (skipped bytes) ∙ ap parts (sym e)
no_part bytes (b ∷ bs) e h = absurd (omega arith)

-- the first byte past the blanks is none
pub not_blank : (bytes : List ℕ) → 0 < length (drop (prefix_len blank bytes) bytes) → 0 < position_or_len blank (drop (prefix_len blank bytes) bytes)
not_blank [] h = absurd (omega arith)
not_blank (b ∷ bs) h = ⊎_elim
    (λ (k : blank b ≡ true). simp (k, one-add) (not_blank bs (simp (k, one-add) at h)))
    (λ (k : blank b ≡ false). simp k (omega arith))
    (cases_Bool (blank b))

pub some_part : (bytes text : List ℕ) (n : ℕ) → text ≡ drop (prefix_len blank bytes) bytes → n ≡ unwrap_or (position blank text) (length text) → 0 < length text
    → parts bytes ≡ take n text ∷ parts (drop n text)
unfolding parts
some_part bytes text n e k h =
    let end : n ≡ position_or_len blank text = k ∙ placed (position_or_len blank text) (length text) (prefix_len-le-length (λ b. not (blank b)) text) in
    let some : 0 < position_or_len blank text = rw e (not_blank bytes (rw e at h)) in
    sym (skipped bytes)
    ∙ ap parts (sym e)
    ∙ ap filled (cut text)
    ∙ filled_some (take (position_or_len blank text) text) (after (drop (position_or_len blank text) text)) (simp length-take (omega arith))
    ∙ ap (λ (ps : List (List ℕ)). take (position_or_len blank text) text ∷ ps) (followed text)
    ∙ ap (λ (i : ℕ). take i text ∷ parts (drop i text)) (sym end)
  where
    placed : (n most : ℕ) → n ≤ most → unwrap_or (cond (ltb n most) (Some n) None) most ≡ n
    placed n most h = ⊎_elim (λ (l : n < most). rw (lt-ltb n most l)) (λ (l : most ≤ n). rw (le-ltb n most l) (omega arith)) (cases_lt n most)
