-- The scan of a source is what the spelling of its tokens says.
use Rattle.std.proofs.Common.{◌≡◌, ℕ, zero, suc, ◌+◌, ◌-◌, ◌<◌, ◌≤◌, Bool, true, false, cond, ◌&&◌, eqb, List, [], ◌∷◌, length, take, drop, ℤ, Some, None, Ok, Err, Option, sym, refl, ap, ◌∙◌, subst, ap₂, inl, inr, arith}
use Rattle.std.proofs.lemmas.List.{length-drop, drop-drop, drop_all}
use Rattle.std.proofs.lemmas.Bool.{cases_lt, lt-leb, eqb-true, or_cases}
use Rattle.tiny.specs.declared.tokens.Kind.{Kind}
use Rattle.tiny.specs.declared.faults.ScanCause.TheVariants.{NoToken}
use Rattle.tiny.specs.Token.{Token}
use Rattle.tiny.specs.declared.states.State.{State}
use Rattle.tiny.specs.declared.states.State.TheVariants.{Start}
use Rattle.tiny.specs.Spelling.{blank, Ignored, meaning}
use Rattle.tiny.specs.Automaton.{begin, reach, hash, ignore, skip}
use Rattle.tiny.specs.Scan.{formed, lexed, Scanned, with_token, token, scan_from}
use Rattle.tiny.specs.Law.{Longest, Scans, ScanIs, OneKind}
use Rattle.tiny.specs.Law.Scans.{ends, no_token, too_many, too_large, reads}
use Rattle.tiny.proofs.Reach.{on, past, skip_within}
use Rattle.tiny.proofs.Lexed.{from, here, lexed_end, skip_in}
use Rattle.tiny.proofs.Counted.{scan_ends, scan_bad, scan_full, scan_out, scan_on, scan_long, scan_short}
use Rattle.tiny.proofs.Spelled.{some_none}
use Rattle.tiny.proofs.Longest.{reached, kind_of, is_longest, is_none, one_kind, found_longest}
use Rattle.tiny.proofs.Ignoring.{skip_ignored, ignored_left, none_ignored}

-- nothing that is ignored begins a token
blank_begins : (b : ℕ) → blank b ≡ true → begin b ≡ None
blank_begins b h = elim (or_cases _ _ h) [
  | inl h ↦ elim (or_cases _ _ h) [
    | inl h ↦ elim (or_cases _ _ h) [
      | inl h ↦ elim (or_cases _ _ h) [ inl h ↦ ap begin (eqb-true b 32 h) | inr h ↦ ap begin (eqb-true b 8 h) ]
      | inr h ↦ ap begin (eqb-true b 13 h)
    ]
    | inr h ↦ ap begin (eqb-true b 9 h)
  ]
  | inr h ↦ ap begin (eqb-true b 10 h)
]

token_first : (bs : List ℕ) (k : Kind) → kind_of bs ≡ Some k → skip false bs ≡ 0
token_first [] k e = refl
token_first (b ∷ bs) k e = go (eqb b 35) (blank b) refl refl
  where
    never : begin b ≡ None → ⊥
    never n = some_none e (ap (λ (o : Option State). Rattle.tiny.specs.Automaton.kind (on o Start bs).1 (take (on o Start bs).0 (b ∷ bs))) n)

    go : (x y : Bool) → eqb b 35 ≡ x → blank b ≡ y → past (cond (x && hash bs) (Some true) (cond y (Some false) None)) bs ≡ 0
    go true y x≡ y≡ = absurd (never (ap begin (eqb-true b 35 x≡)))
    go false true x≡ y≡ = absurd (never (blank_begins b y≡))
    go false false x≡ y≡ = refl

same_left : (bs : List ℕ) → drop (skip false bs) bs ≡ bs → skip false bs ≡ 0
same_left bs e = omega (arith, ap length e, length-drop (skip false bs) bs, skip_within false bs)

module _ (source : List ℕ) (at : ℕ) (in_source : at ≤ length source) where
  place_of : (place : ℕ) → place ≤ length source → Ignored (drop at source) (drop place source) → skip false (drop place source) ≡ 0 → place ≡ at + skip false (drop at source)
  place_of place w i z =
      let e = ap length (ignored_left (drop at source) (drop place source) i ∙ ap (λ (n : ℕ). drop n (drop place source)) z) in
      omega (arith, e, length-drop (skip false (drop at source)) (drop at source), length-drop at source, length-drop place source, skip_within false (drop at source))

  module _ (place : ℕ) (p≡ : place ≡ at + skip false (drop at source)) where
    lexed_found : (n : ℕ) (k : Kind) → place ≤ length source → Longest (drop place source) n k →
        lexed source at ≡ Ok (Some (record { kind = k; place = place; end = place + n; value = meaning k (take n (drop place source)) }))
    lexed_found n k w l =
        let rest = drop place source in
        let (r≡, k≡) = found_longest rest n k l in
        let h : place < length source = elim (cases_lt place (length source)) [ inl h ↦ h | inr h ↦ some_none k≡ (ap kind_of (drop_all place source h)) ] in
        sym (here source at place p≡) ∙ ap (λ (b : Bool). from b place source) (lt-leb _ _ h) ∙ ap (formed place (reached rest) (take (reached rest) rest)) k≡
        ∙ ap (λ (m : ℕ). Ok (Some (record { kind = k; place = place; end = place + m; value = meaning k (take m rest) }))) r≡

    lexed_stuck : place < length source → kind_of (drop place source) ≡ None → lexed source at ≡ Err (record { what = NoToken; place = place })
    lexed_stuck h e =
        let rest = drop place source in
        sym (here source at place p≡) ∙ ap (λ (b : Bool). from b place source) (lt-leb _ _ h) ∙ ap (formed place (reached rest) (take (reached rest) rest)) e

token_text : (source : List ℕ) (place n : ℕ) (k : Kind) (v : ℤ) → token source place (place + n) k v ≡ record { kind = k; place = place; text = take n (drop place source); value = v }
token_text source place n k v =
    ap (λ (m : ℕ). record { kind = k; place = place; text = take m (drop place source); value = v }) (let e : (place + n) - place ≡ n = omega arith in e)

-- the scan reads what the source has
module _ (source : List ℕ) (at : ℕ) (w : at ≤ length source) where
  within : at + skip false (drop at source) ≤ length source
  within = skip_in source at (skip false (drop at source)) w refl

  to_place : drop (skip false (drop at source)) (drop at source) ≡ drop (at + skip false (drop at source)) source
  to_place = drop-drop (skip false (drop at source)) at source

  passed : Ignored (drop at source) (drop (at + skip false (drop at source)) source)
  passed = subst (λ (rest : List ℕ). Ignored (drop at source) rest) to_place (skip_ignored (drop at source))

  stays : skip false (drop (at + skip false (drop at source)) source) ≡ 0
  stays =
      let bs = drop at source in
      let e : skip false (drop (skip false bs) bs) ≡ 0 = same_left (drop (skip false bs) bs) (sym (ignored_left bs (drop (skip false bs) bs) (skip_ignored bs))) in
      ap (λ (l : List ℕ). skip false l) (sym to_place) ∙ e

  at_end : length source ≤ at + skip false (drop at source) → (room : ℕ) → Scans source room at (scan_from room source at)
  at_end h room =
      subst (λ (r : Scanned). Scans source room at r) (sym (scan_ends room source at (sym (lexed_end source at (at + skip false (drop at source)) refl h))))
      (ends (subst (λ (rest : List ℕ). Ignored (drop at source) rest) (drop_all (at + skip false (drop at source)) source h) passed))

  at_stuck : at + skip false (drop at source) < length source → kind_of (drop (at + skip false (drop at source)) source) ≡ None → (room : ℕ) → Scans source room at (scan_from room source at)
  at_stuck h n room =
      let p = at + skip false (drop at source) in
      subst (λ (r : Scanned). Scans source room at r) (sym (scan_bad room source at (record { what = NoToken; place = p }) (lexed_stuck source at w p refl h n)))
      (no_token p within passed (omega (arith, length-drop p source), (λ rest i. none_ignored (drop p source) rest stays i), is_none (drop p source) n))

  module _ (k : Kind) (k≡ : kind_of (drop (at + skip false (drop at source)) source) ≡ Some k) where
    longest : Longest (drop (at + skip false (drop at source)) source) (reached (drop (at + skip false (drop at source)) source)) k
    longest = is_longest (drop (at + skip false (drop at source)) source) k k≡

    at_token : (room : ℕ) → ((m : ℕ) → room ≡ suc m → (to : ℕ) → to ≤ length source → Scans source m to (scan_from m source to)) → Scans source room at (scan_from room source at)
    at_token zero more =
        let p = at + skip false (drop at source) in
        let n = reached (drop p source) in
        subst (λ (r : Scanned). Scans source 0 at r)
        (sym (scan_full 0 source at _ (lexed_found source at w p refl n k within longest) refl)) (too_many p n k within passed longest)
    at_token (suc m) more = go (meaning k (take (reached (drop (at + skip false (drop at source)) source)) (drop (at + skip false (drop at source)) source))) refl
      where
        go : (o : Option ℤ) → meaning k (take (reached (drop (at + skip false (drop at source)) source)) (drop (at + skip false (drop at source)) source)) ≡ o → Scans source (suc m) at (scan_from (suc m) source at)
        go None v≡ =
            let p = at + skip false (drop at source) in
            let n = reached (drop p source) in
            subst (λ (r : Scanned). Scans source (suc m) at r)
            (sym (scan_out (suc m) source at _ (lexed_found source at w p refl n k within longest) m refl v≡)) (too_large p n k within passed longest v≡)
        go (Some v) v≡ =
            let p = at + skip false (drop at source) in
            let n = reached (drop p source) in
            let inside : p + n ≤ length source = omega (arith, within, longest.0, length-drop p source) in
            subst (λ (r : Scanned). Scans source (suc m) at r)
            (sym (scan_on (suc m) source at _ (lexed_found source at w p refl n k within longest) m v refl v≡
            ∙ ap (λ (t : Token). with_token t (scan_from m source (p + n))) (token_text source p n k v)))
            (reads p n k v (scan_from m source (p + n)) within passed longest v≡ (more m refl (p + n) inside))

  next_scans : (room : ℕ) → ((m : ℕ) → room ≡ suc m → (to : ℕ) → to ≤ length source → Scans source m to (scan_from m source to)) → Scans source room at (scan_from room source at)
  next_scans room more = elim (cases_lt (at + skip false (drop at source)) (length source)) [
    | inl h ↦ by (kind_of (drop (at + skip false (drop at source)) source)) refl h
    | inr h ↦ at_end h room
  ]
    where
      by : (o : Option Kind) → kind_of (drop (at + skip false (drop at source)) source) ≡ o → at + skip false (drop at source) < length source → Scans source room at (scan_from room source at)
      by (Some k) k≡ h = at_token k k≡ room more
      by None n h = at_stuck h n room

pub scans : (source : List ℕ) (room at : ℕ) → at ≤ length source → Scans source room at (scan_from room source at)
scans source zero at w = next_scans source at w zero (λ m e. absurd (omega arith))
scans source (suc room) at w = next_scans source at w (suc room)
    (λ m e to h. subst (λ (x : ℕ). Scans source x to (scan_from x source to)) (let f : room ≡ m = omega arith in f) (scans source room to h))

-- what the source has is what the scan reads
longest_first : (bs : List ℕ) (n : ℕ) (k : Kind) → Longest bs n k → skip false bs ≡ 0
longest_first bs n k l = token_first bs k (found_longest bs n k l).1

pub scanned : (source : List ℕ) {room at : ℕ} {r : Scanned} → Scans source room at r → at ≤ length source → scan_from room source at ≡ r
scanned source {room} {at} (ends i) w =
    let e = ap length (ignored_left (drop at source) [] i) in
    scan_ends room source at (sym (lexed_end source at (at + skip false (drop at source)) refl
    (omega (arith, e, length-drop (skip false (drop at source)) (drop at source), length-drop at source))))
scanned source {room} {at} (no_token p h i (some, bare, none)) w =
    let z = same_left (drop p source) (bare _ (skip_ignored (drop p source))) in
    let quiet : kind_of (drop p source) ≡ None = nothing_there (drop p source) none in
    scan_bad room source at (record { what = NoToken; place = p }) (lexed_stuck source at w p (place_of source at w p h i z) (omega (arith, length-drop p source)) quiet)
  where
    nothing_there : (bs : List ℕ) → ((m : ℕ) (j : Kind) → m ≤ length bs → Rattle.tiny.specs.Spelling.Spells j (take m bs) → ⊥) → kind_of bs ≡ None
    nothing_there bs none = go (kind_of bs) refl
      where
        go : (o : Option Kind) → kind_of bs ≡ o → kind_of bs ≡ None
        go None e = e
        go (Some k) e = let l = is_longest bs k e in absurd (none (reached bs) k l.0 l.1)
scanned source {at = at} (too_many p n k h i l) w =
    scan_full 0 source at _ (lexed_found source at w p (place_of source at w p h i (longest_first (drop p source) n k l)) n k h l) refl
scanned source {at = at} (too_large {room = m} p n k h i l v≡) w =
    scan_out (suc m) source at _ (lexed_found source at w p (place_of source at w p h i (longest_first (drop p source) n k l)) n k h l) m refl v≡
scanned source {at = at} (reads {room = m} p n k v more h i l v≡ s) w =
    scan_on (suc m) source at _ (lexed_found source at w p (place_of source at w p h i (longest_first (drop p source) n k l)) n k h l) m v refl v≡
    ∙ ap₂ with_token (token_text source p n k v) (scanned source s (omega (arith, h, l.0, length-drop p source)))

pub scan_is : ScanIs
scan_is source r = (
  (λ e. elim (cases_lt 16384 (length source)) [
    | inl h ↦ inl (h, sym e ∙ scan_long source h)
    | inr h ↦ inr (h, subst (λ (x : Scanned). Scans source 2048 0 x) (sym (scan_short source h) ∙ e) (scans source 2048 0 (omega arith)))
  ]),
  (λ t. elim t [
    | inl p ↦ scan_long source p.0 ∙ sym p.1
    | inr p ↦ scan_short source p.0 ∙ scanned source p.1 (omega arith)
  ]),
)

pub one : OneKind
one = one_kind
