-- The next token, from the parts that the scanner finds.
use Rattle.std.proofs.Common.{◌≡◌, ℕ, ◌+◌, ◌-◌, ◌<◌, ◌≤◌, Bool, true, false, leb, List, length, take, drop, ℤ, Some, None, Ok, Err, Option, Result, sym, ap, ◌∙◌, arith}
use Rattle.std.proofs.lemmas.List.{length-drop, take_rest}
use Rattle.std.proofs.lemmas.Bool.{le-leb, lt-leb}
use Rattle.tiny.specs.declared.tokens.Kind.{Kind}
use Rattle.tiny.specs.Spelling.{meaning}
use Rattle.tiny.specs.declared.states.Stretch.{Stretch}
use Rattle.tiny.specs.declared.placed.Placed.{Placed}
use Rattle.tiny.specs.declared.faults.ScanCause.{ScanCause}
use Rattle.tiny.specs.declared.faults.ScanCause.TheVariants.{NoToken}
use Rattle.tiny.specs.declared.states.State.{State}
use Rattle.tiny.specs.declared.states.State.TheVariants.{Start}
use Rattle.tiny.specs.Automaton.{kind, reach, skip}
use Rattle.tiny.specs.Scan.{formed, lexeme, lexed, EndsWithin}
use Rattle.tiny.proofs.Reach.{skip_within, reach_within}

-- the bytes ignored, and those of a token, lie in the source
pub skip_in : (source : List ℕ) (at n : ℕ) → at ≤ length source → n ≡ skip false (drop at source) → at + n ≤ length source
skip_in source at n h e = omega (arith, e, skip_within false (drop at source), length-drop at source)

pub reach_in : (source : List ℕ) (place : ℕ) (p : ℕ × State) → place ≤ length source → p ≡ reach Start (drop place source) → place + p.0 ≤ length source
reach_in source place p h e = omega (arith, ap (λ (q : ℕ × State). q.0) e, reach_within Start (drop place source), length-drop place source)

-- the parts that the scanner finds in what is left of the source
pub place_from : (source : List ℕ) (at n : ℕ) → n ≡ skip false (take (length source - at) (drop at source)) → at + n ≡ at + skip false (drop at source)
place_from source at n e = ap (λ (m : ℕ). at + m) (e ∙ ap (skip false) (take_rest source at))

pub reached_from : (source : List ℕ) (place : ℕ) (p : ℕ × State) → p ≡ reach Start (take (length source - place) (drop place source)) → p ≡ reach Start (drop place source)
reached_from source place p e = e ∙ ap (reach Start) (take_rest source place)

abbrev pub from : Bool → ℕ → List ℕ → Result (Option Stretch) (Placed ScanCause)
from past place source = elim past [ true ↦ Ok None | false ↦ lexeme place (drop place source) (reach Start (drop place source)) ]

module _ (source : List ℕ) (at place : ℕ) (p≡ : place ≡ at + skip false (drop at source)) where
  pub here : from (leb (length source) place) place source ≡ lexed source at
  here = ap (λ (p : ℕ). from (leb (length source) p) p source) p≡

  pub lexed_end : length source ≤ place → Ok None ≡ lexed source at
  lexed_end h = ap (λ (b : Bool). from b place source) (sym (le-leb _ _ h)) ∙ here

  module _ (h : place < length source) (n : ℕ) (s : State) (r : (n, s) ≡ reach Start (drop place source)) where
    found : lexeme place (drop place source) (n, s) ≡ lexed source at
    found = ap (λ (p : ℕ × State). lexeme place (drop place source) p) r ∙ ap (λ (b : Bool). from b place source) (sym (lt-leb _ _ h)) ∙ here

    formed_here : formed place n (take ((place + n) - place) (drop place source)) (kind s (take ((place + n) - place) (drop place source))) ≡ lexed source at
    formed_here = ap (λ (m : ℕ). formed place n (take m (drop place source)) (kind s (take m (drop place source)))) (let e : (place + n) - place ≡ n = omega arith in e) ∙ found

    pub lexed_token : (k : Kind) (v : Option ℤ) → kind s (take ((place + n) - place) (drop place source)) ≡ Some k → v ≡ meaning k (take ((place + n) - place) (drop place source)) →
        Ok (Some (record { kind = k; place = place; end = place + n; value = v })) ≡ lexed source at
    lexed_token k v e v≡ =
        ap (λ (x : Option ℤ). Ok (Some (record { kind = k; place = place; end = place + n; value = x }))) v≡
        ∙ ap (formed place n (take ((place + n) - place) (drop place source))) (sym e) ∙ formed_here

    pub lexed_bad : kind s (take ((place + n) - place) (drop place source)) ≡ None → Err (record { what = NoToken; place = place }) ≡ lexed source at
    lexed_bad e = ap (formed place n (take ((place + n) - place) (drop place source))) (sym e) ∙ formed_here

-- the next token ends within the source
pub lexed_ends : (source : List ℕ) (at : ℕ) → at ≤ length source → EndsWithin (length source) (lexed source at)
lexed_ends source at w = go (leb (length source) (at + skip false (drop at source)))
  where
    go : (b : Bool) → EndsWithin (length source) (from b (at + skip false (drop at source)) source)
    go true = tt
    go false = by (kind p.1 (take p.0 (drop place source)))
      where
        place : ℕ
        place = at + skip false (drop at source)

        p : ℕ × State
        p = reach Start (drop place source)

        by : (o : Option Kind) → EndsWithin (length source) (formed place p.0 (take p.0 (drop place source)) o)
        by None = tt
        by (Some k) = reach_in source place p (skip_in source at (skip false (drop at source)) w (λ i. skip false (drop at source))) (λ i. p)
