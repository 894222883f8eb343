-- The parser of the specification decides the grammar, and refuses at the first token that breaks it.
use Rattle.std.proofs.Common.{◌≡◌, ℕ, ◌≤◌, List, [], ◌∷◌, ◌++◌, length, Some, None, Option, sym, refl, ap, subst, append_assoc, arith, length-append}
use Rattle.std.proofs.lemmas.List.{append-nil, append_cancel_right}
use Rattle.tiny.specs.Token.{Token}
use Rattle.syntax.specs.Shape.{Tree}
use Rattle.syntax.specs.Grammar.{Program, block}
use Rattle.syntax.specs.Law.{Accepts, Viable, Stops, Refuses, Paid}
use Rattle.syntax.specs.Parse.{Symbol, Stack, State, Outcome, expect, fed, run, top, parse}
use Rattle.syntax.specs.Parse.Outcome.{accept, refuse}
use Rattle.syntax.proofs.Reading.{Means}
use Rattle.syntax.proofs.Reading.Means.{end, next}
use Rattle.syntax.proofs.Reading.Reads.{got}
use Rattle.syntax.proofs.Sound.{run_sound}
use Rattle.syntax.proofs.Viable.{run_viable}
use Rattle.syntax.proofs.Steps.{onward}
use Rattle.syntax.proofs.Complete.{complete}
use Rattle.syntax.proofs.Paid.{paid}

program : {ts : List Token} {u : Stack} → Means (expect block ∷ []) [] ts u [] → Program ts (top u)
program (next (got d) end) = d

pub accepts : Accepts
accepts ts t =
    ((λ e. let (u, t≡, m) = run_sound (expect block ∷ []) [] t ts e in subst (Program ts) (sym t≡) (program m)), (λ d. complete d tt [] []))

-- a refusal hangs on no token behind the one that it names
shorter : (α : List Symbol) (v : Stack) (ts rest : List Token) → run α v ts ≡ refuse rest → length rest ≤ length ts
shorter α v ts rest e = let (x, ts≡, _, _, _) = run_viable α v ts rest e in rw ts≡ (rw length-append (omega arith))

local : (α : List Symbol) (v : Stack) (u : List Token) (t : Token) (x y : List Token) →
    run α v (u ++ t ∷ x) ≡ refuse (t ∷ x) → run α v (u ++ t ∷ y) ≡ refuse (t ∷ y)
local α v [] t x y e = go (fed α v t) e
  where
    go : (o : Option State) → onward o t x ≡ refuse (t ∷ x) → onward o t y ≡ refuse (t ∷ y)
    go (Some s) e = absurd (let l = shorter s.expected s.stack x (t ∷ x) e in omega arith)
    go None e = refl
local α v (a ∷ u) t x y e = go (fed α v a) e (λ s e'. local s.expected s.stack u t x y e')
  where
    go : (o : Option State) → onward o a (u ++ t ∷ x) ≡ refuse (t ∷ x) →
        ((s : State) → run s.expected s.stack (u ++ t ∷ x) ≡ refuse (t ∷ x) → run s.expected s.stack (u ++ t ∷ y) ≡ refuse (t ∷ y)) →
        onward o a (u ++ t ∷ y) ≡ refuse (t ∷ y)
    go (Some s) e later = later s e
    go None e later =
        let same : u ++ t ∷ x ≡ x = cc in
        absurd (omega (arith, ap length same, length-append u (t ∷ x)))

refused : (u rest : List Token) → parse (u ++ rest) ≡ refuse rest → Viable u × Stops u rest
refused u rest e = (viable, stops rest e)
  where
    viable : Viable u
    viable =
        let (x, ts≡, w, t, m) = run_viable (expect block ∷ []) [] (u ++ rest) rest e in
        (w, top t, program (subst (λ l. Means (expect block ∷ []) [] (l ++ w) t []) (sym (append_cancel_right u x rest ts≡)) m))

    stops : (rest : List Token) → parse (u ++ rest) ≡ refuse rest → Stops u rest
    stops [] e = λ t d.
        let a : parse u ≡ accept t = (accepts u t).1 d in
        let r : parse u ≡ refuse [] = rw append-nil at e in
        let z : ◌≡◌ {A = ℕ} 0 1 = cc in omega arith
    stops (t ∷ x) e = λ v.
        let (w, tree, d) = v in
        let a : parse (u ++ t ∷ w) ≡ accept tree = (accepts _ tree).1 (rw append_assoc at d) in
        let r = local (expect block ∷ []) [] u t x w e in
        let z : ◌≡◌ {A = ℕ} 0 1 = cc in omega arith

front : (q y : List Token) → Viable (q ++ y) → Viable q
front q y v = let (w, t, d) = v in (y ++ w, t, rw append_assoc at d)

-- there is but one place where a list of tokens stops
meet : (p u x r s : List Token) → u ++ r ≡ x ++ s → Viable (p ++ u) → Stops (p ++ u) r → Viable (p ++ x) → Stops (p ++ x) s → r ≡ s
meet p [] [] r s e vu su vx sx = e
meet p [] (b ∷ x) r s e vu su vx sx = absurd (subst (Stops (p ++ [])) e su (rw append-nil (front (p ++ b ∷ []) x (rw append_assoc vx))))
meet p (a ∷ u) [] r s e vu su vx sx = absurd (subst (Stops (p ++ [])) (sym e) sx (rw append-nil (front (p ++ a ∷ []) u (rw append_assoc vu))))
meet p (a ∷ u) (b ∷ x) r s e vu su vx sx =
    let a≡ : b ≡ a = cc in
    let e' : u ++ r ≡ x ++ s = cc in
    let vx' : Viable (p ++ a ∷ x) = rw a≡ at vx in
    let sx' : Stops (p ++ a ∷ x) s = rw a≡ at sx in
    meet (p ++ a ∷ []) u x r s e' (rw append_assoc vu) (rw append_assoc su) (rw append_assoc vx') (rw append_assoc sx')

pub refuses : Refuses
refuses u rest = (refused u rest, λ h. go h.0 h.1 (parse (u ++ rest)) refl)
  where
    legal : (rest : List Token) → Stops u rest → (t : Tree) → Program (u ++ rest) t → ⊥
    legal [] s t d = s t (rw append-nil at d)
    legal (a ∷ x) s t d = s (x, t, rw append_assoc d)

    go : Viable u → Stops u rest → (o : Outcome) → parse (u ++ rest) ≡ o → o ≡ refuse rest
    go v s (accept t) e = absurd (legal rest s t ((accepts (u ++ rest) t).0 e))
    go v s (refuse rest') e =
        let (x, ts≡, _, _, _) = run_viable (expect block ∷ []) [] (u ++ rest) rest' e in
        let (v', s') = refused x rest' (subst (λ l. parse l ≡ refuse rest') ts≡ e) in
        ap refuse (sym (meet [] u x rest rest' ts≡ v s v' s'))

pub pays : Paid
pays ts t d = omega (arith, paid d)
