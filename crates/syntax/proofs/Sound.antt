-- What the parser reads the grammar derives.
use Rattle.std.proofs.Common.{◌≡◌, ℕ, Bool, true, false, cond, List, [], ◌∷◌, ◌++◌, Some, None, Option, refl, subst, arith}
use Rattle.tiny.specs.Token.{Token, is}
use Rattle.syntax.specs.Shape.{Tree}
use Rattle.syntax.specs.Grammar.{Derives as D}
use Rattle.syntax.specs.Grammar.{Derives}
use Rattle.syntax.specs.Grammar.Sort.{content}
use Rattle.syntax.specs.Parse.{Part, Tail, Symbol, Stack, Rule, State, rules, chosen, optional, may_lack, begun, fed, ended, run, top}
use Rattle.syntax.specs.Parse.Part.{whole, rest, tail}
use Rattle.syntax.specs.Parse.Tail.{postfix?, factor?, logic?, minus?, plus?, relation?, assign?, array?, else?, statements?, more?, formal_name, section_tail}
use Rattle.syntax.specs.Parse.Symbol.{token, part, make}
use Rattle.syntax.specs.Parse.Outcome.{accept, refuse}
use Rattle.syntax.proofs.Telling.{is_same}
use Rattle.syntax.proofs.Reading.{Declared, Turns, Reads, Means, split}
use Rattle.syntax.proofs.Reading.Declared.{section}
use Rattle.syntax.proofs.Reading.Reads.{turned, astray}
use Rattle.syntax.proofs.Reading.Means.{end, read, made, next}
use Rattle.syntax.proofs.Rules.{AllGood, good}

-- an optional part may be absent
alone : (c : List Token) (v : Tree) (a : List Token) → Declared c v a → Derives content c v a
alone c v a (section d i) = D.declared d i

pub lacks : (n : Tail) → may_lack n ≡ true → (v : Tree) (a : List Token) → Turns n v a v a
lacks postfix? e v a = λ c d. d
lacks factor? e v a = λ c d. d
lacks logic? e v a = λ c d. D.e3_e4 d
lacks minus? e v a = λ c d. D.e2_e3 d
lacks plus? e v a = λ c d. d
lacks relation? e v a = λ c d. d
lacks assign? e v a = λ c d. D.e0_e1 d
lacks array? e v a = λ c d. d
lacks else? e v a = λ c d. D.then d
lacks statements? e v a = λ c d. alone c v a d
lacks (more? l) e v a = λ c d. D.one d
lacks formal_name e v a = absurd (let z : ◌≡◌ {A = ℕ} 0 1 = cc in omega arith)
lacks section_tail e v a = absurd (let z : ◌≡◌ {A = ℕ} 0 1 = cc in omega arith)

pub skip : (n : Part) → optional n ≡ true → (z : Stack) (a : List Token) → Reads n z a z a
skip (whole s) e z a = absurd (let z : ◌≡◌ {A = ℕ} 0 1 = cc in omega arith)
skip (rest k o) e z a = absurd (let z : ◌≡◌ {A = ℕ} 0 1 = cc in omega arith)
skip (tail n) e [] a = astray
skip (tail n) e (v ∷ z) a = turned (lacks n e v a)

none_some : {A : Type 0} {x : A} {B : Type 0} → ◌≡◌ {A = Option A} None (Some x) → B
none_some e = absurd (let z : ◌≡◌ {A = ℕ} 0 1 = cc in omega arith)

taken : (n : Part) (t : Token) (rs : List Rule) → AllGood n t rs →
    (β : List Symbol) → chosen t.kind rs ≡ Some β → (z : Stack) (w : List Token) (u : Stack) (a : List Token) → Means β z w u a → Reads n z (t ∷ w) u a
taken n t [] g β e z w u a m = none_some e
taken n t (r ∷ rs) g β e z w u a m = go (is t.kind r.first) refl e (λ e'. taken n t rs g.1 β e' z w u a m)
  where
    go : (b : Bool) → is t.kind r.first ≡ b → cond b (Some r.after) (chosen t.kind rs) ≡ Some β →
        (chosen t.kind rs ≡ Some β → Reads n z (t ∷ w) u a) → Reads n z (t ∷ w) u a
    go true b≡ e later = g.0 (is_same _ _ b≡) z w u a (let s : β ≡ r.after = cc in rw s at m)
    go false b≡ e later = later e

-- a token that is taken goes in front of what the parser then reads
pub fed_sound : (α : List Symbol) (z : Stack) (t : Token) (s : State) → fed α z t ≡ Some s →
    (w : List Token) (u : Stack) (a : List Token) → Means s.expected s.stack w u a → Means α z (t ∷ w) u a
fed_sound [] z t s e w u a m = none_some e
fed_sound (token k f ∷ α) z t s e w u a m = go (is t.kind k) refl e
  where
    go : (b : Bool) → is t.kind k ≡ b → cond b (Some (record { expected = α; stack = f t z })) None ≡ Some s → Means (token k f ∷ α) z (t ∷ w) u a
    go true b≡ e = read (is_same _ _ b≡) (let s≡ : s ≡ record { expected = α; stack = f t z } = cc in subst (λ x. Means x.expected x.stack w u a) s≡ m)
    go false b≡ e = none_some e
fed_sound (make f ∷ α) z t s e w u a m = made (fed_sound α (f z) t s e w u a m)
fed_sound (part n ∷ α) z t s e w u a m =
    go (chosen t.kind (rules n t)) refl e (λ e'. fed_sound α z t s e' w u a m)
  where
    absent : (b : Bool) → optional n ≡ b → cond b (fed α z t) None ≡ Some s → (fed α z t ≡ Some s → Means α z (t ∷ w) u a) → Means (part n ∷ α) z (t ∷ w) u a
    absent true o e later = next (skip n o z (t ∷ w)) (later e)
    absent false o e later = none_some e

    go : (c : Option (List Symbol)) → chosen t.kind (rules n t) ≡ c → begun c α z (cond (optional n) (fed α z t) None) ≡ Some s →
        (fed α z t ≡ Some s → Means α z (t ∷ w) u a) → Means (part n ∷ α) z (t ∷ w) u a
    go (Some β) c e later =
        let s≡ : s ≡ record { expected = β ++ α; stack = z } = cc in
        let (x, y, p, q) = split β (subst (λ x. Means x.expected x.stack w u a) s≡ m) in
        next (taken n t (rules n t) (good n t) β c z w x y p) q
    go None c e later = absent (optional n) refl e later

ended_sound : (α : List Symbol) (z u : Stack) → ended α z ≡ Some u → Means α z [] u []
ended_sound [] z u e = let z≡ : u ≡ z = cc in rw z≡ end
ended_sound (token k f ∷ α) z u e = none_some e
ended_sound (make f ∷ α) z u e = made (ended_sound α (f z) u e)
ended_sound (part n ∷ α) z u e = go (optional n) refl e (λ e'. ended_sound α z u e')
  where
    go : (b : Bool) → optional n ≡ b → cond b (ended α z) None ≡ Some u → (ended α z ≡ Some u → Means α z [] u []) → Means (part n ∷ α) z [] u []
    go true o e later = next (skip n o z []) (later e)
    go false o e later = none_some e

-- what is accepted is read
pub run_sound : (α : List Symbol) (z : Stack) (t : Tree) (ts : List Token) → run α z ts ≡ accept t → (u : Stack) × (t ≡ top u) × Means α z ts u []
run_sound α z t [] e = go (ended α z) refl e
  where
    go : (o : Option Stack) → ended α z ≡ o → elim o [ Some u ↦ accept (top u) | None ↦ refuse [] ] ≡ accept t → (u : Stack) × (t ≡ top u) × Means α z [] u []
    go (Some u) o e = (u, cc, ended_sound α z u o)
    go None o e = absurd (let z : ◌≡◌ {A = ℕ} 0 1 = cc in omega arith)
run_sound α z t (x ∷ ts) e = go (fed α z x) refl e (λ s e'. run_sound s.expected s.stack t ts e')
  where
    go : (o : Option State) → fed α z x ≡ o → elim o [ Some s ↦ run s.expected s.stack ts | None ↦ refuse (x ∷ ts) ] ≡ accept t →
        ((s : State) → run s.expected s.stack ts ≡ accept t → (u : Stack) × (t ≡ top u) × Means s.expected s.stack ts u []) →
        (u : Stack) × (t ≡ top u) × Means α z (x ∷ ts) u []
    go (Some s) o e later = let (u, t≡, m) = later s e in (u, t≡, fed_sound α z x s o ts u [] m)
    go None o e later = absurd (let z : ◌≡◌ {A = ℕ} 0 1 = cc in omega arith)
