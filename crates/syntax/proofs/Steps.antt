-- How the parser goes on: at a token of a known kind, past an absent tail, and from rules to the
-- rules that they are made of.
use Rattle.std.proofs.Common.{◌≡◌, ℕ, Bool, true, false, cond, ◌||◌, List, [], ◌∷◌, ◌++◌, Some, None, Option, sym, refl, ap, ◌∙◌, subst, append_assoc, arith}
use Rattle.std.proofs.lemmas.Bool.{or_parts, eq-eqb}
use Rattle.tiny.specs.declared.tokens.Kind.{Kind}
use Rattle.tiny.specs.Token.{Token, is}
use Rattle.syntax.specs.Shape.{Tree}
use Rattle.syntax.specs.Grammar.{Sort, Bracket, Is, OneOf, contents, closing}
use Rattle.syntax.specs.Parse.{Part, Tail, Symbol, Stack, Rule, State, Outcome, ◌⟶◌, expect, further, behind, rules, sort_rules, tail_rules, chosen, optional, may_lack, begun, fed, ended, run, top, pushed, undered, dropped}
use Rattle.syntax.specs.Parse.Part.{rest}
use Rattle.syntax.specs.Parse.Symbol.{token, part, make}
use Rattle.syntax.specs.Parse.Outcome.{accept, refuse}
use Rattle.syntax.proofs.Telling.{All, pick, is_same}

-- the parser one token on
abbrev pub onward : Option State → Token → List Token → Outcome
onward o t ts = elim o [ Some s ↦ run s.expected s.stack ts | None ↦ refuse (t ∷ ts) ]

abbrev pub settled : Option Stack → Outcome
settled o = elim o [ Some t ↦ accept (top t) | None ↦ refuse [] ]

-- at a token of a known kind the parser computes
pub at_part : {k : Kind} (n : Part) (α : List Symbol) (z : Stack) (t : Token) (ts : List Token) → Is k t →
    run (part n ∷ α) z (t ∷ ts) ≡ onward (begun (chosen k (rules n t)) α z (cond (optional n) (fed α z t) None)) t ts
at_part n α z t ts e = ap (λ (j : Kind). onward (begun (chosen j (rules n t)) α z (cond (optional n) (fed α z t) None)) t ts) e

-- and so at one of several, if all have the same rule
pub at_some : (n : Part) (β : List Symbol) (ks : List Kind) (α : List Symbol) (z : Stack) (t : Token) (ts : List Token) →
    OneOf ks t → All (λ k. chosen k (rules n t) ≡ Some β) ks → run (part n ∷ α) z (t ∷ ts) ≡ run (β ++ α) z ts
at_some n β ks α z t ts o a =
    ap (λ (c : Option (List Symbol)). onward (begun c α z (cond (optional n) (fed α z t) None)) t ts) (pick (λ k. chosen k (rules n t) ≡ Some β) ks t o a)

pub at_token : {k : Kind} (j : Kind) (f : Token → Stack → Stack) (α : List Symbol) (z : Stack) (t : Token) (ts : List Token) → Is k t →
    run (token j f ∷ α) z (t ∷ ts) ≡ onward (cond (is k j) (Some (record { expected = α; stack = f t z })) None) t ts
at_token j f α z t ts e = ap (λ (i : Kind). onward (cond (is i j) (Some (record { expected = α; stack = f t z })) None) t ts) e

is_self : (k : Kind) → is k k ≡ true
is_self k = eq-eqb _ _ refl

-- a part whose first rule begins with this kind, and a token of the kind that is expected
pub at_first : (n : Part) (k : Kind) (β : List Symbol) (rs : List Rule) (α : List Symbol) (z : Stack) (t : Token) (ts : List Token) →
    rules n t ≡ (k ⟶ β) ∷ rs → Is k t → run (part n ∷ α) z (t ∷ ts) ≡ run (β ++ α) z ts
at_first n k β rs α z t ts r e =
    at_part n α z t ts e ∙ ap (λ (l : List Rule). onward (begun (chosen k l) α z (cond (optional n) (fed α z t) None)) t ts) r
    ∙ ap (λ (b : Bool). onward (begun (cond b (Some β) (chosen k rs)) α z (cond (optional n) (fed α z t) None)) t ts) (is_self k)

pub at_own : (k : Kind) (f : Token → Stack → Stack) (α : List Symbol) (z : Stack) (t : Token) (ts : List Token) → Is k t →
    run (token k f ∷ α) z (t ∷ ts) ≡ run α (f t z) ts
at_own k f α z t ts e = at_token k f α z t ts e ∙ ap (λ (b : Bool). onward (cond b (Some (record { expected = α; stack = f t z })) None) t ts) (is_self k)

pub at_make : (f : Stack → Stack) (α : List Symbol) (z : Stack) (ts : List Token) → run (make f ∷ α) z ts ≡ run α (f z) ts
at_make f α z [] = refl
at_make f α z (t ∷ ts) = refl

-- Tails that do not begin at the token t, were it of kind k.
abbrev pub heads : List Rule → List Kind
heads [] = []
heads (r ∷ rs) = r.first ∷ heads rs

abbrev pub among : Kind → List Kind → Bool
among k [] = false
among k (j ∷ js) = is k j || among k js

abbrev pub begin : List Tail → Token → Kind → Bool
begin [] t k = false
begin (n ∷ ns) t k = among k (heads (tail_rules n t)) || begin ns t k

abbrev pub Stops : List Tail → Token → Kind → Type 0
Stops ns t k = begin ns t k ≡ false

-- what may not follow, where something does
abbrev pub Quiet : List Tail → List Token → Type 0
Quiet ns [] = Unit {0}
Quiet ns (t ∷ ts) = Stops ns t t.kind

pub quiet : {k : Kind} (ns : List Tail) (t : Token) → Is k t → Stops ns t k → Stops ns t t.kind
quiet ns t e s = subst (Stops ns t) (sym e) s

pub later : (n : Tail) (ns : List Tail) (a : List Token) → Quiet (n ∷ ns) a → Quiet ns a
later n ns [] q = tt
later n ns (t ∷ ts) q = (or_parts _ _ q).1

pub free : (a : List Token) → Quiet [] a
free [] = tt
free (t ∷ ts) = refl

pub just : (n : Tail) (ns : List Tail) (a : List Token) → Quiet (n ∷ ns) a → Quiet (n ∷ []) a
just n ns [] q = tt
just n ns (t ∷ ts) q = ap (λ (b : Bool). b || false) (or_parts _ _ q).0

unchosen : (k : Kind) (rs : List Rule) → among k (heads rs) ≡ false → chosen k rs ≡ None
unchosen k [] e = refl
unchosen k (r ∷ rs) e = let (p, q) = or_parts (is k r.first) _ e in rw p (unchosen k rs q)

-- a tail that does not begin is absent
pub absent : (n : Tail) (ns : List Tail) → may_lack n ≡ true → (α : List Symbol) (z : Stack) (a : List Token) → Quiet (n ∷ ns) a →
    run (further n ∷ α) z a ≡ run α z a
absent n ns o α z [] q = ap (λ (b : Bool). settled (cond b (ended α z) None)) o
absent n ns o α z (t ∷ ts) q =
    ap (λ (c : Option (List Symbol)). onward (begun c α z (cond (may_lack n) (fed α z t) None)) t ts) (unchosen _ (tail_rules n t) (or_parts _ _ q).0)
    ∙ ap (λ (b : Bool). onward (cond b (fed α z t) None) t ts) o

abbrev lifted : List Symbol → Stack → Option State
lifted l z = Some (record { expected = l; stack = z })

-- Rules with γ behind them are the rules, and then γ.
pub begun_behind : (k : Kind) (γ : List Symbol) (rs : List Rule) (α : List Symbol) (z : Stack) (o : Option State) →
    begun (chosen k (behind γ rs)) α z o ≡ begun (chosen k rs) (γ ++ α) z o
begun_behind k γ [] α z o = refl
begun_behind k γ (r ∷ rs) α z o = go (is k r.first) (begun_behind k γ rs α z o)
  where
    go : (b : Bool) → begun (chosen k (behind γ rs)) α z o ≡ begun (chosen k rs) (γ ++ α) z o →
        begun (cond b (Some (r.after ++ γ)) (chosen k (behind γ rs))) α z o ≡ begun (cond b (Some r.after) (chosen k rs)) (γ ++ α) z o
    go true e = ap (λ (l : List Symbol). lifted l z) (append_assoc r.after γ α)
    go false e = e

pub by_behind : (s s' : Sort) (γ : List Symbol) → ((t : Token) → sort_rules s' t ≡ behind γ (sort_rules s t)) →
    (α : List Symbol) (z : Stack) (b : List Token) → run (expect s' ∷ α) z b ≡ run (expect s ∷ γ ++ α) z b
by_behind s s' γ e α z [] = refl
by_behind s s' γ e α z (t ∷ ts) =
    ap (λ (rs : List Rule). onward (begun (chosen t.kind rs) α z None) t ts) (e t)
    ∙ ap (λ (o : Option State). onward o t ts) (begun_behind t.kind γ (sort_rules s t) α z None)

-- Some rule of the sort begins with the first of these tokens.
pub data Begins (s : Sort) : List Token → Type 0 where
  begins : {t : Token} {ts : List Token} {β : List Symbol} → chosen t.kind (sort_rules s t) ≡ Some β → Begins s (t ∷ ts)

-- The parser that then expects just the tokens behind, by their kinds, accepts.
abbrev echo : List Token → List Symbol
echo [] = []
echo (t ∷ ts) = token t.kind dropped ∷ echo ts

echoed : (z : Stack) (a : List Token) → run (echo a) z a ≡ accept (top z)
echoed z [] = refl
echoed z (t ∷ ts) = ap (λ (b : Bool). onward (cond b (Some (record { expected = echo ts; stack = z })) None) t ts) (is_self t.kind) ∙ echoed z ts

pub begun_by : (s : Sort) (b : List Token) (e : Tree) (a : List Token) → ((α : List Symbol) (z : Stack) → run (expect s ∷ α) z b ≡ run α (e ∷ z) a) → Begins s b
begun_by s b e a f = go b (f (echo a) [] ∙ echoed (e ∷ []) a)
  where
    go : (b : List Token) → run (expect s ∷ echo a) [] b ≡ accept e → Begins s b
    go [] r = absurd (let z : ◌≡◌ {A = ℕ} 0 1 = cc in omega arith)
    go (t ∷ ts) r = at (chosen t.kind (sort_rules s t)) refl r
      where
        at : (o : Option (List Symbol)) → chosen t.kind (sort_rules s t) ≡ o → onward (begun o (echo a) [] None) t ts ≡ accept e → Begins s (t ∷ ts)
        at (Some β) c r = begins c
        at None c r = absurd (let z : ◌≡◌ {A = ℕ} 0 1 = cc in omega arith)

-- what holds of the first kinds of rules holds of a kind that has a rule
told : (P : Kind → Type 0) (k : Kind) (rs : List Rule) (β : List Symbol) → chosen k rs ≡ Some β → All P (heads rs) → P k
told P k [] β e a = absurd (let z : ◌≡◌ {A = ℕ} 0 1 = cc in omega arith)
told P k (r ∷ rs) β e a = go (is k r.first) refl e (λ e'. told P k rs β e' a.1)
  where
    go : (b : Bool) → is k r.first ≡ b → cond b (Some r.after) (chosen k rs) ≡ Some β → (chosen k rs ≡ Some β → P k) → P k
    go true i e next = subst P (sym (is_same _ _ i)) a.0
    go false i e next = next e

-- rules of which the first list has one for the kind, or has none
pub chosen_left : (k : Kind) (rs ps : List Rule) (β : List Symbol) → chosen k rs ≡ Some β → chosen k (rs ++ ps) ≡ chosen k rs
chosen_left k [] ps β e = absurd (let z : ◌≡◌ {A = ℕ} 0 1 = cc in omega arith)
chosen_left k (r ∷ rs) ps β e = go (is k r.first) e (λ e'. chosen_left k rs ps β e')
  where
    go : (b : Bool) → cond b (Some r.after) (chosen k rs) ≡ Some β → (chosen k rs ≡ Some β → chosen k (rs ++ ps) ≡ chosen k rs) →
        cond b (Some r.after) (chosen k (rs ++ ps)) ≡ cond b (Some r.after) (chosen k rs)
    go true e next = refl
    go false e next = next e

pub chosen_right : (k : Kind) (rs ps : List Rule) → chosen k rs ≡ None → chosen k (rs ++ ps) ≡ chosen k ps
chosen_right k [] ps e = refl
chosen_right k (r ∷ rs) ps e = go (is k r.first) e (λ e'. chosen_right k rs ps e')
  where
    go : (b : Bool) → cond b (Some r.after) (chosen k rs) ≡ None → (chosen k rs ≡ None → chosen k (rs ++ ps) ≡ chosen k ps) →
        cond b (Some r.after) (chosen k (rs ++ ps)) ≡ chosen k ps
    go true e next = absurd (let z : ◌≡◌ {A = ℕ} 0 1 = cc in omega arith)
    go false e next = next e

pub by_left : (s s' : Sort) (ps : Token → List Rule) → ((t : Token) → sort_rules s' t ≡ sort_rules s t ++ ps t) →
    (α : List Symbol) (z : Stack) (b : List Token) → Begins s b → run (expect s' ∷ α) z b ≡ run (expect s ∷ α) z b
by_left s s' ps e α z b (begins {t = t} {ts = ts} {β = β} c) =
    ap (λ (rs : List Rule). onward (begun (chosen t.kind rs) α z None) t ts) (e t)
    ∙ ap (λ (o : Option (List Symbol)). onward (begun o α z None) t ts) (chosen_left t.kind (sort_rules s t) (ps t) β c)

pub by_right : (s s' : Sort) (γ : List Symbol) (rs : Token → List Rule) → ((t : Token) → sort_rules s' t ≡ rs t ++ behind γ (sort_rules s t)) →
    ((t : Token) → All (λ k. chosen k (rs t) ≡ None) (heads (sort_rules s t))) →
    (α : List Symbol) (z : Stack) (b : List Token) → Begins s b → run (expect s' ∷ α) z b ≡ run (expect s ∷ γ ++ α) z b
by_right s s' γ rs e others α z b (begins {t = t} {ts = ts} {β = β} c) =
    ap (λ (rs : List Rule). onward (begun (chosen t.kind rs) α z None) t ts) (e t)
    ∙ ap (λ (o : Option (List Symbol)). onward (begun o α z None) t ts)
    (chosen_right t.kind (rs t) (behind γ (sort_rules s t)) (told (λ k. chosen k (rs t) ≡ None) t.kind (sort_rules s t) β c (others t)))
    ∙ ap (λ (o : Option State). onward o t ts) (begun_behind t.kind γ (sort_rules s t) α z None)

-- where a tail begins as the sort does
pub by_tail : (s : Sort) (n : Tail) (γ : List Symbol) → ((t : Token) → tail_rules n t ≡ behind γ (sort_rules s t)) →
    (α : List Symbol) (z : Stack) (b : List Token) → Begins s b → run (further n ∷ α) z b ≡ run (expect s ∷ γ ++ α) z b
by_tail s n γ e α z b (begins {t = t} {ts = ts} {β = β} c) =
    ap (λ (rs : List Rule). onward (begun (chosen t.kind rs) α z (cond (may_lack n) (fed α z t) None)) t ts) (e t)
    ∙ ap (λ (o : Option State). onward o t ts) (begun_behind t.kind γ (sort_rules s t) α z (cond (may_lack n) (fed α z t) None))
    ∙ ap (λ (o : Option (List Symbol)). onward (begun o (γ ++ α) z (cond (may_lack n) (fed α z t) None)) t ts) c
    ∙ sym (ap (λ (o : Option (List Symbol)). onward (begun o (γ ++ α) z None) t ts) c)

-- behind an opening bracket, where something stands between
pub by_rest : (k : Bracket) (o : Token) → ((t : Token) → All (λ j. is j (closing k) ≡ false) (heads (sort_rules (contents k) t))) →
    (α : List Symbol) (z : Stack) (b : List Token) → Begins (contents k) b →
    run (part (rest k o) ∷ α) z b ≡ run (expect (contents k) ∷ make (undered o) ∷ token (closing k) dropped ∷ α) z b
by_rest k o others α z b (begins {t = t} {ts = ts} {β = β} c) =
    ap (λ (x : Bool). onward (begun (cond x (Some (make (pushed o) ∷ [])) (chosen t.kind (behind γ (sort_rules (contents k) t)))) α z None) t ts)
    (told (λ j. is j (closing k) ≡ false) t.kind (sort_rules (contents k) t) β c (others t))
    ∙ ap (λ (o : Option State). onward o t ts) (begun_behind t.kind γ (sort_rules (contents k) t) α z None)
  where
    γ : List Symbol
    γ = make (undered o) ∷ token (closing k) dropped ∷ []
