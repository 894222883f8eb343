-- What the parser of the specification does at tokens of some kinds, and where there are none of them.
use Rattle.std.proofs.Common.{◌≡◌, ℕ, suc, ◌≤◌, Bool, true, false, cond, ◌||◌, List, [], ◌∷◌, ◌++◌, length, IsErrAnd, Some, None, Ok, Err, Option, Result, sym, refl, ap, ◌∙◌, subst, append_assoc, arith}
use Rattle.std.proofs.lemmas.Bool.{or_parts}
use Rattle.tiny.specs.declared.tokens.Kind.{Kind}
use Rattle.tiny.specs.declared.tokens.Lexeme.{Lexeme}
use Rattle.tiny.specs.declared.placed.Placed.{Placed}
use Rattle.tiny.specs.Token.{Token, is}
use Rattle.tiny.specs.Scan.{token_in}
use Rattle.syntax.specs.Grammar.{Sort, Bracket, contents, closing}
use Rattle.syntax.specs.Grammar.Bracket.{braces, formal_parens, actual_parens}
use Rattle.syntax.specs.Parse.{Part, Tail, Symbol, Stack, Rule, State, expect, further, behind, rules, tail_rules, sort_rules, chosen, optional, may_lack, begun, fed, ended, run, dropped, pushed, undered, joined}
use Rattle.syntax.specs.Parse.Part.{rest}
use Rattle.syntax.specs.Parse.Symbol.{token, part, make}
use Rattle.syntax.specs.Parse.Outcome.{refuse}
use Rattle.syntax.proofs.Telling.{All, is_same}
use Rattle.syntax.proofs.Steps.{onward, settled, heads, begun_behind, chosen_right, Begins}
use Rattle.syntax.proofs.Steps.Begins.{begins}
use Rattle.nodes.specs.declared.node.Node.TheVariants.{Join}
use Rattle.parser.specs.declared.parser.Parser.{Parser}
use Rattle.parser.specs.declared.faults.SyntaxCause.{SyntaxCause}
use Rattle.parser.specs.Rest.{among}
use Rattle.parser.specs.Ahead.{ahead, source_of, stands, Took, Added}
use Rattle.parser.specs.Reading.{Refused, Upto}
use Rattle.parser.proofs.Scanning.{opposed}
use Rattle.parser.proofs.Stand.{Stand, Slot, same_on, skip, by, then, took, made_leaf, put_join}
use Rattle.parser.proofs.Stand.Slot.{at, bare}

-- fewer kinds to be one of
among_fewer : (js ks : List Kind) (k : Kind) → All (λ j. among j js ≡ true) ks → among k js ≡ false → among k ks ≡ false
among_fewer js [] k a e = refl
among_fewer js (j ∷ ks) k a e = go (is k j) refl (among_fewer js ks k a.1 e)
  where
    go : (b : Bool) → is k j ≡ b → among k ks ≡ false → b || among k ks ≡ false
    go true i h = opposed (sym a.0 ∙ ap (λ (x : Kind). among x js) (sym (is_same k j i)) ∙ e)
    go false i h = h

pub lacks_fewer : (js ks : List Kind) (ts : List Token) → All (λ j. among j js ≡ true) ks → stands js ts ≡ false → stands ks ts ≡ false
lacks_fewer js ks [] a e = refl
lacks_fewer js ks (t ∷ ts) a e = among_fewer js ks t.kind a e

among_more : (js ks : List Kind) (k : Kind) → among k js ≡ false → among k ks ≡ false → among k (js ++ ks) ≡ false
among_more [] ks k a b = b
among_more (j ∷ js) ks k a b = let (p, q) = or_parts (is k j) (among k js) a in ap (λ (x : Bool). x || among k (js ++ ks)) p ∙ among_more js ks k q b

pub lacks_both : (js ks : List Kind) (ts : List Token) → stands js ts ≡ false → stands ks ts ≡ false → stands (js ++ ks) ts ≡ false
lacks_both js ks [] a b = refl
lacks_both js ks (t ∷ ts) a b = among_more js ks t.kind a b

unchosen : (k : Kind) (rs : List Rule) → among k (heads rs) ≡ false → chosen k rs ≡ None
unchosen k [] e = refl
unchosen k (r ∷ rs) e = let (p, q) = or_parts (is k r.first) (among k (heads rs)) e in
    ap (λ (b : Bool). cond b (Some r.after) (chosen k rs)) p ∙ unchosen k rs q

-- a tail that does not begin
pub without : (m : Tail) (ks : List Kind) → ((t : Token) → heads (tail_rules m t) ≡ ks) → may_lack m ≡ true →
    (α : List Symbol) (z : Stack) (ts : List Token) → stands ks ts ≡ false → run (further m ∷ α) z ts ≡ run α z ts
without m ks h o α z [] e = ap (λ (b : Bool). settled (cond b (ended α z) None)) o
without m ks h o α z (t ∷ ts) e =
    ap (λ (c : Option (List Symbol)). onward (begun c α z (cond (may_lack m) (fed α z t) None)) t ts)
    (unchosen t.kind (tail_rules m t) (ap (among t.kind) (h t) ∙ e))
    ∙ ap (λ (b : Bool). onward (cond b (fed α z t) None) t ts) o

-- a part that has to be there and does not begin
pub missing : (m : Part) (ks : List Kind) → ((t : Token) → heads (rules m t) ≡ ks) → optional m ≡ false →
    (α : List Symbol) (z : Stack) (ts : List Token) → stands ks ts ≡ false → run (part m ∷ α) z ts ≡ refuse ts
missing m ks h o α z [] e = ap (λ (b : Bool). settled (cond b (ended α z) None)) o
missing m ks h o α z (t ∷ ts) e =
    ap (λ (c : Option (List Symbol)). onward (begun c α z (cond (optional m) (fed α z t) None)) t ts)
    (unchosen t.kind (rules m t) (ap (among t.kind) (h t) ∙ e))
    ∙ ap (λ (b : Bool). onward (cond b (fed α z t) None) t ts) o

pub no_token : (k : Kind) (f : Token → Stack → Stack) (α : List Symbol) (z : Stack) (ts : List Token) → stands (k ∷ []) ts ≡ false →
    run (token k f ∷ α) z ts ≡ refuse ts
no_token k f α z [] e = refl
no_token k f α z (t ∷ ts) e =
    ap (λ (b : Bool). onward (cond b (Some (record { expected = α; stack = f t z })) None) t ts) (or_parts (is t.kind k) false e).0

chosen_only : (k : Kind) (rs ps : List Rule) → chosen k ps ≡ None → chosen k (rs ++ ps) ≡ chosen k rs
chosen_only k [] ps e = e
chosen_only k (r ∷ rs) ps e = ap (λ (x : Option (List Symbol)). cond (is k r.first) (Some r.after) x) (chosen_only k rs ps e)

-- where none of the other rules begins
pub only_left : (s s' : Sort) (ps : Token → List Rule) (ks : List Kind) → ((t : Token) → sort_rules s' t ≡ sort_rules s t ++ ps t) → ((t : Token) → heads (ps t) ≡ ks) →
    (α : List Symbol) (z : Stack) (ts : List Token) → stands ks ts ≡ false → run (expect s' ∷ α) z ts ≡ run (expect s ∷ α) z ts
only_left s s' ps ks r h α z [] e = refl
only_left s s' ps ks r h α z (t ∷ ts) e =
    ap (λ (rs : List Rule). onward (begun (chosen t.kind rs) α z None) t ts) (r t)
    ∙ ap (λ (c : Option (List Symbol)). onward (begun c α z None) t ts)
    (chosen_only t.kind (sort_rules s t) (ps t) (unchosen t.kind (ps t) (ap (among t.kind) (h t) ∙ e)))

pub only_right : (s s' : Sort) (γ : List Symbol) (ps : Token → List Rule) (ks : List Kind) → ((t : Token) → sort_rules s' t ≡ ps t ++ behind γ (sort_rules s t)) → ((t : Token) → heads (ps t) ≡ ks) →
    (α : List Symbol) (z : Stack) (ts : List Token) → stands ks ts ≡ false → run (expect s' ∷ α) z ts ≡ run (expect s ∷ γ ++ α) z ts
only_right s s' γ ps ks r h α z [] e = refl
only_right s s' γ ps ks r h α z (t ∷ ts) e =
    ap (λ (rs : List Rule). onward (begun (chosen t.kind rs) α z None) t ts) (r t)
    ∙ ap (λ (c : Option (List Symbol)). onward (begun c α z None) t ts)
    (chosen_right t.kind (ps t) (behind γ (sort_rules s t)) (unchosen t.kind (ps t) (ap (among t.kind) (h t) ∙ e)))
    ∙ ap (λ (o : Option State). onward o t ts) (begun_behind t.kind γ (sort_rules s t) α z None)

chosen_some : (k : Kind) (rs : List Rule) → among k (heads rs) ≡ true → (β : List Symbol) × (chosen k rs ≡ Some β)
chosen_some k [] e = opposed (sym e)
chosen_some k (r ∷ rs) e = go (is k r.first) e (λ h. chosen_some k rs h)
  where
    go : (b : Bool) → b || among k (heads rs) ≡ true → (among k (heads rs) ≡ true → (β : List Symbol) × (chosen k rs ≡ Some β)) →
        (β : List Symbol) × (cond b (Some r.after) (chosen k rs) ≡ Some β)
    go true e next = (r.after, refl)
    go false e next = next e

-- the tokens begin as the sort does
pub begun_with : (s : Sort) (ks : List Kind) → ((t : Token) → heads (sort_rules s t) ≡ ks) → (ts : List Token) → stands ks ts ≡ true → Begins s ts
begun_with s ks h [] e = opposed (sym e)
begun_with s ks h (t ∷ ts) e = begins (chosen_some t.kind (sort_rules s t) (ap (among t.kind) (h t) ∙ e)).1

-- behind an opening bracket, where the closing one does not follow
pub inside : (k : Bracket) (o : Token) (α : List Symbol) (z : Stack) (ts : List Token) → stands (closing k ∷ []) ts ≡ false →
    run (part (rest k o) ∷ α) z ts ≡ run (expect (contents k) ∷ make (undered o) ∷ token (closing k) dropped ∷ α) z ts
inside k o α z [] e = refl
inside k o α z (t ∷ ts) e =
    ap (λ (x : Bool). onward (begun (cond x (Some (make (pushed o) ∷ [])) (chosen t.kind (behind γ (sort_rules (contents k) t)))) α z None) t ts)
    (or_parts (is t.kind (closing k)) false e).0
    ∙ ap (λ (o : Option State). onward o t ts) (begun_behind t.kind γ (sort_rules (contents k) t) α z None)
  where
    γ : List Symbol
    γ = make (undered o) ∷ token (closing k) dropped ∷ []

-- Refusals. What is refused further on is refused as a whole.
pub fails_on : {α δ : List Symbol} {c c₁ c₂ : Parser} {ss : List Slot} {p r : ℕ} (γ : List Symbol) →
    Refused δ c₁ c₂ → Stand α c (δ ++ γ) ss c₁ p r → Refused α c c₂
fails_on {δ = δ} {c₁ = c₁} {c₂ = c₂} γ h s = record {
  stops = λ β z. s.reads β z ∙ ap (λ (l : List Symbol). run l (s.trees ++ z) (ahead c₁)) (append_assoc δ γ β) ∙ h.stops (γ ++ β) (s.trees ++ z);
  same = same_on h.same s.same;
}

pub fails : {α γ : List Symbol} {x : Symbol} {c c₁ c₂ : Parser} {ss : List Slot} {p r : ℕ} →
    Refused (x ∷ []) c₁ c₂ → Stand α c (x ∷ γ) ss c₁ p r → Refused α c c₂
fails {γ = γ} h s = fails_on γ h s

-- it stops here
halts : {α γ : List Symbol} {c c₁ c₂ : Parser} {ss : List Slot} {p r : ℕ} → c₂ ≡ c₁ →
    ((β : List Symbol) (z : Stack) → run (γ ++ β) z (ahead c₁) ≡ refuse (ahead c₁)) → Stand α c γ ss c₁ p r → Refused α c c₂
halts {α} {c = c} e h s =
    subst (λ x. Refused α c x) (sym e) (record { stops = λ β z. s.reads β z ∙ h β (s.trees ++ z); same = s.same })

-- no token of the kind that is expected
pub lacks : {α γ : List Symbol} {k : Kind} {g : Token → Stack → Stack} {c c₁ c₂ : Parser} {ss : List Slot} {p r : ℕ} →
    (c₂ ≡ c₁) × (stands (k ∷ []) (ahead c₁) ≡ false) → Stand α c (token k g ∷ γ) ss c₁ p r → Refused α c c₂
lacks {γ = γ} {k} {g} {c₁ = c₁} (e, none) s = halts e (λ β z. no_token k g (γ ++ β) z (ahead c₁) none) s

-- nothing that the part may begin with
pub nowhere : {α γ : List Symbol} {c c₁ c₂ : Parser} {ss : List Slot} {p r : ℕ} (m : Part) (ks : List Kind) →
    ((t : Token) → heads (rules m t) ≡ ks) → optional m ≡ false → (c₂ ≡ c₁) × (stands ks (ahead c₁) ≡ false) →
    Stand α c (part m ∷ γ) ss c₁ p r → Refused α c c₂
nowhere {γ = γ} {c₁ = c₁} m ks h o (e, none) s = halts e (λ β z. missing m ks h o (γ ++ β) z (ahead c₁) none) s

-- what a `?` hands on
pub broke : (α γ : List Symbol) (c c' : Parser) (r : Result ℕ SyntaxCause) (f : SyntaxCause) →
    IsErrAnd r (λ y. y ≡ f) → Refused α c c' → Upto α γ c r c'
broke α γ c c' (Ok i) f e h = absurd e
broke α γ c c' (Err g) f e h = h

-- a tail is not there
pub gone : {α γ : List Symbol} {c c₁ : Parser} {ss : List Slot} {p r : ℕ} {c₂ : Parser} (m : Tail) (ks : List Kind) →
    ((t : Token) → heads (tail_rules m t) ≡ ks) → may_lack m ≡ true → (c₂ ≡ c₁) × (stands ks (ahead c₁) ≡ false) →
    Stand α c (further m ∷ γ) ss c₁ p r → Stand α c γ ss c₂ p r
gone {γ = γ} {c₁ = c₁} m ks h o (c≡, none) s = skip c≡ (by γ (λ β z. without m ks h o (γ ++ β) z (ahead c₁) none) s)

-- where none of the other rules begins, the tokens are read by these
pub lefted : {α γ : List Symbol} {c c₁ : Parser} {ss : List Slot} {p r : ℕ} {c₂ : Parser} (s s' : Sort) (ps : Token → List Rule) (ks : List Kind) →
    ((t : Token) → sort_rules s' t ≡ sort_rules s t ++ ps t) → ((t : Token) → heads (ps t) ≡ ks) → (c₂ ≡ c₁) × (stands ks (ahead c₁) ≡ false) →
    Stand α c (expect s' ∷ γ) ss c₁ p r → Stand α c (expect s ∷ γ) ss c₂ p r
lefted {γ = γ} {c₁ = c₁} s s' ps ks r h (c≡, none) a = skip c≡ (by (expect s ∷ γ) (λ β z. only_left s s' ps ks r h (γ ++ β) z (ahead c₁) none) a)

-- of several kinds none stands there
pub neither : {c c₁ c₂ : Parser} (js ks : List Kind) → (c₁ ≡ c) × (stands js (ahead c) ≡ false) → (c₂ ≡ c₁) × (stands ks (ahead c₁) ≡ false) →
    (c₂ ≡ c) × (stands (js ++ ks) (ahead c) ≡ false)
neither {c} js ks (a≡, a) (b≡, b) = (b≡ ∙ a≡, lacks_both js ks (ahead c) a (ap (λ x. stands ks (ahead x)) (sym a≡) ∙ b))

pub none_of : {c c₁ : Parser} (js ks : List Kind) → All (λ j. among j js ≡ true) ks → (c₁ ≡ c) × (stands js (ahead c) ≡ false) → (c₁ ≡ c) × (stands ks (ahead c) ≡ false)
none_of {c} js ks a (c≡, e) = (c≡, lacks_fewer js ks (ahead c) a e)

-- the last of the kinds that a part may begin with is not there, nor were the others
pub nor : {α γ : List Symbol} {c c₁ c₂ c₃ : Parser} {ss : List Slot} {p r : ℕ} (m : Part) (js ks hs : List Kind) →
    ((t : Token) → heads (rules m t) ≡ hs) → All (λ j. among j (js ++ ks) ≡ true) hs → optional m ≡ false → (c₂ ≡ c₁) × (stands js (ahead c₁) ≡ false) →
    (c₃ ≡ c₂) × (stands ks (ahead c₂) ≡ false) → Stand α c (part m ∷ γ) ss c₁ p r → Refused α c c₃
nor m js ks hs h a o x y s = nowhere m hs h o (none_of (js ++ ks) hs a (neither js ks x y)) s

-- behind an opening bracket
pub at_once : {α γ : List Symbol} {c c₁ : Parser} {ss : List Slot} {p r : ℕ} {t : Placed Lexeme} {c₂ : Parser} {o : Token} (k : Bracket) →
    Took (closing k ∷ []) c₁ t c₂ → Stand α c (part (rest k o) ∷ γ) ss c₁ p r → Stand α c γ (bare o ∷ ss) c₂ (suc p) (suc r)
at_once {o = o} k x s = made_leaf (took (rest k o) (λ j u. make (pushed o) ∷ []) (λ u. (first k u, tt)) x s)
  where
    first : (k : Bracket) (u : Token) → chosen (closing k) (rules (rest k o) u) ≡ Some (make (pushed o) ∷ [])
    first braces u = refl
    first formal_parens u = refl
    first actual_parens u = refl

pub entered : {α γ : List Symbol} {c c₁ : Parser} {ss : List Slot} {p r : ℕ} {c₂ : Parser} {o : Token} (k : Bracket) →
    (c₂ ≡ c₁) × (stands (closing k ∷ []) (ahead c₁) ≡ false) → Stand α c (part (rest k o) ∷ γ) ss c₁ p r →
    Stand α c (expect (contents k) ∷ make (undered o) ∷ token (closing k) dropped ∷ γ) ss c₂ p r
entered {γ = γ} {c₁ = c₁} {o = o} k (c≡, none) s =
    skip c≡ (by (expect (contents k) ∷ make (undered o) ∷ token (closing k) dropped ∷ γ) (λ β z. inside k o (γ ++ β) z (ahead c₁) none) s)

-- Over a loop: what was read before it goes on to what it has read.
pub record Kept (γ : List Symbol) (i : ℕ) (c : Parser) (j : ℕ) (c' : Parser) : Type 0 where
  pub goes : (α : List Symbol) (c₀ : Parser) (ss : List Slot) (p r : ℕ) → Stand α c₀ γ (at i ∷ ss) c p r → Stand α c₀ γ (at j ∷ ss) c' p r
  pub fewer : length (ahead c') ≤ length (ahead c)

less : {α γ : List Symbol} {c c₁ : Parser} {ss : List Slot} {p r : ℕ} (q s : ℕ) → q ≤ p → s ≤ r →
    Stand α c γ ss c₁ p r → Stand α c γ ss c₁ q s
less q s a b h = record {
  trees = h.trees;
  reads = h.reads;
  held = h.held;
  more = h.more;
  grew = h.grew;
  fewer = omega (arith, h.fewer);
  spent = omega (arith, h.spent);
  same = h.same;
}

-- a turn that joins what it reads
pub turned : {γ : List Symbol} {i j k m : ℕ} {c c₁ c₂ c₃ : Parser} {p r : ℕ} {t : Placed Lexeme} →
    Added c₂ (Join t j m) k c₃ → Stand γ c₁ (make (joined (token_in (source_of c₁) t)) ∷ γ) (at m ∷ []) c₂ (suc p) r → Kept γ i c j c₁ →
    Kept γ i c k c₃
turned {γ} {i} {j} {k} {m} {c} {c₁} {c₂} {c₃} {p} {r} {t} b u h = record {
  goes = λ α c₀ ss q s a.
      let a₁ = h.goes α c₀ ss q s a in
      put_join b
      (subst (λ x. Stand α c₀ (make (joined (token_in x t)) ∷ γ) (at m ∷ at j ∷ ss) c₂ (suc q) s) a₁.same.source (less (suc q) s (omega arith) (omega arith) (then u a₁)));
  fewer = omega (arith, h.fewer, u.fewer, ap length b.still);
}
