-- How far a function of the parser has come, step by step, against the parser of the specification.
use Rattle.std.proofs.Common.{◌≡◌, ℕ, suc, ◌+◌, ◌≤◌, Bool, true, false, cond, ◌||◌, List, [], ◌∷◌, ◌++◌, length, Some, None, Option, Ok, Err, Result, sym, refl, ap, ◌∙◌, subst, inl, inr, append_assoc, arith}
use Rattle.std.proofs.lemmas.List.{get_or_push, length_push, append-nil}
use Rattle.tiny.specs.declared.tokens.Kind.{Kind}
use Rattle.tiny.specs.declared.tokens.Lexeme.{Lexeme}
use Rattle.tiny.specs.declared.placed.Placed.{Placed}
use Rattle.tiny.specs.Token.{Token, is}
use Rattle.tiny.specs.Scan.{token_in}
use Rattle.syntax.specs.Shape.{Tree}
use Rattle.syntax.specs.Shape.Tree.{leaf, under, join}
use Rattle.syntax.specs.Grammar.{OneOf}
use Rattle.syntax.specs.Parse.{Part, Tail, Symbol, Stack, further, rules, chosen, optional, begun, fed, run, dropped, pushed, undered, joined, titled, united}
use Rattle.syntax.specs.Parse.Symbol.{token, part, make}
use Rattle.syntax.proofs.Telling.{All, pick, is_same}
use Rattle.syntax.proofs.Steps.{onward, at_own, at_make}
use Rattle.nodes.specs.declared.node.Node.{Node}
use Rattle.nodes.specs.declared.node.Node.TheVariants.{Blank, Leaf, Under, Join}
use Rattle.tables.specs.Items.{items, capacity}
use Rattle.nodes.specs.Shows.{Shows}
use Rattle.nodes.specs.Shows.Shows.{leaf_at, under_at, join_at}
use Rattle.nodes.proofs.Parts.{grown, within}
use Rattle.parser.specs.declared.parser.Parser.{Parser}
use Rattle.parser.specs.Rest.{among}
use Rattle.parser.specs.Ahead.{ahead, source_of, records, Took, Added}
use Rattle.parser.specs.declared.faults.SyntaxCause.{SyntaxCause}
use Rattle.parser.specs.Reading.{Read, Refused, Same, Went, Continues, Reads}
use Rattle.parser.proofs.Scanning.{opposed}

-- A tree that was read: record i shows it, or it has as yet no record for its token, a leaf or over one part.
pub data Slot : Type 0 where
  at : ℕ → Slot
  bare : Token → Slot
  capped : Token → ℕ → Slot

pub data Holds (source : List ℕ) (ns : List Node) : Slot → Tree → Type 0 where
  shown_at : {i : ℕ} {t : Tree} → Shows source ns i t → Holds source ns (at i) t
  bare_leaf : {k : Token} → Holds source ns (bare k) (leaf k)
  cap : {k : Token} {i : ℕ} {t : Tree} → Shows source ns i t → Holds source ns (capped k i) (under k t)

pub data Held (source : List ℕ) (ns : List Node) : List Slot → List Tree → Type 0 where
  none : Held source ns [] []
  and : {s : Slot} {t : Tree} {ss : List Slot} {ts : List Tree} → Holds source ns s t → Held source ns ss ts → Held source ns (s ∷ ss) (t ∷ ts)

one_grown : {source : List ℕ} {ns : List Node} (ms : List Node) {s : Slot} {t : Tree} → Holds source ns s t → Holds source (ns ++ ms) s t
one_grown ms (shown_at h) = shown_at (grown ms h)
one_grown ms bare_leaf = bare_leaf
one_grown ms (cap h) = cap (grown ms h)

pub all_grown : {source : List ℕ} {ns : List Node} (ms : List Node) {ss : List Slot} {ts : List Tree} → Held source ns ss ts → Held source (ns ++ ms) ss ts
all_grown ms none = none
all_grown ms (and h hs) = and (one_grown ms h) (all_grown ms hs)

both : {source : List ℕ} {ns : List Node} {ss qs : List Slot} {ts us : List Tree} → Held source ns ss ts → Held source ns qs us → Held source ns (ss ++ qs) (ts ++ us)
both none k = k
both (and h hs) k = and h (both hs k)

pub same_on : {c c₁ c₂ : Parser} → Same c₁ c₂ → Same c c₁ → Same c c₂
same_on b a = record { source = b.source ∙ a.source; lent = b.lent ∙ a.lent; room = b.room ∙ a.room }

-- From where the parser stood at c it came to c': of the symbols α there are γ left, and the trees of
-- the slots are read. So many records are paid for and not yet made, and so many tokens read.
pub record Stand (α : List Symbol) (c : Parser) (γ : List Symbol) (ss : List Slot) (c' : Parser) (paid read : ℕ) : Type 0 where
  pub trees : List Tree
  pub reads : (β : List Symbol) (z : Stack) → run (α ++ β) z (ahead c) ≡ run (γ ++ β) (trees ++ z) (ahead c')
  pub held : Held (source_of c) (records c') ss trees
  pub more : List Node
  pub grew : records c' ≡ records c ++ more
  pub fewer : length (ahead c') + read ≤ length (ahead c)
  pub spent : length (records c') + length (ahead c') + paid ≤ length (records c) + length (ahead c)
  pub same : Same c c'

pub start : (α : List Symbol) (c : Parser) → Stand α c α [] c 0 0
start α c = record {
  trees = [];
  reads = λ β z. refl;
  held = none;
  more = [];
  grew = sym (append-nil (records c));
  fewer = omega arith;
  spent = omega arith;
  same = record { source = refl; lent = refl; room = refl };
}

-- one way and then another
pub then : {α γ δ : List Symbol} {c c₁ c₂ : Parser} {ss qs : List Slot} {p r q s : ℕ} →
    Stand γ c₁ δ qs c₂ q s → Stand α c γ ss c₁ p r → Stand α c δ (qs ++ ss) c₂ (p + q) (r + s)
then {α} {γ} {δ} {c} {c₁} {c₂} {ss} {qs} b a = record {
  trees = b.trees ++ a.trees;
  reads = λ β z. a.reads β z ∙ b.reads β (a.trees ++ z) ∙ ap (λ (y : Stack). run (δ ++ β) y (ahead c₂)) (sym (append_assoc b.trees a.trees z));
  held = both (subst (λ x. Held x (records c₂) qs b.trees) a.same.source b.held)
      (subst (λ ns. Held (source_of c) ns ss a.trees) (sym b.grew) (all_grown b.more a.held));
  more = a.more ++ b.more;
  grew = b.grew ∙ ap (λ ns. ns ++ b.more) a.grew ∙ append_assoc (records c) a.more b.more;
  fewer = omega (arith, a.fewer, b.fewer);
  spent = omega (arith, a.spent, b.spent);
  same = same_on b.same a.same;
}

-- the same place, with other symbols left and other trees read
seen : {α γ : List Symbol} {c c₁ : Parser} {ss : List Slot} {p r : ℕ} (δ : List Symbol) (qs : List Slot) →
    (s : Stand α c γ ss c₁ p r) → (us : List Tree) → Held (source_of c) (records c₁) qs us →
    ((β : List Symbol) (z : Stack) → run (γ ++ β) (s.trees ++ z) (ahead c₁) ≡ run (δ ++ β) (us ++ z) (ahead c₁)) →
    Stand α c δ qs c₁ p r
seen δ qs s us h e = record {
  trees = us;
  reads = λ β z. s.reads β z ∙ e β z;
  held = h;
  more = s.more;
  grew = s.grew;
  fewer = s.fewer;
  spent = s.spent;
  same = s.same;
}

-- the parser of the specification may also be seen to read other symbols
pub by : {α γ : List Symbol} {c c₁ : Parser} {ss : List Slot} {p r : ℕ} (δ : List Symbol) →
    ((β : List Symbol) (z : Stack) → run (γ ++ β) z (ahead c₁) ≡ run (δ ++ β) z (ahead c₁)) →
    Stand α c γ ss c₁ p r → Stand α c δ ss c₁ p r
by {ss = ss} δ e s = seen δ ss s s.trees s.held (λ β z. e β (s.trees ++ z))

-- what another function read
pub call_on : {α δ ε : List Symbol} {c c₁ c₂ : Parser} {ss : List Slot} {p r i : ℕ} (γ : List Symbol) →
    Read δ ε c₁ i c₂ → Stand α c (δ ++ γ) ss c₁ p r → Stand α c (ε ++ γ) (at i ∷ ss) c₂ p (suc r)
call_on {α} {δ} {ε} {c} {c₁} {c₂} {ss} {i = i} γ b a = record {
  trees = b.tree ∷ a.trees;
  reads = λ β z.
      a.reads β z ∙ ap (λ (l : List Symbol). run l (a.trees ++ z) (ahead c₁)) (append_assoc δ γ β) ∙ b.reads (γ ++ β) (a.trees ++ z)
      ∙ ap (λ (l : List Symbol). run l (b.tree ∷ (a.trees ++ z)) (ahead c₂)) (sym (append_assoc ε γ β));
  held = and (shown_at (subst (λ x. Shows x (records c₂) i b.tree) a.same.source b.shown))
      (subst (λ ns. Held (source_of c) ns ss a.trees) (sym b.grown) (all_grown b.more a.held));
  more = a.more ++ b.more;
  grew = b.grown ∙ ap (λ ns. ns ++ b.more) a.grew ∙ append_assoc (records c) a.more b.more;
  fewer = omega (arith, a.fewer, b.fewer);
  spent = omega (arith, a.spent, b.paid);
  same = same_on b.same a.same;
}

pub call : {α γ : List Symbol} {x : Symbol} {c c₁ c₂ : Parser} {ss : List Slot} {p r i : ℕ} →
    Read (x ∷ []) [] c₁ i c₂ → Stand α c (x ∷ γ) ss c₁ p r → Stand α c γ (at i ∷ ss) c₂ p (suc r)
call {γ = γ} b a = call_on γ b a

-- nothing was taken
pub skip : {α γ : List Symbol} {c c₁ : Parser} {ss : List Slot} {p r : ℕ} {c₂ : Parser} →
    c₂ ≡ c₁ → Stand α c γ ss c₁ p r → Stand α c γ ss c₂ p r
skip {α} {γ} {c} {c₁} {ss} {p} {r} e s = subst (λ x. Stand α c γ ss x p r) (sym e) s

pub one_of : (ks : List Kind) (t : Token) → among t.kind ks ≡ true → OneOf ks t
one_of [] t e = absurd (opposed (sym e))
one_of (k ∷ ks) t e = go (is t.kind k) refl e (λ h. one_of ks t h)
  where
    go : (b : Bool) → is t.kind k ≡ b → b || among t.kind ks ≡ true → (among t.kind ks ≡ true → OneOf ks t) → OneOf (k ∷ ks) t
    go true i e next = inl (is_same _ _ i)
    go false i e next = inr (next e)

-- the first token that is left, seen from the source at the beginning
pub first_left : {α γ : List Symbol} {c c₁ : Parser} {ss : List Slot} {p r : ℕ} {ks : List Kind} {t : Placed Lexeme} {c₂ : Parser} →
    Took ks c₁ t c₂ → Stand α c γ ss c₁ p r → ahead c₁ ≡ token_in (source_of c) t ∷ ahead c₂
first_left {t = t} {c₂ = c₂} k s = k.first ∙ ap (λ x. token_in x t ∷ ahead c₂) s.same.source

-- a token was taken that the parser of the specification takes too
pub taking : {α γ : List Symbol} {c c₁ : Parser} {ss : List Slot} {p r : ℕ} {ks : List Kind} {t : Placed Lexeme} {c₂ : Parser} (δ : List Symbol) (qs : List Slot) →
    Took ks c₁ t c₂ → (s : Stand α c γ ss c₁ p r) →
    (us : List Tree) → Held (source_of c) (records c₁) qs us →
    ((β : List Symbol) (z : Stack) → run (γ ++ β) (s.trees ++ z) (token_in (source_of c) t ∷ ahead c₂) ≡ run (δ ++ β) (us ++ z) (ahead c₂)) →
    Stand α c δ qs c₂ (suc p) (suc r)
taking {γ = γ} {c = c} {c₁ = c₁} {t = t} {c₂ = c₂} δ qs k s us h e =
    let f = first_left k s in
    let kept : records c₂ ≡ records c₁ = ap (λ n. items n.now) k.nodes in
    record {
      trees = us;
      reads = λ β z. s.reads β z ∙ ap (run (γ ++ β) (s.trees ++ z)) f ∙ e β z;
      held = subst (λ ns. Held (source_of c) ns qs us) (sym kept) h;
      more = s.more;
      grew = kept ∙ s.grew;
      fewer = omega (arith, s.fewer, ap length f);
      spent = omega (arith, s.spent, ap length f, ap length kept);
      same = same_on (record { source = k.source; lent = ap (λ n. n.ghost_name) k.nodes; room = ap (λ n. capacity n.now) k.nodes }) s.same;
    }

-- a token that begins a part; what follows may depend on its kind
pub took : {α γ : List Symbol} {c c₁ : Parser} {ss : List Slot} {p r : ℕ} {ks : List Kind} {t : Placed Lexeme} {c₂ : Parser} (m : Part) (δ : Kind → Token → List Symbol) →
    ((o : Token) → All (λ k. chosen k (rules m o) ≡ Some (δ k o)) ks) →
    Took ks c₁ t c₂ → Stand α c (part m ∷ γ) ss c₁ p r →
    Stand α c (δ t.what.kind (token_in (source_of c) t) ++ γ) ss c₂ (suc p) (suc r)
took {γ = γ} {c = c} {c₁ = c₁} {ss = ss} {ks = ks} {t = t} {c₂ = c₂} m δ each k s =
    let o = token_in (source_of c) t in
    taking (δ t.what.kind o ++ γ) ss k s s.trees s.held
    (λ β z. ap (λ (x : Option (List Symbol)). onward (begun x (γ ++ β) (s.trees ++ z) (cond (optional m) (fed (γ ++ β) (s.trees ++ z) o) None)) o (ahead c₂))
    (pick (λ j. chosen j (rules m o) ≡ Some (δ j o)) ks o (one_of ks o k.kind) (each o))
    ∙ ap (λ (l : List Symbol). run l (s.trees ++ z) (ahead c₂)) (sym (append_assoc (δ t.what.kind o) γ β)))

pub one_kind : (k : Kind) (t : Token) → among t.kind (k ∷ []) ≡ true → t.kind ≡ k
one_kind k t e = go (one_of (k ∷ []) t e)
  where
    go : OneOf (k ∷ []) t → t.kind ≡ k
    go (inl i) = i
    go (inr z) = absurd z

-- a token of the kind that is expected
pub passed : {α γ : List Symbol} {c c₁ : Parser} {ss : List Slot} {p r : ℕ} {k : Kind} {t : Placed Lexeme} {c₂ : Parser} →
    Took (k ∷ []) c₁ t c₂ → Stand α c (token k dropped ∷ γ) ss c₁ p r → Stand α c γ ss c₂ (suc p) (suc r)
passed {γ = γ} {c = c} {ss = ss} {k = k} {t = t} {c₂ = c₂} h s =
    taking γ ss h s s.trees s.held (λ β z. at_own k dropped (γ ++ β) (s.trees ++ z) (token_in (source_of c) t) (ahead c₂) (one_kind k (token_in (source_of c) t) h.kind))

pub named : {α γ : List Symbol} {c c₁ : Parser} {ss : List Slot} {p r : ℕ} {k : Kind} {t : Placed Lexeme} {c₂ : Parser} →
    Took (k ∷ []) c₁ t c₂ → Stand α c (token k pushed ∷ γ) ss c₁ p r → Stand α c γ (bare (token_in (source_of c) t) ∷ ss) c₂ (suc p) (suc r)
named {γ = γ} {c = c} {ss = ss} {k = k} {t = t} {c₂ = c₂} h s =
    let o = token_in (source_of c) t in
    taking γ (bare o ∷ ss) h s (leaf o ∷ s.trees) (and bare_leaf s.held) (λ β z. at_own k pushed (γ ++ β) (s.trees ++ z) o (ahead c₂) (one_kind k (token_in (source_of c) t) h.kind))

-- the tree on top, apart
pub record Top (source : List ℕ) (ns : List Node) (s : Slot) (ss : List Slot) (ts : List Tree) : Type 0 where
  pub first : Tree
  pub later : List Tree
  pub is : ts ≡ first ∷ later
  pub it : Holds source ns s first
  pub rest : Held source ns ss later

top_of : {source : List ℕ} {ns : List Node} {s : Slot} {ss : List Slot} {ts : List Tree} → Held source ns (s ∷ ss) ts → Top source ns s ss ts
top_of (and {t = t} {ts = ts} h hs) = record { first = t; later = ts; is = refl; it = h; rest = hs }

shown_of : {source : List ℕ} {ns : List Node} {i : ℕ} {t : Tree} → Holds source ns (at i) t → Shows source ns i t
shown_of (shown_at h) = h

bare_of : {source : List ℕ} {ns : List Node} {k : Token} {t : Tree} → Holds source ns (bare k) t → t ≡ leaf k
bare_of bare_leaf = refl

pub record Capped (source : List ℕ) (ns : List Node) (k : Token) (i : ℕ) (t : Tree) : Type 0 where
  pub part : Tree
  pub whole : t ≡ under k part
  pub shown : Shows source ns i part

capped_of : {source : List ℕ} {ns : List Node} {k : Token} {i : ℕ} {t : Tree} → Holds source ns (capped k i) t → Capped source ns k i t
capped_of (cap {t = t} h) = record { part = t; whole = refl; shown = h }

pub capped_by : {α γ : List Symbol} {c c₁ : Parser} {ss : List Slot} {p r i : ℕ} {k : Kind} {t : Placed Lexeme} {c₂ : Parser} →
    Took (k ∷ []) c₁ t c₂ → Stand α c (token k undered ∷ γ) (at i ∷ ss) c₁ p r →
    Stand α c γ (capped (token_in (source_of c) t) i ∷ ss) c₂ (suc p) (suc r)
capped_by {γ = γ} {c = c} {ss = ss} {i = i} {k = k} {t = t} {c₂ = c₂} h s =
    let o = token_in (source_of c) t in
    let u = top_of s.held in
    taking γ (capped o i ∷ ss) h s (under o u.first ∷ u.later) (and (cap (shown_of u.it)) u.rest)
    (λ β z. at_own k undered (γ ++ β) (s.trees ++ z) o (ahead c₂) (one_kind k (token_in (source_of c) t) h.kind) ∙ ap (λ (y : List Tree). run (γ ++ β) (undered o (y ++ z)) (ahead c₂)) u.is)

-- what is made of the trees that were read
pub making : {α γ : List Symbol} {c c₁ : Parser} {ss : List Slot} {p r : ℕ} (f : Stack → Stack) (qs : List Slot) →
    (s : Stand α c (make f ∷ γ) ss c₁ p r) → (us : List Tree) → Held (source_of c) (records c₁) qs us →
    ((z : Stack) → f (s.trees ++ z) ≡ us ++ z) → Stand α c γ qs c₁ p r
making {γ = γ} {c₁ = c₁} f qs s us h e =
    seen γ qs s us h (λ β z. at_make f (γ ++ β) (s.trees ++ z) (ahead c₁) ∙ ap (λ (y : Stack). run (γ ++ β) y (ahead c₁)) (e z))

pub made_leaf : {α γ : List Symbol} {c c₁ : Parser} {ss : List Slot} {p r : ℕ} {o : Token} →
    Stand α c (make (pushed o) ∷ γ) ss c₁ p r → Stand α c γ (bare o ∷ ss) c₁ p r
made_leaf {ss = ss} {o = o} s = making (pushed o) (bare o ∷ ss) s (leaf o ∷ s.trees) (and bare_leaf s.held) (λ z. refl)

pub made_under : {α γ : List Symbol} {c c₁ : Parser} {ss : List Slot} {p r i : ℕ} {o : Token} →
    Stand α c (make (undered o) ∷ γ) (at i ∷ ss) c₁ p r → Stand α c γ (capped o i ∷ ss) c₁ p r
made_under {ss = ss} {i = i} {o = o} s =
    let u = top_of s.held in
    making (undered o) (capped o i ∷ ss) s (under o u.first ∷ u.later) (and (cap (shown_of u.it)) u.rest) (λ z. ap (λ (y : List Tree). undered o (y ++ z)) u.is)

-- Records are made. What is on top of the slots is then shown.
putting : {α γ δ : List Symbol} {c c₁ c₂ : Parser} {ss qs : List Slot} {p r : ℕ} {x : Node} {k : ℕ} →
    Added c₁ x k c₂ → (s : Stand α c γ ss c₁ (suc p) r) →
    (u : Tree) (us : List Tree) → Shows (source_of c) (records c₁ ++ x ∷ []) (length (records c₁)) u → Held (source_of c) (records c₁) qs us →
    ((β : List Symbol) (z : Stack) → run (γ ++ β) (s.trees ++ z) (ahead c₁) ≡ run (δ ++ β) ((u ∷ us) ++ z) (ahead c₁)) →
    Stand α c δ (at k ∷ qs) c₂ p r
putting {δ = δ} {c = c} {c₁ = c₁} {c₂ = c₂} {qs = qs} {x = x} {k = k} b s u us shown h e =
    let added = b.pushed.added in
    record {
      trees = u ∷ us;
      reads = λ β z. s.reads β z ∙ e β z ∙ ap (run (δ ++ β) ((u ∷ us) ++ z)) (sym b.still);
      held = and (shown_at (subst (λ j. Shows (source_of c) (records c₂) j u) (sym b.pushed.at_end) (subst (λ ns. Shows (source_of c) ns (length (records c₁)) u) (sym added) shown)))
          (subst (λ ns. Held (source_of c) ns qs us) (sym added) (all_grown (x ∷ []) h));
      more = s.more ++ x ∷ [];
      grew = added ∙ ap (λ ns. ns ++ x ∷ []) s.grew ∙ append_assoc (records c) s.more (x ∷ []);
      fewer = omega (arith, s.fewer, ap length b.still);
      spent = omega (arith, s.spent, ap length added, length_push (records c₁) x, ap length b.still);
      same = same_on (record { source = b.source; lent = b.lent; room = b.pushed.kept }) s.same;
    }

new_leaf : (source : List ℕ) (ns : List Node) (t : Placed Lexeme) → Shows source (ns ++ Leaf t ∷ []) (length ns) (leaf (token_in source t))
new_leaf source ns t = leaf_at {i = length ns} (rw length_push (omega arith)) (get_or_push ns (Leaf t) Blank (length ns) refl)

new_under : (source : List ℕ) (ns : List Node) (t : Placed Lexeme) (i : ℕ) {e : Tree} → Shows source ns i e → Shows source (ns ++ Under t i ∷ []) (length ns) (under (token_in source t) e)
new_under source ns t i h = under_at {i = length ns} (rw length_push (omega arith)) (get_or_push ns (Under t i) Blank (length ns) refl) (within h) (grown (Under t i ∷ []) h)

new_join : (source : List ℕ) (ns : List Node) (t : Placed Lexeme) (i j : ℕ) {l r : Tree} → Shows source ns i l → Shows source ns j r →
    Shows source (ns ++ Join t i j ∷ []) (length ns) (join (token_in source t) l r)
new_join source ns t i j a b =
    join_at {i = length ns} (rw length_push (omega arith)) (get_or_push ns (Join t i j) Blank (length ns) refl) (within a) (within b) (grown (Join t i j ∷ []) a) (grown (Join t i j ∷ []) b)

pub put_leaf : {α γ : List Symbol} {c c₁ : Parser} {ss : List Slot} {p r : ℕ} {t : Placed Lexeme} {k : ℕ} {c₂ : Parser} →
    Added c₁ (Leaf t) k c₂ →
    Stand α c γ (bare (token_in (source_of c) t) ∷ ss) c₁ (suc p) r → Stand α c γ (at k ∷ ss) c₂ p r
put_leaf {γ = γ} {c = c} {c₁ = c₁} {t = t} k s =
    let u = top_of s.held in
    putting k s (leaf (token_in (source_of c) t)) u.later (new_leaf (source_of c) (records c₁) t) u.rest
    (λ β z. ap (λ (y : List Tree). run (γ ++ β) (y ++ z) (ahead c₁)) (u.is ∙ ap (λ (x : Tree). x ∷ u.later) (bare_of u.it)))

pub put_under : {α γ : List Symbol} {c c₁ : Parser} {ss : List Slot} {p r i : ℕ} {t : Placed Lexeme} {k : ℕ} {c₂ : Parser} →
    Added c₁ (Under t i) k c₂ →
    Stand α c γ (capped (token_in (source_of c) t) i ∷ ss) c₁ (suc p) r → Stand α c γ (at k ∷ ss) c₂ p r
put_under {γ = γ} {c = c} {c₁ = c₁} {i = i} {t = t} k s =
    let u = top_of s.held in
    let v = capped_of u.it in
    putting k s (under (token_in (source_of c) t) v.part) u.later (new_under (source_of c) (records c₁) t i v.shown) u.rest
    (λ β z. ap (λ (y : List Tree). run (γ ++ β) (y ++ z) (ahead c₁)) (u.is ∙ ap (λ (x : Tree). x ∷ u.later) v.whole))

pub put_join : {α γ : List Symbol} {c c₁ : Parser} {ss : List Slot} {p r i j : ℕ} {t : Placed Lexeme} {k : ℕ} {c₂ : Parser} →
    Added c₁ (Join t i j) k c₂ →
    Stand α c (make (joined (token_in (source_of c) t)) ∷ γ) (at j ∷ at i ∷ ss) c₁ (suc p) r → Stand α c γ (at k ∷ ss) c₂ p r
put_join {γ = γ} {c = c} {c₁ = c₁} {i = i} {j = j} {t = t} k s =
    let u = top_of s.held in
    let v = top_of u.rest in
    let o = token_in (source_of c) t in
    putting k s (join o v.first u.first) v.later (new_join (source_of c) (records c₁) t i j (shown_of v.it) (shown_of u.it)) v.rest
    (λ β z. ap (λ (y : List Tree). run ((make (joined o) ∷ γ) ++ β) (y ++ z) (ahead c₁)) (u.is ∙ ap (λ (x : List Tree). u.first ∷ x) v.is)
    ∙ at_make (joined o) (γ ++ β) (u.first ∷ v.first ∷ (v.later ++ z)) (ahead c₁))

-- a procedure's name over its formals
pub put_title : {α γ : List Symbol} {c c₁ : Parser} {ss : List Slot} {p r i : ℕ} {t : Placed Lexeme} {k : ℕ} {c₂ : Parser} →
    Added c₁ (Under t i) k c₂ →
    Stand α c (make titled ∷ γ) (at i ∷ bare (token_in (source_of c) t) ∷ ss) c₁ (suc p) r → Stand α c γ (at k ∷ ss) c₂ p r
put_title {γ = γ} {c = c} {c₁ = c₁} {i = i} {t = t} k s =
    let u = top_of s.held in
    let v = top_of u.rest in
    let o = token_in (source_of c) t in
    putting k s (under o u.first) v.later (new_under (source_of c) (records c₁) t i (shown_of u.it)) v.rest
    (λ β z. ap (λ (y : List Tree). run ((make titled ∷ γ) ++ β) (y ++ z) (ahead c₁)) (u.is ∙ ap (λ (x : List Tree). u.first ∷ x) (v.is ∙ ap (λ (x : Tree). x ∷ v.later) (bare_of v.it)))
    ∙ at_make titled (γ ++ β) (u.first ∷ leaf o ∷ (v.later ++ z)) (ahead c₁))

-- declarations and the instructions behind them
pub put_united : {α γ : List Symbol} {c c₁ : Parser} {ss : List Slot} {p r i j : ℕ} {t : Placed Lexeme} {k : ℕ} {c₂ : Parser} →
    Added c₁ (Join t i j) k c₂ →
    Stand α c (make united ∷ γ) (at j ∷ capped (token_in (source_of c) t) i ∷ ss) c₁ (suc p) r → Stand α c γ (at k ∷ ss) c₂ p r
put_united {γ = γ} {c = c} {c₁ = c₁} {i = i} {j = j} {t = t} k s =
    let u = top_of s.held in
    let v = top_of u.rest in
    let w = capped_of v.it in
    let o = token_in (source_of c) t in
    putting k s (join o w.part u.first) v.later (new_join (source_of c) (records c₁) t i j w.shown (shown_of u.it)) v.rest
    (λ β z. ap (λ (y : List Tree). run ((make united ∷ γ) ++ β) (y ++ z) (ahead c₁)) (u.is ∙ ap (λ (x : List Tree). u.first ∷ x) (v.is ∙ ap (λ (x : Tree). x ∷ v.later) w.whole))
    ∙ at_make united (γ ++ β) (u.first ∷ under o w.part ∷ (v.later ++ z)) (ahead c₁))

empty : {source : List ℕ} {ns : List Node} {ts : List Tree} → Held source ns [] ts → ts ≡ []
empty none = refl

-- all is read
pub done : {α γ : List Symbol} {c c₁ : Parser} {p r i : ℕ} → Stand α c γ (at i ∷ []) c₁ p (suc r) → Read α γ c i c₁
done {α} {γ} {c} {c₁} s =
    let u = top_of s.held in
    record {
      tree = u.first;
      reads = λ β z. s.reads β z ∙ ap (λ (y : List Tree). run (γ ++ β) (y ++ z) (ahead c₁)) (u.is ∙ ap (λ (y : List Tree). u.first ∷ y) (empty u.rest));
      shown = shown_of u.it;
      more = s.more;
      grown = s.grew;
      fewer = omega (arith, s.fewer);
      paid = omega (arith, s.spent);
      same = s.same;
    }

-- A tail, from where the tree t was read and record j shows it.
abbrev pub from : Tree → Tail → List Symbol
from t m = make (λ z. t ∷ z) ∷ further m ∷ []

pub tailed : (m : Tail) (t : Tree) (j : ℕ) (c : Parser) → Shows (source_of c) (records c) j t → Stand (from t m) c (further m ∷ []) (at j ∷ []) c 0 0
unfolding start
tailed m t j c h = making (λ z. t ∷ z) (at j ∷ []) (start (from t m) c) (t ∷ []) (and (shown_at h) none) (λ z. refl)

pub went : {m : Tail} {t : Tree} {c c₁ : Parser} {p r i : ℕ} → Stand (from t m) c [] (at i ∷ []) c₁ p r → Went m t c i c₁
went {m} {t} {c} {c₁} s =
    let u = top_of s.held in
    record {
      tree = u.first;
      reads = λ β z. sym (at_make (λ y. t ∷ y) (further m ∷ β) z (ahead c)) ∙ s.reads β z ∙ ap (λ (y : List Tree). run β (y ++ z) (ahead c₁)) (u.is ∙ ap (λ (y : List Tree). u.first ∷ y) (empty u.rest));
      shown = shown_of u.it;
      more = s.more;
      grown = s.grew;
      fewer = omega (arith, s.fewer);
      paid = omega (arith, s.spent);
      same = s.same;
    }

-- what another function read of a tail
pub goes_on : {α γ : List Symbol} {m : Tail} {c c₁ c₂ : Parser} {ss : List Slot} {p r i j : ℕ} →
    Continues m j c₁ (Ok i) c₂ → Stand α c (further m ∷ γ) (at j ∷ ss) c₁ p r → Stand α c γ (at i ∷ ss) c₂ p r
goes_on {α} {γ} {m} {c} {c₁} {c₂} {ss} {i = i} {j = j} k s =
    let u = top_of s.held in
    let w = k u.first (subst (λ x. Shows x (records c₁) j u.first) (sym s.same.source) (shown_of u.it)) in
    record {
      trees = w.tree ∷ u.later;
      reads = λ β z. s.reads β z ∙ ap (λ (y : List Tree). run (further m ∷ (γ ++ β)) (y ++ z) (ahead c₁)) u.is ∙ w.reads (γ ++ β) (u.later ++ z);
      held = and (shown_at (subst (λ x. Shows x (records c₂) i w.tree) s.same.source w.shown)) (subst (λ ns. Held (source_of c) ns ss u.later) (sym w.grown) (all_grown w.more u.rest));
      more = s.more ++ w.more;
      grew = w.grown ∙ ap (λ ns. ns ++ w.more) s.grew ∙ append_assoc (records c) s.more w.more;
      fewer = omega (arith, s.fewer, w.fewer);
      spent = omega (arith, s.spent, w.paid);
      same = same_on w.same s.same;
    }

pub halts_on : {α γ : List Symbol} {m : Tail} {c c₁ c₂ : Parser} {ss : List Slot} {p r j : ℕ} (f : SyntaxCause) →
    Continues m j c₁ (Err f) c₂ → Stand α c (further m ∷ γ) (at j ∷ ss) c₁ p r → Refused α c c₂
halts_on {α} {γ} {m} {c} {c₁} {c₂} {j = j} f k s =
    let u = top_of s.held in
    let w = k u.first (subst (λ x. Shows x (records c₁) j u.first) (sym s.same.source) (shown_of u.it)) in
    record {
      stops = λ β z. s.reads β z ∙ ap (λ (y : List Tree). run (further m ∷ (γ ++ β)) (y ++ z) (ahead c₁)) u.is ∙ w.stops (γ ++ β) (u.later ++ z);
      same = same_on w.same s.same;
    }

-- what is read of a tail is the answer
pub handed_on : {α : List Symbol} {m : Tail} {c c₁ : Parser} {p q j : ℕ} (r : Result ℕ SyntaxCause) (c₂ : Parser) →
    Continues m j c₁ r c₂ → Stand α c (further m ∷ []) (at j ∷ []) c₁ p (suc q) → Reads α c r c₂
handed_on (Ok i) c₂ h s = done (goes_on h s)
handed_on (Err f) c₂ h s = halts_on f h s
