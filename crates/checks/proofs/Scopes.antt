-- What the table of names says of the open scopes.
use Rattle.std.proofs.Common.{◌≡◌, ℕ, zero, suc, ◌+◌, ◌-◌, ◌<◌, ◌≤◌, true, false, cond, List, [], ◌∷◌, ◌++◌, length, take, is_err, Some, None, Ok, Err, Result, sym, refl, ap, ◌∙◌, subst, le_of_suc-le-suc, not-suc-le-zero, arith}
use Rattle.tiny.specs.declared.placed.Placed.{Placed}
use Rattle.tiny.specs.declared.tokens.Lexeme.{Lexeme}
use Rattle.tiny.specs.Scan.{token_in}
use Rattle.tiny.specs.Tree.{Name}
use Rattle.nodes.specs.declared.subtree.Subtree.{Subtree}
use Rattle.tables.specs.Items.{item_at}
use Rattle.meaning.specs.Types.{same_name}
use Rattle.meaning.specs.Stages.{Open, has, known, innermost, added}
use Rattle.checks.specs.declared.names.NameRecord.{NameRecord}
use Rattle.checks.specs.declared.names.Names.{Names}
use Rattle.checks.specs.declared.scope.Scope.{Scope}
use Rattle.checks.specs.Names.{held, text_of}
use Rattle.checks.specs.Declares.{listed, most, Inner, Declares, Keeps, Grown, Named, Proceeded, WhenOk}
use Rattle.checks.proofs.Held.{held_some}

-- Answers without a break

pub yes_ok : {X F : Type 0} {r : Result X F} {P : Type 0} → P → WhenOk r P
yes_ok p = record { then = λ x e. p }

pub no_ok : {X F : Type 0} {e : F} {P : Type 0} → WhenOk {X = X} (Err e) P
no_ok = record { then = λ x e. absurd (let z : ◌≡◌ {A = ℕ} 0 1 = cc in omega arith) }

pub not_ok : {X F : Type 0} {P : Type 0} (r : Result X F) → is_err r ≡ true → WhenOk r P
not_ok (Ok y) h = absurd (let z : ◌≡◌ {A = ℕ} 0 1 = cc in omega arith)
not_ok (Err e) h = no_ok

pub with_ok : {X F : Type 0} {r : Result X F} {P Q : Type 0} → WhenOk r P → (P → Q) → WhenOk r Q
with_ok h f = record { then = λ x e. f (h.then x e) }

-- The first names of a table

pub keeps_all : {n : ℕ} {a : Names} → n ≤ length (listed a) → Keeps n a a
keeps_all h = record { text = refl; same = λ i k. refl; within = h; room = refl }

pub keeps_both : {n m : ℕ} {a b c : Names} → Keeps n a b → Keeps m b c → n ≤ m → Keeps n a c
keeps_both {n = n} h k le =
    record { text = k.text ∙ h.text; same = λ i l. k.same i (omega arith) ∙ h.same i l; within = omega (arith, k.within); room = k.room ∙ h.room }

held_same : (source : List ℕ) (ps qs : List NameRecord) (n start k : ℕ) (x : Name) → ((i : ℕ) → i < n → item_at qs i ≡ item_at ps i) → start + k ≤ n →
    held source qs start k x ≡ held source ps start k x
held_same source ps qs n start zero x h le = refl
held_same source ps qs n start (suc k) x h le =
    let e = h (start + k) (omega arith) in
    let r : held source qs start k x ≡ held source ps start k x = held_same source ps qs n start k x h (omega arith) in
    ap (λ o. elim o [ Some r ↦ cond (same_name x (text_of source r)) true (held source qs start k x) | None ↦ false ]) e
    ∙ ap (λ b. elim (item_at ps (start + k)) [ Some r ↦ cond (same_name x (text_of source r)) true b | None ↦ false ]) r

pub inner_kept : {source : List ℕ} {n : ℕ} {a b : Names} {s : Scope} {xs : List Name} →
    Keeps n a b → s.top ≤ n → Inner source a s xs → Inner source b s xs
inner_kept {source = source} {n = n} {a = a} {b = b} {s = s} h q k =
    record { text = h.text ∙ k.text; holds = λ x. k.holds x ∙ sym (held_same source (listed a) (listed b) n s.start (s.top - s.start) x h.same (omega arith)) }

pub declares_kept : {source : List ℕ} {n : ℕ} {a b : Names} {s : Scope} {Δ : Open} →
    Keeps n a b → s.top ≤ n → Declares source a s Δ → Declares source b s Δ
declares_kept {source = source} {n = n} {a = a} {b = b} {s = s} h q k =
    record {
      knows = λ x. k.knows x ∙ sym (held_same source (listed a) (listed b) n 0 s.top x h.same (omega arith));
      inner = inner_kept h q k.inner;
    }

-- One more name

item_front : (xs ys : List NameRecord) (n i : ℕ) → i < n → n ≤ length xs → item_at (take n xs ++ ys) i ≡ item_at xs i
item_front xs ys zero i h k = absurd (omega arith)
item_front [] ys (suc n) i h k = absurd (not-suc-le-zero k)
item_front (x ∷ xs) ys (suc n) zero h k = refl
item_front (x ∷ xs) ys (suc n) (suc i) h k = item_front xs ys n i (le_of_suc-le-suc h) (le_of_suc-le-suc k)

item_top : (xs : List NameRecord) (r : NameRecord) (n : ℕ) → n ≤ length xs → item_at (take n xs ++ (r ∷ [])) n ≡ Some r
item_top xs r zero k = refl
item_top [] r (suc n) k = absurd (not-suc-le-zero k)
item_top (x ∷ xs) r (suc n) k = item_top xs r n (le_of_suc-le-suc k)

top_long : (xs : List NameRecord) (r : NameRecord) (n : ℕ) → n ≤ length xs → length (take n xs ++ (r ∷ [])) ≡ n + 1
top_long xs r zero k = refl
top_long [] r (suc n) k = absurd (not-suc-le-zero k)
top_long (x ∷ xs) r (suc n) k = omega (arith, top_long xs r n (le_of_suc-le-suc k))

-- what is put on top of the first names
pub put_named : (a b : Names) (s u : Scope) (t : Placed Lexeme) → s.top ≤ length (listed a) → b.source.now ≡ a.source.now →
    listed b ≡ take s.top (listed a) ++ (record { place = t.place; end = t.what.end } ∷ []) → most b ≡ most a →
    u.start ≡ s.start → u.top ≡ s.top + 1 → Named a b s u t
put_named a b s u t h m e c p q =
    let r : NameRecord = record { place = t.place; end = t.what.end } in
    let n : length (listed b) ≡ s.top + 1 = ap length e ∙ top_long (listed a) (record { place = t.place; end = t.what.end }) s.top h in
    record {
      keeps = record {
        text = m;
        same = λ i k. ap (λ xs. item_at xs i) e ∙ item_front (listed a) (record { place = t.place; end = t.what.end } ∷ []) s.top i k h;
        within = omega arith;
        room = c;
      };
      start = p;
      next = q;
      put = ap (λ xs. item_at xs s.top) e ∙ item_top (listed a) (record { place = t.place; end = t.what.end }) s.top h;
      long = n;
    }

pub inner_named : {source : List ℕ} {a b : Names} {s u : Scope} {t : Placed Lexeme} {xs : List Name} →
    Named a b s u t → Inner source a s xs → Inner source b u ((token_in source t).text ∷ xs)
inner_named {source = source} {a = a} {b = b} {s = s} {u = u} {t = t} h k =
    record {
      text = h.keeps.text ∙ k.text;
      holds = λ x.
          let m = s.top - s.start in
          let e : u.top - u.start ≡ suc (s.top - s.start) = omega (arith, h.start, h.next) in
          let f : s.start + (s.top - s.start) ≡ s.top = omega arith in
          let old = k.holds x ∙ sym (held_same source (listed a) (listed b) s.top s.start (s.top - s.start) x h.keeps.same (omega arith)) in
          let new = held_some source (listed b) s.start (s.top - s.start) x _ (ap (item_at (listed b)) f ∙ h.put) in
          ap (λ c. cond (same_name x (token_in source t).text) true c) old ∙ sym (ap (λ i. held source (listed b) i (u.top - u.start) x) h.start ∙ ap (λ i. held source (listed b) s.start i x) e ∙ new);
    }

pub declares_named : {source : List ℕ} {a b : Names} {s u : Scope} {t : Placed Lexeme} {Δ : Open} →
    Named a b s u t → Declares source a s Δ → Declares source b u (added (token_in source t).text Δ)
declares_named {source = source} {a = a} {b = b} {s = s} {u = u} {t = t} {Δ = Δ} h k =
    record {
      knows = λ x.
          let e : u.top ≡ suc s.top = omega (arith, h.next) in
          let f : 0 + s.top ≡ s.top = omega arith in
          let old = k.knows x ∙ sym (held_same source (listed a) (listed b) s.top 0 s.top x h.keeps.same (omega arith)) in
          let new = held_some source (listed b) 0 s.top x _ (ap (item_at (listed b)) f ∙ h.put) in
          known_added Δ x (token_in source t).text ∙ ap (λ c. cond (same_name x (token_in source t).text) true c) old ∙ sym (ap (λ i. held source (listed b) 0 i x) e ∙ new);
      inner = let i = inner_named h k.inner in subst (λ xs. Inner source b u xs) (inner_added Δ (token_in source t).text) i;
    }
  where
    known_added : (Δ : Open) (x y : Name) → known (added y Δ) x ≡ cond (same_name x y) true (known Δ x)
    known_added [] x y = elim (same_name x y) as (λ b. cond (cond b true false) true false ≡ cond b true false) [ true ↦ refl | false ↦ refl ]
    known_added (s ∷ Δ) x y =
        elim (same_name x y) as (λ b. cond (cond b true (has s x)) true (known Δ x) ≡ cond b true (cond (has s x) true (known Δ x))) [ true ↦ refl | false ↦ refl ]

    inner_added : (Δ : Open) (y : Name) → y ∷ innermost Δ ≡ innermost (added y Δ)
    inner_added [] y = refl
    inner_added (s ∷ Δ) y = refl

pub grown_named : {a b : Names} {s u : Scope} {t : Placed Lexeme} → Named a b s u t → Grown a b s u
grown_named h = record { keeps = h.keeps; start = h.start; more = omega (arith, h.next); within = omega (arith, h.next, h.long) }

pub grown_both : {a b c : Names} {s u v : Scope} → Grown a b s u → Grown b c u v → Grown a c s v
grown_both h k =
    record {
      keeps = keeps_both h.keeps k.keeps h.more;
      start = k.start ∙ h.start;
      more = omega (arith, h.more, k.more);
      within = k.within;
    }

pub grown_behind : {a b c : Names} {s u : Scope} → Keeps s.top a b → Grown b c s u → Grown a c s u
grown_behind {s = s} h k = record { keeps = keeps_both h k.keeps (omega arith); start = k.start; more = k.more; within = k.within }

-- an empty scope has no names
pub inner_none : (source : List ℕ) (n : Names) (s : Scope) → n.source.now ≡ source → s.top ≡ s.start → Inner source n s []
inner_none source n s t e =
    record { text = t; holds = λ x. let z : s.top - s.start ≡ 0 = omega arith in ap (λ k. held source (listed n) s.start k x) (sym z) }

-- a new scope inside
pub enter : {source : List ℕ} {n : Names} {s : Scope} {Δ : Open} (u : Scope) → u.top ≡ s.top → u.start ≡ s.top →
    Declares source n s Δ → Declares source n u ([] ∷ Δ)
enter {source = source} {n = n} u p q h =
    record { knows = λ x. h.knows x ∙ ap (λ k. held source (listed n) 0 k x) (sym p); inner = inner_none source n u h.inner.text (p ∙ sym q) }

-- a scope under another name
pub declares_at : {source : List ℕ} {n : Names} {s u : Scope} {Δ : Open} → u ≡ s → Declares source n s Δ → Declares source n u Δ
declares_at {source = source} {n = n} {Δ = Δ} e h = subst (λ z. Declares source n z Δ) (sym e) h

pub keeps_at : {n m : ℕ} {a b : Names} → m ≡ n → Keeps m a b → Keeps n a b
keeps_at {a = a} {b = b} e h = subst (λ z. Keeps z a b) e h

pub proceeded_at : {e : Subtree} {a b : Names} {s u : Scope} (v : Scope) → u ≡ v → Proceeded e a b s v → Proceeded e a b s u
proceeded_at {e} {a} {b} {s} v p h = subst (λ z. Proceeded e a b s z) (sym p) h

-- a name under another spelling of its token
pub declares_text : {source : List ℕ} {n : Names} {s : Scope} (Δ : Open) {x y : Name} → x ≡ y → Declares source n s (added x Δ) → Declares source n s (added y Δ)
declares_text {source = source} {n = n} {s = s} Δ e h = subst (λ z. Declares source n s (added z Δ)) e h

pub grown_then : {a b c : Names} {s u : Scope} → Grown a b s u → Keeps u.top b c → Grown a c s u
grown_then h k = record { keeps = keeps_both h.keeps k h.more; start = h.start; more = h.more; within = k.within }

-- no scope is open outside the outermost block
pub outermost : (source : List ℕ) (n : Names) (s : Scope) → n.source.now ≡ source → s.top ≡ 0 → s.start ≡ 0 → Declares source n s []
outermost source n s t p q = record { knows = λ x. ap (λ k. held source (listed n) 0 k x) (sym p); inner = inner_none source n s t (p ∙ sym q) }
