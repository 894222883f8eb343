-- Where objects lie in the cells: one after another, none on another, with the same contents.
use Rattle.std.proofs.Common.{◌≡◌, ℕ, suc, ◌+◌, ◌<◌, ◌≤◌, List, [], ◌∷◌, ◌++◌, length, get_or, take, drop, set, ℤ, pos, sym, refl, ap, ◌∙◌, subst, arith, length-drop, length-set, drop-drop, take-add}
use native.Mathlib.Decide.{dec_lt, ℕ_discrete}
use Rattle.std.proofs.lemmas.List.{get_or_append_left, get_or_push, length_push, length-append, length-take-le, get_or-set_same, get_or-set_other, get_or-take, get_or-drop, ext_get_or}
use Rattle.meaning.specs.Rule.{Declarations}
use Rattle.meaning.specs.Rule as Rule
use Rattle.meaning.specs.Evaluation.{own_size}
use Rattle.meaning.specs.Objects.{Object, contents}
use Rattle.meaning.specs.Meaning.{variables}

-- the cells of an object
pub record Stretch : Type 0 where
  pub from : ℕ
  pub many : ℕ

abbrev pub Layout : Type 0
Layout = List Stretch

abbrev pub nowhere : Stretch
nowhere = record { from = 0; many = 0 }

abbrev pub start : Layout → ℕ → ℕ
start P o = (get_or P o nowhere).from

abbrev pub size : Layout → ℕ → ℕ
size P o = (get_or P o nowhere).many

-- in order, and below `top`
pub record Apart (P : Layout) (top : ℕ) : Type 0 where
  pub under : (o : ℕ) → o < length P → start P o + size P o ≤ top
  pub order : (o q : ℕ) → o < q → q < length P → start P o + size P o ≤ start P q

-- objects O in cells E
pub record Store (P : Layout) (O : List Object) (E : List ℤ) : Type 0 where
  pub number : length O ≡ length P
  pub sized : (o : ℕ) → o < length P → length (get_or O o []) ≡ size P o
  pub same : (o : ℕ) → o < length P → (i : ℕ) → i < size P o → get_or E (start P o + i) (pos 0) ≡ get_or (get_or O o []) i (pos 0)

pub apart_none : (top : ℕ) → Apart [] top
apart_none top = record { under = λ o h. absurd (no_less o h); order = λ o q l h. absurd (no_less q h) }
  where
    no_less : (o : ℕ) → o < 0 → ⊥
    no_less o h = omega arith

pub apart_more : (P : Layout) (t u : ℕ) → t ≤ u → Apart P t → Apart P u
apart_more P t u h a = record { under = λ o l. omega (arith, a.under o l); order = a.order }

pub store_none : (E : List ℤ) → Store [] [] E
store_none E = record { number = refl; sized = λ o h. absurd (no_less o h); same = λ o h. absurd (no_less o h) }
  where
    no_less : (o : ℕ) → o < 0 → ⊥
    no_less o h = omega arith

-- cells above all objects change
pub store_cells : (P : Layout) (top : ℕ) (O : List Object) (E F : List ℤ) → Apart P top → ((i : ℕ) → i < top → get_or F i (pos 0) ≡ get_or E i (pos 0)) → Store P O E → Store P O F
store_cells P top O E F a f s = record {
  number = s.number;
  sized = s.sized;
  same = λ o h i l. f (start P o + i) (omega (arith, a.under o h)) ∙ s.same o h i l;
}

-- one object changes, with its cells
pub store_change : (P : Layout) (top : ℕ) (O : List Object) (E F : List ℤ) (o : ℕ) (x : Object) → Apart P top → Store P O E → o < length P → length x ≡ size P o →
    ((i : ℕ) → i < size P o → get_or F (start P o + i) (pos 0) ≡ get_or x i (pos 0)) →
    ((i : ℕ) → i < start P o → get_or F i (pos 0) ≡ get_or E i (pos 0)) → ((i : ℕ) → start P o + size P o ≤ i → get_or F i (pos 0) ≡ get_or E i (pos 0)) →
    Store P (set O o x) F
store_change P top O E F o x a s h long inside before behind = record {
  number = length-set O o x ∙ s.number;
  sized = λ q l. sized q l (ℕ_discrete q o);
  same = λ q l i k. same q l i k (ℕ_discrete q o) (dec_lt q o);
}
  where
    h' : o < length O
    h' = omega (arith, s.number)

    here : get_or (set O o x) o [] ≡ x
    here = get_or-set_same O o x [] h'

    sized : (q : ℕ) → q < length P → Dec (q ≡ o) → length (get_or (set O o x) q []) ≡ size P q
    sized q l (yes e) = subst (λ (p : ℕ). length (get_or (set O o x) p []) ≡ size P p) (sym e) (ap (λ (y : Object). length y) here ∙ long)
    sized q l (no n) = ap (λ (y : Object). length y) (get_or-set_other O o q x [] n) ∙ s.sized q l

    same : (q : ℕ) → q < length P → (i : ℕ) → i < size P q → Dec (q ≡ o) → Dec (q < o) → get_or F (start P q + i) (pos 0) ≡ get_or (get_or (set O o x) q []) i (pos 0)
    same q l i k (yes e) d =
        subst (λ (p : ℕ). get_or F (start P p + i) (pos 0) ≡ get_or (get_or (set O o x) p []) i (pos 0)) (sym e)
        (inside i (subst (λ (p : ℕ). i < size P p) e k) ∙ ap (λ (y : Object). get_or y i (pos 0)) (sym here))
    same q l i k (no n) (yes d) = before (start P q + i) (omega (arith, a.order q o d h)) ∙ s.same q l i k ∙ ap (λ (y : Object). get_or y i (pos 0)) (sym (get_or-set_other O o q x [] n))
    same q l i k (no n) (no d) = behind (start P q + i) (omega (arith, a.order o q after l)) ∙ s.same q l i k ∙ ap (λ (y : Object). get_or y i (pos 0)) (sym (get_or-set_other O o q x [] n))
      where
        after : o < q
        after = omega arith

abbrev pub push : Layout → ℕ → ℕ → Layout
push P a n = P ++ (record { from = a; many = n } ∷ [])

module _ (P : Layout) (a n : ℕ) where
  pub push_old : (o : ℕ) → o < length P → get_or (push P a n) o nowhere ≡ get_or P o nowhere
  push_old o h = get_or_append_left P (record { from = a; many = n } ∷ []) nowhere o h

  pub push_new : get_or (push P a n) (length P) nowhere ≡ record { from = a; many = n }
  push_new = get_or_push P (record { from = a; many = n }) nowhere (length P) refl

  pub push_length : length (push P a n) ≡ length P + 1
  push_length = length_push P (record { from = a; many = n })

  pub apart_push : Apart P a → Apart (push P a n) (a + n)
  apart_push p = record { under = λ o h. under o (dec_lt o (length P)) (omega (arith, push_length)); order = λ o q l h. order o q l (dec_lt q (length P)) (omega (arith, push_length)) }
    where
      under : (o : ℕ) → Dec (o < length P) → o < length P + 1 → start (push P a n) o + size (push P a n) o ≤ a + n
      under o (yes h) l = subst (λ (x : Stretch). x.from + x.many ≤ a + n) (sym (push_old o h)) (omega (arith, p.under o h))
      under o (no h) l = subst (λ (k : ℕ). start (push P a n) k + size (push P a n) k ≤ a + n) last (subst (λ (x : Stretch). x.from + x.many ≤ a + n) (sym push_new) (omega arith))
        where
          last : length P ≡ o
          last = omega arith

      order : (o q : ℕ) → o < q → Dec (q < length P) → q < length P + 1 → start (push P a n) o + size (push P a n) o ≤ start (push P a n) q
      order o q l (yes h) k =
          subst (λ (x : Stretch). x.from + x.many ≤ start (push P a n) q) (sym (push_old o (omega arith))) (subst (λ (x : Stretch). start P o + size P o ≤ x.from) (sym (push_old q h)) (p.order o q l h))
      order o q l (no h) k =
          subst (λ (x : Stretch). x.from + x.many ≤ start (push P a n) q) (sym (push_old o (omega arith)))
          (subst (λ (j : ℕ). start P o + size P o ≤ start (push P a n) j) last (subst (λ (x : Stretch). start P o + size P o ≤ x.from) (sym push_new) (p.under o (omega arith))))
        where
          last : length P ≡ q
          last = omega arith

  -- a new object
  pub store_push : (O : List Object) (E : List ℤ) (x : Object) → Store P O E → length x ≡ n → ((i : ℕ) → i < n → get_or E (a + i) (pos 0) ≡ get_or x i (pos 0)) → Store (push P a n) (O ++ (x ∷ [])) E
  store_push O E x s long inside = record {
    number = length_push O x ∙ ap (λ (k : ℕ). k + 1) s.number ∙ sym push_length;
    sized = λ o h. sized o (dec_lt o (length P)) (omega (arith, push_length));
    same = λ o h. same o (dec_lt o (length P)) (omega (arith, push_length));
  }
    where
      old : (o : ℕ) → o < length P → get_or (O ++ (x ∷ [])) o [] ≡ get_or O o []
      old o h = get_or_append_left O (x ∷ []) [] o (omega (arith, s.number))

      newest : get_or (O ++ (x ∷ [])) (length P) [] ≡ x
      newest = get_or_push O x [] (length P) s.number

      sized : (o : ℕ) → Dec (o < length P) → o < length P + 1 → length (get_or (O ++ (x ∷ [])) o []) ≡ size (push P a n) o
      sized o (yes h) l = ap (λ (y : Object). length y) (old o h) ∙ s.sized o h ∙ ap (λ (y : Stretch). y.many) (sym (push_old o h))
      sized o (no h) l = subst (λ (k : ℕ). length (get_or (O ++ (x ∷ [])) k []) ≡ size (push P a n) k) last (ap (λ (y : Object). length y) newest ∙ long ∙ ap (λ (y : Stretch). y.many) (sym push_new))
        where
          last : length P ≡ o
          last = omega arith

      same : (o : ℕ) → Dec (o < length P) → o < length P + 1 → (i : ℕ) → i < size (push P a n) o → get_or E (start (push P a n) o + i) (pos 0) ≡ get_or (get_or (O ++ (x ∷ [])) o []) i (pos 0)
      same o (yes h) l i k =
          ap (λ (y : Stretch). get_or E (y.from + i) (pos 0)) (push_old o h) ∙ s.same o h i (subst (λ (y : Stretch). i < y.many) (push_old o h) k) ∙ ap (λ (y : Object). get_or y i (pos 0)) (sym (old o h))
      same o (no h) l i k = at_last i k
        where
          last : length P ≡ o
          last = omega arith

          at_last : (i : ℕ) → i < size (push P a n) o → get_or E (start (push P a n) o + i) (pos 0) ≡ get_or (get_or (O ++ (x ∷ [])) o []) i (pos 0)
          at_last = subst (λ (j : ℕ). (i : ℕ) → i < size (push P a n) j → get_or E (start (push P a n) j + i) (pos 0) ≡ get_or (get_or (O ++ (x ∷ [])) j []) i (pos 0)) last
              (λ i k. ap (λ (y : Stretch). get_or E (y.from + i) (pos 0)) push_new ∙ inside i (subst (λ (y : Stretch). i < y.many) push_new k) ∙ ap (λ (y : Object). get_or y i (pos 0)) (sym newest))

-- Q has the objects of P, and others behind them
pub record Grown (P Q : Layout) : Type 0 where
  pub longer : length P ≤ length Q
  pub same : (o : ℕ) → o < length P → get_or Q o nowhere ≡ get_or P o nowhere

pub grown_same : (P : Layout) → Grown P P
grown_same P = record { longer = omega arith; same = λ o h. refl }

pub grown_more : (P Q R : Layout) → Grown P Q → Grown Q R → Grown P R
grown_more P Q R a b = record { longer = omega (arith, a.longer, b.longer); same = λ o h. b.same o (omega (arith, a.longer)) ∙ a.same o h }

pub grown_append : (P Q : Layout) → Grown P (P ++ Q)
grown_append P Q = record { longer = omega (arith, length-append P Q); same = λ o h. get_or_append_left P Q nowhere o h }

-- the objects behind those of P go
pub store_cut : (P Q : Layout) (O : List Object) (E : List ℤ) → Grown P Q → Store Q O E → Store P (take (length P) O) E
store_cut P Q O E g s = record {
  number = length-take-le (length P) O (omega (arith, g.longer, s.number));
  sized = λ o h. ap (λ (y : Object). length y) (kept o h) ∙ s.sized o (inside o h) ∙ ap (λ (y : Stretch). y.many) (g.same o h);
  same = λ o h i k. ap (λ (y : Stretch). get_or E (y.from + i) (pos 0)) (sym (g.same o h)) ∙ s.same o (inside o h) i (subst (λ (y : Stretch). i < y.many) (sym (g.same o h)) k) ∙ ap (λ (y : Object). get_or y i (pos 0)) (sym (kept o h));
}
  where
    inside : (o : ℕ) → o < length P → o < length Q
    inside o h = omega (arith, g.longer)

    kept : (o : ℕ) → o < length P → get_or (take (length P) O) o [] ≡ get_or O o []
    kept o h = get_or-take (length P) O o [] h

-- the variables of a block, from a on
abbrev pub layout : Declarations → ℕ → Layout
layout Rule.none a = []
layout (Rule.local n ds) a = record { from = a; many = n } ∷ layout ds (a + n)
layout (Rule.proc fs b ds) a = layout ds a

pub layout_length : (ds : Declarations) (a : ℕ) → length (layout ds a) ≡ variables ds
layout_length Rule.none a = refl
layout_length (Rule.local n ds) a = ap (λ (k : ℕ). suc k) (layout_length ds (a + n))
layout_length (Rule.proc fs b ds) a = layout_length ds a

-- what they hold is what the cells hold
pub flat : (ds : Declarations) (a : ℕ) (O : List Object) (E : List ℤ) → Store (layout ds a) O E → a + own_size ds ≤ length E → contents O ≡ take (own_size ds) (drop a E)
flat Rule.none a [] E s h = refl
flat Rule.none a (x ∷ O) E s h = absurd (never (length O) s.number)
  where
    never : (k : ℕ) → suc k ≡ 0 → ⊥
    never k e = omega arith
flat (Rule.local n ds) a [] E s h = absurd (never (length (layout ds (a + n))) s.number)
  where
    never : (k : ℕ) → 0 ≡ suc k → ⊥
    never k e = omega arith
flat (Rule.local n ds) a (x ∷ O) E s h =
    ap (λ (y : Object). y ++ contents O) first ∙ ap (λ (y : List ℤ). take n (drop a E) ++ y) (flat ds (a + n) O E rest (omega arith) ∙ ap (λ (y : List ℤ). take (own_size ds) y) (sym (drop-drop n a E)))
    ∙ sym (take-add n (own_size ds) (drop a E))
  where
    long : length x ≡ n
    long = s.sized 0 (omega arith)

    first : x ≡ take n (drop a E)
    first = ext_get_or (pos 0) x (take n (drop a E)) (long ∙ sym (length-take-le n (drop a E) (rw (length-drop a E) (omega arith))))
        (λ i l. let k : i < n = subst (λ (y : ℕ). i < y) long l in sym (s.same 0 (omega arith) i k) ∙ sym (get_or-drop a E i (pos 0)) ∙ sym (get_or-take n (drop a E) i (pos 0) k))

    less : (o k : ℕ) → o < k → suc o < suc k
    less o k l = omega arith

    rest : Store (layout ds (a + n)) O E
    rest = record {
      number = down (length O) (length (layout ds (a + n))) s.number;
      sized = λ o l. s.sized (suc o) (less o (length (layout ds (a + n))) l);
      same = λ o l. s.same (suc o) (less o (length (layout ds (a + n))) l);
    }
      where
        down : (j k : ℕ) → suc j ≡ suc k → j ≡ k
        down j k e = omega arith
flat (Rule.proc fs b ds) a O E s h = flat ds a O E s h
