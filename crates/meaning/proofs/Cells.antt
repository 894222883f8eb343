-- Cells of the machine beside those of the evaluation: equal but for private cells, whose contents a list records.
use Rattle.std.proofs.Common.{◌≡◌, ℕ, ◌+◌, ◌-◌, ◌^◌, ◌<◌, ◌≤◌, min, ◌≢◌, List, [], ◌∷◌, ◌++◌, length, get_or, take, drop, set, replicate, ℤ, pos, sym, refl, ap, ◌∙◌, subst, arith, length-append, length-drop, length-set, length-take}
use native.Mathlib.Decide.{dec_lt, ℕ_discrete}
use lib.ListN.{length-replicate}
use Rattle.std.proofs.lemmas.List.{get_or_append_left, get_or-append_right, length-take-le, get_or-set_same, get_or-set_other, get_or-take, get_or-drop, ext_get_or}
use Rattle.meaning.specs.Evaluation.{zeroed, moved}

-- a private cell: with the content that the machine has there, or with any
pub data Hidden : Type 0 where
  held : ℕ → ℤ → Hidden
  reserved : ℕ → Hidden

abbrev pub Private : Type 0
Private = List Hidden

abbrev pub where_is : Hidden → ℕ
where_is (held p z) = p
where_is (reserved p) = p

abbrev pub Off : Private → ℕ → Type 0
Off [] a = Unit {0}
Off (x ∷ L) a = (a ≢ where_is x) × Off L a

abbrev pub Under : Private → ℕ → Type 0
Under [] T = Unit {0}
Under (x ∷ L) T = (where_is x < T) × Under L T

abbrev pub Kept : Private → List ℤ → Type 0
Kept [] M = Unit {0}
Kept (held p z ∷ L) M = (get_or M p (pos 0) ≡ z) × Kept L M
Kept (reserved p ∷ L) M = Kept L M

-- no content is recorded of the cell
abbrev pub Clear : Private → ℕ → Type 0
Clear [] a = Unit {0}
Clear (held p z ∷ L) a = (a ≢ p) × Clear L a
Clear (reserved p ∷ L) a = Clear L a

pub off_clear : (L : Private) (a : ℕ) → Off L a → Clear L a
off_clear [] a o = tt
off_clear (held p z ∷ L) a o = (o.0, off_clear L a o.1)
off_clear (reserved p ∷ L) a o = off_clear L a o.1

-- s cells from a on are not private
abbrev pub Free : Private → ℕ → ℕ → Type 0
Free L a s = (i : ℕ) → a ≤ i → i < a + s → Off L i

pub off_above : (L : Private) (T a : ℕ) → Under L T → T ≤ a → Off L a
off_above [] T a u h = tt
off_above (x ∷ L) T a u h = (differ (where_is x) u.0, off_above L T a u.1 h)
  where
    differ : (q : ℕ) → q < T → a ≢ q
    differ q l = omega arith

pub under_more : (L : Private) (T U : ℕ) → T ≤ U → Under L T → Under L U
under_more [] T U h u = tt
under_more (x ∷ L) T U h u = (more (where_is x) u.0, under_more L T U h u.1)
  where
    more : (q : ℕ) → q < T → q < U
    more q l = omega arith

-- what leaves the cells with recorded contents as they are leaves their contents
pub kept_same : (L : Private) (M N : List ℤ) → ((a : ℕ) → (Clear L a → ⊥) → get_or N a (pos 0) ≡ get_or M a (pos 0)) → Kept L M → Kept L N
kept_same [] M N f k = tt
kept_same (held p z ∷ L) M N f k = (f p (λ o. o.0 refl) ∙ k.0, kept_same L M N (λ a o. f a (λ q. o q.1)) k.1)
kept_same (reserved p ∷ L) M N f k = kept_same L M N f k

-- a stretch put in place of another of the same length
module _ (cs : List ℤ) (a : ℕ) (mid : List ℤ) (n : ℕ) (long : length mid ≡ n) (fits : a + n ≤ length cs) where
  front : length (take a cs) ≡ a
  front = length-take-le a cs (omega arith)

  pub patched_length : length (take a cs ++ (mid ++ drop (a + n) cs)) ≡ length cs
  patched_length =
      length-append (take a cs) (mid ++ drop (a + n) cs) ∙ total (length (take a cs)) (length (mid ++ drop (a + n) cs)) (length mid) (length (drop (a + n) cs)) front (length-append mid (drop (a + n) cs)) long (length-drop (a + n) cs)
    where
      total : (x y z u : ℕ) → x ≡ a → y ≡ z + u → z ≡ n → u ≡ length cs - (a + n) → x + y ≡ length cs
      total x y z u p q r s = omega arith

  pub patched_before : (i : ℕ) → i < a → get_or (take a cs ++ (mid ++ drop (a + n) cs)) i (pos 0) ≡ get_or cs i (pos 0)
  patched_before i h = get_or_append_left (take a cs) (mid ++ drop (a + n) cs) (pos 0) i (subst (λ (k : ℕ). i < k) (sym front) h) ∙ get_or-take a cs i (pos 0) h

  pub patched_in : (i : ℕ) → a ≤ i → i < a + n → get_or (take a cs ++ (mid ++ drop (a + n) cs)) i (pos 0) ≡ get_or mid (i - a) (pos 0)
  patched_in i h k =
      get_or-append_right (take a cs) (mid ++ drop (a + n) cs) a i (pos 0) front h ∙ get_or_append_left mid (drop (a + n) cs) (pos 0) (i - a) (rw long (omega arith))

  pub patched_after : (i : ℕ) → a + n ≤ i → get_or (take a cs ++ (mid ++ drop (a + n) cs)) i (pos 0) ≡ get_or cs i (pos 0)
  patched_after i h =
      get_or-append_right (take a cs) (mid ++ drop (a + n) cs) a i (pos 0) front (omega arith)
      ∙ get_or-append_right mid (drop (a + n) cs) n (i - a) (pos 0) long (omega arith)
      ∙ get_or-drop (a + n) cs (i - a - n) (pos 0) ∙ ap (λ (k : ℕ). get_or cs k (pos 0)) back
    where
      back : a + n + (i - a - n) ≡ i
      back = omega arith

-- memory beside memory: o outermost cells, private cells L, open cells below T
pub record Mem (o : ℕ) (L : Private) (T : ℕ) (M E : List ℤ) : Type 0 where
  pub len : length M ≡ length E
  pub small : length E < 2 ^ 31
  pub fits : T ≤ length E
  pub same : (a : ℕ) → a < T → Off L a → get_or M a (pos 0) ≡ get_or E a (pos 0)
  pub under : Under L T
  pub kept : Kept L M
  pub outer : Free L 2 o
  pub reach : 2 + o ≤ T

module _ (o : ℕ) (L : Private) (T : ℕ) (M E : List ℤ) (m : Mem o L T M E) where
  -- the outermost variables are the same
  pub mem_outer : take o (drop 2 M) ≡ take o (drop 2 E)
  mem_outer = ext_get_or (pos 0) (take o (drop 2 M)) (take o (drop 2 E))
      (length-take o (drop 2 M) ∙ ap (λ (k : ℕ). min o k) (length-drop 2 M ∙ ap (λ (k : ℕ). k - 2) m.len ∙ sym (length-drop 2 E)) ∙ sym (length-take o (drop 2 E)))
      (λ i h. let l : i < o = under_o i h in
      get_or-take o (drop 2 M) i (pos 0) l ∙ get_or-drop 2 M i (pos 0) ∙ m.same (2 + i) (inside i l) (m.outer (2 + i) (omega arith) (omega arith))
      ∙ sym (get_or-drop 2 E i (pos 0)) ∙ sym (get_or-take o (drop 2 E) i (pos 0) l))
    where
      under_o : (i : ℕ) → i < length (take o (drop 2 M)) → i < o
      under_o i h = omega (arith, length-take o (drop 2 M))

      inside : (i : ℕ) → i < o → 2 + i < T
      inside i h = omega (arith, m.reach)

  -- the same is stored in both
  pub mem_set : (a : ℕ) (z : ℤ) → a < T → Off L a → Mem o L T (set M a z) (set E a z)
  mem_set a z h f = record {
    len = length-set M a z ∙ m.len ∙ sym (length-set E a z);
    small = rw (length-set E a z) m.small;
    fits = rw (length-set E a z) m.fits;
    same = λ i l g. at i (ℕ_discrete i a) l g;
    under = m.under;
    kept = kept_same L M (set M a z) (λ i g. get_or-set_other M a i z (pos 0) (λ e. g (subst (λ (k : ℕ). Clear L k) (sym e) (off_clear L a f)))) m.kept;
    outer = m.outer;
    reach = m.reach;
  }
    where
      at : (i : ℕ) → Dec (i ≡ a) → i < T → Off L i → get_or (set M a z) i (pos 0) ≡ get_or (set E a z) i (pos 0)
      at i (yes e) l g = rw e (get_or-set_same M a z (pos 0) (omega (arith, m.fits, m.len)) ∙ sym (get_or-set_same E a z (pos 0) (omega (arith, m.fits))))
      at i (no q) l g = get_or-set_other M a i z (pos 0) q ∙ m.same i l g ∙ sym (get_or-set_other E a i z (pos 0) q)

  -- a private cell is written in the machine alone
  pub mem_keep : (a : ℕ) (z : ℤ) → a < T → 2 + o ≤ a → Clear L a → Mem o (held a z ∷ L) T (set M a z) E
  mem_keep a z h up f = record {
    len = length-set M a z ∙ m.len;
    small = m.small;
    fits = m.fits;
    same = λ i l g. get_or-set_other M a i z (pos 0) g.0 ∙ m.same i l g.1;
    under = (h, m.under);
    kept = (get_or-set_same M a z (pos 0) (omega (arith, m.fits, m.len)), kept_same L M (set M a z) (λ i g. get_or-set_other M a i z (pos 0) (λ e. g (subst (λ (k : ℕ). Clear L k) (sym e) f))) m.kept);
    outer = λ i p q. (below i p q, m.outer i p q);
    reach = m.reach;
  }
    where
      below : (i : ℕ) → 2 ≤ i → i < 2 + o → i ≢ a
      below i p q = omega arith

  -- a cell is to be private
  pub mem_reserve : (a : ℕ) → a < T → 2 + o ≤ a → Mem o (reserved a ∷ L) T M E
  mem_reserve a h up = record {
    len = m.len;
    small = m.small;
    fits = m.fits;
    same = λ i l g. m.same i l g.1;
    under = (h, m.under);
    kept = m.kept;
    outer = λ i p q. (below i p q, m.outer i p q);
    reach = m.reach;
  }
    where
      below : (i : ℕ) → 2 ≤ i → i < 2 + o → i ≢ a
      below i p q = omega arith

  -- free cells are cleared in both
  pub mem_zero : (a s : ℕ) → a + s ≤ T → Free L a s → Mem o L T (zeroed M a s) (zeroed E a s)
  mem_zero a s h f = record {
    len = patched_length M a zs s zl inM ∙ m.len ∙ sym (patched_length E a zs s zl inE);
    small = rw (patched_length E a zs s zl inE) m.small;
    fits = rw (patched_length E a zs s zl inE) m.fits;
    same = λ i l g. at i (dec_lt i a) (dec_lt i (a + s)) l g;
    under = m.under;
    kept = kept_same L M (zeroed M a s) (λ i g. out i (dec_lt i a) (dec_lt i (a + s)) g) m.kept;
    outer = m.outer;
    reach = m.reach;
  }
    where
      zs : List ℤ
      zs = replicate s (pos 0)

      zl : length zs ≡ s
      zl = length-replicate s (pos 0)

      inE : a + s ≤ length E
      inE = omega (arith, m.fits)

      inM : a + s ≤ length M
      inM = omega (arith, m.fits, m.len)

      at : (i : ℕ) → Dec (i < a) → Dec (i < a + s) → i < T → Off L i → get_or (zeroed M a s) i (pos 0) ≡ get_or (zeroed E a s) i (pos 0)
      at i (yes p) d l g = patched_before M a zs s zl inM i p ∙ m.same i l g ∙ sym (patched_before E a zs s zl inE i p)
      at i (no p) (yes q) l g = patched_in M a zs s zl inM i (omega arith) q ∙ sym (patched_in E a zs s zl inE i (omega arith) q)
      at i (no p) (no q) l g = patched_after M a zs s zl inM i (omega arith) ∙ m.same i l g ∙ sym (patched_after E a zs s zl inE i (omega arith))

      out : (i : ℕ) → Dec (i < a) → Dec (i < a + s) → (Clear L i → ⊥) → get_or (zeroed M a s) i (pos 0) ≡ get_or M i (pos 0)
      out i (yes p) d g = patched_before M a zs s zl inM i p
      out i (no p) (yes q) g = absurd (g (off_clear L i (f i (omega arith) q)))
      out i (no p) (no q) g = patched_after M a zs s zl inM i (omega arith)

  -- a frame is taken
  pub mem_frame : (s : ℕ) → T + s ≤ length E → Mem o L (T + s) (zeroed M T s) (zeroed E T s)
  mem_frame s h = record {
    len = patched_length M T zs s zl inM ∙ m.len ∙ sym (patched_length E T zs s zl h);
    small = rw (patched_length E T zs s zl h) m.small;
    fits = rw (patched_length E T zs s zl h) h;
    same = λ i l g. at i (dec_lt i T) l g;
    under = under_more L T (T + s) (omega arith) m.under;
    kept = kept_same L M (zeroed M T s) (λ i g. out i (dec_lt i T) g) m.kept;
    outer = m.outer;
    reach = omega (arith, m.reach);
  }
    where
      zs : List ℤ
      zs = replicate s (pos 0)

      zl : length zs ≡ s
      zl = length-replicate s (pos 0)

      inM : T + s ≤ length M
      inM = omega (arith, m.len)

      at : (i : ℕ) → Dec (i < T) → i < T + s → Off L i → get_or (zeroed M T s) i (pos 0) ≡ get_or (zeroed E T s) i (pos 0)
      at i (yes p) l g = patched_before M T zs s zl inM i p ∙ m.same i p g ∙ sym (patched_before E T zs s zl h i p)
      at i (no p) l g = patched_in M T zs s zl inM i (omega arith) l ∙ sym (patched_in E T zs s zl h i (omega arith) l)

      out : (i : ℕ) → Dec (i < T) → (Clear L i → ⊥) → get_or (zeroed M T s) i (pos 0) ≡ get_or M i (pos 0)
      out i (yes p) g = patched_before M T zs s zl inM i p
      out i (no p) g = absurd (g (off_clear L i (off_above L T i m.under (omega arith))))

  -- free cells are copied in both
  pub mem_move : (a b s : ℕ) → a + s ≤ T → b + s ≤ T → Free L a s → Free L b s → Mem o L T (moved M a b s) (moved E a b s)
  mem_move a b s h k f e = record {
    len = patched_length M a zM s lM inM ∙ m.len ∙ sym (patched_length E a zE s lE inE);
    small = rw (patched_length E a zE s lE inE) m.small;
    fits = rw (patched_length E a zE s lE inE) m.fits;
    same = λ i l g. at i (dec_lt i a) (dec_lt i (a + s)) l g;
    under = m.under;
    kept = kept_same L M (moved M a b s) (λ i g. out i (dec_lt i a) (dec_lt i (a + s)) g) m.kept;
    outer = m.outer;
    reach = m.reach;
  }
    where
      zM : List ℤ
      zM = take s (drop b M)

      zE : List ℤ
      zE = take s (drop b E)

      inE : a + s ≤ length E
      inE = omega (arith, m.fits)

      inM : a + s ≤ length M
      inM = omega (arith, m.fits, m.len)

      lM : length zM ≡ s
      lM = length-take-le s (drop b M) (rw (length-drop b M) (omega (arith, m.fits, m.len)))

      lE : length zE ≡ s
      lE = length-take-le s (drop b E) (rw (length-drop b E) (omega (arith, m.fits)))

      from : (j : ℕ) → j < s → get_or zM j (pos 0) ≡ get_or zE j (pos 0)
      from j l = get_or-take s (drop b M) j (pos 0) l ∙ get_or-drop b M j (pos 0) ∙ m.same (b + j) (omega arith) (e (b + j) (omega arith) (omega arith))
          ∙ sym (get_or-drop b E j (pos 0)) ∙ sym (get_or-take s (drop b E) j (pos 0) l)

      at : (i : ℕ) → Dec (i < a) → Dec (i < a + s) → i < T → Off L i → get_or (moved M a b s) i (pos 0) ≡ get_or (moved E a b s) i (pos 0)
      at i (yes p) d l g = patched_before M a zM s lM inM i p ∙ m.same i l g ∙ sym (patched_before E a zE s lE inE i p)
      at i (no p) (yes q) l g = patched_in M a zM s lM inM i (omega arith) q ∙ from (i - a) (omega arith) ∙ sym (patched_in E a zE s lE inE i (omega arith) q)
      at i (no p) (no q) l g = patched_after M a zM s lM inM i (omega arith) ∙ m.same i l g ∙ sym (patched_after E a zE s lE inE i (omega arith))

      out : (i : ℕ) → Dec (i < a) → Dec (i < a + s) → (Clear L i → ⊥) → get_or (moved M a b s) i (pos 0) ≡ get_or M i (pos 0)
      out i (yes p) d g = patched_before M a zM s lM inM i p
      out i (no p) (yes q) g = absurd (g (off_clear L i (f i (omega arith) q)))
      out i (no p) (no q) g = patched_after M a zM s lM inM i (omega arith)

-- L' has the private cells of L, and others from T on
pub record Ext (L : Private) (T : ℕ) (L' : Private) : Type 0 where
  pub off : (a : ℕ) → a < T → Off L a → Off L' a
  pub kept : (M : List ℤ) → Kept L' M → Kept L M

pub ext_refl : (L : Private) (T : ℕ) → Ext L T L
ext_refl L T = record { off = λ a l f. f; kept = λ M k. k }

pub ext_held : (L : Private) (T : ℕ) (L' : Private) (a : ℕ) (z : ℤ) → T ≤ a → Ext L T L' → Ext L T (held a z ∷ L')
ext_held L T L' a z h e = record { off = λ i l f. (differ i l, e.off i l f); kept = λ M k. e.kept M k.1 }
  where
    differ : (i : ℕ) → i < T → i ≢ a
    differ i l = omega arith

pub ext_reserved : (L : Private) (T : ℕ) (L' : Private) (a : ℕ) → T ≤ a → Ext L T L' → Ext L T (reserved a ∷ L')
ext_reserved L T L' a h e = record { off = λ i l f. (differ i l, e.off i l f); kept = λ M k. e.kept M k }
  where
    differ : (i : ℕ) → i < T → i ≢ a
    differ i l = omega arith

-- private cells from T on, and the cells from T on, go
pub mem_back : (o : ℕ) (L : Private) (T : ℕ) (L' : Private) (T' : ℕ) (M E : List ℤ) → Ext L T L' → T ≤ T' → Under L T → Free L 2 o → 2 + o ≤ T → Mem o L' T' M E → Mem o L T M E
mem_back o L T L' T' M E x h u f r m = record {
  len = m.len;
  small = m.small;
  fits = omega (arith, m.fits);
  same = λ i l g. m.same i (omega arith) (x.off i l g);
  under = u;
  kept = x.kept M m.kept;
  outer = f;
  reach = r;
}
