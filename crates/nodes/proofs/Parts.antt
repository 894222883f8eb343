-- What a record says of the tree that it shows: one inversion for each shape of record. And what a
-- table shows it goes on showing as it grows.
use Rattle.std.proofs.Common.{◌≡◌, ℕ, ◌<◌, List, ◌++◌, length, get_or, sym, ap, ◌∙◌, subst, arith, length-append}
use Rattle.std.proofs.lemmas.List.{get_or_append_left}
use Rattle.tiny.specs.declared.tokens.Lexeme.{Lexeme}
use Rattle.tiny.specs.declared.placed.Placed.{Placed}
use Rattle.tiny.specs.Scan.{token_in}
use Rattle.syntax.specs.Shape.{Tree}
use Rattle.syntax.specs.Shape.Tree.{leaf, under, join}
use Rattle.nodes.specs.declared.node.Node.{Node}
use Rattle.nodes.specs.declared.node.Node.TheVariants.{Blank, Leaf, Under, Join}
use Rattle.nodes.specs.Shows.{Shows}
use Rattle.nodes.specs.Shows.Shows.{leaf_at, under_at, join_at}

pub grown : {source : List ℕ} {ns : List Node} (ms : List Node) {i : ℕ} {t : Tree} → Shows source ns i t → Shows source (ns ++ ms) i t
grown {ns = ns} ms (leaf_at h s) = leaf_at (rw length-append (omega arith)) (rw get_or_append_left s)
grown {ns = ns} ms (under_at h s l d) = under_at (rw length-append (omega arith)) (rw get_or_append_left s) l (grown ms d)
grown {ns = ns} ms (join_at h s lm ln sl sr) =
    join_at (rw length-append (omega arith)) (rw get_or_append_left s) lm ln (grown ms sl) (grown ms sr)

pub within : {source : List ℕ} {ns : List Node} {i : ℕ} {t : Tree} → Shows source ns i t → i < length ns
within (leaf_at h _) = h
within (under_at h _ _ _) = h
within (join_at h _ _ _ _ _) = h

pub no_blank : {source : List ℕ} {ns : List Node} {i : ℕ} {t : Tree} → Shows source ns i t → get_or ns i Blank ≡ Blank → ⊥
no_blank (leaf_at h s) e = let z : ◌≡◌ {A = ℕ} 0 1 = cc in omega arith
no_blank (under_at h s _ _) e = let z : ◌≡◌ {A = ℕ} 0 1 = cc in omega arith
no_blank (join_at h s _ _ _ _) e = let z : ◌≡◌ {A = ℕ} 0 1 = cc in omega arith

pub is_leaf : {source : List ℕ} {ns : List Node} {i : ℕ} {t : Tree} (k : Placed Lexeme) → Shows source ns i t → get_or ns i Blank ≡ Leaf k → t ≡ leaf (token_in source k)
is_leaf {source} k (leaf_at {t = j} h s) e = let same : j ≡ k = cc in ap (λ x. leaf (token_in source x)) same
is_leaf k (under_at h s _ _) e = absurd (let z : ◌≡◌ {A = ℕ} 0 1 = cc in omega arith)
is_leaf k (join_at h s _ _ _ _) e = absurd (let z : ◌≡◌ {A = ℕ} 0 1 = cc in omega arith)

-- the part of a node with one
pub record Part (source : List ℕ) (ns : List Node) (i : ℕ) (k : Placed Lexeme) (m : ℕ) (t : Tree) : Type 0 where
  pub part : Tree
  pub whole : t ≡ under (token_in source k) part
  pub before : m < i
  pub shown : Shows source ns m part

pub is_under : {source : List ℕ} {ns : List Node} {i : ℕ} {t : Tree} (k : Placed Lexeme) (m : ℕ) → Shows source ns i t → get_or ns i Blank ≡ Under k m → Part source ns i k m t
is_under k m (leaf_at h s) e = absurd (let z : ◌≡◌ {A = ℕ} 0 1 = cc in omega arith)
is_under {source} {ns} {i} k m (under_at {m = m'} {t = j} {e = p} h s l d) e =
    let same : j ≡ k = cc in
    let at : m' ≡ m = cc in
    record {
      part = p;
      whole = ap (λ x. under (token_in source x) p) same;
      before = subst (λ x. x < i) at l;
      shown = subst (λ x. Shows source ns x p) at d;
    }
is_under k m (join_at h s _ _ _ _) e = absurd (let z : ◌≡◌ {A = ℕ} 0 1 = cc in omega arith)

-- the two parts of a join
pub record Pair (source : List ℕ) (ns : List Node) (i : ℕ) (k : Placed Lexeme) (m n : ℕ) (t : Tree) : Type 0 where
  pub left : Tree
  pub right : Tree
  pub whole : t ≡ join (token_in source k) left right
  pub left_before : m < i
  pub right_before : n < i
  pub left_shown : Shows source ns m left
  pub right_shown : Shows source ns n right

pub is_join : {source : List ℕ} {ns : List Node} {i : ℕ} {t : Tree} (k : Placed Lexeme) (m n : ℕ) → Shows source ns i t → get_or ns i Blank ≡ Join k m n → Pair source ns i k m n t
is_join k m n (leaf_at h s) e = absurd (let z : ◌≡◌ {A = ℕ} 0 1 = cc in omega arith)
is_join k m n (under_at h s _ _) e = absurd (let z : ◌≡◌ {A = ℕ} 0 1 = cc in omega arith)
is_join {source} {ns} {i} k m n (join_at {m = m'} {n = n'} {t = j} {l = l} {r = r} h s lm ln sl sr) e =
    let same : j ≡ k = cc in
    let em : m' ≡ m = cc in
    let en : n' ≡ n = cc in
    record {
      left = l;
      right = r;
      whole = ap (λ x. join (token_in source x) l r) same;
      left_before = subst (λ x. x < i) em lm;
      right_before = subst (λ x. x < i) en ln;
      left_shown = subst (λ x. Shows source ns x l) em sl;
      right_shown = subst (λ x. Shows source ns x r) en sr;
    }

-- a record shows one tree
pub one_tree : {source : List ℕ} {ns : List Node} {i : ℕ} {t u : Tree} → Shows source ns i t → Shows source ns i u → t ≡ u
one_tree (leaf_at {t = k} h s) b = sym (is_leaf k b s)
one_tree {source} (under_at {m = m} {t = k} {e = e} h s l d) b =
    let p = is_under k m b s in
    ap (λ x. under (token_in source k) x) (one_tree d p.shown) ∙ sym p.whole
one_tree {source} (join_at {m = m} {n = n} {t = k} {l = l} {r = r} h s lm ln sl sr) b =
    let p = is_join k m n b s in
    ap (λ x. join (token_in source k) x r) (one_tree sl p.left_shown) ∙ ap (λ x. join (token_in source k) p.left x) (one_tree sr p.right_shown) ∙ sym p.whole
