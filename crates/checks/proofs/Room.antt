-- How many names the declarations of a tree open, and that there is room for them.
use Rattle.std.proofs.Common.{◌≡◌, ℕ, suc, ◌+◌, ◌≤◌, Bool, true, false, cond, List, length, refl, ap, ◌∙◌, arith}
use Rattle.tiny.specs.declared.tokens.Lexeme.{Lexeme}
use Rattle.tiny.specs.declared.tokens.Kind.TheVariants.{Name, TypeWord, ProcWord, Semicolon, DoubleAmpersand}
use Rattle.tiny.specs.declared.placed.Placed.{Placed}
use Rattle.tiny.specs.Token.{Token, is}
use Rattle.syntax.specs.Shape.{Tree, size}
use Rattle.syntax.specs.Shape.Tree.{leaf, under, join}
use Rattle.nodes.specs.declared.subtree.Subtree.{Subtree}
use Rattle.nodes.specs.Subtrees.{Shown, TwoParts}
use Rattle.nodes.proofs.KindTests.{is_kind}
use Rattle.checks.specs.declared.names.Names.{Names}
use Rattle.checks.specs.Declares.{listed, most, Fits, Keeps, new_names, behind}

module _ {u : Tree} (t : Token) (e : Tree) (w : u ≡ under t e) where
  tests : (b c d : Bool) → is t.kind DoubleAmpersand ≡ b → is t.kind TypeWord ≡ c → is t.kind Name ≡ d → new_names u ≡ cond b (new_names e) (cond c 1 (cond d 1 0))
  tests b c d f g h =
      ap new_names w
      ∙ ap (λ x. cond x (new_names e) (cond (is t.kind TypeWord) 1 (cond (is t.kind Name) 1 0))) f
      ∙ ap (λ x. cond b (new_names e) (cond x 1 (cond (is t.kind Name) 1 0))) g
      ∙ ap (λ x. cond b (new_names e) (cond c 1 (cond {A = ℕ} x 1 0))) h

  pub new_amp : t.kind ≡ DoubleAmpersand → new_names u ≡ new_names e
  new_amp k = tests true _ _ (is_kind k) refl refl

  pub new_type : t.kind ≡ TypeWord → new_names u ≡ 1
  new_type k = tests false true _ (ap (λ k. is k DoubleAmpersand) k) (is_kind k) refl

  pub new_name : t.kind ≡ Name → new_names u ≡ 1
  new_name k = tests false false true (ap (λ k. is k DoubleAmpersand) k) (ap (λ k. is k TypeWord) k) (is_kind k)

module _ {u : Tree} (t : Token) (l r : Tree) (w : u ≡ join t l r) where
  tests_join : (b c d : Bool) → is t.kind DoubleAmpersand ≡ b → is t.kind Semicolon ≡ c → is t.kind ProcWord ≡ d →
      new_names u ≡ cond b (new_names l) (cond c (new_names l + new_names r) (cond d 1 0))
  tests_join b c d f g h =
      ap new_names w
      ∙ ap (λ x. cond x (new_names l) (cond (is t.kind Semicolon) (new_names l + new_names r) (cond (is t.kind ProcWord) 1 0))) f
      ∙ ap (λ x. cond b (new_names l) (cond x (new_names l + new_names r) (cond (is t.kind ProcWord) 1 0))) g
      ∙ ap (λ x. cond b (new_names l) (cond c (new_names l + new_names r) (cond {A = ℕ} x 1 0))) h

  pub new_amp_join : t.kind ≡ DoubleAmpersand → new_names u ≡ new_names l
  new_amp_join k = tests_join true _ _ (is_kind k) refl refl

  pub new_both : t.kind ≡ Semicolon → new_names u ≡ new_names l + new_names r
  new_both k = tests_join false true _ (ap (λ k. is k DoubleAmpersand) k) (is_kind k) refl

  pub new_proc : t.kind ≡ ProcWord → new_names u ≡ 1
  new_proc k = tests_join false false true (ap (λ k. is k DoubleAmpersand) k) (ap (λ k. is k Semicolon) k) (is_kind k)

-- a tree opens no more names than it has nodes
pub new_less : (t : Tree) → new_names t ≤ size t
new_less (leaf t) = omega arith
new_less (under t e) = under_less (is t.kind DoubleAmpersand) (is t.kind TypeWord) (is t.kind Name) (new_names e) (size e) (new_less e)
  where
    under_less : (b c d : Bool) (m n : ℕ) → m ≤ n → cond b m (cond c 1 (cond d 1 0)) ≤ suc n
    under_less true c d m n h = omega arith
    under_less false true d m n h = omega arith
    under_less false false true m n h = omega arith
    under_less false false false m n h = omega arith
new_less (join t l r) =
    join_less (is t.kind DoubleAmpersand) (is t.kind Semicolon) (is t.kind ProcWord) (new_names l) (new_names r) (size l) (size r) (new_less l) (new_less r)
  where
    join_less : (b c d : Bool) (m k n o : ℕ) → m ≤ n → k ≤ o → cond b m (cond c (m + k) (cond d 1 0)) ≤ suc (n + o)
    join_less true c d m k n o h g = omega arith
    join_less false true d m k n o h g = omega arith
    join_less false false true m k n o h g = omega arith
    join_less false false false m k n o h g = omega arith

-- a tree with two parts
module _ {n : Names} {used : ℕ} {e a b : Subtree} {k : Placed Lexeme} (h : (source : List ℕ) (t : Tree) → Shown source e t → TwoParts source k a b t) where
  -- after the names of the left part
  pub right_fits : {m : Names} (now : ℕ) → now ≤ length (listed m) → most m ≡ most n → ((source : List ℕ) (t : Tree) → Shown source a t → now ≤ used + size t) →
      Fits n used e size → Fits m now b size
  right_fits now w s few r =
      let j = h r.source r.tree r.shown in
      let z : size r.tree ≡ suc (size j.left + size j.right) = ap size j.whole in
      let f = few r.source j.left j.left_shown in
      record { source = r.source; tree = j.right; shown = j.right_shown; within = w; fits = omega (arith, r.fits) }

  pub next_fits : {m : Names} (now : ℕ) → now ≤ length (listed m) → most m ≡ most n → ((source : List ℕ) (t : Tree) → Shown source a t → now ≤ used + new_names t) →
      Fits n used e size → Fits m now b size
  next_fits now w s few r = right_fits now w s (λ source t i. let f = few source t i in let l = new_less t in omega arith) r

-- instructions, where the declarations are open already
module _ {n : Names} {used : ℕ} {e a b : Subtree} (k : Placed Lexeme) (h : (source : List ℕ) (t : Tree) → Shown source e t → TwoParts source k a b t) (r : Fits n used e behind) where
  pub amp_right : k.what.kind ≡ DoubleAmpersand → Fits n used b behind
  amp_right i =
      let j = h r.source r.tree r.shown in
      let z : size r.tree ≡ suc (size j.left + size j.right) = ap size j.whole in
      let y = new_amp_join _ j.left j.right j.whole i in
      let x = new_less j.left in
      record { source = r.source; tree = j.right; shown = j.right_shown; within = r.within; fits = omega (arith, r.fits) }

  pub semi_left : k.what.kind ≡ Semicolon → Fits n used a behind
  semi_left i =
      let j = h r.source r.tree r.shown in
      let z : size r.tree ≡ suc (size j.left + size j.right) = ap size j.whole in
      let y = new_both _ j.left j.right j.whole i in
      let x = new_less j.right in
      record { source = r.source; tree = j.left; shown = j.left_shown; within = r.within; fits = omega (arith, r.fits) }

  pub semi_right : k.what.kind ≡ Semicolon → {m : Names} (now : ℕ) → now ≡ used → Keeps used n m → Fits m now b behind
  semi_right i now s g =
      let j = h r.source r.tree r.shown in
      let z : size r.tree ≡ suc (size j.left + size j.right) = ap size j.whole in
      let y = new_both _ j.left j.right j.whole i in
      let x = new_less j.left in
      record { source = r.source; tree = j.right; shown = j.right_shown; within = omega (arith, g.within); fits = omega (arith, r.fits, g.room) }
