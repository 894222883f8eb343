-- Whether a name is held, by the names in their order.
use Rattle.std.proofs.Common.{◌≡◌, ℕ, zero, suc, ◌+◌, ◌≤◌, ◌<◌, Bool, true, false, cond, List, [], ◌∷◌, ◌++◌, ◌||◌, length, take, drop, Some, None, Option, refl, sym, ap, ◌∙◌, le_of_suc-le-suc, not-suc-le-zero, arith, length-drop}
use Rattle.std.proofs.lemmas.List.{reverse-append}
use mathlib.Core.List.{reverse}
use Rattle.std.specs.List.{list_any}
use Rattle.tiny.specs.Tree.{Name}
use Rattle.meaning.specs.Types.{same_name}
use Rattle.tables.specs.Items.{item_at}
use Rattle.checks.specs.declared.names.NameRecord.{NameRecord}
use Rattle.checks.specs.Names.{text_of, held}

-- what the last name says
abbrev next_held : List ℕ → Name → Bool → Option NameRecord → Bool
next_held source x b o = elim o [ Some r ↦ cond (same_name x (text_of source r)) true b | None ↦ false ]

pub held_some : (source : List ℕ) (rs : List NameRecord) (start k : ℕ) (x : Name) (r : NameRecord) →
    item_at rs (start + k) ≡ Some r → held source rs start (suc k) x ≡ cond (same_name x (text_of source r)) true (held source rs start k x)
held_some source rs start k x r e = ap (next_held source x (held source rs start k x)) e

-- the item behind the first n
record Next (xs : List NameRecord) (n : ℕ) : Type 0 where
  item : NameRecord
  here : item_at xs n ≡ Some item
  more : take (suc n) xs ≡ take n xs ++ (item ∷ [])

next : (xs : List NameRecord) (n : ℕ) → n < length xs → Next xs n
next [] n h = absurd (not-suc-le-zero h)
next (x ∷ xs) zero h = record { item = x; here = refl; more = refl }
next (x ∷ xs) (suc n) h =
    let k = next xs n (le_of_suc-le-suc h) in record { item = k.item; here = k.here; more = ap (λ ys. x ∷ ys) k.more }

dropped : (rs : List NameRecord) (start k : ℕ) → item_at (drop start rs) k ≡ item_at rs (start + k)
dropped rs zero k = let e : 0 + k ≡ k = omega arith in ap (item_at rs) (sym e)
dropped [] (suc start) k = let e : suc start + k ≡ suc (start + k) = omega arith in ap (item_at []) (sym e)
dropped (r ∷ rs) (suc start) k = let e : suc start + k ≡ suc (start + k) = omega arith in dropped rs start k ∙ ap (item_at (r ∷ rs)) (sym e)

-- a search of a stretch of names, the last first
pub held_any : (source : List ℕ) (rs : List NameRecord) (start k : ℕ) (x : Name) → start + k ≤ length rs →
    list_any (λ r. same_name x (text_of source r)) (reverse (take k (drop start rs))) ≡ held source rs start k x
held_any source rs start zero x h = refl
held_any source rs start (suc k) x h =
    let n = next (drop start rs) k (simp length-drop (omega arith)) in
    let test : NameRecord → Bool = λ (r : NameRecord). same_name x (text_of source r) in
    ap (λ ys. list_any test (reverse ys)) n.more
    ∙ ap (list_any test) (reverse-append (take k (drop start rs)) (n.item ∷ []))
    ∙ either (test n.item) (held_any source rs start k x (omega arith))
    ∙ sym (held_some source rs start k x n.item (sym (dropped rs start k) ∙ n.here))
  where
    either : {b c : Bool} (a : Bool) → b ≡ c → a || b ≡ cond a true c
    either true e = refl
    either false e = e
