-- What the scanner has to do with the spelling of tokens.
use Rattle.std.specs.Prelude.{◌≡◌, ℕ, zero, suc, ◌+◌, ◌<◌, ◌≤◌, ◌⊎◌, ◌↔◌, List, [], length, take, drop, ℤ, Some, None}
use Rattle.tiny.specs.declared.faults.ScanCause.TheVariants.{NoToken, TooLarge, TooLong, TooMany}
use Rattle.tiny.specs.declared.tokens.Kind.{Kind}
use Rattle.tiny.specs.Spelling.{Spells, Ignored, meaning}
use Rattle.tiny.specs.Scan.{Scanned, with_token, scan}
use Rattle.tiny.specs.Scan.Scanned.{tokens, refused}

-- the first n bytes are a token, and no more of them are one
abbrev pub Longest : List ℕ → ℕ → Kind → Type 0
Longest bs n k = (n ≤ length bs) × Spells k (take n bs) × ((m : ℕ) (j : Kind) → n < m → m ≤ length bs → Spells j (take m bs) → ⊥)

-- there is a byte, nothing is ignored, and no token begins
abbrev pub Stuck : List ℕ → Type 0
Stuck bs = (0 < length bs) × ((rest : List ℕ) → Ignored bs rest → rest ≡ bs) × ((m : ℕ) (j : Kind) → m ≤ length bs → Spells j (take m bs) → ⊥)

-- From a place on, with room for so many tokens, the source has these tokens, or this is its first break. At one token
-- want of room goes before a literal outside int.
pub data Scans (source : List ℕ) : ℕ → ℕ → Scanned → Type 0 where
  ends : {room at : ℕ} → Ignored (drop at source) [] → Scans source room at (tokens [])
  no_token : {room at : ℕ} (place : ℕ) → place ≤ length source → Ignored (drop at source) (drop place source) → Stuck (drop place source) → Scans source room at (refused NoToken place)
  too_many : {at : ℕ} (place n : ℕ) (k : Kind) → place ≤ length source → Ignored (drop at source) (drop place source) → Longest (drop place source) n k → Scans source zero at (refused TooMany place)
  too_large : {room at : ℕ} (place n : ℕ) (k : Kind) → place ≤ length source → Ignored (drop at source) (drop place source) → Longest (drop place source) n k → meaning k (take n (drop place source)) ≡ None → Scans source (suc room) at (refused TooLarge place)
  reads : {room at : ℕ} (place n : ℕ) (k : Kind) (v : ℤ) (more : Scanned) → place ≤ length source → Ignored (drop at source) (drop place source) → Longest (drop place source) n k → meaning k (take n (drop place source)) ≡ Some v → Scans source room (place + n) more → Scans source (suc room) at (with_token (record { kind = k; place = place; text = take n (drop place source); value = v }) more)

abbrev pub Whole : List ℕ → Scanned → Type 0
Whole source r = ((16384 < length source) × (r ≡ refused TooLong 16384)) ⊎ ((length source ≤ 16384) × Scans source 2048 0 r)

-- the scan of a source is what the spelling of its tokens says, so there is one and no more
abbrev pub ScanIs : Type 0
ScanIs = (source : List ℕ) (r : Scanned) → (scan source ≡ r) ↔ Whole source r

-- a text is a token of at most one kind
abbrev pub OneKind : Type 0
OneKind = (bs : List ℕ) (j k : Kind) → Spells j bs → Spells k bs → j ≡ k
