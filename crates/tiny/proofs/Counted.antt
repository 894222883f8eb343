-- Counting tokens one after the other.
use Rattle.std.proofs.Common.{◌≡◌, ℕ, zero, suc, ◌+◌, ◌<◌, ◌≤◌, Bool, true, false, List, [], length, ℤ, Some, None, Ok, Err, Option, Result, is_some, ◌-◌, sym, refl, ap, ◌∙◌, subst, ap₂, arith}
use Rattle.std.proofs.lemmas.Bool.{lt-ltb, le-ltb, true≢false, false≢true}
use Rattle.tiny.specs.declared.faults.ScanCause.TheVariants.{TooLarge, TooLong, TooMany}
use Rattle.tiny.specs.Token.{Token}
use Rattle.tiny.specs.declared.states.Stretch.{Stretch}
use Rattle.tiny.specs.declared.tokens.Lexeme.{Lexeme}
use Rattle.tiny.specs.declared.placed.Placed.{Placed}
use Rattle.tiny.specs.declared.faults.ScanCause.{ScanCause}
use Rattle.tiny.specs.Scan.{lexed, EndsWithin, Scanned, with_token, token, token_in, valued, scan_from, scan, counted, handed, handing, next_token, Takes, Counts, Moves, left_of}
use Rattle.tiny.specs.Scan.Scanned.{tokens, refused}
use Rattle.tiny.proofs.Lexed.{lexed_end, lexed_ends}

abbrev pub plus : ℕ → Result ℕ (Placed ScanCause) → Result ℕ (Placed ScanCause)
plus n (Ok m) = Ok (n + m)
plus n (Err e) = Err e

abbrev pub no_room : Result (Option Stretch) (Placed ScanCause) → Scanned
no_room r = elim r [
  | Ok o ↦ elim o [ Some t ↦ refused TooMany t.place | None ↦ tokens [] ]
  | Err f ↦ refused f.what f.place
]

abbrev pub some_room : ℕ → List ℕ → Result (Option Stretch) (Placed ScanCause) → Scanned
some_room room source r = elim r [
  | Ok o ↦ elim o [ Some t ↦ valued source t t.value (scan_from room source t.end) | None ↦ tokens [] ]
  | Err f ↦ refused f.what f.place
]

pub scan_none : (source : List ℕ) (at : ℕ) → scan_from 0 source at ≡ no_room (lexed source at)
unfolding scan_from
scan_none source at = refl

pub scan_some : (room : ℕ) (source : List ℕ) (at : ℕ) → scan_from (suc room) source at ≡ some_room room source (lexed source at)
unfolding scan_from
scan_some room source at = refl

module _ (room : ℕ) (source : List ℕ) (at : ℕ) where
  pub scan_ends : lexed source at ≡ Ok None → scan_from room source at ≡ tokens []
  scan_ends e = go room
    where
      go : (m : ℕ) → scan_from m source at ≡ tokens []
      go zero = scan_none source at ∙ ap no_room e
      go (suc m) = scan_some m source at ∙ ap (some_room m source) e

  pub scan_bad : (f : Placed ScanCause) → lexed source at ≡ Err f → scan_from room source at ≡ refused f.what f.place
  scan_bad f e = go room
    where
      go : (m : ℕ) → scan_from m source at ≡ refused f.what f.place
      go zero = scan_none source at ∙ ap no_room e
      go (suc m) = scan_some m source at ∙ ap (some_room m source) e

  module _ (t : Stretch) (e : lexed source at ≡ Ok (Some t)) where
    pub scan_full : room ≡ 0 → scan_from room source at ≡ refused TooMany t.place
    scan_full z = ap (λ (m : ℕ). scan_from m source at) z ∙ scan_none source at ∙ ap no_room e

    pub scan_out : (m : ℕ) → room ≡ suc m → t.value ≡ None → scan_from room source at ≡ refused TooLarge t.place
    scan_out m z v = ap (λ (m : ℕ). scan_from m source at) z ∙ scan_some m source at ∙ ap (some_room m source) e ∙ ap (λ (o : Option ℤ). valued source t o (scan_from m source t.end)) v

    pub scan_on : (m : ℕ) (v : ℤ) → room ≡ suc m → t.value ≡ Some v → scan_from room source at ≡ with_token (token source t.place t.end t.kind v) (scan_from m source t.end)
    scan_on m v z v≡ = ap (λ (m : ℕ). scan_from m source at) z ∙ scan_some m source at ∙ ap (some_room m source) e ∙ ap (λ (o : Option ℤ). valued source t o (scan_from m source t.end)) v≡

pub plus_token : (n : ℕ) (t : Token) (s : Scanned) → plus n (counted (with_token t s)) ≡ plus (n + 1) (counted s)
plus_token n t (tokens ts) = ap Ok (omega arith)
plus_token n t (refused c p) = refl

pub plus_none : (r : Result ℕ (Placed ScanCause)) → r ≡ plus 0 r
plus_none (Ok m) = ap Ok (omega arith)
plus_none (Err e) = refl

abbrev fits : Bool → List ℕ → Scanned
fits b source = elim b [ true ↦ refused TooLong 16384 | false ↦ scan_from 2048 source 0 ]

pub scan_long : (source : List ℕ) → 16384 < length source → scan source ≡ refused TooLong 16384
unfolding scan
scan_long source h = ap (λ (b : Bool). fits b source) (lt-ltb 16384 (length source) h)

pub scan_short : (source : List ℕ) → length source ≤ 16384 → scan source ≡ scan_from 2048 source 0
unfolding scan
scan_short source h = ap (λ (b : Bool). fits b source) (le-ltb 16384 (length source) h)

-- one call of the scanner counts one more token, until there is none
pub counts_on : (source : List ℕ) (n n' : ℕ) (before after : Scanned) (o : Option (Placed Lexeme)) → is_some o ≡ true → Takes source before (Ok o) after → Counts n (Ok o) n' →
    (n' ≡ suc n) × (plus n (counted before) ≡ plus n' (counted after))
counts_on source n n' before after None h e c = absurd (false≢true h)
counts_on source n n' before after (Some t) h e c = (c, ap (λ (s : Scanned). plus n (counted s)) e ∙ plus_token n (token_in source t) after ∙ ap (λ (m : ℕ). plus m (counted after)) (omega arith))

-- a literal outside int is handed out as a fault
pub hands_out : (room : ℕ) (source : List ℕ) (at : ℕ) (t : Stretch) → lexed source at ≡ Ok (Some t) → (m : ℕ) → room ≡ suc m → t.value ≡ None →
    Err (record { what = TooLarge; place = t.place }) ≡ next_token room source at
hands_out room source at t e m z v = ap (handed (suc m) t) (sym v) ∙ ap (λ (m : ℕ). handed m t t.value) (sym z) ∙ ap (handing room) (sym e)

-- what one call of the scanner takes from what is left
module _ (read at read' at' : ℕ) (source : List ℕ) (few : read ≤ 2048) where
  abbrev Taken : Result (Option (Placed Lexeme)) (Placed ScanCause) → Type 0
  Taken r = Counts read r read' → Moves at r (length source) at' → Takes source (left_of read source at) r (left_of read' source at')

  stays : read' ≡ read → at' ≡ at → left_of read' source at' ≡ left_of read source at
  stays r≡ a≡ = ap₂ (λ (r a : ℕ). left_of r source a) r≡ a≡

  taken : (room : ℕ) → 2048 - read ≡ room → (l : Result (Option Stretch) (Placed ScanCause)) → lexed source at ≡ l → Taken (handing room l)
  taken room z (Ok None) e r≡ a≡ =
      let at_end : lexed source at' ≡ Ok None = ap (lexed source) a≡ ∙ sym (lexed_end source (length source) _ refl (omega arith)) in
      (scan_ends (2048 - read) source at e, scan_ends (2048 - read') source at' at_end)
  taken room z (Err f) e r≡ a≡ = (scan_bad (2048 - read) source at f e, stays r≡ a≡)
  taken zero z (Ok (Some t)) e r≡ a≡ = (scan_full (2048 - read) source at t e z, stays r≡ a≡)
  taken (suc m) z (Ok (Some t)) e r≡ a≡ = by t.value refl r≡ a≡
    where
      by : (o : Option ℤ) → t.value ≡ o → Taken (handed (suc m) t o)
      by None v≡ r≡ a≡ = (scan_out (2048 - read) source at t e m z v≡, stays r≡ a≡)
      by (Some v) v≡ r≡ a≡ =
          scan_on (2048 - read) source at t e m v z v≡
          ∙ ap (with_token (token source t.place t.end t.kind v)) (ap₂ (λ (m a : ℕ). scan_from m source a) (let h : m ≡ 2048 - read' = omega arith in h) (sym a≡))

  pub takes : (r : Result (Option (Placed Lexeme)) (Placed ScanCause)) → r ≡ next_token (2048 - read) source at → Taken r
  takes r e = subst Taken (sym e) (taken (2048 - read) refl (lexed source at) refl)

-- a token ends within the source, and there was room for it
pub next_within : (room : ℕ) (source : List ℕ) (at : ℕ) (t : Placed Lexeme) → at ≤ length source → next_token room source at ≡ Ok (Some t) → (t.what.end ≤ length source) × (0 < room)
next_within room source at t w e = go room (lexed source at) (lexed_ends source at w) e
  where
    go : (room : ℕ) (l : Result (Option Stretch) (Placed ScanCause)) → EndsWithin (length source) l → handing room l ≡ Ok (Some t) → (t.what.end ≤ length source) × (0 < room)
    go room (Ok None) h e = cc
    go room (Err f) h e = cc
    go zero (Ok (Some u)) h e = cc
    go (suc m) (Ok (Some u)) h e = by u.value e
      where
        by : (o : Option ℤ) → handed (suc m) u o ≡ Ok (Some t) → (t.what.end ≤ length source) × (0 < suc m)
        by None e = cc
        by (Some v) e =
            let is : record { what = record { kind = u.kind; end = u.end; value = v }; place = u.place } ≡ t = cc in
            let f : u.end ≡ t.what.end = ap (λ (x : Placed Lexeme). x.what.end) is in
            (omega arith, omega arith)

-- the loop that counts: what it has counted, and what is left
module _ (source : List ℕ) (n : ℕ) (before : Scanned) (short : length source ≤ 16384) (inv : counted (scan_from 2048 source 0) ≡ plus n (counted before)) where
  whole : counted (scan source) ≡ plus n (counted before)
  whole = ap counted (scan_short source short) ∙ inv

  pub count_ends : (from : List ℕ) (n' : ℕ) (after : Scanned) (o : Option (Placed Lexeme)) → is_some o ≡ false → Takes from before (Ok o) after → Counts n (Ok o) n' → Ok n' ≡ counted (scan source)
  count_ends from n' after (Some t) h e c = absurd (true≢false h)
  count_ends from n' after None h e c = sym (whole ∙ ap (λ (s : Scanned). plus n (counted s)) e.0 ∙ ap Ok (omega arith))

  pub count_breaks : (from : List ℕ) (after : Scanned) (f : Placed ScanCause) → Takes from before (Err f) after → Err f ≡ counted (scan source)
  count_breaks from after f e = sym (whole ∙ ap (λ (s : Scanned). plus n (counted s)) e.0)
