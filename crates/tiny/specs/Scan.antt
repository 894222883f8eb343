-- The next token of a source, and all of them.
use Rattle.std.specs.Prelude.{◌≡◌, ℕ, zero, suc, ◌+◌, ◌-◌, ◌≤◌, true, false, List, [], ◌∷◌, length, take, drop, ℤ, Some, None, Ok, Err, Option, Result, nat_le, nat_lt}
use Rattle.tiny.specs.declared.faults.ScanCause.TheVariants.{TooLong, NoToken, TooLarge, TooMany}
use Rattle.tiny.specs.declared.tokens.Kind.{Kind}
use Rattle.tiny.specs.Token.{Token}
use Rattle.tiny.specs.Spelling.{meaning}
use Rattle.tiny.specs.declared.states.Stretch.{Stretch}
use Rattle.tiny.specs.declared.tokens.Lexeme.{Lexeme}
use Rattle.tiny.specs.declared.placed.Placed.{Placed}
use Rattle.tiny.specs.declared.faults.ScanCause.{ScanCause}
use Rattle.tiny.specs.declared.states.State.{State}
use Rattle.tiny.specs.declared.states.State.TheVariants.{Start}
use Rattle.tiny.specs.Automaton.{kind, reach, skip}

-- a token at a place, of so many bytes
abbrev pub formed : ℕ → ℕ → List ℕ → Option Kind → Result (Option Stretch) (Placed ScanCause)
formed place n text o = elim o [ Some k ↦ Ok (Some (record { kind = k; place = place; end = place + n; value = meaning k text })) | None ↦ Err (record { what = NoToken; place = place }) ]

-- the longest token at a place, where `rest` begins
abbrev pub lexeme : ℕ → List ℕ → ℕ × State → Result (Option Stretch) (Placed ScanCause)
lexeme place rest p = formed place p.0 (take p.0 rest) (kind p.1 (take p.0 rest))

-- the next token behind what is ignored
abbrev pub lexed : List ℕ → ℕ → Result (Option Stretch) (Placed ScanCause)
lexed source at =
    let place = at + skip false (drop at source) in
    elim (nat_le (length source) place) [ true ↦ Ok None | false ↦ lexeme place (drop place source) (reach Start (drop place source)) ]

-- a stretch ends within the source
abbrev pub EndsWithin : ℕ → Result (Option Stretch) (Placed ScanCause) → Type 0
EndsWithin long (Ok None) = Unit {0}
EndsWithin long (Ok (Some t)) = t.end ≤ long
EndsWithin long (Err f) = Unit {0}

-- all tokens of a source, or a refusal: its cause and place
pub data Scanned : Type 0 where
  tokens : List Token → Scanned
  refused : ScanCause → ℕ → Scanned

abbrev pub with_token : Token → Scanned → Scanned
with_token t (tokens ts) = tokens (t ∷ ts)
with_token t (refused c p) = refused c p

-- the token that a stretch of the source is
abbrev pub token : List ℕ → ℕ → ℕ → Kind → ℤ → Token
token source place end k v = record { kind = k; place = place; text = take (end - place) (drop place source); value = v }

abbrev pub valued : List ℕ → Stretch → Option ℤ → Scanned → Scanned
valued source t o rest = elim o [ Some v ↦ with_token (token source t.place t.end t.kind v) rest | None ↦ refused TooLarge t.place ]

-- from a place on, where there is room for so many tokens
unfoldable pub scan_from : ℕ → List ℕ → ℕ → Scanned
scan_from zero source at = elim (lexed source at) [
  | Ok o ↦ elim o [ Some t ↦ refused TooMany t.place | None ↦ tokens [] ]
  | Err f ↦ refused f.what f.place
]
scan_from (suc room) source at = elim (lexed source at) [
  | Ok o ↦ elim o [ Some t ↦ valued source t t.value (scan_from room source t.end) | None ↦ tokens [] ]
  | Err f ↦ refused f.what f.place
]

unfoldable pub scan : List ℕ → Scanned
scan source = elim (nat_lt 16384 (length source)) [ true ↦ refused TooLong 16384 | false ↦ scan_from 2048 source 0 ]

-- the number of tokens, or the refusal
abbrev pub counted : Scanned → Result ℕ (Placed ScanCause)
counted (tokens ts) = Ok (length ts)
counted (refused c p) = Err (record { what = c; place = p })

-- what the scanner hands out: the stretch is a token, if there is room for one more and its literal is an int
abbrev pub handed : ℕ → Stretch → Option ℤ → Result (Option (Placed Lexeme)) (Placed ScanCause)
handed zero t v = Err (record { what = TooMany; place = t.place })
handed (suc room) t None = Err (record { what = TooLarge; place = t.place })
handed (suc room) t (Some v) = Ok (Some (record { what = record { kind = t.kind; end = t.end; value = v }; place = t.place }))

abbrev pub handing : ℕ → Result (Option Stretch) (Placed ScanCause) → Result (Option (Placed Lexeme)) (Placed ScanCause)
handing room (Ok None) = Ok None
handing room (Ok (Some t)) = handed room t t.value
handing room (Err f) = Err f

-- the next token from a place on, none at the end, or the break that stands there; there is room for so many tokens
abbrev pub next_token : ℕ → List ℕ → ℕ → Result (Option (Placed Lexeme)) (Placed ScanCause)
next_token room source at = handing room (lexed source at)

-- the token of a source that the scanner handed out
abbrev pub token_in : List ℕ → Placed Lexeme → Token
token_in source t = token source t.place t.what.end t.what.kind t.what.value

-- what is left to scan from a place on, after so many tokens
abbrev pub left_of : ℕ → List ℕ → ℕ → Scanned
left_of read source at = scan_from (2048 - read) source at

-- What is left to scan before and after one call: a token is the first of what was left, at the end nothing is left, and a
-- break is what the whole rest comes to.
abbrev pub Takes : List ℕ → Scanned → Result (Option (Placed Lexeme)) (Placed ScanCause) → Scanned → Type 0
Takes source before (Ok None) after = (before ≡ tokens []) × (after ≡ tokens [])
Takes source before (Ok (Some t)) after = before ≡ with_token (token_in source t) after
Takes source before (Err f) after = (before ≡ refused f.what f.place) × (after ≡ before)

-- how many tokens were handed out, before and after a call
abbrev pub Counts : ℕ → Result (Option (Placed Lexeme)) (Placed ScanCause) → ℕ → Type 0
Counts before (Ok None) after = after ≡ before
Counts before (Ok (Some t)) after = after ≡ suc before
Counts before (Err f) after = after ≡ before

-- where the scanner then is: behind the token, at the end, or still there
abbrev pub Moves : ℕ → Result (Option (Placed Lexeme)) (Placed ScanCause) → ℕ → ℕ → Type 0
Moves before (Ok None) long after = after ≡ long
Moves before (Ok (Some t)) long after = after ≡ t.what.end
Moves before (Err f) long after = after ≡ before
