-- How the tokens ahead go on as the scanner reads one more.
use Rattle.std.proofs.Common.{◌≡◌, ℕ, ◌-◌, Bool, true, false, ltb, List, length, IsOk, MatchOption, Some, None, Ok, Err, Option, Result, sym, refl, ap, ◌∙◌, subst, arith}
use Rattle.std.specs.List.{list_any}
use Rattle.tiny.specs.declared.tokens.Kind.{Kind}
use Rattle.tiny.specs.declared.tokens.Lexeme.{Lexeme}
use Rattle.tiny.specs.declared.placed.Placed.{Placed}
use Rattle.tiny.specs.declared.faults.ScanCause.{ScanCause}
use Rattle.tiny.specs.declared.scanner.Scanner.{Scanner}
use Rattle.tiny.specs.declared.faults.ScanCause.TheVariants.{TooLong}
use Rattle.tiny.specs.Scan.{Scanned, scan, scan_from, left_of, Takes}
use Rattle.tiny.specs.Scan.Scanned.{tokens, refused}
use Rattle.tiny.specs.contracts.tokens.KindPartialEq.TheImpl.{ghosts}
use Rattle.parser.specs.declared.parser.Parser.{Parser}
use Rattle.parser.specs.Rest.{among, scanned, listed, tokens_of}
use Rattle.parser.specs.Ahead.{ahead, source_of, stands}
use Rattle.parser.proofs.Alike.{any_kind}

pub opposed : {A : Type 0} → true ≡ false → A
opposed e = absurd (let z : ◌≡◌ {A = ℕ} 0 1 = cc in omega arith)

-- what is left scans, so the scanner is not refused
reads_on : (source : List ℕ) (before : Scanned) (r : Result (Option (Placed Lexeme)) (Placed ScanCause)) (after : Scanned) →
    scanned before ≡ true → Takes source before r after → IsOk r
reads_on source before (Ok o) after s t = refl
reads_on source before (Err f) after s t = opposed (sym s ∙ ap scanned t.0)

-- what is left behind the next token scans too
pub record Onward (source : List ℕ) (before : Scanned) (next : Option (Placed Lexeme)) (after : Scanned) : Type 0 where
  pub sound : scanned after ≡ true
  pub same : tokens_of source next after ≡ listed before

pub onward : (source : List ℕ) (before : Scanned) (next : Option (Placed Lexeme)) (after : Scanned) →
    scanned before ≡ true → Takes source before (Ok next) after → Onward source before next after
onward source before None after s t = record { sound = ap scanned t.1; same = sym (ap listed t.0) }
onward source before (Some u) (tokens ts) s t = record { sound = refl; same = sym (ap listed t) }
onward source before (Some u) (refused c p) s t = opposed (sym s ∙ ap scanned t)

abbrev fits : Bool → List ℕ → Scanned
fits b source = elim b [ true ↦ refused TooLong 16384 | false ↦ scan_from 2048 source 0 ]

-- what scans is scanned from its beginning
from_start : (source : List ℕ) → scanned (scan source) ≡ true → scan source ≡ scan_from 2048 source 0
unfolding scan
from_start source s = go (ltb 16384 (length source)) s
  where
    go : (b : Bool) → scanned (fits b source) ≡ true → fits b source ≡ scan_from 2048 source 0
    go true s = opposed (sym s)
    go false s = refl

at_first : (source : List ℕ) (s : Scanner) → scanned (scan source) ≡ true → s.source.now ≡ source → s.at ≡ 0 → s.read ≡ 0 → scan source ≡ left_of s.read s.source.now s.at
at_first source s h q o p =
    from_start source h ∙ ap (λ (k : ℕ). scan_from k source 0) (let e : 2048 ≡ 2048 - s.read = omega arith in e) ∙ ap (λ (l : List ℕ). scan_from (2048 - s.read) l 0) (sym q)
    ∙ ap (λ (k : ℕ). scan_from (2048 - s.read) s.source.now k) (sym o)

pub next_stands : (ks : List Kind) (p : Parser) (t : Placed Lexeme) → p.next ≡ Some t → stands ks (ahead p) ≡ among t.what.kind ks
next_stands ks p t e = ap (λ o. stands ks (tokens_of (source_of p) o (left_of p.scanner.read (source_of p) p.scanner.at))) e

-- the answer of a test of the next token, which is false where there is none
pub tested : {Q : Placed Lexeme → Type 0} (ks : List Kind) (p : Parser) (r : Bool) (o : Option (Placed Lexeme)) → p.next ≡ o → MatchOption o (r ≡ false) Q →
    ((t : Placed Lexeme) → Q t → r ≡ list_any (λ k. ghosts.eq k t.what.kind) ks) → r ≡ stands ks (ahead p)
tested ks p r None e m q = m ∙ sym (ap (λ o. stands ks (tokens_of (source_of p) o (left_of p.scanner.read (source_of p) p.scanner.at))) e)
tested ks p r (Some t) e m q = q t m ∙ any_kind t.what.kind ks ∙ sym (next_stands ks p t e)

-- the scanner has read its first token, or that there is none
pub record First (source : List ℕ) (o : Option (Placed Lexeme)) (e : Scanner) : Type 0 where
  pub sound : scanned (left_of e.read e.source.now e.at) ≡ true
  pub same : e.source.now ≡ source
  pub all : tokens_of e.source.now o (left_of e.read e.source.now e.at) ≡ listed (scan source)

pub record Opened (source : List ℕ) (r : Result (Option (Placed Lexeme)) (Placed ScanCause)) (e : Scanner) : Type 0 where
  pub scans : IsOk r
  pub first : (o : Option (Placed Lexeme)) → r ≡ Ok o → First source o e

pub opened : (source : List ℕ) (s e : Scanner) (r : Result (Option (Placed Lexeme)) (Placed ScanCause)) → scanned (scan source) ≡ true →
    s.source.now ≡ source → s.at ≡ 0 → s.read ≡ 0 → e.source ≡ s.source → Takes s.source.now (left_of s.read s.source.now s.at) r (left_of e.read e.source.now e.at) →
    Opened source r e
opened source s e r h q a b kept t =
    let before = left_of s.read s.source.now s.at in
    let after = left_of e.read e.source.now e.at in
    let from = at_first source s h q a b in
    let good = sym (ap scanned from) ∙ h in
    let same = ap (λ x. x.now) kept in
    record {
      scans = reads_on s.source.now before r after good t;
      first = λ o was.
          let n = onward s.source.now before o after good (subst (λ x. Takes s.source.now before x after) was t) in
          record { sound = n.sound; same = same ∙ q; all = ap (λ x. tokens_of x o after) same ∙ n.same ∙ sym (ap listed from) };
    }
