-- A whole source.
use Rattle.std.proofs.Common.{◌≡◌, ℕ, ◌-◌, ◌<◌, ◌≤◌, true, List, [], ◌∷◌, ◌++◌, length, unwrap_or, Ok, Err, Result, sym, refl, ap, ◌∙◌, subst, arith, length-take}
use Rattle.std.proofs.lemmas.Bool.{lt-ltb, le-ltb}
use Rattle.std.proofs.lemmas.Result.{err_from_is_err_and}
use Rattle.std.specs.Result.{MatchResult, IsErrAnd}
use Rattle.tiny.specs.declared.placed.Placed.{Placed}
use Rattle.tiny.specs.declared.faults.ScanCause.{ScanCause}
use Rattle.tiny.specs.Token.{Token}
use Rattle.tiny.specs.Scan.{Scanned, counted}
use Rattle.tiny.specs.Scan.Scanned.{tokens, refused}
use Rattle.syntax.specs.Grammar.{block}
use Rattle.syntax.specs.Parse.{expect, run, parse}
use Rattle.syntax.specs.Parse.Outcome.{accept, refuse}
use Rattle.tables.specs.declared.table.Table.{Table}
use Rattle.nodes.specs.declared.node.Node.{Node}
use Rattle.tables.specs.Items.{items, capacity}
use Rattle.nodes.specs.Shows.{Shows}
use Rattle.parser.specs.declared.parser.Parser.{Parser}
use Rattle.parser.specs.declared.faults.SyntaxCause.{SyntaxCause}
use Rattle.parser.specs.declared.faults.SyntaxCause.TheVariants.{Unexpected}
use Rattle.parser.specs.declared.faults.ParseFault.{ParseFault}
use Rattle.parser.specs.declared.faults.ParseFault.TheVariants.{Scan, Full, Syntax}
use Rattle.parser.specs.Rest.{scanned, listed}
use Rattle.parser.specs.Ahead.{ahead, source_of, place_ahead}
use Rattle.parser.specs.Refusals.{place_of}
use Rattle.parser.specs.Reading.{Same, Whole, Programs}
use Rattle.parser.specs.Parsing.{Parsed, Answered, Fitting}

differ : {A : Type 0} {X Y : Type 0} {x : X} {y : Y} → ◌≡◌ {A = Result X Y} (Ok x) (Err y) → A
differ e = absurd (let z : ◌≡◌ {A = ℕ} 0 1 = cc in omega arith)

pub scans_well : (s : Scanned) (k : ℕ) → Ok k ≡ counted s → scanned s ≡ true
scans_well (tokens ts) k e = refl
scans_well (refused c p) k e = differ e

pub count_is : (s : Scanned) (k : ℕ) → Ok k ≡ counted s → length (listed s) ≡ k
count_is (tokens ts) k e = let h : k ≡ length ts = cc in sym h
count_is (refused c p) k e = differ e

pub few : (n : Table Node) → length (items n) ≤ capacity n
few n = omega (arith, length-take n.used n.cells.now)

pub not_scanned : (source : List ℕ) (s : Scanned) (n : Table Node) (f : Placed ScanCause) (r : Result ℕ ParseFault) → Err f ≡ counted s → r ≡ Err (Scan f) → Parsed source s n r n
not_scanned source (tokens ts) n f r e r≡ = differ (sym e)
not_scanned source (refused c p) n f r e r≡ = let h : f ≡ record { what = c; place = p } = cc in (r≡ ∙ ap (λ x. Err (Scan x)) h, refl)

pub too_small : (source : List ℕ) (s : Scanned) (n : Table Node) (k : ℕ) → Ok k ≡ counted s → capacity n - length (items n) < k → Parsed source s n (Err Full) n
too_small source (tokens ts) n k e h =
    let l = count_is (tokens ts) k e in
    subst (λ b. Fitting b source (parse ts) n (Err Full) n) (sym (lt-ltb (capacity n - length (items n)) (length ts) (omega arith))) (refl, refl)
too_small source (refused c p) n k e h = differ e

fits : (source : List ℕ) (s : Scanned) (n : Table Node) (k : ℕ) (r : Result ℕ ParseFault) (n' : Table Node) → Ok k ≡ counted s → k ≤ capacity n - length (items n) →
    Answered source (parse (listed s)) n r n' → capacity n' ≡ capacity n → Parsed source s n r n'
fits source (tokens ts) n k r n' e h a c≡ =
    let l = count_is (tokens ts) k e in
    subst (λ b. Fitting b source (parse ts) n r n') (sym (le-ltb (capacity n - length (items n)) (length ts) (omega arith))) (a, c≡)
fits source (refused c p) n k r n' e h a c≡ = differ e

-- the parser at the first token of a source, with the records of a table
pub record Begun (input : List ℕ) (s : Scanned) (n : Table Node) (p : Parser) : Type 0 where
  pub source : source_of p ≡ input
  pub left : ahead p ≡ listed s
  pub nodes : p.nodes.now ≡ n

unplaced : (source : List ℕ) (ts : List Token) → unwrap_or (place_ahead ts) (length source) ≡ place_of source ts
unplaced source [] = refl
unplaced source (t ∷ ts) = refl

not_parsed : {source : List ℕ} {s : Scanned} {n n' : Table Node} {k : ℕ} {p p' : Parser} {place : ℕ} (what : SyntaxCause) →
    Ok k ≡ counted s → k ≤ capacity n - length (items n) → Begun source s n p → (run (expect block ∷ []) [] (ahead p) ≡ refuse (ahead p')) × Same p p' →
    place ≡ unwrap_or (place_ahead (ahead p')) (length source) → n' ≡ p'.nodes.now → Parsed source s n (Err (Syntax (record { what = what; place = place }))) n'
not_parsed {source} {s} {n} {n'} {k} {p} {p'} {place} Unexpected e h b (stops, same) place≡ n≡ =
    let o : parse (listed s) ≡ refuse (ahead p') = ap parse (sym b.left) ∙ stops in
    fits source s n k _ n' e h
    (subst (λ o. Answered source o n (Err (Syntax (record { what = Unexpected; place = place }))) n') (sym o)
    (ap (λ x. Err (Syntax (record { what = Unexpected; place = x }))) (place≡ ∙ unplaced source (ahead p'))))
    (ap capacity n≡ ∙ same.room ∙ ap capacity b.nodes)

well_parsed : {source : List ℕ} {s : Scanned} {n n' : Table Node} {k : ℕ} {p p' : Parser} {i : ℕ} →
    Ok k ≡ counted s → k ≤ capacity n - length (items n) → Begun source s n p → Whole p i p' → n' ≡ p'.nodes.now → Parsed source s n (Ok i) n'
well_parsed {source} {s} {n} {n'} {k} {p} {p'} {i} e h b w n≡ =
    let r = w.read in
    let o : parse (listed s) ≡ accept r.tree = ap parse (sym b.left) ∙ r.reads [] [] ∙ ap (run [] (r.tree ∷ [])) w.nothing in
    fits source s n k (Ok i) n' e h
    (subst (λ o. Answered source o n (Ok i) n') (sym o) (
      i,
      r.more,
      refl,
      subst (λ (x : Table Node). Shows source (items x) i r.tree) (sym n≡) (subst (λ x. Shows x (items p'.nodes.now) i r.tree) b.source r.shown),
      ap items n≡ ∙ r.grown ∙ ap (λ x. items x ++ r.more) b.nodes,
    ))
    (ap capacity n≡ ∙ r.same.room ∙ ap capacity b.nodes)

-- what is told of a program that was read, or not
pub answered : {source : List ℕ} {s : Scanned} {n n' : Table Node} {k : ℕ} {p : Parser} (p' : Parser) {place : ℕ} {Q : SyntaxCause → ParseFault → Type 0} (r : Result ℕ SyntaxCause) (told : Result ℕ ParseFault) →
    Ok k ≡ counted s → k ≤ capacity n - length (items n) → Begun source s n p → Programs p r p' →
    place ≡ unwrap_or (place_ahead (ahead p')) (length source) → n' ≡ p'.nodes.now →
    MatchResult r (λ i. told ≡ Ok i) (λ f. IsErrAnd told (Q f)) → ((f : SyntaxCause) (x : ParseFault) → Q f x → x ≡ Syntax (record { what = f; place = place })) → Parsed source s n told n'
answered {source} {s} {n} {n'} p' (Ok i) told e h b w place≡ n≡ o t = subst (λ x. Parsed source s n x n') (sym o) (well_parsed e h b w n≡)
answered {source} {s} {n} {n'} p' (Err f) told e h b w place≡ n≡ o t =
    let q = err_from_is_err_and told o in
    subst (λ x. Parsed source s n x n') (sym (q.1 ∙ ap Err (t f q.0 q.2))) (not_parsed f e h b w place≡ n≡)
