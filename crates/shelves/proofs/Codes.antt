-- Laws of codes as lists: what a fetch answers, what is lawful, and what a put does.
use Rattle.std.proofs.Common.{◌≡◌, ℕ, zero, suc, ◌+◌, ◌<◌, ◌≤◌, true, List, [], ◌∷◌, ◌++◌, length, IfSome, Some, None, Option, Ok, Err, sym, refl, ap, ◌∙◌, arith}
use Rattle.std.proofs.lemmas.Bool.{le-leb, lt-leb, and_parts, and_from}
use Rattle.std.proofs.lemmas.Option.{slice_get_within}
use Rattle.machine.specs.declared.instruction.Instruction.{Instruction}
use Rattle.machine.specs.declared.shelf.PutRefusal.TheVariants.{Full}
use Rattle.machine.specs.Instructions.{lawful, lawful_all}
use Rattle.machine.specs.Shelves.{total, fetched, answered, appended}

-- each instruction of a lawful code is lawful, and its number is below the length
lawful_at : (is : List Instruction) (n : ℕ) (i : Instruction) → Some i ≡ fetched is n → lawful_all is ≡ true → lawful i ≡ true
lawful_at [] n i e l = absurd (cc)
lawful_at (j ∷ is) zero i e l = let same : i ≡ j = cc in ap lawful same ∙ (and_parts (lawful j) (lawful_all is) l).0
lawful_at (j ∷ is) (suc n) i e l = lawful_at is n i e (and_parts (lawful j) (lawful_all is) l).1

pub fetched_sound : (o : Option Instruction) (is : List Instruction) (n most : ℕ) → o ≡ fetched is n → lawful_all is ≡ true → length is ≤ most
    → IfSome o (λ i. (lawful i ≡ true) × (n < most))
fetched_sound None is n most e l h = tt
fetched_sound (Some i) is n most e l h = let within = slice_get_within is n i (sym e) in (lawful_at is n i e l, omega arith)

pub lawful_push : (is : List Instruction) (i : Instruction) → lawful_all is ≡ true → lawful i ≡ true → lawful_all (is ++ (i ∷ [])) ≡ true
lawful_push [] i h l = and_from (lawful i) true l refl
lawful_push (j ∷ is) i h l =
    let p = and_parts (lawful j) (lawful_all is) h in
    and_from (lawful j) (lawful_all (is ++ (i ∷ []))) p.0 (lawful_push is i p.1 l)

-- a put of a lawful instruction
pub put_full : (cost : Instruction → ℕ) (cap : ℕ) (code : List Instruction) (i : Instruction) → lawful i ≡ true → cap < total cost code + cost i
    → (answered cost cap code i ≡ Err Full) × (appended cost cap code i ≡ code)
put_full cost cap code i l h = let f = lt-leb (total cost code + cost i) cap h in (simp (l, f), simp (l, f))

pub put_fits : (cost : Instruction → ℕ) (cap : ℕ) (code : List Instruction) (i : Instruction) → lawful i ≡ true → total cost code + cost i ≤ cap
    → (answered cost cap code i ≡ Ok tt) × (appended cost cap code i ≡ code ++ (i ∷ []))
put_fits cost cap code i l h = let f = le-leb (total cost code + cost i) cap h in (simp (l, f), simp (l, f))

-- the cost of records, where each instruction costs 1
pub total_ones : (xs : List Instruction) → total (λ _. 1) xs ≡ length xs
total_ones [] = refl
total_ones (x ∷ xs) = let h = total_ones xs in omega arith
