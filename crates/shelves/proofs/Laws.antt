-- Laws of bytes: what was encoded is read back, and what it costs.
use Rattle.std.proofs.Common.{◌≡◌, ℕ, zero, suc, ◌-◌, ◌*◌, ◌<◌, ◌≤◌, true, cond, ltb, List, [], ◌∷◌, ◌++◌, length, IfSome, Some, None, Option, sym, refl, ap, ◌∙◌, append_assoc, le_of_suc-le-suc, not-suc-le-zero, arith, length-append}
use Rattle.std.specs.List.{flat_map, AllByRecursion as All}
use Rattle.std.proofs.lemmas.List.{flat_map_more}
use Rattle.std.proofs.lemmas.Bool.{lt-ltb, and_parts, and_from, cond_both, cond-true}
use Rattle.shelves.specs.Groups.{groups, raised, read_first}
use Rattle.shelves.proofs.Digits.{read_groups, most_groups}
use Rattle.machine.specs.Instructions.{view, lawful, lawful_all}
use Rattle.machine.specs.Shelves.{total}
use Rattle.shelves.proofs.Codes.{lawful_push}
use Rattle.machine.specs.declared.instruction.Instruction.{Instruction}
use Rattle.shelves.specs.Parts.{raws, padded, arity, instruction_of}
use Rattle.shelves.specs.Bytes.{encoded, encoded_all, byte_cost, after, number_first, numbers_first, operands_first, assembled, instruction_first, going_on_from, decoded_first, decoded}
use Rattle.shelves.proofs.Views.{seen, operands_short, operands_few}

-- a number, three operands and an instruction are read where they were written
number_here : (n : ℕ) (r : List ℕ) → n < 4294967296 → number_first (groups n ++ r) ≡ Some (n, r)
number_here n r h = rw (read_groups n r h, lt-ltb n 4294967296 h)

numbers_here : (ns r : List ℕ) → All (λ (n : ℕ). n < 4294967296) ns → numbers_first (length ns) (flat_map groups ns ++ r) ≡ Some (ns, r)
numbers_here [] r h = refl
numbers_here (n ∷ ns) r h = rw (append_assoc (groups n) (flat_map groups ns) r, number_here n (flat_map groups ns ++ r) h.0, numbers_here ns r h.1)

operands_here : (ns r : List ℕ) → All (λ (n : ℕ). n < 4294967296) ns → operands_first (length ns) (flat_map groups ns ++ r) ≡ Some (padded ns, r)
operands_here ns r h = rw (numbers_here ns r h)

assembled_here : (code : ℕ) (operands r : List ℕ) (i : Instruction) → instruction_of code operands ≡ Some i → lawful i ≡ true
    → assembled code (Some (operands, r)) ≡ Some (i, r)
assembled_here code operands r i e l =
    ap (λ (o : Option Instruction). after o (λ j. cond (lawful j) (Some (j, r)) None)) e ∙ cond-true (lawful i) (Some (i, r)) None l

instruction_here : (i : Instruction) (r : List ℕ) → lawful i ≡ true → instruction_first (encoded i ++ r) ≡ Some (i, r)
unfolding encoded
instruction_here i r l =
    ap (λ (n : ℕ). assembled (view i).0 (operands_first n (flat_map groups (raws i) ++ r))) (seen i).0
    ∙ ap (assembled (view i).0) (operands_here (raws i) r (operands_short i l))
    ∙ assembled_here (view i).0 (padded (raws i)) r i ((seen i).1 l) l

decoded_here : (is : List Instruction) (n : ℕ) → lawful_all is ≡ true → length is ≤ n → decoded_first n (encoded_all is) ≡ is
decoded_here [] zero l h = refl
decoded_here [] (suc n) l h = refl
decoded_here (i ∷ is) zero l h = absurd (not-suc-le-zero h)
decoded_here (i ∷ is) (suc n) l h =
    let both = and_parts (lawful i) (lawful_all is) l in
    rw (instruction_here i (encoded_all is) both.0) (ap (λ (js : List Instruction). i ∷ js) (decoded_here is n both.1 (le_of_suc-le-suc h)))

-- cost
joined_most : (ns : List ℕ) → length (flat_map groups ns) ≤ 5 * length ns
joined_most [] = omega arith
joined_most (n ∷ ns) = let h = joined_most ns in simp length-append (omega (arith, most_groups n))

pub cost_least : (i : Instruction) → 1 ≤ byte_cost i
unfolding encoded
cost_least i = omega arith

pub cost_most : (i : Instruction) → byte_cost i ≤ 16
unfolding encoded
cost_most i = omega (arith, operands_few i, joined_most (raws i))

total_bytes : (is : List Instruction) → total byte_cost is ≡ length (encoded_all is)
total_bytes [] = refl
total_bytes (i ∷ is) = let h = total_bytes is in simp length-append (omega arith)

pub few : (is : List Instruction) → length is ≤ length (encoded_all is)
few [] = omega arith
few (i ∷ is) = let h = few is in simp length-append (omega (arith, cost_least i))

-- the numbers that were read, before those that are read next
abbrev pub joined : List ℕ → Option (List ℕ × List ℕ) → Option (List ℕ × List ℕ)
joined first read = after read (λ r. Some (first ++ r.0, r.1))

-- one more number is read, or none
pub numbers_more : (n v : ℕ) (first xs ys : List ℕ) → 0 < n → Some (v, ys) ≡ number_first xs
    → joined first (numbers_first n xs) ≡ joined (first ++ v ∷ []) (numbers_first (n - 1) ys)
numbers_more zero v first xs ys h e = absurd (omega arith)
numbers_more (suc n) v first xs ys h e =
    let less : suc n - 1 ≡ n = omega arith in
    rw (less, ← e) (moved (numbers_first n ys))
  where
    moved : (o : Option (List ℕ × List ℕ)) → joined first (after {Y = List ℕ × List ℕ} o (λ r. Some (v ∷ r.0, r.1))) ≡ joined (first ++ v ∷ []) o
    moved None = refl
    moved (Some r) = ap (λ (ns : List ℕ). Some (ns, r.1)) (sym (append_assoc first (v ∷ []) r.0))

pub numbers_none : (n : ℕ) (first xs : List ℕ) → 0 < n → None ≡ number_first xs → joined first (numbers_first n xs) ≡ None
numbers_none zero first xs h e = absurd (omega arith)
numbers_none (suc n) first xs h e = rw (← e)

-- the laws of decoding
pub decoded_encoded : (is : List Instruction) → lawful_all is ≡ true → decoded (encoded_all is) ≡ is
unfolding decoded
decoded_encoded is l = decoded_here is (length (encoded_all is)) l (few is)

-- what holds of whatever is read
read_then : {X Y : Type 0} {P : X → Type 0} (Q : Y → Type 0) (o : Option X) (f : X → Option Y) → IfSome o P → ((x : X) → P x → IfSome (f x) Q) → IfSome (after o f) Q
read_then Q None f p h = tt
read_then Q (Some x) f p h = h x p

-- reading takes at least a byte
raised_shorter : (b n : ℕ) (o : Option (ℕ × List ℕ)) → IfSome o (λ q. length q.1 < n) → IfSome (raised b o) (λ q. length q.1 < suc n)
raised_shorter b n None h = tt
raised_shorter b n (Some q) h = omega arith

read_shorter : (k : ℕ) (xs : List ℕ) → IfSome (read_first k xs) (λ q. length q.1 < length xs)
read_shorter zero xs = tt
read_shorter (suc k) [] = tt
read_shorter (suc k) (b ∷ bs) =
    cond_both (ltb b 128) (Some (b, bs)) (raised b (read_first k bs)) (λ (o : Option (ℕ × List ℕ)). IfSome o (λ q. length q.1 < suc (length bs)))
    (λ _. omega arith) (λ _. raised_shorter b (length bs) (read_first k bs) (read_shorter k bs))

number_shorter : (xs : List ℕ) → IfSome (number_first xs) (λ q. length q.1 < length xs)
number_shorter xs = read_then (λ q. length q.1 < length xs) (read_first 5 xs) _ (read_shorter 5 xs)
    (λ q h. cond_both (ltb q.0 4294967296) (Some q) None (λ (o : Option (ℕ × List ℕ)). IfSome o (λ q. length q.1 < length xs)) (λ _. h) (λ _. tt))

numbers_shorter : (n : ℕ) (xs : List ℕ) → IfSome (numbers_first n xs) (λ q. length q.1 ≤ length xs)
numbers_shorter zero xs = omega arith
numbers_shorter (suc n) xs = read_then (λ q. length q.1 ≤ length xs) (number_first xs) _ (number_shorter xs)
    (λ q h. read_then (λ q. length q.1 ≤ length xs) (numbers_first n q.1) _ (numbers_shorter n q.1) (λ r k. omega arith))

-- an instruction that is read is lawful, and takes at least a byte
instruction_read : (xs : List ℕ) → IfSome (instruction_first xs) (λ q. (lawful q.0 ≡ true) × (length q.1 < length xs))
instruction_read [] = tt
instruction_read (b ∷ bs) =
    let P : Instruction × List ℕ → Type 0 = λ q. (lawful q.0 ≡ true) × (length q.1 < suc (length bs)) in
    read_then P (operands_first (arity b) bs) _
    (read_then (λ q. length q.1 ≤ length bs) (numbers_first (arity b) bs) _ (numbers_shorter (arity b) bs) (λ q h. h))
    (λ q h. read_then {P = λ _. Unit {0}} P (instruction_of b q.0) _ (any (instruction_of b q.0)) (λ i _.
    cond_both (lawful i) (Some (i, q.1)) None (λ o. IfSome o P) (λ l. (l, omega arith)) (λ _. tt)))
  where
    any : (o : Option Instruction) → IfSome o (λ _. Unit {0})
    any None = tt
    any (Some i) = tt

goes_lawful : (o : Option (Instruction × List ℕ)) (f : List ℕ → List Instruction) → IfSome o (λ q. lawful q.0 ≡ true)
    → ((xs : List ℕ) → lawful_all (f xs) ≡ true) → lawful_all (going_on_from o f) ≡ true
goes_lawful None f h k = refl
goes_lawful (Some q) f h k = and_from (lawful q.0) (lawful_all (f q.1)) h (k q.1)

first_lawful : (n : ℕ) (xs : List ℕ) → lawful_all (decoded_first n xs) ≡ true
first_lawful zero xs = refl
first_lawful (suc n) xs = goes_lawful (instruction_first xs) (decoded_first n) (weaker (instruction_first xs) (instruction_read xs)) (first_lawful n)
  where
    weaker : (o : Option (Instruction × List ℕ)) → IfSome o (λ q. (lawful q.0 ≡ true) × (length q.1 < length xs)) → IfSome o (λ q. lawful q.0 ≡ true)
    weaker None h = tt
    weaker (Some q) h = h.0

pub decoded_lawful : (bytes : List ℕ) → lawful_all (decoded bytes) ≡ true
unfolding decoded
decoded_lawful bytes = first_lawful (length bytes) bytes

-- no bytes are no code
pub no_code : (bytes : List ℕ) → bytes ≡ [] → (decoded bytes ≡ []) × (encoded_all (decoded bytes) ≡ bytes)
unfolding decoded
no_code [] e = (refl, refl)
no_code (b ∷ bs) e = absurd (cc)

-- as many instructions as there are bytes are enough
goes_same : (o : Option (Instruction × List ℕ)) (f g : List ℕ → List Instruction) (n : ℕ) → IfSome o (λ q. (lawful q.0 ≡ true) × (length q.1 < n))
    → ((xs : List ℕ) → length xs < n → f xs ≡ g xs) → going_on_from o f ≡ going_on_from o g
goes_same None f g n h k = refl
goes_same (Some q) f g n h k = ap (λ (is : List Instruction). q.0 ∷ is) (k q.1 h.1)

enough : (m n : ℕ) (xs : List ℕ) → length xs ≤ m → length xs ≤ n → decoded_first m xs ≡ decoded_first n xs
enough zero zero xs h k = refl
enough zero (suc n) [] h k = refl
enough zero (suc n) (x ∷ xs) h k = absurd (not-suc-le-zero h)
enough (suc m) zero [] h k = refl
enough (suc m) zero (x ∷ xs) h k = absurd (not-suc-le-zero k)
enough (suc m) (suc n) xs h k =
    goes_same (instruction_first xs) (decoded_first m) (decoded_first n) (length xs) (instruction_read xs) (λ ys l. enough m n ys (omega arith) (omega arith))

-- the first instruction, and those of the bytes after it
pub decoded_step : (xs : List ℕ) → decoded xs ≡ going_on_from (instruction_first xs) decoded
unfolding decoded
decoded_step [] = refl
decoded_step (x ∷ xs) =
    goes_same (instruction_first (x ∷ xs)) (decoded_first (length xs)) (λ (ys : List ℕ). decoded_first (length ys) ys) (suc (length xs)) (instruction_read (x ∷ xs))
    (λ ys l. enough (length xs) (length ys) ys (omega arith) (omega arith))

-- after a write of a lawful instruction
pub put_decoded : (old new : List ℕ) (i : Instruction) → encoded_all (decoded old) ≡ old → lawful i ≡ true → new ≡ old ++ encoded i
    → (decoded new ≡ decoded old ++ (i ∷ [])) × (encoded_all (decoded new) ≡ new)
put_decoded old new i e l w =
    let all = decoded_encoded (decoded old ++ (i ∷ [])) (lawful_push (decoded old) i (decoded_lawful old) l) in
    let written : new ≡ encoded_all (decoded old ++ (i ∷ [])) = w ∙ ap (λ (xs : List ℕ). xs ++ encoded i) (sym e) ∙ flat_map_more encoded [] (decoded old) i in
    let back : decoded new ≡ decoded old ++ (i ∷ []) = ap decoded written ∙ all in
    (back, ap encoded_all back ∙ sym written)

-- the cost of a code that was decoded from its bytes
pub bytes_total : (bytes : List ℕ) → encoded_all (decoded bytes) ≡ bytes → total byte_cost (decoded bytes) ≡ length bytes
bytes_total bytes e = total_bytes (decoded bytes) ∙ ap length e

pub bytes_few : (bytes : List ℕ) → encoded_all (decoded bytes) ≡ bytes → length (decoded bytes) ≤ length bytes
bytes_few bytes e = omega (arith, few (decoded bytes), ap length e)
