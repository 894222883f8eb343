-- The worked cases: what the checks, the meaning and the run make of some rules, by computation.
use Rattle.std.specs.Prelude.{◌≡◌, ℕ, true, false, List, [], ◌∷◌, ◌++◌, replicate, ℤ, pos, negsuc, Some, None, Option}
use Rattle.tiny.specs.Tree.{BlockTree}
use Rattle.machine.specs.declared.instruction.Instruction.TheVariants.{Lit, Var, Ld, Stk, Puti, Zero, Frame, Pop, Stop}
use Rattle.machine.specs.Host.{Host}
use Rattle.machine.specs.declared.host.Event.{Event}
use Rattle.machine.specs.declared.host.Event.TheVariants.{Int as wrote_int, Bool as wrote_bool, Line as wrote_line}
use Rattle.machine.specs.Machine.{Standing, going, finished, failed, Run, run, opened}
use Rattle.meaning.specs.Rule.{Block}
use Rattle.meaning.specs.Rule as Rule
use Rattle.meaning.specs.Objects.{Outcome}
use Rattle.meaning.specs.Meaning.{meaning, outermost}
use Rattle.meaning.specs.MeaningLaws.{state}
use Rattle.meaning.specs.Code.{program}
use Rattle.meaning.specs.Stages.{Judged, refused, one_of, accepted, judged}
use Rattle.meaning.specs.Agreement.{standing_of, outermost_cells}
use Rattle.meaning.specs.Lives.{Source, Tie, runs, Life, rule_of_tree}
use Rattle.meaning.specs.CaseTrees.{empty, three, early, below, chain, inside, outside, siblings, sum, turns, copies, twice, tight, clash}

-- an int as 0 and itself, a bool as 1 and 0 or 1, a new line as 2 and 0
abbrev renders : Event → List ℤ
renders (wrote_int z) = pos 0 ∷ z ∷ []
renders (wrote_bool true) = pos 1 ∷ pos 1 ∷ []
renders (wrote_bool false) = pos 1 ∷ pos 0 ∷ []
renders wrote_line = pos 2 ∷ pos 0 ∷ []

abbrev rendered : List Event → List ℤ
rendered [] = []
rendered (e ∷ es) = renders e ++ rendered es

-- a host with no input, to which these events were said
abbrev pub host_after : List Event → Host
host_after es = record { items = []; marks = rendered es; room = 100; renders = renders }

abbrev rule_of_verdict : Judged → Block
rule_of_verdict (refused b) = Rule.block Rule.none Rule.nothing
rule_of_verdict (one_of bs) = Rule.block Rule.none Rule.nothing
rule_of_verdict (accepted b) = b

-- the rule of a tree that is accepted
abbrev pub rule : BlockTree → Block
rule t = rule_of_verdict (judged t)

-- what is seen of a meaning or of a run
pub record Seen : Type 0 where
  pub standing : Standing
  pub count : ℕ
  pub host : Host
  pub variables : List ℤ

abbrev pub seen_meaning : Block → Outcome Unit → Seen
seen_meaning b o = record { standing = standing_of o; count = (state o).count; host = (state o).host; variables = outermost b (state o) }

abbrev pub seen_run : Block → Run → Seen
seen_run b r = record { standing = r.standing; count = r.count; host = r.machine.host; variables = outermost_cells b r.machine.cells }

-- the tree is accepted; over so many cells, none of them 0 before, and cut off at n, its meaning and the run of its code both show x
pub record Shows (t : BlockTree) (cells n : ℕ) (x : Seen) : Type 0 where
  pub passes : judged t ≡ accepted (rule t)
  pub means : seen_meaning (rule t) (meaning n (rule t) cells (host_after [])) ≡ x
  pub runs : seen_run (rule t) (run (program (rule t)) n (opened (replicate cells (pos 7)) (host_after []))) ≡ x

-- it ends with this count, having printed these ints, and leaves these outermost variables
abbrev pub prints : List ℤ → List Event
prints [] = []
prints (z ∷ zs) = wrote_int z ∷ prints zs

abbrev pub ends : ℕ → List ℤ → List ℤ → Seen
ends c zs xs = record { standing = finished; count = c; host = host_after (prints zs); variables = xs }

-- it fails so, having printed nothing
abbrev pub fails : ℕ → ℕ → List ℤ → Seen
fails f c xs = record { standing = failed f; count = c; host = host_after []; variables = xs }

-- it goes on, having printed nothing
abbrev pub goes : ℕ → List ℤ → Seen
goes c xs = record { standing = going; count = c; host = host_after []; variables = xs }

-- every source that is not empty is read as the tree `three`
abbrev pub reading : Source → Option BlockTree
reading [] = None
reading (x ∷ xs) = Some three

abbrev pub tie : Tie
tie = record { code = program (rule three); source = Some (123 ∷ []); cells = replicate 3 (pos 7); host = host_after [] }

abbrev pub stepped : Run
stepped = run (program (rule three)) 100 (run (program (rule three)) 5 (opened (replicate 3 (pos 7)) (host_after [])))

pub record WorkedCases : Type 0 where
  -- three charges of the program's own, and two cells for its links
  pub empty_case : Shows empty 2 100 (ends 3 [] [])
  pub three_case : Shows three 3 100 (ends 11 (pos 3 ∷ []) (pos 3 ∷ []))
  pub three_code : program (rule three) ≡ Frame 3 ∷ Pop ∷ Zero 0 2 1 ∷ Var 0 2 ∷ Lit (pos 3) ∷ Stk ∷ Pop ∷ Var 0 2 ∷ Ld ∷ Puti ∷ Stop ∷ []
  pub early_case : Shows early 3 100 (ends 16 (pos 5 ∷ []) (pos 5 ∷ []))
  pub below_case : Shows below 3 100 (ends 9 (negsuc 0 ∷ []) (pos 0 ∷ []))
  pub chain_case : Shows chain 2 100 (ends 9 (pos 4 ∷ []) [])
  pub inside_case : Shows inside 8 100 (ends 11 (pos 0 ∷ []) (replicate 6 (pos 0)))
  pub outside_case : Shows outside 8 100 (fails 21 8 (replicate 6 (pos 0)))
  pub siblings_case : Shows siblings 3 100 (ends 12 (pos 0 ∷ []) [])
  pub sum_case : Shows sum 19 200 (ends 113 (pos 6 ∷ []) (pos 6 ∷ []))
  pub sum_short : Shows sum 18 200 (fails 27 87 (pos 6 ∷ []))
  pub sum_cut : Shows sum 18 55 (goes 55 (pos 3 ∷ []))
  -- r and three formals n are open, an object each
  pub sum_objects : (state (meaning 200 (rule sum) 18 (host_after []))).objects ≡ (pos 6 ∷ []) ∷ (pos 3 ∷ []) ∷ (pos 2 ∷ []) ∷ (pos 1 ∷ []) ∷ []
  pub turns_case : Shows turns 15 200 (ends 94 [] (pos 12 ∷ []))
  pub copies_case : Shows copies 9 100 (ends 39 [] (pos 5 ∷ pos 4 ∷ []))
  pub twice_case : judged twice ≡ refused (record { number = 9; at = 12 })
  pub tight_case : judged tight ≡ one_of (record { number = 11; at = 13 } ∷ [])
  pub clash_case : judged clash ≡ one_of (record { number = 11; at = 14 } ∷ record { number = 11; at = 30 } ∷ [])
  -- a life that loads `three`, opens its code, steps it to its end, and is then refused a step
  pub life : Life (λ s. rule_of_tree (reading s)) (runs tie stepped)
  pub life_ends : seen_run (rule three) stepped ≡ ends 11 (pos 3 ∷ []) (pos 3 ∷ [])
