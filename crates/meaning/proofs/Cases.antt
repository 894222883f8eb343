-- The worked cases hold.
use Rattle.std.proofs.Common.{[], ◌∷◌, refl, lit≤}
use Rattle.meaning.specs.Lives.{Shelf, made, loaded, opens, steps, step_refused}
use Rattle.meaning.specs.Code.{program}
use Rattle.meaning.specs.CaseTrees.{three}
use Rattle.meaning.specs.Cases.{rule, tie, WorkedCases}

abbrev shelf : Shelf
shelf = record { code = []; capacity = 11; cost = λ i. 1 }

pub worked_cases : WorkedCases
worked_cases = record {
  empty_case = record { passes = refl; means = refl; runs = refl };
  three_case = record { passes = refl; means = refl; runs = refl };
  three_code = refl;
  early_case = record { passes = refl; means = refl; runs = refl };
  below_case = record { passes = refl; means = refl; runs = refl };
  chain_case = record { passes = refl; means = refl; runs = refl };
  inside_case = record { passes = refl; means = refl; runs = refl };
  outside_case = record { passes = refl; means = refl; runs = refl };
  siblings_case = record { passes = refl; means = refl; runs = refl };
  sum_case = record { passes = refl; means = refl; runs = refl };
  sum_short = record { passes = refl; means = refl; runs = refl };
  sum_cut = record { passes = refl; means = refl; runs = refl };
  sum_objects = refl;
  turns_case = record { passes = refl; means = refl; runs = refl };
  copies_case = record { passes = refl; means = refl; runs = refl };
  twice_case = refl;
  tight_case = refl;
  clash_case = refl;
  life =
      step_refused 3 1 32 refl (steps 3 100 refl (steps 3 5 refl (opens tie (rule three, refl, refl) refl
      (loaded (123 ∷ []) shelf (record { code = program (rule three); capacity = 11; cost = λ i. 1 })
      (record { rule = rule three; accepted = refl; fits = lit≤ tt; code = refl; capacity = refl; cost = refl }) made))));
  life_ends = refl;
}
