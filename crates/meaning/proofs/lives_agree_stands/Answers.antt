use Rattle.meaning.proofs.Lives.{lives_agree, judged_rules_sound, budgets_free, runs_bounded, steps_spend, load_carries, open_carries, step_carries}
use Rattle.meaning.proofs.lives_agree_stands.Goals as goal

pub returns : goal.returns
returns c = record {
  agree = lives_agree;
  sound = judged_rules_sound;
  free = budgets_free;
  bounded = runs_bounded;
  spend = steps_spend;
  loads = load_carries;
  opens = open_carries;
  steps = step_carries;
}
