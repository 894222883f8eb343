use Rattle.meaning.proofs.Keeps.{memory_kept, host_onward}
use Rattle.meaning.proofs.Runs.{runs_add, ended_stays, going_counts, budget_spent}
use Rattle.meaning.proofs.run_laws_stand.Goals as goal

pub returns : goal.returns
returns c = record { runs_add = runs_add; ended_stays = ended_stays; going_counts = going_counts; budget_spent = budget_spent; memory_kept = memory_kept; host_onward = host_onward }
