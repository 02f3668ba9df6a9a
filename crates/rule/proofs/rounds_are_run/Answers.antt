use Rattle.rule.proofs.rounds_are_run.Goals as goal
use Rattle.rule.proofs.Whole.{rounds_run}

pub returns : goal.returns
returns c = rounds_run
