use Rattle.rule.proofs.starts_are_run.Goals as goal
use Rattle.rule.proofs.Whole.{starts_run}

pub returns : goal.returns
returns c = starts_run
