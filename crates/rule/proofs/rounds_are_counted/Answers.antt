use Rattle.rule.proofs.rounds_are_counted.Goals as goal
use Rattle.rule.proofs.Counts.{rounds_counted}

pub returns : goal.returns
returns c = rounds_counted
