use Rattle.rule.proofs.rounds_are_shown.Goals as goal
use Rattle.rule.proofs.Whole.{rounds_shown}

pub returns : goal.returns
returns c = rounds_shown
