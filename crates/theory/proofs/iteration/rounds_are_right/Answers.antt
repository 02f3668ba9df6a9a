use Rattle.theory.proofs.iteration.rounds_are_right.Goals as goal
use Rattle.theory.proofs.Times.{rounds_right}

pub returns : goal.returns
returns c = rounds_right
