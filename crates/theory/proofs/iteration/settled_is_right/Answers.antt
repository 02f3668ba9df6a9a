use Rattle.theory.proofs.iteration.settled_is_right.Goals as goal
use Rattle.theory.proofs.Times.{settled_right}

pub returns : goal.returns
returns c = settled_right
