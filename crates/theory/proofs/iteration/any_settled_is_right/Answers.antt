use Rattle.theory.proofs.iteration.any_settled_is_right.Goals as goal
use Rattle.theory.proofs.Times.{any_settled_right}

pub returns : goal.returns
returns c = any_settled_right
