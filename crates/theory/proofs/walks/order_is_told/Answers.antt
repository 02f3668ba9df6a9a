use Rattle.theory.proofs.walks.order_is_told.Goals as goal
use Rattle.theory.proofs.Greedy.{before_told}

pub returns : goal.returns
returns c = before_told
