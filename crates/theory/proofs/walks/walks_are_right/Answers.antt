use Rattle.theory.proofs.walks.walks_are_right.Goals as goal
use Rattle.theory.proofs.Greedy.{walk_right}

pub returns : goal.returns
returns c = walk_right
