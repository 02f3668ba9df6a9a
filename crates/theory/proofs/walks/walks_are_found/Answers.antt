use Rattle.theory.proofs.walks.walks_are_found.Goals as goal
use Rattle.theory.proofs.Greedy.{walk_found}

pub returns : goal.returns
returns c = walk_found
