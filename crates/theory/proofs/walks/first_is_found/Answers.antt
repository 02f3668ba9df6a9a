use Rattle.theory.proofs.walks.first_is_found.Goals as goal
use Rattle.theory.proofs.Greedy.{first_found}

pub returns : goal.returns
returns c = first_found
