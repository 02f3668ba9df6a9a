use Rattle.theory.proofs.walks.zero_is_wanted.Goals as goal
use Rattle.theory.proofs.Greedy.{zero_wanted}

pub returns : goal.returns
returns c = zero_wanted
