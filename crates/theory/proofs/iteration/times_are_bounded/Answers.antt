use Rattle.theory.proofs.iteration.times_are_bounded.Goals as goal
use Rattle.theory.proofs.Cycles.{times_bounded}

pub returns : goal.returns
returns c = times_bounded
