use Rattle.theory.proofs.iteration.rounds_stop.Goals as goal
use Rattle.theory.proofs.Cycles.{rounds_stop}

pub returns : goal.returns
returns c = rounds_stop
