use Rattle.theory.proofs.rigs.ways_are_runs.Goals as goal
use Rattle.theory.proofs.Performing.{ways_are_runs}

pub returns : goal.returns
returns c = ways_are_runs
