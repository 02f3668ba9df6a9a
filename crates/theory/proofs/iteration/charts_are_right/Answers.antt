use Rattle.theory.proofs.iteration.charts_are_right.Goals as goal
use Rattle.theory.proofs.Cycles.{charts_right}

pub returns : goal.returns
returns c = charts_right
