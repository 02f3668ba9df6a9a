use Rattle.theory.proofs.rigs.greedy_walks_are_best_ways.Goals as goal
use Rattle.theory.proofs.Best.{walks_best}

pub returns : goal.returns
returns c = walks_best
