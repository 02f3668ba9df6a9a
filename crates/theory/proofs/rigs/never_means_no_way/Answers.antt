use Rattle.theory.proofs.rigs.never_means_no_way.Goals as goal
use Rattle.theory.proofs.Best.{never_none}

pub returns : goal.returns
returns c = never_none
