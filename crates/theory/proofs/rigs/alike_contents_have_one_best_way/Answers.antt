use Rattle.theory.proofs.rigs.alike_contents_have_one_best_way.Goals as goal
use Rattle.theory.proofs.Alikes.{best_alike}

pub returns : goal.returns
returns c = best_alike
