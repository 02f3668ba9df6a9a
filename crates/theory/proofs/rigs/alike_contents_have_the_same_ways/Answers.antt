use Rattle.theory.proofs.rigs.alike_contents_have_the_same_ways.Goals as goal
use Rattle.theory.proofs.Alikes.{ways_alike}

pub returns : goal.returns
returns c = ways_alike
