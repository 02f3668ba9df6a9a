use Rattle.theory.proofs.rigs.lawful_contents_are_well_formed.Goals as goal
use Rattle.theory.proofs.Told.{contents_told}

pub returns : goal.returns
returns c = contents_told
