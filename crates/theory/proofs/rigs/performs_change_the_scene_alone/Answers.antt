use Rattle.theory.proofs.rigs.performs_change_the_scene_alone.Goals as goal
use Rattle.theory.proofs.Performing.{performs_keep}

pub returns : goal.returns
returns c = performs_keep
