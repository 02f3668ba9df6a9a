use Rattle.format.proofs.Taking.{taken_back}
use Rattle.format.proofs.what_a_rig_lists_is_taken_as_that_rig.Goals as goal

pub returns : goal.returns
returns c = taken_back
