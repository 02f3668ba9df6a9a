use Rattle.format.proofs.Whole.{one_file}
use Rattle.format.proofs.a_rig_has_one_file.Goals as goal

pub returns : goal.returns
returns c = one_file
