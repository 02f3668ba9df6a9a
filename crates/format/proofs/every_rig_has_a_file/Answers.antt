use Rattle.format.proofs.Whole.{every_file}
use Rattle.format.proofs.every_rig_has_a_file.Goals as goal

pub returns : goal.returns
returns c = every_file
