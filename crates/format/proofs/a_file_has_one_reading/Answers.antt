use Rattle.format.proofs.Whole.{one_reading}
use Rattle.format.proofs.a_file_has_one_reading.Goals as goal

pub returns : goal.returns
returns c = one_reading
