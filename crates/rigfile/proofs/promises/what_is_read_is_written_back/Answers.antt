use Rattle.rigfile.proofs.Back.{writes_back}
use Rattle.rigfile.proofs.promises.what_is_read_is_written_back.Goals as goal

pub returns : goal.returns
returns c = writes_back
