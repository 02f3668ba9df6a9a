use Rattle.parts.proofs.Pieces.{parts_later}
use Rattle.parts.proofs.shifts_keep_parts.Goals as goal

pub returns : goal.returns
returns c = parts_later
