use Rattle.format.proofs.Tables.{placed_back}
use Rattle.format.proofs.moves_are_placed_back.Goals as goal

pub returns : goal.returns
returns c = placed_back
