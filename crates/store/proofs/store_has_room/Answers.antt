use Rattle.store.proofs.Fits.{roomy}
use Rattle.store.proofs.store_has_room.Goals as goal

pub returns : goal.returns
returns c = roomy
