use Rattle.store.proofs.Fits.{overfull}
use Rattle.store.proofs.store_is_overfull.Goals as goal

pub returns : goal.returns
returns c = overfull
