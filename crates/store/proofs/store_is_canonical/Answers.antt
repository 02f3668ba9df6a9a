use Rattle.store.proofs.Canon.{canonical}
use Rattle.store.proofs.store_is_canonical.Goals as goal

pub returns : goal.returns
returns c = canonical
