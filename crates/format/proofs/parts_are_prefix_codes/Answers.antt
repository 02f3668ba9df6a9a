use Rattle.format.proofs.Whole.{prefixes}
use Rattle.format.proofs.parts_are_prefix_codes.Goals as goal

pub returns : goal.returns
returns c = prefixes
