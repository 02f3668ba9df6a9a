use Rattle.rule.proofs.first_overfilling_is_told.Goals as goal
use Rattle.rule.proofs.Prefixes.{overfilling_told}

pub returns : goal.returns
returns c = overfilling_told
