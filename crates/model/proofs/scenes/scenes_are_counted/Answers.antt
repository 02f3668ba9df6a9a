use Rattle.model.proofs.scenes.scenes_are_counted.Goals as goal
use Rattle.model.proofs.Ranks.{counted}

pub returns : goal.returns
returns c = counted
