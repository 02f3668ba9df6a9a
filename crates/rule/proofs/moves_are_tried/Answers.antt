use Rattle.rule.proofs.moves_are_tried.Goals as goal
use Rattle.rule.proofs.Whole.{moves_tried}

pub returns : goal.returns
returns c = moves_tried
