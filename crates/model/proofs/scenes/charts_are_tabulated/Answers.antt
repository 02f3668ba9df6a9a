use Rattle.model.proofs.scenes.charts_are_tabulated.Goals as goal
use Rattle.model.proofs.Ranks.{tabulated}

pub returns : goal.returns
returns c = tabulated
