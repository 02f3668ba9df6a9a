use Rattle.model.proofs.Charting.{lengths}
use Rattle.model.proofs.charts.charts_are_whole.Goals as goal

pub returns : goal.returns
returns c = lengths
