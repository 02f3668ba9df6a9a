use Rattle.model.proofs.Charting.{same_is_equal}
use Rattle.model.proofs.charts.same_is_equality.Goals as goal

pub returns : goal.returns
returns c = same_is_equal
