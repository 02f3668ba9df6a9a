use Rattle.model.proofs.Charting.{sum_laws}
use Rattle.model.proofs.charts.sum_is_lawful.Goals as goal

pub returns : goal.returns
returns c = sum_laws
