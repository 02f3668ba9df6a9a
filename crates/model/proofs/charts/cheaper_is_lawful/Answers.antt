use Rattle.model.proofs.Charting.{cheaper_laws}
use Rattle.model.proofs.charts.cheaper_is_lawful.Goals as goal

pub returns : goal.returns
returns c = cheaper_laws
