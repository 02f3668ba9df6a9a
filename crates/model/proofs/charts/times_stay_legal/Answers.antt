use Rattle.model.proofs.Lateness.{latest}
use Rattle.model.proofs.charts.times_stay_legal.Goals as goal

pub returns : goal.returns
returns c = latest
