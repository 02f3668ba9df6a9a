use Rattle.model.proofs.Charting.{put_once}
use Rattle.model.proofs.charts.put_is_idempotent.Goals as goal

pub returns : goal.returns
returns c = put_once
