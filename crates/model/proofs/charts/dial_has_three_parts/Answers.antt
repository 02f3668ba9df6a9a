use Rattle.std.proofs.Common.{refl}
use Rattle.model.proofs.charts.dial_has_three_parts.Goals as goal

pub returns : goal.returns
returns c = refl
