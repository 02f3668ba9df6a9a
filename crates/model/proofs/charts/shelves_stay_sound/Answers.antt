use Rattle.model.proofs.Soundness.{stays_sound}
use Rattle.model.proofs.charts.shelves_stay_sound.Goals as goal

pub returns : goal.returns
returns c = stays_sound
