-- What the pegs of some charts carry. Assumes nothing.
use Rattle.std.specs.Prelude.{ℕ}
use Rattle.model.specs.Shelves.{Pegs}
use Rattle.pegs.specs.Held.{pegs_in}
use Rattle.hang.specs.declared.charts.Charts.{Charts}

abbrev pub carried : {n : ℕ} → Charts n → Pegs
carried c = pegs_in c.diagrams.store c.pegs
