use Rattle.std.proofs.Common.{rules}
use Rattle.rounds.proofs.OfRounds.{named}
use Rattle.rounds.proofs.rounds.by_move.Goals as goal

pub returns : goal.returns
returns g c = record { stepped = named (λ h e p. search rules) c.map_err.ensures.cases c.lowered.ensures.took }
