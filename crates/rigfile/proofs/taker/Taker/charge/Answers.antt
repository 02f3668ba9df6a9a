use Rattle.framing.proofs.Moves.{no_toll}
use Rattle.rigfile.proofs.taker.Taker.charge.Goals as goal

pub returns-in_err-toll : goal.returns-in_err-toll
returns-in_err-toll c = rw c.from_residual.ensures (no_toll c.args.self.now.reader.rest.now c.in_err-toll.ensures)
