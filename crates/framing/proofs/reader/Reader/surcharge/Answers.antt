use Rattle.std.proofs.Common.{arith}
use Rattle.framing.proofs.Moves.{no_toll, pass_surcharge}
use Rattle.framing.proofs.reader.Reader.surcharge.Goals as goal

pub returns-in_err-toll : goal.returns-in_err-toll
returns-in_err-toll c = rw c.from_residual.ensures (no_toll c.args.self.now.rest.now c.in_err-toll.ensures.taken)

pub returns : goal.returns
returns c = pass_surcharge c.in_ok-toll.toll c.args.self.now.rest.now c.toll.new.self.rest.now c.skip.new.self.rest.now _ c.skip.result (omega arith) c.in_ok-toll.ensures.taken c.skip.ensures
