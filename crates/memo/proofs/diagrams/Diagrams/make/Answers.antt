use Rattle.memo.proofs.Keeps.{knows_grew}
use Rattle.memo.proofs.diagrams.Diagrams.make.Goals as goal

pub invariant_of-self : goal.invariant_of-self
invariant_of-self c = record { known = knows_grew _ _ _ _ _ c.args.self.now.known c.make.ensures.grew }
