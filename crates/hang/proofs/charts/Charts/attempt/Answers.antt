use Rattle.memo.proofs.Keeps.{knows_grew}
use Rattle.hang.proofs.Trying.{still_held}
use Rattle.hang.proofs.charts.Charts.attempt.Goals as goal

pub invariant_of-self : goal.invariant_of-self
invariant_of-self g c =
    let s = c.args.self.now in
    ((knows_grew _ _ _ _ _ s.diagrams.known c.dial.ensures.grew, tt), (s.as_many, (still_held s.held c.dial.ensures.grew, tt)))
