use Rattle.hang.proofs.Trying.{still_held}
use Rattle.hang.proofs.charts.Charts.join_pegs.Goals as goal

pub invariant_of-self : goal.invariant_of-self
invariant_of-self g c = record { as_many = c.args.self.now.as_many; held = still_held c.args.self.now.held c.join.ensures.grew }
