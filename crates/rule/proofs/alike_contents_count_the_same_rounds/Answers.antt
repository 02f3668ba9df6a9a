use Rattle.rule.proofs.alike_contents_count_the_same_rounds.Goals as goal
use Rattle.rule.proofs.Counts.{counts_alike}

pub returns : goal.returns
returns c = counts_alike
