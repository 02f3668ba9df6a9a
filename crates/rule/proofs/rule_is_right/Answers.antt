use Rattle.rule.proofs.rule_is_right.Goals as goal
use Rattle.rule.proofs.Whole.{rule_right}

pub returns : goal.returns
returns c = rule_right
