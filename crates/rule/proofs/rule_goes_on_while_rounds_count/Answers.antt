use Rattle.rule.proofs.rule_goes_on_while_rounds_count.Goals as goal
use Rattle.rule.proofs.Prefixes.{rule_goes_on}

pub returns : goal.returns
returns c = rule_goes_on
