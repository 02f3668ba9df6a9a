use Rattle.rule.proofs.rule_is_refused_for_room_alone.Goals as goal
use Rattle.rule.proofs.Refusing.{rule_only_room}

pub returns : goal.returns
returns c = rule_only_room
