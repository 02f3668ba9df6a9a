use Rattle.evening.proofs.every_case_of_the_evening_holds.Goals as goal
use Rattle.evening.proofs.Cases.{all_hold}

pub returns : goal.returns
returns c = all_hold
