use Rattle.theory.proofs.Opening.{openings_lawful}
use Rattle.theory.proofs.rigs.openings_leave_lawful_contents.Goals as goal

pub returns : goal.returns
returns c = openings_lawful
