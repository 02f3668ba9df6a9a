use Rattle.theory.proofs.rigs.lawful_moves_make_lawful_tables.Goals as goal
use Rattle.theory.proofs.Tabling.{moves_lawful}

pub returns : goal.returns
returns c = moves_lawful
