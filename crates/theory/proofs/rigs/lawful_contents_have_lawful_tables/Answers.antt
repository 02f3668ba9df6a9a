use Rattle.theory.proofs.rigs.lawful_contents_have_lawful_tables.Goals as goal
use Rattle.theory.proofs.Tabling.{tables_lawful}

pub returns : goal.returns
returns c = tables_lawful
