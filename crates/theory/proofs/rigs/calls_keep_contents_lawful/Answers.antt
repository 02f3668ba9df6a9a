use Rattle.theory.proofs.Keeping.{calls_keep}
use Rattle.theory.proofs.rigs.calls_keep_contents_lawful.Goals as goal

pub returns : goal.returns
returns c = calls_keep
