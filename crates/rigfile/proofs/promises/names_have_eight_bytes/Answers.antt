use Rattle.std.proofs.Common.{[], rules}
use Rattle.std.proofs.ByRecursion.{All-from_get_or}
use Rattle.format.specs.Files.{Eight}
use Rattle.rigfile.proofs.promises.names_have_eight_bytes.Goals as goal

pub returns : goal.returns
returns c = All-from_get_or Eight c.args.names.now [] (λ k h. search rules)
