use Rattle.std.proofs.Common.{[], rules}
use Rattle.std.proofs.ByRecursion.{All-from_get_or}
use Rattle.format.specs.Files.{Eight}
use Rattle.rigfile.proofs.sizes.devices_size.Goals as goal

pub returns-clause-eight : goal.returns-clause-eight
returns-clause-eight c = All-from_get_or Eight c.args.names.now [] (λ k h. search rules)
