use Rattle.std.proofs.Common.{sym}
use Rattle.moves.specs.Views.{surcharge_of}
use Rattle.rigfile.proofs.Seen.{surcharge_size}
use Rattle.rigfile.proofs.sizes.surcharge_size.Goals as goal

pub returns-clause-size : goal.returns-clause-size
returns-clause-size c = sym (surcharge_size (surcharge_of c.args.surcharge.now) c.tests.result.now c.tests.ensures)
