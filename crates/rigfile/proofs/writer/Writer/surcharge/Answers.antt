use Rattle.moves.specs.Views.{surcharge_of}
use Rattle.rigfile.proofs.Seen.{after_extra}
use Rattle.rigfile.proofs.writer.Writer.surcharge.Goals as goal

pub pairs-requires : goal.pairs-requires
pairs-requires c = (after_extra (surcharge_of c.args.surcharge.now) c.tests-tests.result.now c.tests-tests.ensures c.extra.result c.extra.ensures c.requires c.bytes.ensures c.number.ensures).room

pub returns : goal.returns
returns c = (after_extra (surcharge_of c.args.surcharge.now) c.tests-tests.result.now c.tests-tests.ensures c.extra.result c.extra.ensures c.requires c.bytes.ensures c.number.ensures).rest c.pairs.new.self c.pairs.ensures
