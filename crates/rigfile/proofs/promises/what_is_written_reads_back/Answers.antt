use Rattle.std.proofs.Common.{subst}
use Rattle.std.specs.List.{AllByRecursion}
use Rattle.format.specs.Files.{Eight}
use Rattle.rig.specs.Rigs.{contents}
use Rattle.rigfile.proofs.Back.{reads_back}
use Rattle.rigfile.proofs.promises.what_is_written_reads_back.Goals as goal

pub returns : goal.returns
returns c =
    reads_back (contents c.args.rig.now) (record { lawful = c.args.rig.now.lawful; eight = subst (AllByRecursion Eight) c.names.ensures c.names_have_eight_bytes.ensures })
