use Rattle.std.proofs.Common.{sym, arith}
use Rattle.format.specs.Files.{file}
use Rattle.rig.specs.Rigs.{contents}
use Rattle.rigfile.proofs.Written.{front}
use Rattle.rigfile.proofs.write.write.Goals as goal

pub returns : goal.returns
returns c =
    let whole = c.rig.ensures in
    let same = sym whole.same_reference in
    let done = front c.args.buffer.now (file (contents c.args.rig.now)) c.rig.new.self.buffer.now whole.done in
    (c.file_size-needed.ensures.size, grind (arith, same, done))
