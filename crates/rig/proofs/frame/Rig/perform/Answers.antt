use Rattle.std.proofs.Common.{Ok, rules}
use Rattle.lists.specs.Shorts.{listed}
use Rattle.model.specs.Contents.{with_scene}
use Rattle.theory.proofs.Moving.{moved}
use Rattle.rig.specs.Rigs.{contents}
use Rattle.rig.proofs.Answering.{performed_lawful}
use Rattle.rig.proofs.frame.Rig.perform.Goals as goal

pub invariant_of-self : goal.invariant_of-self
invariant_of-self c = record { lawful = performed_lawful (contents c.args.self.now) c.args.self.now.lawful c.args.number _ (search rules) }

pub returns-clause-moved : goal.returns-clause-moved
returns-clause-moved c =
    let s = contents c.args.self.now in
    moved s c.args.number c.args.self.now.lawful (Ok c.time-time.result) (with_scene s (listed c.apply.new.scene)) (search rules) (search rules)
