use Rattle.std.proofs.Common.{arith}
use Rattle.rig.specs.Rigs.{contents}
use Rattle.rigfile.proofs.Whole.{file_small, file_long}
use Rattle.rigfile.proofs.sizes.file_size.Goals as goal

pub overflow_add-result-3 : goal.overflow_add-result-3
overflow_add-result-3 c = omega (arith, file_small (contents c.args.rig.now) _ _ _ c.settings.ensures.value c.names.ensures c.slots.ensures c.settings.ensures.lawful c.devices_size.ensures.eight c.devices_size.ensures.size c.slots_size.ensures)

pub returns : goal.returns
returns c =
    record {
      size = file_long (contents c.args.rig.now) _ _ _ c.settings.ensures.value c.names.ensures c.slots.ensures c.settings.ensures.lawful c.devices_size.ensures.eight c.devices_size.ensures.size c.slots_size.ensures;
      small = file_small (contents c.args.rig.now) _ _ _ c.settings.ensures.value c.names.ensures c.slots.ensures c.settings.ensures.lawful c.devices_size.ensures.eight c.devices_size.ensures.size c.slots_size.ensures;
    }
