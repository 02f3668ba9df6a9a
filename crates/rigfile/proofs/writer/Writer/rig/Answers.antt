use Rattle.std.proofs.Common.{refl}
use Rattle.rig.specs.Rigs.{contents}
use Rattle.rigfile.proofs.Whole.{devices_room, scene_room, masks_room, after_masks}
use Rattle.rigfile.proofs.writer.Writer.rig.Goals as goal

pub devices-requires-clause-room : goal.devices-requires-clause-room
devices-requires-clause-room c = devices_room (contents c.args.rig.now) _ _ _ c.settings-settings.ensures.value c.names.ensures c.slots-slots.ensures refl refl c.in_use.ensures c.requires.whole c.requires.room c.header.ensures

pub bytes-requires : goal.bytes-requires
bytes-requires c = scene_room (contents c.args.rig.now) _ _ _ c.settings-settings.ensures.value c.names.ensures c.slots-slots.ensures c.scene.ensures refl c.in_use.ensures c.requires.whole c.requires.room c.header.ensures c.devices.ensures

pub bytes-requires-2 : goal.bytes-requires-2
bytes-requires-2 c =
    masks_room (contents c.args.rig.now) _ _ _ c.settings-settings.ensures.value c.names.ensures c.slots-slots.ensures c.scene.ensures c.masks.ensures c.in_use.ensures c.requires.whole c.requires.room c.header.ensures c.devices.ensures c.bytes.ensures

pub slots-requires-clause-room : goal.slots-requires-clause-room
slots-requires-clause-room c =
    (after_masks (contents c.args.rig.now) _ _ _ c.settings-settings.ensures.value c.names.ensures c.slots-slots.ensures c.scene.ensures c.masks.ensures c.in_use.ensures c.requires.whole c.requires.room c.header.ensures c.devices.ensures c.bytes.ensures c.bytes-2.ensures).room

pub returns : goal.returns
returns c =
    (after_masks (contents c.args.rig.now) _ _ _ c.settings-settings.ensures.value c.names.ensures c.slots-slots.ensures c.scene.ensures c.masks.ensures c.in_use.ensures c.requires.whole c.requires.room c.header.ensures c.devices.ensures c.bytes.ensures c.bytes-2.ensures).rest
    c.slots.new.self
    c.slots.ensures
