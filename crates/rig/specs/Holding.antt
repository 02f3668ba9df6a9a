-- What devices and a table of moves hold together, as the definitions see it. Assumes nothing.
use Rattle.std.specs.Prelude.{map, vec_items, Option, Vec}
use Rattle.std.specs.declared.alloc.Global.{Global}
use Rattle.lists.specs.Shorts.{listed}
use Rattle.model.specs.Contents.{Contents}
use Rattle.rig.specs.declared.devices.Devices.{Devices}
use Rattle.moves.specs.declared.entry.Move.{Move}
use Rattle.moves.specs.Views.{slot_of}

abbrev pub holding : Devices → Vec (Option Move) Global → Contents
holding d slots =
    record {
      settings = listed d.settings;
      names = listed d.names;
      scene = listed d.scene;
      masks = listed d.masks;
      slots = map slot_of (vec_items slots);
    }
