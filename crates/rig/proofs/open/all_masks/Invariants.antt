use Rattle.std.proofs.Common.{◌≡◌, ◌++◌, map, take, drop}
use Rattle.lists.specs.Shorts.{listed}
use Rattle.model.specs.Masks.{all_of}
use Rattle.rig.proofs.open.all_masks.Given as goal

abbrev pub invariant-loop-device : goal.invariant-loop-device
invariant-loop-device l = listed l.masks ≡ map all_of (take l.device (listed l.settings)) ++ drop l.device (listed l.settings)
