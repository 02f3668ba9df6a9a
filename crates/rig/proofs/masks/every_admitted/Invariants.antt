use Rattle.std.proofs.Common.{◌≡◌, drop}
use Rattle.model.specs.Masks.{wanted}
use Rattle.rig.proofs.masks.every_admitted.Given as goal

abbrev pub invariant-loop-i : goal.invariant-loop-i
invariant-loop-i l = wanted (drop l.i l.masks) (drop l.i l.scene) ≡ wanted l.masks l.scene
