use Rattle.std.proofs.Common.{◌≡◌, ◌*◌, ◌^◌, ◌≤◌, drop}
use Rattle.model.specs.Masks.{product_of_ones}
use Rattle.rig.proofs.masks.product.Given as goal

abbrev pub invariant-loop-mask : goal.invariant-loop-mask
invariant-loop-mask l =
    (l.product * product_of_ones (drop l.mask-index l.masks) ≡ product_of_ones l.masks)
    × (l.product ≤ 8 ^ l.mask-index)
