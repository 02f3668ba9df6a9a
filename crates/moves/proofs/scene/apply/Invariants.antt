use Rattle.std.proofs.Common.{◌≡◌, drop}
use Rattle.lists.specs.Shorts.{listed}
use Rattle.model.specs.Moves.{applied}
use Rattle.moves.specs.Views.{pairs_of}
use Rattle.moves.proofs.scene.apply.Given as goal

abbrev pub invariant-loop-effect : goal.invariant-loop-effect
invariant-loop-effect l =
    applied (pairs_of (drop l.effect-index l.effects)) (listed l.scene) ≡ applied (pairs_of l.effects) (listed l.initial.scene)
