use Rattle.std.proofs.Common.{◌≡◌, ◌+◌, ◌*◌, ◌≤◌, map, drop}
use Rattle.model.specs.Lists.{total}
use Rattle.model.specs.Moves.{charged, time}
use Rattle.moves.specs.Views.{surcharge_of, move_of}
use Rattle.moves.proofs.entry.Move.time.Given as goal

abbrev pub invariant-loop-surcharge : goal.invariant-loop-surcharge
invariant-loop-surcharge l =
    (l.total + total (charged l.scene) (map surcharge_of (drop l.surcharge-index l.surcharge-items)) ≡ time (move_of l.self) l.scene)
    × (l.total ≤ 65535 + 65535 * l.surcharge-index)
