use Rattle.std.proofs.Common.{◌*◌, ◌≤◌, take}
use Rattle.rig.specs.Rigs.{contents}
use Rattle.theory.specs.Performing.{Performs}
use Rattle.embed.proofs.performing.performed.Given as goal

abbrev pub invariant-loop-place : goal.invariant-loop-place
invariant-loop-place l =
    Performs (contents l.initial.rig) (take l.place-counter l.run) l.total (contents l.rig)
    × (l.total ≤ l.place-counter * 4294967295)
