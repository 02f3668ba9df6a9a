use Rattle.rig.specs.Rigs.{contents}
use Rattle.planfile.proofs.Turns.{Midway}
use Rattle.planfile.proofs.performing.perform_all.Given as goal

abbrev pub invariant-loop-number : goal.invariant-loop-number
invariant-loop-number l = Midway (contents l.initial.rig) l.moves l.number-index l.steps.items (contents l.rig)
