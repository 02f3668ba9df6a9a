use Rattle.std.proofs.Common.{◌≡◌, take, drop}
use Rattle.rig.specs.Rigs.{contents}
use Rattle.show.proofs.Turns.{Done}
use Rattle.show.proofs.play.play.Given as goal

abbrev pub invariant-loop-cue : goal.invariant-loop-cue
invariant-loop-cue g l =
    Done g.S.Shelf.meaning (contents l.initial.rig) (take l.cue-index l.initial.cues) (take l.cue-index l.cues) (contents l.rig)
    × (drop l.cue-index l.cues ≡ drop l.cue-index l.initial.cues)
