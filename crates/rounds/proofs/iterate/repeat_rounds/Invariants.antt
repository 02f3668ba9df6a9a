use Rattle.std.proofs.Common.{◌≡◌, ◌-◌}
use Rattle.rule.specs.Rule.{count}
use Rattle.rig.specs.Rigs.{contents}
use Rattle.rounds.proofs.Going.{Going}
use Rattle.rounds.proofs.iterate.repeat_rounds.Given as goal

abbrev pub invariant-loop-round : goal.invariant-loop-round
invariant-loop-round g l =
    record {
      going : Going (contents l.rig) (g.S.Shelf.meaning l.initial.round.shelf.now) (g.S.Shelf.meaning l.round.shelf.now) l.changed;
      same_shelf : l.round.shelf.ghost_name ≡ l.initial.round.shelf.ghost_name;
    }

abbrev pub decreases-loop-round : goal.decreases-loop-round
decreases-loop-round g l = count (contents l.rig) - l.changed
