use Rattle.build.specs.Builds.{Ready}
use Rattle.collect.specs.Copies.{Moved}
use Rattle.pegs.specs.Held.{Swept}
use Rattle.lent.proofs.sweeping.copy_pegs.Given as goal

abbrev pub invariant-loop-peg : goal.invariant-loop-peg
invariant-loop-peg l = record {
  ready : Ready l.spare l.settings;
  swept : Swept l.source l.spare l.settings l.initial.pegs l.pegs l.peg-index;
  moved : Moved l.source l.spare l.settings l.moved;
}
