use Rattle.std.proofs.Common.{◌+◌, drop}
use Rattle.rule.specs.Steps.{masked}
use Rattle.steps.proofs.Steps.{Along}
use Rattle.rounds.proofs.rounds.masked.Given as goal

abbrev pub invariant-loop-before : goal.invariant-loop-before
invariant-loop-before g l = Along g.S.Shelf.meaning l.initial.round (masked 1 l.masks) l.round (masked (l.before + 1) (drop l.before l.masks))
