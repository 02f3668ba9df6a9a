use Rattle.std.proofs.Common.{drop}
use Rattle.rule.specs.Steps.{conditioned}
use Rattle.moves.specs.Views.{pairs_of}
use Rattle.steps.proofs.Steps.{Along}
use Rattle.steps.proofs.round.Round.conditioned.Given as goal

abbrev pub invariant-loop-condition : goal.invariant-loop-condition
invariant-loop-condition g l = Along g.S.Shelf.meaning l.initial.self (conditioned (pairs_of l.conditions)) l.self (conditioned (pairs_of (drop l.condition-index l.conditions)))
