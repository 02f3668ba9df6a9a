use Rattle.std.proofs.Common.{drop}
use Rattle.rule.specs.Steps.{effected}
use Rattle.moves.specs.Views.{pairs_of}
use Rattle.steps.proofs.Steps.{Along}
use Rattle.steps.proofs.round.Round.effected.Given as goal

abbrev pub invariant-loop-effect : goal.invariant-loop-effect
invariant-loop-effect g l = Along g.S.Shelf.meaning l.initial.self (effected (pairs_of l.effects)) l.self (effected (pairs_of (drop l.effect-index l.effects)))
