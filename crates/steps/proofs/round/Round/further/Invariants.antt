use Rattle.std.proofs.Common.{drop}
use Rattle.rule.specs.Steps.{further}
use Rattle.moves.specs.Views.{pairs_of}
use Rattle.steps.proofs.Steps.{Along}
use Rattle.steps.proofs.round.Round.further.Given as goal

abbrev pub invariant-loop-test : goal.invariant-loop-test
invariant-loop-test g l = Along g.S.Shelf.meaning l.initial.self (further l.extra (pairs_of l.tests)) l.self (further l.extra (pairs_of (drop l.test-index l.tests)))
