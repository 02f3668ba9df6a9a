use Rattle.rounds.proofs.OfRounds.{lowering_next, lowering_broken, lowering_all}
use Rattle.rounds.proofs.rounds.by_moves.Goals as goal

pub returns-in_err-by_move : goal.returns-in_err-by_move
returns-in_err-by_move g c =
    record { stepped = lowering_broken c.loop-number.invariant c.index-slots-number.result c.loop-number-test.true c.index-slots-number.is c.from_residual.result c.from_residual.ensures.1 c.in_err-by_move.ensures.stepped }

pub loop-number-preserved : goal.loop-number-preserved
loop-number-preserved g c = lowering_next c.loop-number.invariant c.index-slots-number.result c.loop-number-test.true c.index-slots-number.is c.in_ok-by_move.ensures.stepped

pub returns : goal.returns
returns g c = record { stepped = lowering_all c.loop-number.invariant c.loop-number-test.false }
