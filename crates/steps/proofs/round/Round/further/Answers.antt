use Rattle.std.proofs.Common.{get_or, refl}
use Rattle.rule.specs.Steps.{further}
use Rattle.moves.specs.Views.{pairs_of}
use Rattle.steps.proofs.Steps.{took_broken, along_item, along_then, along_end}
use Rattle.steps.proofs.OfMoves.{no_pair}
use Rattle.steps.proofs.round.Round.further.Goals as goal

pub returns-in_err-lower_dial : goal.returns-in_err-lower_dial
returns-in_err-lower_dial g c =
    let xs = c.args.tests.now in
    let i = c.loop-test.test-index in
    let w = along_item (λ ys. further c.args.extra (pairs_of ys)) xs i no_pair (get_or xs i no_pair) refl c.loop-test-test.true c.loop-test.invariant in
    record { took = w.onward (took_broken _ _ c.from_residual.ensures.1 (rw c.dearer.ensures at c.in_err-lower_dial.ensures.took)) }

pub loop-test-preserved : goal.loop-test-preserved
loop-test-preserved g c =
    let xs = c.args.tests.now in
    let i = c.loop-test.test-index in
    along_then (along_item (λ ys. further c.args.extra (pairs_of ys)) xs i no_pair (get_or xs i no_pair) refl c.loop-test-test.true c.loop-test.invariant) (rw c.dearer.ensures at c.in_ok-lower_dial.ensures.took)

pub returns : goal.returns
returns g c = record { took = along_end (λ ys. further c.args.extra (pairs_of ys)) c.args.tests.now c.loop-test.test-index refl c.loop-test-test.false c.loop-test.invariant }
