use Rattle.std.proofs.Common.{get_or, refl}
use Rattle.rule.specs.Steps.{conditioned}
use Rattle.moves.specs.Views.{pairs_of}
use Rattle.steps.proofs.Steps.{took_broken, along_item, along_then, along_end}
use Rattle.steps.proofs.OfMoves.{no_pair}
use Rattle.steps.proofs.round.Round.conditioned.Goals as goal

pub returns-in_err-add_dial : goal.returns-in_err-add_dial
returns-in_err-add_dial g c =
    let xs = c.args.conditions.now in
    let i = c.loop-condition.condition-index in
    let w = along_item (λ ys. conditioned (pairs_of ys)) xs i no_pair (get_or xs i no_pair) refl c.loop-condition-test.true c.loop-condition.invariant in
    record { took = w.onward (took_broken _ _ c.from_residual.ensures.1 (rw c.only_at.ensures at c.in_err-add_dial.ensures.took)) }

pub loop-condition-preserved : goal.loop-condition-preserved
loop-condition-preserved g c =
    let xs = c.args.conditions.now in
    let i = c.loop-condition.condition-index in
    along_then (along_item (λ ys. conditioned (pairs_of ys)) xs i no_pair (get_or xs i no_pair) refl c.loop-condition-test.true c.loop-condition.invariant) (rw c.only_at.ensures at c.in_ok-add_dial.ensures.took)

pub returns : goal.returns
returns g c = record { took = along_end (λ ys. conditioned (pairs_of ys)) c.args.conditions.now c.loop-condition.condition-index refl c.loop-condition-test.false c.loop-condition.invariant }
