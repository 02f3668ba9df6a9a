use Rattle.std.proofs.Common.{get_or, refl}
use Rattle.rule.specs.Steps.{effected}
use Rattle.moves.specs.Views.{pairs_of}
use Rattle.steps.proofs.Steps.{took_broken, along_item, along_then, along_end}
use Rattle.steps.proofs.OfMoves.{no_pair}
use Rattle.steps.proofs.round.Round.effected.Goals as goal

pub returns-in_err-put : goal.returns-in_err-put
returns-in_err-put g c =
    let xs = c.args.effects.now in
    let i = c.loop-effect.effect-index in
    let w = along_item (λ ys. effected (pairs_of ys)) xs i no_pair (get_or xs i no_pair) refl c.loop-effect-test.true c.loop-effect.invariant in
    record { took = w.onward (took_broken _ _ c.from_residual.ensures.1 c.in_err-put.ensures.took) }

pub loop-effect-preserved : goal.loop-effect-preserved
loop-effect-preserved g c =
    let xs = c.args.effects.now in
    let i = c.loop-effect.effect-index in
    along_then (along_item (λ ys. effected (pairs_of ys)) xs i no_pair (get_or xs i no_pair) refl c.loop-effect-test.true c.loop-effect.invariant) c.in_ok-put.ensures.took

pub returns : goal.returns
returns g c = record { took = along_end (λ ys. effected (pairs_of ys)) c.args.effects.now c.loop-effect.effect-index refl c.loop-effect-test.false c.loop-effect.invariant }
