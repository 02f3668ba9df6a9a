use Rattle.std.proofs.Common.{◌+◌, map, drop, refl}
use Rattle.rule.specs.Steps.{surcharged}
use Rattle.moves.specs.Views.{surcharge_of}
use Rattle.steps.proofs.Steps.{took_broken, along_item, along_then, along_end}
use Rattle.steps.proofs.OfMoves.{surcharge_parts}
use Rattle.steps.proofs.round.Round.surcharged.Goals as goal

pub returns-in_err-add_surcharge : goal.returns-in_err-add_surcharge
returns-in_err-add_surcharge g c =
    let xs = c.args.surcharges.now in
    let i = c.loop-surcharge.surcharge-index in
    let x = c.surcharge-item.result in
    let w = along_item (λ ys. surcharged (map surcharge_of ys)) xs i x x c.surcharge-item.is c.loop-surcharge-test.true c.loop-surcharge.invariant in
    record { took = (rw (surcharge_parts x (drop (i + 1) xs)) at w).onward (took_broken _ _ c.from_residual.ensures.1 c.in_err-add_surcharge.ensures.took) }

pub loop-surcharge-preserved : goal.loop-surcharge-preserved
loop-surcharge-preserved g c =
    let xs = c.args.surcharges.now in
    let i = c.loop-surcharge.surcharge-index in
    let x = c.surcharge-item.result in
    let w = along_item (λ ys. surcharged (map surcharge_of ys)) xs i x x c.surcharge-item.is c.loop-surcharge-test.true c.loop-surcharge.invariant in
    along_then (rw (surcharge_parts x (drop (i + 1) xs)) at w) c.in_ok-add_surcharge.ensures.took

pub returns : goal.returns
returns g c = record { took = along_end (λ ys. surcharged (map surcharge_of ys)) c.args.surcharges.now c.loop-surcharge.surcharge-index refl c.loop-surcharge-test.false c.loop-surcharge.invariant }
