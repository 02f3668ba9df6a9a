use Rattle.std.proofs.Common.{◌+◌, get_or, refl}
use Rattle.rule.specs.Steps.{masked}
use Rattle.steps.proofs.Steps.{took_broken, along_item, along_then, along_end}
use Rattle.rounds.proofs.rounds.masked.Goals as goal

pub returns-in_err-add_dial : goal.returns-in_err-add_dial
returns-in_err-add_dial g c =
    let xs = c.args.masks.now in
    let i = c.loop-before.before in
    let w = along_item (masked (i + 1)) xs i 0 (get_or xs i 0) refl c.loop-before-test.true c.loop-before.invariant in
    record { took = w.onward (took_broken _ _ c.from_residual.ensures.1 (rw c.admitting.ensures at c.in_err-add_dial.ensures.took)) }

pub loop-before-preserved : goal.loop-before-preserved
loop-before-preserved g c =
    let xs = c.args.masks.now in
    let i = c.loop-before.before in
    along_then (along_item (masked (i + 1)) xs i 0 (get_or xs i 0) refl c.loop-before-test.true c.loop-before.invariant) (rw c.admitting.ensures at c.in_ok-add_dial.ensures.took)

pub returns : goal.returns
returns g c = record { took = along_end (masked (c.loop-before.before + 1)) c.args.masks.now c.loop-before.before refl c.loop-before-test.false c.loop-before.invariant }
