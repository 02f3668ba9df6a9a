use Rattle.std.proofs.Common.{◌≡◌, map, Err, rules}
use Rattle.lists.specs.Shorts.{listed}
use Rattle.model.specs.Calls.{retimes, timing_checks}
use Rattle.moves.specs.Faults.{number}
use Rattle.moves.specs.Views.{surcharge_of}
use Rattle.drafts.specs.Drafts.{charges_of}
use Rattle.rig.specs.Slots.{use_checks}
use Rattle.rig.specs.Rigs.{contents}
use Rattle.rig.proofs.Answering.{refused_by, then_judged}
use Rattle.rig.proofs.Editing.{retimed_there}
use Rattle.rig.proofs.frame.Rig.retime.Goals as goal

pub returns-in_err-surcharges : goal.returns-in_err-surcharges
returns-in_err-surcharges c =
    let s = contents c.args.self.now in
    let n = c.args.number in
    let base = c.args.base in
    let ys = charges_of c.args.charges.now in
    let f = c.in_err-surcharges.field-0.0 in
    let judged : retimes s n base ys ≡ Err (number f) = then_judged s (λ xs. use_checks xs n) (λ ns. timing_checks ns base ys) c.slots.ensures c.settings.ensures.value c.in_ok-occupied.ensures.0 c.in_err-surcharges.ensures in
    let q = refused_by (retimes s n base ys) _ s f judged c.from_residual-in_err-surcharges.result c.from_residual-in_err-surcharges.ensures.1 in
    record { answer = q.answer; left = q.left }

pub invariant_of-self : goal.invariant_of-self
invariant_of-self c =
    let fits = c.in_ok-surcharges.ensures in
    let e = retimed_there c.args.self.now c.args.number c.as_mut_slice.result.now c.retime.new.slots c.as_mut_slice.ensures.value (search rules) c.slots.ensures c.settings.ensures.value c.args.base (charges_of c.args.charges.now) c.in_ok-occupied.ensures.0 fits.0 (map surcharge_of (listed c.in_ok-surcharges.surcharges)) c.retime.ensures.seen fits.1 in
    record { lawful = e.lawful }

pub returns : goal.returns
returns c =
    let fits = c.in_ok-surcharges.ensures in
    let e = retimed_there c.args.self.now c.args.number c.as_mut_slice.result.now c.retime.new.slots c.as_mut_slice.ensures.value (search rules) c.slots.ensures c.settings.ensures.value c.args.base (charges_of c.args.charges.now) c.in_ok-occupied.ensures.0 fits.0 (map surcharge_of (listed c.in_ok-surcharges.surcharges)) c.retime.ensures.seen fits.1 in
    record { answer = e.answer; left = e.left }
