use Rattle.std.proofs.Common.{◌≡◌, Some, Err, sym, ap, rules}
use Rattle.model.specs.Calls.{adds, move_checks}
use Rattle.moves.specs.Faults.{number}
use Rattle.drafts.specs.Drafts.{draft_of}
use Rattle.rig.specs.Slots.{vacancy_checks}
use Rattle.rig.specs.Rigs.{contents}
use Rattle.rig.proofs.Answering.{refused_by, then_judged}
use Rattle.rig.proofs.Editing.{added_there}
use Rattle.rig.proofs.frame.Rig.add.Goals as goal

pub returns-in_err-entry : goal.returns-in_err-entry
returns-in_err-entry c =
    let s = contents c.args.self.now in
    let n = c.args.number in
    let d = draft_of c.args.draft.now in
    let f = c.in_err-entry.field-0.0 in
    let judged : adds s n d ≡ Err (number f) = then_judged s (λ xs. vacancy_checks xs n) (λ ns. move_checks ns d) c.slots.ensures c.settings.ensures.value (sym c.in_ok-vacant.ensures) c.in_err-entry.ensures in
    let q = refused_by (adds s n d) _ s f judged c.from_residual-in_err-entry.result c.from_residual-in_err-entry.ensures.1 in
    record { answer = q.answer; left = q.left }

pub invariant_of-self : goal.invariant_of-self
invariant_of-self c =
    let fits = c.in_ok-entry.ensures in
    let e = added_there c.args.self.now c.args.number _ c.store.new.slots c.as_mut_slice.ensures.value (search rules) c.slots.ensures c.settings.ensures.value (draft_of c.args.draft.now) (sym c.in_ok-vacant.ensures) fits.0 _ c.store.ensures.seen (ap Some fits.1) in
    record { lawful = e.lawful }

pub returns : goal.returns
returns c =
    let fits = c.in_ok-entry.ensures in
    let e = added_there c.args.self.now c.args.number _ c.store.new.slots c.as_mut_slice.ensures.value (search rules) c.slots.ensures c.settings.ensures.value (draft_of c.args.draft.now) (sym c.in_ok-vacant.ensures) fits.0 _ c.store.ensures.seen (ap Some fits.1) in
    record { answer = e.answer; left = e.left }
