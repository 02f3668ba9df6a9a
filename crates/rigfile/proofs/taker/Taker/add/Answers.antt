use Rattle.std.proofs.Common.{◌≡◌, ◌-◌, ◌++◌, length, Ok, Err, refl, ◌∙◌, rules}
use Rattle.model.specs.Calls.{adds, added}
use Rattle.format.specs.Files.{entry}
use Rattle.rig.specs.Rigs.{contents}
use Rattle.moves.specs.Faults.{number}
use Rattle.rigfile.specs.declared.unread.ReadFault.TheVariants.{NotAdded}
use Rattle.rigfile.specs.Taking.{entry_of}
use Rattle.rigfile.proofs.Added.{next_ok, next_err}
use Rattle.rigfile.proofs.taker.Taker.add.Goals as goal

pub returns-in-Ok-clause-answer : goal.returns-in-Ok-clause-answer
returns-in-Ok-clause-answer c =
    let before = c.args.self.now.reader.rest.now in
    let after = c.entry.new.self.reader.rest.now in
    let old = contents c.args.rig.now in
    let x = entry_of c.in_ok-entry.entry in
    let front : before ≡ entry x ++ after = search rules in
    let ok : Ok tt ≡ adds old x.number x.move = c.in-Ok.ensures.answer ∙ (λ i. adds old (c.from.ensures i) (c.draft.ensures i)) in
    let left : contents c.add.new.self ≡ added old x.number x.move = c.in-Ok.ensures.left ∙ (λ i. added old (c.from.ensures i) (c.draft.ensures i)) in
    next_ok (c.args.total - length before) before old (contents c.add.new.self) after x front ok left

pub returns-in-Err-clause-answer : goal.returns-in-Err-clause-answer
returns-in-Err-clause-answer c =
    let before = c.args.self.now.reader.rest.now in
    let byte = c.args.total - length before in
    let after = c.entry.new.self.reader.rest.now in
    let old = contents c.args.rig.now in
    let x = entry_of c.in_ok-entry.entry in
    let front : before ≡ entry x ++ after = search rules in
    let err : Err (number c.in-Err.fault) ≡ adds old x.number x.move = c.in-Err.ensures.answer ∙ (λ i. adds old (c.from.ensures i) (c.draft.ensures i)) in
    next_err byte before old (contents c.add.new.self) after x front (NotAdded c.in-Err.fault byte) (number c.in-Err.fault) refl err
