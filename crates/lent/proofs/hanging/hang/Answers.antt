use Rattle.std.proofs.Common.{◌≡◌, length, ◌∙◌, subst}
use Rattle.model.specs.Shelves.{Pegs, charts}
use Rattle.store.specs.Fillings.{Owned}
use Rattle.pegs.specs.Held.{pegs_of}
use Rattle.hang.specs.Tasks.{made}
use Rattle.lent.specs.Told.{Tried}
use Rattle.lent.proofs.Trying.{told_from}
use Rattle.lent.proofs.hanging.hang.Goals as goal

pub returns : goal.returns
returns c =
    let shape = c.args.settings.now in
    let first = pegs_of c.args.nodes.now shape c.args.pegs.now in
    let mid = c.collect.new.nodes in
    let after = pegs_of c.try_to_hang-2.new.nodes shape c.try_to_hang-2.new.pegs in
    let q : pegs_of c.try_to_hang.new.nodes shape c.try_to_hang.new.pegs ≡ first = c.if-try_to_hang.ensures.tried.1 in
    let p : pegs_of mid shape c.collect.new.pegs ≡ first = c.collect.ensures.same ∙ q in
    let owned : Owned mid shape (charts first) = subst (λ (ps : Pegs). Owned mid shape (charts ps)) q c.collect.ensures.owned in
    let tried : Tried mid shape first after (made shape first c.args.task) c.args.target c.try_to_hang-2.result = subst (λ (ps : Pegs). Tried mid shape ps after (made shape ps c.args.task) c.args.target c.try_to_hang-2.result) p c.try_to_hang-2.ensures.tried in
    record {
      held = c.try_to_hang-2.ensures.held;
      knows = c.try_to_hang-2.ensures.knows;
      told = told_from mid shape first after (made shape first c.args.task) c.args.target (length c.args.nodes.now) c.try_to_hang-2.result (c.collect.auto.nodes ∙ c.try_to_hang.auto.nodes) owned tried;
    }
