use Rattle.std.proofs.Common.{◌≡◌, List, Option, sym, ap, ◌∙◌, subst}
use Rattle.nodes.specs.declared.node.Node.{Node}
use Rattle.model.specs.Shelves.{charts}
use Rattle.store.specs.Fillings.{Owned}
use Rattle.lent.proofs.Empties.{knows_none}
use Rattle.pegs.specs.Held.{pegs_of}
use Rattle.lent.specs.Held.{Held}
use Rattle.lent.proofs.hanging.collect.Goals as goal

pub returns : goal.returns
returns c =
    let old = c.args.nodes.now in
    let new = c.copy_from_slice.new.self in
    let shape = c.args.settings.now in
    let pegs = c.sweep.new.pegs in
    let swept = c.sweep.ensures in
    let is : new ≡ c.sweep.new.spare = c.copy_from_slice.ensures.after in
    record {
      held = subst (λ (n : List (Option Node)). Held n shape pegs) (sym is) swept.held;
      knows = knows_none new shape c.clear.new.slots c.clear.ensures.table c.clear.ensures.empty;
      same = ap (λ (n : List (Option Node)). pegs_of n shape pegs) is ∙ swept.same;
      owned = subst (λ (n : List (Option Node)). Owned n shape (charts (pegs_of old shape c.args.pegs.now))) (sym is) swept.owned;
    }
