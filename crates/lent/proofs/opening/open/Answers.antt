use Rattle.std.proofs.Common.{rules}
use Rattle.lent.proofs.Empties.{store_none, knows_none, bare_fine}
use Rattle.lent.proofs.opening.open.Goals as goal

pub returns-clause-held : goal.returns-clause-held
returns-clause-held c =
    let nodes = c.clear.new.slots in
    let shape = c.args.settings.now in
    record {
      ready = record {
        table = c.clear.ensures.table;
        store = store_none nodes shape c.clear.ensures.table c.clear.ensures.empty;
        small = search (rules, c.requires.small);
        some = c.requires.some;
        few = c.requires.few;
        short = c.requires.short;
      };
      fine = bare_fine nodes shape c.wipe.new.pegs c.wipe.ensures;
    }

pub returns-clause-knows : goal.returns-clause-knows
returns-clause-knows c = knows_none c.clear.new.slots c.args.settings.now c.clear-2.new.slots c.clear-2.ensures.table c.clear-2.ensures.empty
