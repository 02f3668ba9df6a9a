use Rattle.std.proofs.Common.{◌≡◌, ◌≤◌, length, sym, subst, rules}
use Rattle.lent.proofs.Empties.{store_none, moved_none}
use Rattle.lent.proofs.Sweeps.{swept_none, swept_all}
use Rattle.lent.proofs.sweeping.sweep.Goals as goal

pub copy_pegs-requires : goal.copy_pegs-requires
copy_pegs-requires c =
    let spare = c.clear.new.slots in
    let shape = c.args.settings.now in
    let ready = c.requires.held.ready in
    let empty = c.clear.ensures.empty in
    let size : length spare ≡ length c.args.source.now = search rules in
    record {
      held = c.requires.held;
      ready = record {
        table = c.clear.ensures.table;
        store = store_none spare shape c.clear.ensures.table empty;
        small = subst (λ n. n ≤ 65536) (sym size) ready.small;
        some = ready.some;
        few = ready.few;
        short = ready.short;
      };
      start = swept_none c.args.source.now spare shape c.args.pegs.now size empty;
      moved = moved_none c.args.source.now spare shape c.forget.new.moved c.forget.ensures;
    }

pub returns : goal.returns
returns c = swept_all c.copy_pegs.ensures.ready c.copy_pegs.ensures.swept
