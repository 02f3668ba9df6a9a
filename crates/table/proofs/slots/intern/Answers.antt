use Rattle.std.proofs.Common.{inr, arith}
use Rattle.table.proofs.Rings.{put_here, put_others, put_kept, put_length}
use Rattle.table.proofs.slots.intern.Goals as goal

pub returns-in-Free : goal.returns-in-Free
returns-in-Free g c =
    let found = c.in-Free.ensures in
    let old = c.args.slots.now in
    let new = c.place.new.slots in
    let i = c.in-Free.i in
    let put = c.place.ensures.after in
    let here = put_here old new i c.args.e found.within found.empty put in
    record {
      table = c.place.ensures.table;
      kept = put_kept old new i c.args.e found.within found.empty put;
      interned = (
        record {
          within = omega (arith, put_length old new i c.args.e found.within found.empty put, found.within);
          entry = c.args.e;
          here = here;
          like = g.met.E.Entry.reflexive c.args.e;
        },
        inr (record { free = found.empty; here = here; others = put_others old new i c.args.e found.within found.empty put }),
      );
    }
