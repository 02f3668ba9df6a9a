use Rattle.std.proofs.Common.{refl}
use Rattle.table.proofs.Rings.{place_probed, place_apart}
use Rattle.table.proofs.slots.place.Goals as goal

pub returns : goal.returns
returns g c =
    let m = g.E.Entry in
    record {
      after = refl;
      table = record {
        probed = place_probed m.alike m.initial c.args.slots.now c.args.e c.args.i c.requires.open c.requires.table.probed;
        apart = place_apart m.alike m.initial c.args.slots.now c.args.e c.args.i c.requires.open g.met.E.Entry.symmetric c.requires.table.apart;
      };
    }
