-- The types of the code, as the definitions see them. Assumes nothing.
use Rattle.std.specs.Prelude.{List, map, Some, None, Option}
use Rattle.lists.specs.Shorts.{listed}
use Rattle.model.specs.Moves as model
use Rattle.moves.specs.declared.pair.Pair.{Pair}
use Rattle.moves.specs.declared.entry.Surcharge.{Surcharge}
use Rattle.moves.specs.declared.entry.Move.{Move}

abbrev pub pair_of : Pair → model.Pair
pair_of p = record { device = p.device; setting = p.setting }

abbrev pub pairs_of : List Pair → List model.Pair
pairs_of = map pair_of

-- a move in its slot

abbrev pub surcharge_of : Surcharge → model.Surcharge
surcharge_of x = record { tests = pairs_of (listed x.tests); extra = x.extra }

abbrev pub move_of : Move → model.Move
move_of m =
    record {
      conditions = pairs_of (listed m.conditions);
      effects = pairs_of (listed m.effects);
      base = m.base;
      surcharges = map surcharge_of (listed m.surcharges);
    }

abbrev pub slot_of : Option Move → Option model.Move
slot_of None = None
slot_of (Some m) = Some (move_of m)
