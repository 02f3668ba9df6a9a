-- Moves as they are handed in, as the definitions see them. Assumes nothing.
use Rattle.std.specs.Prelude.{List, map}
use Rattle.model.specs.Moves as model
use Rattle.moves.specs.Views.{pairs_of}
use Rattle.drafts.specs.declared.draft.Charge.{Charge}
use Rattle.drafts.specs.declared.draft.Draft.{Draft}

abbrev pub tests_of : Charge → List model.Pair
tests_of x = pairs_of x.tests.now

abbrev pub charge_of : Charge → model.Surcharge
charge_of x = record { tests = tests_of x; extra = x.extra }

abbrev pub charges_of : List Charge → List model.Surcharge
charges_of = map charge_of

abbrev pub draft_of : Draft → model.Move
draft_of m =
    record {
      conditions = pairs_of m.conditions.now;
      effects = pairs_of m.effects.now;
      base = m.base;
      surcharges = charges_of m.surcharges.now;
    }
