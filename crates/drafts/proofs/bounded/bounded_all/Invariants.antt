use Rattle.std.proofs.Common.{◌≡◌, ◌++◌, map, drop}
use Rattle.model.specs.Lists.{some}
use Rattle.model.specs.Calls.{tests_off}
use Rattle.moves.specs.Views.{surcharge_of}
use Rattle.lists.specs.Shorts.{listed}
use Rattle.drafts.specs.Drafts.{charges_of}
use Rattle.drafts.proofs.bounded.bounded_all.Given as goal

abbrev pub invariant-loop-charge : goal.invariant-loop-charge
invariant-loop-charge l =
    (map surcharge_of (listed l.all) ++ charges_of (drop l.charge-index l.charges) ≡ charges_of l.charges)
    × (some tests_off (charges_of (drop l.charge-index l.charges)) ≡ some tests_off (charges_of l.charges))
