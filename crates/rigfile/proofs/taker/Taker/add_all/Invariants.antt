use Rattle.std.proofs.Common.{◌≡◌, ◌-◌, ◌≤◌, length}
use Rattle.rig.specs.Rigs.{contents}
use Rattle.rigfile.specs.Taking.{Laid}
use Rattle.rigfile.proofs.AddedAll.{Partway}
use Rattle.rigfile.proofs.taker.Taker.add_all.Given as goal

abbrev pub invariant-loop : goal.invariant-loop
invariant-loop l =
    let before = l.initial.self.reader.rest.now in
    let rest = l.self.reader.rest.now in
    let old = contents l.initial.rig in
    let now = contents l.rig in
    Laid l.self
    × (length rest ≤ l.total)
    × (length now.slots ≡ length old.slots)
    × Partway l.total l.count l.counter (l.total - length before) before rest old now
