use Rattle.std.proofs.Common.{ℕ, length, Some, subst}
use Rattle.table.specs.Finds.{Others, FindsIn}
use Rattle.table.proofs.Rings.{found_from, found_round}
use Rattle.table.proofs.slots.find.Goals as goal

pub returns-in-Some : goal.returns-in-Some
returns-in-Some g c =
    let m = g.E.Entry in
    let e = c.args.e.now in
    let start = c.start-start.ensures in
    let within = rw start.value at start.within in
    let found = subst (λ (h : ℕ). FindsIn m.alike c.args.slots.now e h (length c.args.slots.now) (Some c.in-Some.found)) start.value c.in-Some.ensures in
    found_from m.alike m.initial c.args.slots.now e (λ x l. g.met.E.Entry.together x e _ l) c.requires.probed within c.in-Some.found found

pub returns : goal.returns
returns g c =
    let m = g.E.Entry in
    let e = c.args.e.now in
    let start = c.start-start.ensures in
    let within = rw start.value at start.within in
    let late = subst (λ (h : ℕ). Others m.alike c.args.slots.now e h (length c.args.slots.now)) start.value c.in_default.ensures in
    let found = subst (λ (h : ℕ). FindsIn m.alike c.args.slots.now e 0 h c.find_in-2.result) start.value c.find_in-2.ensures in
    rw c.unwrap_or.ensures (found_round m.alike m.initial c.args.slots.now e (λ x l. g.met.E.Entry.together x e _ l) c.requires.probed within late c.find_in-2.result found)
