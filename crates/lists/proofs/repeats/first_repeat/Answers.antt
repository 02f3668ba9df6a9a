use Rattle.std.proofs.Common.{◌≡◌, true, false, rules, tests}
use Rattle.std.proofs.lemmas.Iterator.{first_from_Range}
use Rattle.lists.specs.Repeats.{has_stood}
use Rattle.lists.proofs.Repeating.{first_place, first_tested}
use Rattle.lists.proofs.repeats.first_repeat.Goals as goal

pub returns : goal.returns
returns g c =
    let xs = c.args.items.now in
    let same = g.T.Keyed.same in
    let found = first_from_Range _ _ _ _ (λ i. has_stood same xs i ≡ true) (λ i. has_stood same xs i ≡ false) c.find.ensures.ran (λ x q k. search (rules, tests)) (λ x q k. search (rules, tests)) in
    let first = first_place same xs c.find.result found in
    record { first = first; test = first_tested same xs c.find.result first }
