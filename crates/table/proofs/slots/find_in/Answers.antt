use Rattle.std.proofs.Common.{ℕ, ◌+◌, Option, rules}
use Rattle.table.specs.Finds.{FindsIn}
use Rattle.table.proofs.Searches.{mapped_from_range, finds_in}
use Rattle.table.specs.declared.found.Found.{Found}
use Rattle.table.proofs.slots.find_in.Goals as goal

pub returns : goal.returns
returns g c =
    let alike = g.E.Entry.alike in
    let xs = c.args.slots.now in
    let e = c.args.e.now in
    finds_in alike xs e c.args.from c.args.to c.find_map.result
    (mapped_from_range _ _ _ (λ (i : ℕ) (o : Option Found). FindsIn alike xs e i (i + 1) o) (λ x o q k. search rules) c.find_map.result c.find_map.ensures.runs)
