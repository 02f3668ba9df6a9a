use Rattle.std.proofs.Common.{◌≡◌, map, Some, Option, ℕ, sym, ap, ◌∙◌, rules, tests}
use Rattle.store.specs.Stores.{none_edge}
use Rattle.build.specs.Builds.{lower_by}
use Rattle.build.proofs.Mapped.{mapped_is}
use Rattle.build.proofs.Weights.{lower_zero}
use Rattle.build.proofs.lowering.lower_all.Goals as goal

pub returns-then-eq : goal.returns-then-eq
returns-then-eq c =
    let none : c.args.by ≡ Some 0 = search (rules, tests) in
    sym (lower_zero c.args.kids) ∙ sym (ap (λ m. map (lower_by m) c.args.kids) none)

pub returns : goal.returns
returns c = mapped_is _ (lower_by c.args.by) _ (λ x y q k. search rules) none_edge c.args.kids _ _ (search rules) c.map.ensures.items
