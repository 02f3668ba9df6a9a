use Rattle.std.proofs.Common.{◌∙◌}
use Rattle.std.proofs.lemmas.List.{length-set}
use Rattle.hang.proofs.Trying.{still_same, try_full, try_held, try_same, try_room, made_timely}
use Rattle.hang.proofs.charts.Charts.try_to_hang.Goals as goal

pub returns-in_err-e-clause-tried : goal.returns-in_err-e-clause-tried
returns-in_err-e-clause-tried g c =
    let got = c.in_err-e.ensures in
    let held = c.args.self.now.held in
    rw (c.from_residual.ensures, got.pegs) (try_full held got.made.grew got.made.built, still_same held got.made.grew)

pub invariant_of-self : goal.invariant_of-self
invariant_of-self g c =
    let s = c.args.self.now in
    let got = c.in_ok-e.ensures in
    rw got.pegs (record {
      as_many = length-set s.pegs _ _ ∙ s.as_many;
      held = try_held s.held got.made.grew c.in_ok-e.e got.made.built (made_timely s.diagrams.store s.pegs c.args.task s.held c.requires.allowed) c.args.target;
    })

pub returns-clause-tried : goal.returns-clause-tried
returns-clause-tried g c =
    let got = c.in_ok-e.ensures in
    let held = c.args.self.now.held in
    rw got.pegs (try_room held got.made.grew c.in_ok-e.e got.made.built, try_same held got.made.grew c.in_ok-e.e got.made.built c.args.target)
