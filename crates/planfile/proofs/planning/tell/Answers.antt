use Rattle.std.proofs.Common.{rules, ◌≡◌, Some, Ok, sym, subst, length, take}
use Rattle.rig.specs.Rigs.{contents}
use Rattle.planner.specs.declared.answer.Plan.TheVariants as plan
use Rattle.show.specs.declared.cue.Cue.TheVariants.{Plan}
use Rattle.planfile.specs.Telling.{Runs}
use Rattle.planfile.proofs.Saying.{many, runs}
use Rattle.planfile.proofs.planning.tell.Goals as goal

pub slice_bounds-perform_all-end : goal.slice_bounds-perform_all-end
slice_bounds-perform_all-end g c =
    let p = c.in-Plan-default-default-Some in
    let is : c.args.cue.now ≡ Plan p.shelf p.sheet (Some (Ok (plan.Way c.in-Way.moves c.in-Way.time c.in-Way.rounds))) = search rules in
    sym (subst (λ xs. length (take c.in-Way.moves xs) ≡ c.in-Way.moves) (sym c.as_slice.ensures.value) (many g.S.Shelf.meaning (contents c.args.rig) c.args.cue.now c.requires.made p.shelf p.sheet c.in-Way.moves c.in-Way.time c.in-Way.rounds is))

pub perform_all-requires : goal.perform_all-requires
perform_all-requires g c =
    let p = c.in-Plan-default-default-Some in
    let is : c.args.cue.now ≡ Plan p.shelf p.sheet (Some (Ok (plan.Way c.in-Way.moves c.in-Way.time c.in-Way.rounds))) = search rules in
    record { accepted = subst (λ xs. Runs (contents c.args.rig) (take c.in-Way.moves xs)) (sym c.as_slice.ensures.value) (runs g.S.Shelf.meaning (contents c.args.rig) c.args.cue.now c.requires.made p.shelf p.sheet c.in-Way.moves c.in-Way.time c.in-Way.rounds is) }
