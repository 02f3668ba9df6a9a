use Rattle.std.proofs.Common.{Some, None, sym, refl, subst}
use Rattle.model.specs.Scenes.{SceneOf}
use Rattle.theory.proofs.Told.{contents_told}
use Rattle.theory.proofs.Best.{never_none}
use Rattle.rig.specs.Rigs.{contents}
use Rattle.planner.specs.Walking.{first_peg}
use Rattle.planner.proofs.Ruled.{any_cleared, stop_found, rule_fits, ready, left_cleared}
use Rattle.planner.proofs.Striding.{first_peg_is}
use Rattle.planner.proofs.Outcomes.{fills_found}
use Rattle.planner.proofs.planning.search.Goals as goal

pub returns-in_err-rounds : goal.returns-in_err-rounds
returns-in_err-rounds g c =
    let rig = contents c.args.rig.now in
    let m = g.S.Shelf.meaning c.args.shelf.now in
    let long = (g.met.S.Shelf.sound c.args.shelf.now).eight in
    let n = g.S.Shelf.meaning c.iterate.new.shelf in
    record {
      found = stop_found rig c.args.rig.now.lawful m c.requires.shape long n c.args.sheet.now c.in_err-rounds.field-0.0 c.from_residual.result c.from_residual.ensures.1 c.in_err-rounds.ensures.made;
      left = any_cleared rig c.args.rig.now.lawful m c.requires.shape long n c.iterate.result c.iterate.ensures.made;
    }

pub time_from-requires : goal.time_from-requires
time_from-requires g c =
    let rig = contents c.args.rig.now in
    let m = g.S.Shelf.meaning c.args.shelf.now in
    let long = (g.met.S.Shelf.sound c.args.shelf.now).eight in
    let n = g.S.Shelf.meaning c.iterate.new.shelf in
    let k = ready rig c.args.rig.now.lawful m c.requires.shape long n c.in_ok-rounds.ensures.made in
    let present : SceneOf rig.settings rig.scene = (contents_told rig c.args.rig.now.lawful).present in
    record { hung = k.hung; within = subst (λ s. SceneOf n.shape s) (sym c.scene.ensures) (subst (λ ns. SceneOf ns rig.scene) (sym k.shape) present) }

pub best_way-requires : goal.best_way-requires
best_way-requires g c =
    let rig = contents c.args.rig.now in
    let m = g.S.Shelf.meaning c.args.shelf.now in
    let long = (g.met.S.Shelf.sound c.args.shelf.now).eight in
    let n = g.S.Shelf.meaning c.iterate.new.shelf in
    let k = ready rig c.args.rig.now.lawful m c.requires.shape long n c.in_ok-rounds.ensures.made in
    record { ready = k; timed = first_peg_is rig n k.shape c.scene.result.now rig.scene (Some c.in-Some.time) c.scene.ensures c.in-Some.ensures.value }

pub returns-in-Some : goal.returns-in-Some
returns-in-Some g c =
    let rig = contents c.args.rig.now in
    let m = g.S.Shelf.meaning c.args.shelf.now in
    let long = (g.met.S.Shelf.sound c.args.shelf.now).eight in
    let n = g.S.Shelf.meaning c.iterate.new.shelf in
    let made = c.in_ok-rounds.ensures.made in
    record {
      found = fills_found rig m c.in-Some.time c.in_ok-rounds.rounds c.args.sheet.now c.best_way.new.sheet c.best_way.result (rule_fits rig c.args.rig.now.lawful m c.requires.shape long n made) c.in_ok-rounds.ensures.counted c.best_way.ensures.filled;
      left = left_cleared rig c.args.rig.now.lawful m c.requires.shape long n made.1;
    }

pub returns-in-None : goal.returns-in-None
returns-in-None g c =
    let rig = contents c.args.rig.now in
    let m = g.S.Shelf.meaning c.args.shelf.now in
    let long = (g.met.S.Shelf.sound c.args.shelf.now).eight in
    let n = g.S.Shelf.meaning c.iterate.new.shelf in
    let made = c.in_ok-rounds.ensures.made in
    let k = ready rig c.args.rig.now.lawful m c.requires.shape long n made in
    let none = first_peg_is rig n k.shape c.scene.result.now rig.scene None c.scene.ensures c.in-None.ensures.value in
    record {
      found = (rule_fits rig c.args.rig.now.lawful m c.requires.shape long n made, c.in_ok-rounds.ensures.counted, (never_none rig c.args.rig.now.lawful (first_peg rig n) k.right).0 none, refl);
      left = left_cleared rig c.args.rig.now.lawful m c.requires.shape long n made.1;
    }
