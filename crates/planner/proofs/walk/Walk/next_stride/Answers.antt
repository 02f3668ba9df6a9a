use Rattle.std.proofs.Common.{rules}
use Rattle.std.proofs.lemmas.Option.{MatchOption-at_some}
use Rattle.rig.specs.Rigs.{contents}
use Rattle.planner.specs.Walking.{Strides}
use Rattle.planner.proofs.OfWalks.{next_found, one_is}
use Rattle.planner.proofs.walk.Walk.next_stride.Goals as goal

pub unwrap-requires : goal.unwrap-requires
unwrap-requires g c =
    let rig = contents c.args.self.now.rig.now in
    let m = g.S.Shelf.meaning c.args.self.now.shelf.now in
    let p = c.args.point.now in
    one_is rig m p c.find_map.result
    (next_found rig m p c.args.self.now.ready c.requires.stands c.requires.far c.slots.result.now c.slots.ensures (λ n o q k. search rules) c.find_map.result c.find_map.ensures.runs)

pub returns : goal.returns
returns g c =
    let rig = contents c.args.self.now.rig.now in
    let m = g.S.Shelf.meaning c.args.self.now.shelf.now in
    let p = c.args.point.now in
    record {
      strides = MatchOption-at_some ⊥ (Strides rig m p) c.unwrap.result c.unwrap.ensures
          (next_found rig m p c.args.self.now.ready c.requires.stands c.requires.far c.slots.result.now c.slots.ensures (λ n o q k. search rules) c.find_map.result c.find_map.ensures.runs);
    }
