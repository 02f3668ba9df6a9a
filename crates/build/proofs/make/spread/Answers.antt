use Rattle.std.proofs.Common.{subst}
use Rattle.model.specs.Charts.{Chart}
use Rattle.build.specs.Builds.{Grows, Built}
use Rattle.build.proofs.Spreads.{filled, spread_kids, spread_is, spread_timely}
use Rattle.build.proofs.make.spread.Goals as goal

pub make-requires : goal.make-requires
make-requires c =
    let old = c.args.nodes.now in
    let shape = c.args.settings.now in
    let l = c.args.level in
    let kids = filled c.from-count.result _ c.args.kid c.fill.new.self c.from-count.ensures (c.requires.ready.few l) (c.fill.ensures.after (λ y e. e)) in
    record {
      ready = c.requires.ready;
      makeable = record {
        depth = c.requires.spreadable.depth;
        kids = spread_kids old shape l c.args.kid c.requires.ready c.requires.spreadable.depth c.requires.spreadable.legal.fine _ kids;
        timely = spread_timely old shape l c.args.kid c.requires.ready c.requires.spreadable.depth c.requires.spreadable.legal.fine _ kids c.requires.spreadable.legal.timely;
      };
    }

pub returns : goal.returns
returns c =
    let old = c.args.nodes.now in
    let new = c.make.new.nodes in
    let shape = c.args.settings.now in
    let l = c.args.level in
    let kids = filled c.from-count.result _ c.args.kid c.fill.new.self c.from-count.ensures (c.requires.ready.few l) (c.fill.ensures.after (λ y e. e)) in
    let whole = spread_is old shape l c.args.kid c.requires.ready c.requires.spreadable.depth c.requires.spreadable.legal.fine _ kids in
    record {
      grows = subst (Grows old new shape l) whole c.make.ensures.grows;
      built = subst (λ (d : Chart). Built new shape l d c.make.result) whole c.make.ensures.built;
    }
