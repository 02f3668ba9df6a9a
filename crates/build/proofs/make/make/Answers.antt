use Rattle.std.proofs.Common.{◌+◌, drop, arith, rules}
use Rattle.build.proofs.Made.{Making, wanted_is, made_edge, made_none, made_timely}
use Rattle.build.proofs.make.make.Goals.{After-highest-most}
use Rattle.build.proofs.make.make.Goals as goal

making : (c : After-highest-most) → Making c.args.nodes.now c.args.settings.now c.args.level c.args.kids c.least-low.result (record { level = c.args.level; most = c.highest-most.result; edges = c.lower_all-edges.result })
making c = record {
  ready = c.requires.ready;
  able = c.requires.makeable;
  least = c.least-low.ensures;
  wanted = wanted_is c.args.nodes.now (drop (c.args.level + 1) c.args.settings.now) c.args.level c.args.kids c.least-low.result c.lower_all-edges.result c.highest-most.result c.least-low.ensures c.lower_all-edges.ensures c.highest-most.ensures;
}

pub highest-most-requires : goal.highest-most-requires
highest-most-requires c = record {
  depth = omega (arith, c.requires.makeable.depth);
  timely = made_timely c.args.nodes.now c.args.settings.now c.args.level c.args.kids c.requires.ready c.requires.makeable.depth c.requires.makeable.kids c.requires.makeable.timely c.least-low.result c.lower_all-edges.result c.least-low.ensures c.lower_all-edges.ensures;
}

pub returns : goal.returns
returns c =
    let got = c.in_ok-i.ensures in
    made_edge (making (goal.at.returns c).After-highest-most) c.intern.new.slots got.table got.kept (search rules) c.in_ok-i.i got.interned

pub returns-in_err-i : goal.returns-in_err-i
returns-in_err-i c = rw c.from_residual.ensures (made_none (making (goal.at.returns-in_err-i c).After-highest-most) c.intern.new.slots c.in_err-i.ensures.interned)
