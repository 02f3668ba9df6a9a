use Rattle.std.proofs.Common.{arith}
use Rattle.lent.proofs.Fans.{Fan, fan_ready, fan_timely, fan_none, fan_more, fan_makeable, fan_made}
use Rattle.lent.proofs.dialling.fan.Goals.{At-loop-i}
use Rattle.lent.proofs.dialling.fan.Goals as goal

kids : (c : At-loop-i) → Fan c.args.nodes.now c.loop-i.nodes c.args.settings.now c.args.level c.args.entries.now c.from-count.result c.loop-i.i c.loop-i.kids
kids c = record { ready = c.requires.ready; depth = c.requires.depth; timely = c.requires.timely; way = c.loop-i.invariant; count = c.from-count.ensures; eight = c.told-entries }

pub constant-requires : goal.constant-requires
constant-requires c =
    let s = kids (goal.at.constant-requires c).At-loop-i in
    record { depth = omega (arith, c.requires.depth); ready = fan_ready s; timely = fan_timely s c.loop-i-test.true }

pub returns-in_err-kids : goal.returns-in_err-kids
returns-in_err-kids c =
    let got = c.in_err-kids.ensures in
    fan_none (kids (goal.at.returns-in_err-kids c).At-loop-i) c.constant.new.nodes c.loop-i-test.true got.grows c.from_residual.result c.from_residual.ensures got.built

pub loop-i-preserved : goal.loop-i-preserved
loop-i-preserved c = fan_more (kids (goal.at.loop-i-preserved c).At-loop-i) c.constant.new.nodes c.loop-i-test.true c.constant.ensures.grows c.in_ok-kids.field-0 c.in_ok-kids.ensures.built

pub make-requires : goal.make-requires
make-requires c =
    let s = kids (goal.at.make-requires c).At-loop-i in
    record { ready = fan_ready s; makeable = fan_makeable s c.loop-i.auto.i-end c.loop-i-test.false }

pub returns : goal.returns
returns c = fan_made (kids (goal.at.returns c).At-loop-i) c.loop-i.auto.i-end c.loop-i-test.false c.make.new.nodes c.make.result c.make.ensures
