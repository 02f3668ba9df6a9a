use Rattle.dials.proofs.Turns.{Fan, fan_grew, fan_none, fan_more, fan_makeable, made_grew, made_built}
use Rattle.dials.proofs.fan.Goals.{At-loop-i}
use Rattle.dials.proofs.fan.Goals as goal

kids : (c : At-loop-i) → Fan c.args.store.now c.loop-i.store c.args.level c.args.entries.now c.count-count.result c.loop-i.i c.loop-i.kids
kids c = record { depth = c.requires.depth; begun = c.loop-i.invariant; count = c.count-count.ensures.value; eight = c.told-entries }

pub returns-in_err-kids : goal.returns-in_err-kids
returns-in_err-kids c =
    let s = kids (goal.at.returns-in_err-kids c).At-loop-i in
    let more = c.loop-i-test.true in
    let new = c.constant.new.store in
    let got = c.in_err-kids.ensures in
    record {
      grew = fan_grew s new more got.grew;
      built = fan_none s new more got.grew c.from_residual.result c.from_residual.ensures got.built;
    }

pub loop-i-preserved : goal.loop-i-preserved
loop-i-preserved c = fan_more (kids (goal.at.loop-i-preserved c).At-loop-i) c.constant.new.store c.loop-i-test.true c.constant.ensures.grew c.in_ok-kids.field-0 c.in_ok-kids.ensures.built

pub make-requires : goal.make-requires
make-requires c = fan_makeable (kids (goal.at.make-requires c).At-loop-i) c.loop-i.auto.i-end c.loop-i-test.false c.requires.timely

pub returns : goal.returns
returns c =
    let s = kids (goal.at.returns c).At-loop-i in
    let most = c.loop-i.auto.i-end in
    let least = c.loop-i-test.false in
    let new = c.make.new.self in
    record {
      grew = made_grew s most least new c.make.ensures.grew;
      built = made_built s most least new c.make.result c.make.ensures.built;
    }
