use Rattle.std.proofs.Common.{◌≡◌, ◌-◌, length, Err, ◌∙◌, arith, rules}
use Rattle.rig.specs.Rigs.{contents}
use Rattle.rigfile.proofs.AddedAll.{one_more, refused}
use Rattle.rigfile.proofs.taker.Taker.add_all.Goals as goal

pub returns-in_err-add-clause-answer : goal.returns-in_err-add-clause-answer
returns-in_err-add-clause-answer c =
    let before = c.args.self.now.reader.rest.now in
    let rest = c.loop.self.reader.rest.now in
    let total = c.args.total in
    let handed : c.from_residual.result ≡ Err c.in_err-add.field-0.0 = search rules in
    rw handed
    (refused total c.args.count c.loop.counter (total - length before) before rest (contents c.args.rig.now) (contents c.loop.rig) c.loop.invariant.3 c.loop-test.true c.add.new.self.reader.rest.now (contents c.add.new.rig) c.in_err-add.field-0.0 c.in_err-add.ensures.answer)

pub loop-preserved : goal.loop-preserved
loop-preserved c =
    let before = c.args.self.now.reader.rest.now in
    let rest = c.loop.self.reader.rest.now in
    let total = c.args.total in
    let i = c.loop.invariant in
    let left = c.in_ok-add.ensures.left in (
      left.0,
      omega (arith, left.1, i.1),
      c.in_ok-add.ensures.as_many ∙ i.2,
      one_more total c.args.count c.loop.counter (total - length before) before rest (contents c.args.rig.now) (contents c.loop.rig) i.3 c.loop-test.true c.add.new.self.reader.rest.now (contents c.add.new.rig) i.1 c.in_ok-add.ensures.answer,
    )
