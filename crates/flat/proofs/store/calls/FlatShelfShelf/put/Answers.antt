use Rattle.flat.proofs.Calling.{put_timely, put_there}
use Rattle.flat.proofs.store.calls.FlatShelfShelf.put.Goals as goal

pub hang_put-requires-clause-legal : goal.hang_put-requires-clause-legal
hang_put-requires-clause-legal c =
    put_timely c.args.self.now _ _ _ _ c.in_ok-target.target c.in_ok-source.source _ _ _ c.in_ok-target.ensures c.in_ok-source.ensures c.in_ok-device.ensures c.from-setting.ensures c.if-setting-count.false c.count.ensures.value

pub returns : goal.returns
returns c =
    let q = put_there c.args.self.now _ _ _ _ c.in_ok-target.target c.in_ok-source.source _ _ _ c.in_ok-target.ensures c.in_ok-source.ensures c.in_ok-device.ensures c.from-setting.ensures c.if-setting-count.false c.count.ensures.value _ c.hang_put.ensures.hung in
    record { answer = q.answer; left = q.left }
