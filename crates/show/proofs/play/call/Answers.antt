use Rattle.std.proofs.Common.{◌≡◌, length, vec_len, refl, rules}
use Rattle.std.proofs.lemmas.List.{with_items_is}
use Rattle.rig.specs.Rigs.{contents}
use Rattle.show.proofs.play.call.Goals as goal

pub returns-in-Plan : goal.returns-in-Plan
returns-in-Plan g c =
    let rig = contents c.args.rig.now in
    let len : length c.plan.new.sheet ≡ vec_len c.in-Plan.sheet = search rules in
    let back = with_items_is c.in-Plan.sheet c.plan.new.sheet len in
    let e = c.in-Plan.is in
    let planned = rw (c.as_mut_slice.ensures.value, ← back) at c.plan.ensures.planned in
    record {
      answer = rw e (record { shelf_left = _; sheet_left = _; reply = c.plan.result; placed = refl; planned = planned });
      left = rw e refl;
    }
