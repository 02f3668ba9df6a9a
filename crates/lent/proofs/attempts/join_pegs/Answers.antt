use Rattle.std.proofs.Common.{sym, ap, ◌∙◌, subst, arith}
use Rattle.table.specs.Tables.{slot}
use Rattle.model.specs.Charts.{Chart}
use Rattle.build.specs.Builds.{Made}
use Rattle.lent.proofs.Trying.{pegs_joinable, joined_is}
use Rattle.lent.proofs.attempts.join_pegs.Goals as goal

pub join-requires : goal.join-requires
join-requires c = record {
  depth = omega arith;
  ready = c.requires.held.ready;
  knows = c.requires.knows;
  joinable = pegs_joinable c.args.op c.args.nodes.now c.args.settings.now c.args.pegs.now c.args.left c.args.right c.in_ok-x.x c.in_ok-y.y c.requires.held (ap (slot c.args.pegs.now) (sym c.from.ensures) ∙ sym c.in_ok-x.ensures) (ap (slot c.args.pegs.now) (sym c.from-2.ensures) ∙ sym c.in_ok-y.ensures) c.requires.allowed.2;
}

pub returns : goal.returns
returns c =
    let shape = c.args.settings.now in
    let new = c.join.new.nodes in
    let is = joined_is c.args.op c.args.nodes.now shape c.args.pegs.now c.args.left c.args.right c.in_ok-x.x c.in_ok-y.y (ap (slot c.args.pegs.now) (sym c.from.ensures) ∙ sym c.in_ok-x.ensures) (ap (slot c.args.pegs.now) (sym c.from-2.ensures) ∙ sym c.in_ok-y.ensures) in
    record {
      made = subst (λ (d : Chart). Made c.args.nodes.now new shape 0 d c.join.result) is c.join.ensures.made;
      knows = c.join.ensures.knows;
    }
