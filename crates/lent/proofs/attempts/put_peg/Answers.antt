use Rattle.std.proofs.Common.{sym, ap, ◌∙◌, subst, arith}
use Rattle.table.specs.Tables.{slot}
use Rattle.model.specs.Charts.{Chart}
use Rattle.build.specs.Builds.{Made}
use Rattle.lent.proofs.Trying.{peg_held, put_is}
use Rattle.lent.proofs.attempts.put_peg.Goals as goal

pub put-requires : goal.put-requires
put-requires c =
    let f = peg_held c.args.nodes.now c.args.settings.now c.args.pegs.now c.args.peg c.in_ok-e.e c.requires.held (ap (slot c.args.pegs.now) (sym c.from.ensures) ∙ sym c.in_ok-e.ensures) in
    record {
      above = omega arith;
      depth = c.requires.allowed.1;
      setting = c.requires.allowed.2;
      ready = c.requires.held.ready;
      knows = c.requires.knows;
      legal = record { fine = f.0; timely = f.1 };
    }

pub returns : goal.returns
returns c =
    let shape = c.args.settings.now in
    let new = c.put.new.nodes in
    let is = put_is c.args.nodes.now shape c.args.pegs.now c.args.peg c.args.device c.args.setting c.in_ok-e.e (ap (slot c.args.pegs.now) (sym c.from.ensures) ∙ sym c.in_ok-e.ensures) in
    record {
      made = subst (λ (d : Chart). Made c.args.nodes.now new shape 0 d c.put.result) is c.put.ensures.made;
      knows = c.put.ensures.knows;
    }
