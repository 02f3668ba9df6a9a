use Rattle.std.proofs.Common.{◌-◌, sym, ap, ◌∙◌, subst}
use Rattle.model.specs.Charts.{Chart, dialled}
use Rattle.build.specs.Builds.{Made}
use Rattle.memo.proofs.Keeps.{knows_kept}
use Rattle.pegs.specs.Held.{pegs_of}
use Rattle.hang.specs.Tasks.{made}
use Rattle.lent.proofs.Trying.{dial_is}
use Rattle.lent.proofs.attempts.attempt.Goals as goal

pub returns-in-Dial : goal.returns-in-Dial
returns-in-Dial c =
    let old = c.args.nodes.now in
    let new = c.dial.new.nodes in
    let shape = c.args.settings.now in
    let is = ap (λ v. dialled shape (v - 0) c.in-Dial.entries) c.from.ensures ∙ dial_is shape c.in-Dial.device c.in-Dial.entries ∙ ap (made shape (pegs_of old shape c.args.pegs.now)) (sym c.in-Dial.is) in
    record {
      made = subst (λ (d : Chart). Made old new shape 0 d c.dial.result) is c.dial.ensures;
      knows = knows_kept old new c.dial.ensures.grows.kept shape c.requires.held.ready.store c.args.memo.now c.requires.knows;
    }
