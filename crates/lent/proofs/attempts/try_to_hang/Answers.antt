use Rattle.pegs.specs.Held.{pegs_of}
use Rattle.hang.specs.Tasks.{made}
use Rattle.lent.proofs.Trying.{still_held, still_same, try_full, try_held, try_same, try_room, made_timely}
use Rattle.lent.proofs.attempts.try_to_hang.Goals as goal

pub returns : goal.returns
returns c =
    let old = c.args.nodes.now in
    let new = c.attempt.new.nodes in
    let shape = c.args.settings.now in
    let pegs = c.args.pegs.now in
    let chart = made shape (pegs_of old shape pegs) c.args.task in
    let got = c.in-Some.ensures in
    let timely = made_timely old shape pegs c.args.task c.requires.held c.requires.allowed in
    record {
      held = try_held old new shape pegs chart c.requires.held got.made.grows c.in-Some.e got.made.built timely c.args.target;
      knows = got.knows;
      tried = (try_room old new shape pegs chart c.requires.held got.made.grows c.in-Some.e got.made.built timely, try_same old new shape pegs chart c.requires.held got.made.grows c.in-Some.e got.made.built timely c.args.target);
    }

pub returns-in_default : goal.returns-in_default
returns-in_default c =
    let old = c.args.nodes.now in
    let new = c.attempt.new.nodes in
    let shape = c.args.settings.now in
    let pegs = c.args.pegs.now in
    let chart = made shape (pegs_of old shape pegs) c.args.task in
    let got = c.in_default.ensures in
    record {
      held = still_held old new shape pegs chart c.requires.held got.made.grows;
      knows = got.knows;
      tried = (try_full old new shape pegs chart c.requires.held got.made.grows got.made.built, still_same old new shape pegs chart c.requires.held got.made.grows);
    }
