use Rattle.std.proofs.Common.{◌<◌, ◌+◌, ◌*◌, ◌^◌, rules}
use Rattle.shelf.proofs.Placing.{fits, answered}
use Rattle.shelf.proofs.counts.place.Goals as goal

pub try_fold-requires-clause-callable : goal.try_fold-requires-clause-callable
try_fold-requires-clause-callable c =
    record {
      at = λ zs t q z u y f e.
          let room : z.0.now < z.1.now → q.1 * z.1.now + z.0.now < 8 ^ 12 = fits _ (λ p x v k. search rules) c.args.settings.now c.requires.few c.requires.legal c.args.scene.now c.if-scene-settings.false c.zip.result (cc) (cc) zs t u _ q y f z e in
          search (rules, room);
    }

pub returns : goal.returns
returns c =
    let ran = c.try_fold.ensures.ran in
    record {
      answer = answered _ (λ p x v k. search rules) c.args.settings.now c.requires.few c.requires.legal c.args.scene.now c.if-scene-settings.false c.zip.result (cc) (cc) ran.0 ran.4.0 c.try_fold.new.self _ (ran.2, ran.3) ran.4.1 ran.5 _ _ ran.1 c.try_fold.result ran.4.2 ran.6 (λ k. search rules) (λ z k. search rules);
    }
