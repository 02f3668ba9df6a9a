use Rattle.std.proofs.Common.{◌≡◌, ℕ, ◌+◌, List, ◌++◌, length, refl, ap, ◌∙◌, arith, rules, length-append}
use Rattle.std.proofs.lemmas.List.{length_push}
use Rattle.lists.specs.Shorts.{listed}
use Rattle.moves.specs.declared.pair.Pair.{Pair}
use Rattle.moves.specs.Views.{pairs_of}
use Rattle.rigfile.specs.Taking.{pairing}
use Rattle.rigfile.proofs.Paired.{turn_pairs}
use Rattle.rigfile.proofs.pairs.paired.Goals as goal

pub loop-preserved : goal.loop-preserved
loop-preserved c =
    let xs = c.in_ok-device.field-0 in
    let rest = c.take.new.self.rest.now in
    let two : length xs ≡ 2 = search rules in
    let i = c.loop.invariant in
    let more = c.in_ok-push.ensures.items in
    let taken = ap length c.in_ok-device.ensures ∙ length-append xs rest in (
      ap length more ∙ length_push (listed c.loop.pairs) _ ∙ ap (λ (n : ℕ). n + 1) i.0,
      refl,
      omega (arith, i.2, taken, two),
      ap (λ (l : List Pair). pairs_of l ++ pairing rest) more ∙ turn_pairs (listed c.loop.pairs) xs c.loop.reader.rest.now rest c.args.bytes.now two c.in_ok-device.ensures i.3,
    )
