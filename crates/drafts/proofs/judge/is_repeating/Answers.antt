use Rattle.std.proofs.Common.{◌∙◌}
use Rattle.model.specs.Calls.{same_device}
use Rattle.moves.specs.Views.{pair_of}
use Rattle.lists.proofs.Loops.{repeats_seen}
use Rattle.drafts.proofs.judge.is_repeating.Goals as goal

pub returns : goal.returns
returns c = c.is_some.ensures ∙ c.first_repeat.ensures.test ∙ repeats_seen same_device pair_of c.args.pairs.now
