use Rattle.model.specs.Lists.{some, repeats}
use Rattle.model.specs.Calls.{device_high, setting_high, same_device}
use Rattle.drafts.proofs.judge.judge_pairs.Given as goal

abbrev pub ghost-any_has : goal.ghost-any_has
ghost-any_has a = some (device_high a.has.0.now)

abbrev pub ghost-any_has-2 : goal.ghost-any_has-2
ghost-any_has-2 a = some (setting_high a.has.0.now)

abbrev pub ghost-any_has-3 : goal.ghost-any_has-3
ghost-any_has-3 a = repeats same_device
