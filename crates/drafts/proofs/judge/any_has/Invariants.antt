use Rattle.drafts.proofs.judge.any_has.Given as goal

abbrev pub ghost-some_has : goal.ghost-some_has
ghost-some_has g a = g.flawed
