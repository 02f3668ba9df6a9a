-- A byte of another value leaves the file as long as it was.
use Rattle.std.proofs.Common.{◌≡◌, vec_len}
use Rattle.trials.proofs.damage.overwrite.Given as goal

abbrev pub invariant-loop : goal.invariant-loop
invariant-loop l = vec_len l.file ≡ vec_len l.fn.file
