use Rattle.format.proofs.Taken.{lists_as_taken}
use Rattle.format.proofs.what_is_taken_lists_what_was_read.Goals as goal

pub returns : goal.returns
returns c = lists_as_taken
