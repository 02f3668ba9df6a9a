use Rattle.model.proofs.Laws.{rig_smallest}
use Rattle.model.proofs.calls.rigs_answer_the_smallest_refusal.Goals as goal

pub returns : goal.returns
returns c = rig_smallest
