use Rattle.model.proofs.Laws.{shelf_smallest}
use Rattle.model.proofs.calls.shelves_answer_the_smallest_refusal.Goals as goal

pub returns : goal.returns
returns c = shelf_smallest
