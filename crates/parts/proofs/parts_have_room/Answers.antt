use Rattle.model.specs.Parts.{same_part}
use Rattle.parts.proofs.Counts.{room, part_lawful}
use Rattle.parts.proofs.parts_have_room.Goals as goal

pub returns : goal.returns
returns c = room same_part part_lawful
