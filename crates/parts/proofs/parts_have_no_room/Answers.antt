use Rattle.model.specs.Parts.{same_part}
use Rattle.parts.proofs.Counts.{no_room, part_lawful}
use Rattle.parts.proofs.parts_have_no_room.Goals as goal

pub returns : goal.returns
returns c = no_room same_part part_lawful
