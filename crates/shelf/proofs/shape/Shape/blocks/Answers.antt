use Rattle.model.proofs.Sizes.{legal_take}
use Rattle.shelf.specs.Shapes.{shape_of}
use Rattle.shelf.proofs.shape.Shape.blocks.Goals as goal

pub scenes-requires-clause-legal : goal.scenes-requires-clause-legal
scenes-requires-clause-legal c =
    let s = c.args.self.now in
    rw c.settings.ensures.value (legal_take c.args.device (shape_of s) s.legal).1
