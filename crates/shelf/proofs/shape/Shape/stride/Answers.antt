use Rattle.std.proofs.Common.{◌+◌}
use Rattle.std.proofs.lemmas.List.{take_rest}
use Rattle.model.proofs.Sizes.{legal_drop}
use Rattle.shelf.specs.Shapes.{shape_of}
use Rattle.shelf.proofs.shape.Shape.stride.Goals as goal

pub scenes-requires-clause-legal : goal.scenes-requires-clause-legal
scenes-requires-clause-legal c =
    let s = c.args.self.now in
    rw (take_rest, c.settings.ensures.value) (legal_drop (c.args.device + 1) (shape_of s) s.legal).1
