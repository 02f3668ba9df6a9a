use Rattle.std.proofs.Common.{arith}
use Rattle.model.proofs.Sizes.{size_most, legal_parts}
use Rattle.shelf.specs.Shapes.{shape_of}
use Rattle.shelf.proofs.shape.Shape.scenes.Goals as goal

pub returns-clause-bound : goal.returns-clause-bound
returns-clause-bound c =
    let s = c.args.self.now in
    let p = legal_parts (shape_of s) s.legal in
    omega (arith, s.counted, size_most (shape_of s) p.2 p.1)
