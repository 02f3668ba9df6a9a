-- The shape that a value holds. Assumes nothing.
use Rattle.model.specs.Scenes as scenes
use Rattle.lists.specs.Shorts.{listed}
use Rattle.shelf.specs.declared.shape.Shape.{Shape}

abbrev pub shape_of : Shape → scenes.Shape
shape_of s = listed s.settings
