-- Charts that are 0 throughout. Assumes nothing.
use Rattle.std.specs.Prelude.{◌≡◌, Some}
use Rattle.std.specs.List.{AllByRecursion}
use Rattle.model.specs.Charts.{Chart}

abbrev pub Zero : Chart → Type 0
Zero c = AllByRecursion (λ t. t ≡ Some 0) c
