-- What can be wrong with a surcharge. Assumes nothing.
use Rattle.std.specs.Prelude.{Bool, ◌==◌}
use Rattle.model.specs.Moves.{Surcharge}

-- a surcharge that adds nothing
abbrev pub free : Surcharge → Bool
free x = x.extra == 0
