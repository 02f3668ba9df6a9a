-- Charts that are later throughout. Assumes nothing.
use Rattle.std.specs.Prelude.{map, Some, None}
use Rattle.model.specs.Charts.{Time, Chart, plus}

-- every time later by w
abbrev pub later : Time → Chart → Chart
later w c = map (plus w) c

-- 0 for a time, and never for never
abbrev pub zeroed : Time → Time
zeroed None = None
zeroed (Some x) = Some 0
