-- Charts with one entry throughout, and charts of a level that only the devices below tell apart. Assumes nothing.
use Rattle.std.specs.Prelude.{ℕ, zero, suc, ◌+◌, map}
use Rattle.model.specs.Charts.{Time, Chart}
use Rattle.model.specs.Scenes.{Shape, scenes}
use Rattle.build.specs.Builds.{spread_chart}

abbrev pub flat : Shape → Time → Chart
flat ns w = map (λ _. w) (scenes ns)

-- the chart of the level l that gives a scene what c, a chart k levels below, gives its last devices
abbrev pub lifted : Shape → ℕ → ℕ → Chart → Chart
lifted shape l zero c = c
lifted shape l (suc k) c = spread_chart shape l (lifted shape (l + 1) k c)
