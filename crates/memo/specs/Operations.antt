-- What an operation makes of charts. Assumes nothing.
use Rattle.std.specs.Prelude.{ℕ, ◌-◌}
use Rattle.nodes.specs.declared.remembered.Op.{Op}
use Rattle.nodes.specs.declared.remembered.Op.TheVariants.{Cheaper, Sum}
use Rattle.nodes.specs.declared.remembered.Operation.{Operation}
use Rattle.nodes.specs.declared.remembered.Operation.TheVariants.{Join, Put}
use Rattle.model.specs.Charts.{Time, Chart, lesser, plus, zipped, put_chart}
use Rattle.model.specs.Scenes.{Shape}

-- what it does with the entries of a scene
abbrev pub entry : Op → Time → Time → Time
entry Cheaper x y = lesser x y
entry Sum x y = plus x y

-- and with charts of the devices that remain, l being set
abbrev pub result_chart : Operation → Shape → ℕ → Chart → Chart → Chart
result_chart (Join op) ns l c d = zipped (entry op) c d
result_chart (Put v s) ns l c d = put_chart ns (v - l) s c
