use Rattle.std.proofs.Common.{◌-◌, length}
use Rattle.build.specs.Grew.{shape_in}
use Rattle.build.proofs.node_store.NodeStore.+is_zero.Given as goal

abbrev pub decreases-is_zero : goal.decreases-is_zero
decreases-is_zero l = length (shape_in l.self.now) - l.level
