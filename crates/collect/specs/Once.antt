-- That every note is right has at most one proof. Assumes nothing.
use Rattle.std.specs.Prelude.{ℕ, List, drop, Option}
use Rattle.std.specs.Coded.{×_prop}
use mathlib.Core.List.{is_set}
use Rattle.nodes.specs.declared.node.Node.{Node}
use Rattle.model.specs.Scenes.{Shape}
use Rattle.store.specs.Once.{time_set, fine_prop}
use Rattle.collect.specs.Copies.{Moved}

pub moved_prop : (source nodes : List (Option Node)) (shape : Shape) (moved : List (Option ℕ)) → IsProp (Moved source nodes shape moved)
moved_prop source nodes shape moved p q = λ i k j h l e lt is f. ×_prop (fine_prop nodes (drop l shape) l (record { weight = e.weight; child = j })) (is_set time_set _ _) (p k j h l e lt is f) (q k j h l e lt is f) i
