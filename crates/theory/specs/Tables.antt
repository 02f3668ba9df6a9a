-- The transition system that the moves of a rig make. Assumes nothing.
use Rattle.std.specs.Prelude.{List, map, Some, None, Option}
use Rattle.std.specs.List.{AllByRecursion}
use Rattle.model.specs.Scenes.{Shape}
use Rattle.model.specs.Moves.{Move, all_hold, applied, time}
use Rattle.model.specs.Contents.{Contents}
use Rattle.model.specs.Calls.{Lawful}
use Rattle.theory.specs.Actions.{Action, Table, LawfulTable}
use Rattle.theory.specs.Wellformed.{LawfulSlot}

-- a move may be made where its conditions hold, leads where its effects do, and costs its time
abbrev pub action_of : Move → Action
action_of m = record { applicable = λ s. all_hold s m.conditions; next = applied m.effects; cost = time m }

abbrev pub action_in : Option Move → Option Action
action_in None = None
action_in (Some m) = Some (action_of m)

-- a move has the number of its slot
abbrev pub table_of : List (Option Move) → Table
table_of = map action_in

-- moves within a shape and the limits make a lawful table
abbrev pub MovesLawful : Type 0
MovesLawful = (ns : Shape) (slots : List (Option Move)) → AllByRecursion (LawfulSlot ns) slots → LawfulTable ns (table_of slots)

-- and so do those of lawful contents
abbrev pub TablesLawful : Type 0
TablesLawful = (c : Contents) → Lawful c → LawfulTable c.settings (table_of c.slots)
