-- When value iteration stops, and how great its times grow. Assumes nothing.
use Rattle.std.specs.Prelude.{◌≡◌, ℕ, suc, ◌*◌, ◌≤◌, Bool, Some}
use Rattle.model.specs.Limits.{most_tenths}
use Rattle.model.specs.Scenes.{Shape, Scene, SceneOf, size}
use Rattle.model.specs.Charts.{at}
use Rattle.theory.specs.Actions.{Table, LawfulTable}
use Rattle.theory.specs.Iteration.{Right, rounds}

-- the round whose number is that of the scenes, and each later one, changes nothing
abbrev pub RoundsStop : Type 0
RoundsStop =
    (ns : Shape) (acts : Table) (goal : Scene → Bool) → LawfulTable ns acts → (r : ℕ) → size ns ≤ suc r →
    rounds ns acts goal (suc r) ≡ rounds ns acts goal r

-- no time passes the number of scenes times the greatest cost
abbrev pub TimesBounded : Type 0
TimesBounded =
    (ns : Shape) (acts : Table) (goal : Scene → Bool) → LawfulTable ns acts → (r : ℕ) (s : Scene) → SceneOf ns s → (t : ℕ) →
    at ns (rounds ns acts goal r) s ≡ Some t → t ≤ size ns * most_tenths

-- as many rounds as there are scenes find the least times of all runs
abbrev pub ChartsRight : Type 0
ChartsRight =
    (ns : Shape) (acts : Table) (goal : Scene → Bool) → LawfulTable ns acts → Right ns acts goal (at ns (rounds ns acts goal (size ns)))
