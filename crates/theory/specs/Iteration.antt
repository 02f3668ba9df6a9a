-- Value iteration: rounds that bring a chart to the least time of a run from each scene. Assumes nothing.
use Rattle.std.specs.Prelude.{◌≡◌, ℕ, zero, suc, ◌≤◌, Bool, true, cond, ◌↔◌, List, [], ◌∷◌, map, length, Some, None, Option}
use Rattle.model.specs.Scenes.{Shape, Scene, SceneOf, scenes}
use Rattle.model.specs.Charts.{Time, Chart, at, lesser, plus}
use Rattle.theory.specs.Actions.{Action, Table, LawfulTable, Run}

-- a cost and the time from there on
abbrev pub later : ℕ → Time → Time
later c t = plus (Some c) t

-- the time from s if the action is taken first, where v has the times from the scenes after it
abbrev pub through : Option Action → (Scene → Time) → Scene → Time
through None v s = None
through (Some a) v s = cond (a.applicable s) (later (a.cost s) (v (a.next s))) None

-- the least of the time o and the times through the actions
abbrev pub best : Time → Table → (Scene → Time) → Scene → Time
best o [] v s = o
best o (a ∷ acts) v s = best (lesser o (through a v s)) acts v s

-- what a round makes of the times v
abbrev pub relax : Table → (Scene → Time) → Scene → Time
relax acts v s = best (v s) acts v s

-- before the first round: 0 in a goal scene, never elsewhere
abbrev pub initial : (Scene → Bool) → Scene → Time
initial goal s = cond (goal s) (Some 0) None

-- the chart after r rounds
abbrev pub rounds : Shape → Table → (Scene → Bool) → ℕ → Chart
rounds ns acts goal zero = map (initial goal) (scenes ns)
rounds ns acts goal (suc r) = map (relax acts (at ns (rounds ns acts goal r))) (scenes ns)

-- t is the least time for which some list of numbers passes P
pub record Least (P : List ℕ → ℕ → Type 0) (t : ℕ) : Type 0 where
  pub witness : List ℕ
  pub passes : P witness t
  pub below : (is : List ℕ) (u : ℕ) → P is u → t ≤ u

-- o is that least time, and never exactly where no list passes P at any time
pub record Answers (P : List ℕ → ℕ → Type 0) (o : Time) : Type 0 where
  pub finite : (t : ℕ) → (o ≡ Some t) ↔ Least P t
  pub never : (o ≡ None) ↔ ((is : List ℕ) (u : ℕ) → P is u → ⊥)

-- after r rounds the chart has the least times of the runs of at most r actions
abbrev pub RoundsRight : Type 0
RoundsRight =
    (ns : Shape) (acts : Table) (goal : Scene → Bool) → LawfulTable ns acts → (r : ℕ) (s : Scene) → SceneOf ns s →
    Answers (λ is t. (length is ≤ r) × Run acts goal is s t) (at ns (rounds ns acts goal r) s)

-- v has the least time of all runs from each scene
abbrev pub Right : Shape → Table → (Scene → Bool) → (Scene → Time) → Type 0
Right ns acts goal v = (s : Scene) → SceneOf ns s → Answers (λ is t. Run acts goal is s t) (v s)

-- a chart that the next round leaves as it is has them
abbrev pub SettledRight : Type 0
SettledRight =
    (ns : Shape) (acts : Table) (goal : Scene → Bool) → LawfulTable ns acts → (r : ℕ) → rounds ns acts goal (suc r) ≡ rounds ns acts goal r →
    Right ns acts goal (at ns (rounds ns acts goal r))

-- so have any times, found in whatever way, that are times of runs, are 0 in each goal scene, and that a round would leave as they are
pub record Settled (ns : Shape) (acts : Table) (goal : Scene → Bool) (v : Scene → Time) : Type 0 where
  pub reached : (s : Scene) → SceneOf ns s → (t : ℕ) → v s ≡ Some t → (is : List ℕ) × Run acts goal is s t
  pub arrived : (s : Scene) → SceneOf ns s → goal s ≡ true → v s ≡ Some 0
  pub still : (s : Scene) → SceneOf ns s → relax acts v s ≡ v s

abbrev pub AnySettledRight : Type 0
AnySettledRight =
    (ns : Shape) (acts : Table) (goal : Scene → Bool) → LawfulTable ns acts → (v : Scene → Time) → Settled ns acts goal v → Right ns acts goal v
