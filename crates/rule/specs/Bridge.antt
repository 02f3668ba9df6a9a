-- What the rule leaves on the pegs, in the words of value iteration. Assumes nothing.
use Rattle.std.specs.Prelude.{◌≡◌, ℕ, suc, ◌<◌, ◌≤◌, cond, ◌≢◌, List, ◌∷◌, ◌++◌, map, length, Some, None, Option, slice_index_or}
use Rattle.std.specs.List.{AllByRecursion}
use Rattle.model.specs.Limits.{peg_count}
use Rattle.model.specs.Scenes.{Shape, Scene, SceneOf, scenes, size}
use Rattle.model.specs.Charts.{Time, Chart, at}
use Rattle.model.specs.Moves.{Move, all_hold, applied, time}
use Rattle.model.specs.Contents.{Contents}
use Rattle.model.specs.Calls.{Lawful}
use Rattle.model.specs.Shelves.{Pegs, Meaning}
use Rattle.theory.specs.Iteration.{later, relax}
use Rattle.theory.specs.Wellformed.{LawfulShape, LawfulMove, LawfulSlot}
use Rattle.theory.specs.Tables.{table_of}
use Rattle.theory.specs.Ways.{RightFor}
use Rattle.theory.specs.Alike.{Alike}
use Rattle.rule.specs.Steps.{Step, calls, tried, round}
use Rattle.rule.specs.Running.{ran, after_steps, OnlyRoom}
use Rattle.rule.specs.Rule.{chart_after, count, start, so_far, rule}

-- the chart that a function makes
abbrev pub tab : Shape → (Scene → Time) → Chart
tab ns f = map f (scenes ns)

-- One move

-- peg 2 has at each scene the move's time and the time from the scene after it, and never where a condition fails
pub record Tried (ns : Shape) (m : Move) (v : Scene → Time) (old new : Pegs) : Type 0 where
  pub first : slice_index_or new 0 None ≡ slice_index_or old 0 None
  pub second : slice_index_or new 1 None ≡ slice_index_or old 1 None
  pub upper : (p : ℕ) → 5 ≤ p → slice_index_or new p None ≡ slice_index_or old p None
  pub chart : Chart
  pub hangs : slice_index_or new 2 None ≡ Some chart
  pub times : (s : Scene) → SceneOf ns s →
      at ns chart s ≡ cond (all_hold s m.conditions) (later (time m s) (v (applied m.effects s))) None

abbrev pub MovesTried : Type 0
MovesTried =
    (ns : Shape) → LawfulShape ns → (m : Move) → LawfulMove ns m →
    (ps : Pegs) → length ps ≡ peg_count → (v : Scene → Time) → slice_index_or ps 0 None ≡ Some (tab ns v) → Tried ns m v ps (ran ns ps (tried m))

-- Rounds

-- a round leaves peg 0 as it was, and on peg 1 what a round of value iteration makes of it
abbrev pub RoundsRun : Type 0
RoundsRun =
    (ns : Shape) → LawfulShape ns → (slots : List (Option Move)) → AllByRecursion (LawfulSlot ns) slots →
    (ps : Pegs) → length ps ≡ peg_count → (v : Scene → Time) → slice_index_or ps 0 None ≡ Some (tab ns v) → (r : ℕ) →
    (slice_index_or (ran ns ps (calls (round r slots))) 0 None ≡ Some (tab ns v))
    × (slice_index_or (ran ns ps (calls (round r slots))) 1 None ≡ Some (tab ns (relax (table_of slots) v)))

-- round 0 and the first n rounds leave the chart after n rounds on peg 0
abbrev pub StartsRun : Type 0
StartsRun =
    (c : Contents) → Lawful c → (ps : Pegs) → length ps ≡ peg_count →
    (n : ℕ) → slice_index_or (ran c.settings ps (calls (start c.slots c.masks n))) 0 None ≡ Some (chart_after c n)

-- one round more leaves the next chart on peg 1
pub record Shown (c : Contents) (n : ℕ) (old new : Pegs) : Type 0 where
  pub first : slice_index_or new 0 None ≡ Some (chart_after c n)
  pub second : slice_index_or new 1 None ≡ Some (chart_after c (suc n))
  pub upper : (p : ℕ) → 5 ≤ p → slice_index_or new p None ≡ slice_index_or old p None

abbrev pub RoundsShown : Type 0
RoundsShown =
    (c : Contents) → Lawful c → (ps : Pegs) → length ps ≡ peg_count → (n : ℕ) → Shown c n ps (ran c.settings ps (calls (so_far c n)))

-- each round that is counted makes some scene cheaper, and the next one none
pub record Counts (c : Contents) : Type 0 where
  pub changed : (r : ℕ) → r < count c → chart_after c (suc r) ≢ chart_after c r
  pub settled : chart_after c (suc (count c)) ≡ chart_after c (count c)
  pub few : count c ≤ size c.settings
  pub alone : (r : ℕ) → ((i : ℕ) → i < r → chart_after c (suc i) ≢ chart_after c i) → chart_after c (suc r) ≡ chart_after c r → r ≡ count c

abbrev pub RoundsCounted : Type 0
RoundsCounted = (c : Contents) → Lawful c → Counts c

-- contents that are alike, also in their settings counts, count the same rounds
abbrev pub CountsAlike : Type 0
CountsAlike = (c d : Contents) → Alike c d → c.settings ≡ d.settings → count c ≡ count d

-- The whole rule

-- as long as a round makes some scene cheaper, the rule goes on
abbrev pub RuleGoesOn : Type 0
RuleGoesOn = (c : Contents) (n : ℕ) → n ≤ count c → (left : List Step) × (rule c ≡ so_far c n ++ left)

-- pegs 0 and 1 have the least times of all runs of the rig's moves to a wanted scene
pub record Ruled (c : Contents) (old new : Pegs) : Type 0 where
  pub first : slice_index_or new 0 None ≡ Some (chart_after c (count c))
  pub second : slice_index_or new 1 None ≡ Some (chart_after c (count c))
  pub upper : (p : ℕ) → 5 ≤ p → slice_index_or new p None ≡ slice_index_or old p None
  pub right : RightFor c (at c.settings (chart_after c (count c)))

abbrev pub RuleRight : Type 0
RuleRight = (c : Contents) → Lawful c → (ps : Pegs) → length ps ≡ peg_count → Ruled c ps (ran c.settings ps (calls (rule c)))

-- at each step of the rule, whatever the pegs carried before it, no refusal but "no room" can hold, and pegs 5 to 7 are as they were
abbrev pub RuleOnlyRoom : Type 0
RuleOnlyRoom =
    (c : Contents) → Lawful c → (m : Meaning) → m.shape ≡ c.settings → length m.pegs ≡ peg_count →
    (done left : List Step) (x : Step) → rule c ≡ done ++ (x ∷ left) →
    OnlyRoom (after_steps m done) x.call × ((p : ℕ) → 5 ≤ p → slice_index_or (after_steps m done).pegs p None ≡ slice_index_or m.pegs p None)
