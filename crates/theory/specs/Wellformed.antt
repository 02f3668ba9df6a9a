-- What the tests of open, want and add tell of contents, as relations. Assumes nothing.
use Rattle.std.specs.Prelude.{◌≡◌, ℕ, ◌+◌, ◌<◌, ◌≤◌, ◌≢◌, List, [], ◌∷◌, length, Some, None, Option, slice_index}
use Rattle.std.specs.List.{AllByRecursion}
use Rattle.model.specs.Limits.{most_devices, least_settings, most_settings, most_conditions, most_effects, most_surcharges, most_tests, most_tenths}
use Rattle.model.specs.Lists.{total}
use Rattle.model.specs.Scenes.{Shape, SceneOf}
use Rattle.model.specs.Moves.{Pair, Surcharge, Move}
use Rattle.model.specs.Contents.{Contents}
use Rattle.model.specs.Calls.{Lawful, extra}

pub record LawfulShape (ns : Shape) : Type 0 where
  pub some : 1 ≤ length ns
  pub few : length ns ≤ most_devices
  pub each_some : AllByRecursion (λ n. least_settings ≤ n) ns
  pub each_few : AllByRecursion (λ n. n ≤ most_settings) ns

-- a device of the shape and one of its settings
abbrev pub Within : Shape → Pair → Type 0
Within ns p = (p.device < length ns) × (p.setting < slice_index ns p.device)

-- the device does not stand in the pairs
abbrev pub Absent : ℕ → List Pair → Type 0
Absent v = AllByRecursion (λ p. v ≢ p.device)

-- no device stands twice
abbrev pub Distinct : List Pair → Type 0
Distinct [] = Unit {0}
Distinct (p ∷ ps) = Absent p.device ps × Distinct ps

pub record LawfulPairs (ns : Shape) (ps : List Pair) : Type 0 where
  pub within : AllByRecursion (Within ns) ps
  pub distinct : Distinct ps

pub record LawfulSurcharge (ns : Shape) (x : Surcharge) : Type 0 where
  pub pairs : LawfulPairs ns x.tests
  pub some_tests : 1 ≤ length x.tests
  pub few_tests : length x.tests ≤ most_tests
  pub some : 1 ≤ x.extra

pub record LawfulMove (ns : Shape) (m : Move) : Type 0 where
  pub conditioned : LawfulPairs ns m.conditions
  pub effected : LawfulPairs ns m.effects
  pub surcharged : AllByRecursion (LawfulSurcharge ns) m.surcharges
  pub few_conditions : length m.conditions ≤ most_conditions
  pub some_effects : 1 ≤ length m.effects
  pub few_effects : length m.effects ≤ most_effects
  pub few_surcharges : length m.surcharges ≤ most_surcharges
  pub some : 1 ≤ m.base
  pub most : m.base + total extra m.surcharges ≤ most_tenths

abbrev pub LawfulSlot : Shape → Option Move → Type 0
LawfulSlot ns None = Unit {0}
LawfulSlot ns (Some m) = LawfulMove ns m

pub record WellFormed (c : Contents) : Type 0 where
  pub shape : LawfulShape c.settings
  pub present : SceneOf c.settings c.scene
  pub as_many_masks : length c.masks ≡ length c.settings
  pub each_slot : AllByRecursion (LawfulSlot c.settings) c.slots

abbrev pub ContentsTold : Type 0
ContentsTold = (c : Contents) → Lawful c → WellFormed c
