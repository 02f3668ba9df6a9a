-- The calls of the planning rule, block by block. Assumes nothing.
use Rattle.std.specs.Prelude.{ℕ, ◌+◌, cond, List, [], ◌∷◌, ◌++◌, map, Some, None, Option, ◌==◌}
use Rattle.std.specs.List.{range_with_len}
use Rattle.model.specs.Limits.{most_settings}
use Rattle.model.specs.Charts.{Time}
use Rattle.model.specs.Masks.{admits}
use Rattle.model.specs.Moves.{Pair, Surcharge, Move}
use Rattle.model.specs.Shelves.{Call, dial, cheaper, sum, put}

-- What the rule dials

-- an entry for each setting that a device can have
abbrev pub entries : (ℕ → Time) → List Time
entries f = map f (range_with_len 0 most_settings)

-- one entry at a setting, another elsewhere
abbrev pub entry : ℕ → Time → Time → ℕ → Time
entry d there elsewhere x = cond (x == d) there elsewhere

-- 0 at a setting, never elsewhere
abbrev pub only : ℕ → ℕ → Time
only d = entry d (Some 0) None

-- the extra at a setting, 0 elsewhere
abbrev pub dearer : ℕ → ℕ → ℕ → Time
dearer x d = entry d (Some x) (Some 0)

-- 0 at the settings that a mask admits, never elsewhere
abbrev pub admitted : ℕ → ℕ → Time
admitted mask x = cond (admits mask x) (Some 0) None

abbrev pub copy : ℕ → ℕ → Call
copy t a = cheaper t a a

-- Round 0: peg 0 gets 0 in the wanted scenes, never elsewhere

-- the masks of device v and of those after it
abbrev pub masked : ℕ → List ℕ → List Call
masked v [] = []
masked v (m ∷ ms) = dial 3 v (entries (admitted m)) ∷ sum 0 0 3 ∷ masked (v + 1) ms

abbrev pub round_0 : List ℕ → List Call
round_0 [] = []
round_0 (m ∷ ms) = dial 0 0 (entries (admitted m)) ∷ masked 1 ms

-- One move: peg 2 gets the times from peg 0 by way of the move

abbrev pub effected : List Pair → List Call
effected [] = []
effected (p ∷ ps) = put 2 2 p.device p.setting ∷ effected ps

abbrev pub conditioned : List Pair → List Call
conditioned [] = []
conditioned (p ∷ ps) = dial 3 p.device (entries (only p.setting)) ∷ sum 2 2 3 ∷ conditioned ps

abbrev pub based : ℕ → List Call
based base = dial 3 0 (entries (λ _. Some base)) ∷ sum 2 2 3 ∷ []

-- the tests of a surcharge after the first
abbrev pub further : ℕ → List Pair → List Call
further x [] = []
further x (p ∷ ps) = dial 4 p.device (entries (dearer x p.setting)) ∷ cheaper 3 3 4 ∷ further x ps

abbrev pub tested : ℕ → List Pair → List Call
tested x [] = []
tested x (p ∷ ps) = dial 3 p.device (entries (dearer x p.setting)) ∷ further x ps

abbrev pub surcharged : List Surcharge → List Call
surcharged [] = []
surcharged (x ∷ xs) = tested x.extra x.tests ++ (sum 2 2 3 ∷ surcharged xs)

abbrev pub tried : Move → List Call
tried m = copy 2 0 ∷ (effected m.effects ++ (conditioned m.conditions ++ (based m.base ++ surcharged m.surcharges)))

-- and peg 1 the lesser of its own times and those; a vacant slot is passed over
abbrev pub of_slot : Option Move → List Call
of_slot None = []
of_slot (Some m) = tried m ++ (cheaper 1 1 2 ∷ [])

-- Rounds

-- a call, with its round and the number of the move that it belongs to, if to one
pub record Step : Type 0 where
  pub round : ℕ
  pub move : Option ℕ
  pub call : Call

abbrev pub calls : List Step → List Call
calls = map (λ x. x.call)

abbrev pub marked : ℕ → Option ℕ → List Call → List Step
marked r o = map (λ c. record { round = r; move = o; call = c })

-- the moves from number i on, by rising number
abbrev pub by_moves : ℕ → ℕ → List (Option Move) → List Step
by_moves r i [] = []
by_moves r i (o ∷ slots) = marked r (Some i) (of_slot o) ++ by_moves r (i + 1) slots

abbrev pub round : ℕ → List (Option Move) → List Step
round r slots = marked r None (copy 1 0 ∷ []) ++ by_moves r 0 slots

-- a round that made some scene cheaper ends with a copy of peg 1 to peg 0
abbrev pub changing : List (Option Move) → ℕ → List Step
changing slots r = round r slots ++ marked r None (copy 0 1 ∷ [])
