-- The planning rule as one list of calls, fixed by the contents of a rig. Assumes nothing.
use Rattle.std.specs.Prelude.{ℕ, zero, suc, ◌+◌, cond, List, ◌++◌, None, Option}
use Rattle.std.specs.List.{range_with_len, flat_map}
use Rattle.model.specs.Scenes.{size}
use Rattle.model.specs.Charts.{Chart, same_chart}
use Rattle.model.specs.Masks.{wanted}
use Rattle.model.specs.Moves.{Move}
use Rattle.model.specs.Contents.{Contents}
use Rattle.theory.specs.Iteration.{rounds}
use Rattle.theory.specs.Tables.{table_of}
use Rattle.rule.specs.Steps.{Step, marked, round_0, round, changing}

-- the chart of value iteration after r rounds
abbrev pub chart_after : Contents → ℕ → Chart
chart_after c r = rounds c.settings (table_of c.slots) (wanted c.masks) r

-- the first number from r on, of n, after which the charts are the same
abbrev pub settles : (ℕ → Chart) → ℕ → ℕ → ℕ
settles f zero r = r
settles f (suc n) r = cond (same_chart (f (suc r)) (f r)) r (settles f n (suc r))

-- how many rounds make some scene cheaper
abbrev pub count : Contents → ℕ
count c = settles (chart_after c) (size c.settings) 0

-- round 0 and the first n rounds, each of which makes some scene cheaper
abbrev pub start : List (Option Move) → List ℕ → ℕ → List Step
start slots masks n = marked 0 None (round_0 masks) ++ flat_map (changing slots) (range_with_len 1 n)

-- and one round more, whose chart on peg 1 is yet to be compared with peg 0
abbrev pub so_far : Contents → ℕ → List Step
so_far c n = start c.slots c.masks n ++ round (n + 1) c.slots

-- in the whole rule the last round is the first that makes nothing cheaper
abbrev pub rule : Contents → List Step
rule c = so_far c (count c)
