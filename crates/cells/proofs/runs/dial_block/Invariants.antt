use Rattle.std.proofs.Common.{get_or, None}
use Rattle.cells.specs.Writes.{Runs}
use Rattle.cells.proofs.runs.dial_block.Given as goal

abbrev pub invariant-loop-d : goal.invariant-loop-d
invariant-loop-d l = Runs l.d l.stride 0 (λ d _. get_or l.entries d None) l.initial.block l.block
