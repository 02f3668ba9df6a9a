use Rattle.std.proofs.Common.{◌≡◌, ◌+◌, ◌-◌, ◌*◌, ◌≤◌, length, take, drop, None, ◌∙◌, arith}
use Rattle.std.proofs.lemmas.List.{length-take-le, length-drop, get_or-take}
use Rattle.cells.proofs.Writing.{rows_up}
use Rattle.cells.proofs.Copying.{runs_part, blocks_spread}
use Rattle.cells.proofs.runs.dial_row.Goals as goal

pub returns : goal.returns
returns c =
    let n = c.args.strides.count in
    let w = c.args.strides.stride in
    let base = c.args.base in
    let cells = c.args.cells.now in
    let entries = c.args.entries.now in
    let few : length (take n entries) ≡ n = length-take-le n entries (omega (arith, c.requires.few, c.told-entries)) in
    let room : base + n * w ≤ length cells = omega (arith, rows_up 1 c.args.strides.blocks (n * w) c.requires.some, c.requires.within) in
    let wide : base + n * w - base ≡ n * w = omega arith in
    let long : length c.dial_block.new.block ≡ n * w = c.dial_block.auto.block ∙ length-take-le _ (drop base cells) (omega (arith, length-drop base cells)) ∙ wide in
    let first = runs_part n _ w base _ _ _ cells _ _ few room wide long (λ d h. get_or-take n entries d None h) c.dial_block.ensures.runs in
    record { blocks = blocks_spread c.args.strides.blocks n w base _ _ _ _ c.requires.some first c.spread_run.ensures.runs }
