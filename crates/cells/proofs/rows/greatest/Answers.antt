use Rattle.std.proofs.Common.{ap, ◌∙◌}
use Rattle.std.specs.Option.{option_flatten}
use Rattle.std.proofs.lemmas.Iterator.{YieldsList-from_slice}
use Rattle.std.proofs.lemmas.Iterator.Consumers.{YieldsList-from_copied, reduce_from_yields_List}
use Rattle.cells.proofs.Reading.{later, latest_is_greatest}
use Rattle.cells.proofs.rows.greatest.Goals as goal

pub returns : goal.returns
returns c =
    let row = c.args.row.now in
    let most = reduce_from_yields_List later c.copied.result c.max.result c.max.ensures.ran (YieldsList-from_copied (YieldsList-from_slice row cc)) in
    record { value = c.flatten.ensures ∙ ap option_flatten most ∙ latest_is_greatest row }
