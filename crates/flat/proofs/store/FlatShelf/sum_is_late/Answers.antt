use Rattle.std.proofs.Common.{sym, ap, ◌∙◌}
use Rattle.model.specs.Charts.{greatest, late}
use Rattle.model.proofs.Lateness.{late_tells}
use Rattle.flat.specs.Means.{row_of}
use Rattle.flat.proofs.store.FlatShelf.sum_is_late.Goals as goal

pub sum_is_late-requires : goal.sum_is_late-requires
sum_is_late-requires c =
    let s = c.args.self.now in
    record {
      timely = (
        ap late (c.greatest.ensures.value ∙ ap greatest c.row.ensures.value) ∙ sym (late_tells (row_of s c.args.left.number)) ∙ c.requires.legal.0,
        ap late (c.greatest-2.ensures.value ∙ ap greatest c.row-2.ensures.value) ∙ sym (late_tells (row_of s c.args.right.number)) ∙ c.requires.legal.1,
      );
    }
