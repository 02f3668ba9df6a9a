-- What a collector keeps from call to call. Assumes nothing.
use Rattle.std.proofs.Common.{◌∙◌}
use Rattle.collect.specs.declared.collector.Collector.{Collector}
use Rattle.collect.specs.Collecting.{Lasts}

pub lasts_on : {first mid last : Collector} → Lasts first mid → Lasts mid last → Lasts first last
lasts_on a b = record {
  source = b.source ∙ a.source;
  same_spare = b.same_spare ∙ a.same_spare;
  same_moved = b.same_moved ∙ a.same_moved;
}
