-- What a collector keeps while it copies. Assumes nothing.
use Rattle.std.specs.Prelude.{◌≡◌}
use Rattle.collect.specs.declared.collector.Collector.{Collector}

-- it copies from the same slots, and into the store and the notes that it was lent
pub record Lasts (old new : Collector) : Type 0 where
  pub source : new.source.now ≡ old.source.now
  pub same_spare : new.spare.ghost_name ≡ old.spare.ghost_name
  pub same_moved : new.moved.ghost_name ≡ old.moved.ghost_name
