-- A test whose `false` ends a function. Assumes nothing.
use Rattle.std.proofs.Common.{◌≡◌, Bool, true, false, MatchBool, Some, None, Option}
use Rattle.std.specs.Bool.{then_some}

abbrev pub passed : Bool → Option (Unit {0})
passed b = then_some b tt

pub holds : (P : Type 0) (b : Bool) (u : Unit {0}) → MatchBool b P (P → ⊥) → Some u ≡ passed b → P
holds P true u m e = m
holds P false u m e = cc

pub fails : (P : Type 0) (b : Bool) → MatchBool b P (P → ⊥) → None ≡ passed b → P → ⊥
fails P true m e = cc
fails P false m e = m
