-- Bounded lists as lists. Assumes nothing.
use Rattle.std.specs.Prelude.{ℕ, List, take}
use Rattle.lists.specs.declared.short.Short.{Short}

-- what a bounded list holds; what lies past its length is nowhere in a contract
abbrev pub listed : {T : Type 0} {n : ℕ} → Short T n → List T
listed s = take s.len s.items
