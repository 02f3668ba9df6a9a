-- Slots and pegs that hold nothing. Assumes nothing.
use Rattle.std.proofs.Common.{◌≡◌, ℕ, suc, List, [], ◌∷◌, is_some, Some, Option, sym, ap, subst}
use Rattle.std.specs.List.{AllByRecursion}
use Rattle.std.proofs.lemmas.Bool.{both_ways}
use Rattle.table.specs.Tables.{slot, Table, Empty}
use Rattle.nodes.specs.Keys.{SameKey, initial_of}
use Rattle.nodes.specs.declared.edge.Edge.{Edge}
use Rattle.nodes.specs.declared.node.Node.{Node}
use Rattle.nodes.specs.declared.remembered.Remembered.{Remembered}
use Rattle.model.specs.Scenes.{Shape}
use Rattle.store.specs.Stores.{Store}
use Rattle.build.specs.Builds.{NodeTable}
use Rattle.memo.specs.Results.{Knows}
use Rattle.collect.specs.Copies.{Moved}
use Rattle.pegs.specs.Held.{peg_fine}

nothing_in : {E : Type 0} (slots : List (Option E)) → Empty slots → (k : ℕ) (x : E) → slot slots k ≡ Some x → ⊥
nothing_in slots empty k x h = both_ways (is_some (slot slots k)) (ap is_some (empty k)) (ap is_some h)

-- no node is there, so no wrong one
pub store_none : (nodes : List (Option Node)) (shape : Shape) → NodeTable nodes → Empty nodes → Store nodes shape
store_none nodes shape table empty = record { apart = table.apart; proper = λ k x h. absurd (nothing_in nodes empty k x h) }

-- no result
pub knows_none : (nodes : List (Option Node)) (shape : Shape) (memo : List (Option Remembered)) → Table SameKey initial_of memo → Empty memo → Knows nodes shape memo
knows_none nodes shape memo table empty = record { table = table; all = λ k x h. absurd (nothing_in memo empty k x h) }

-- no note
pub moved_none : (source nodes : List (Option Node)) (shape : Shape) (moved : List (Option ℕ)) → Empty moved → Moved source nodes shape moved
moved_none source nodes shape moved empty k j h = absurd (nothing_in moved empty k j h)

-- no edge on a peg
pub bare_fine : (nodes : List (Option Node)) (shape : Shape) (pegs : List (Option Edge)) → Empty pegs → AllByRecursion (peg_fine nodes shape) pegs
bare_fine nodes shape [] empty = tt
bare_fine nodes shape (p ∷ ps) empty = (subst (peg_fine nodes shape) (sym (empty 0)) tt, bare_fine nodes shape ps (λ k. empty (suc k)))
