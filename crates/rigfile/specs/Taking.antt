-- The moves of a file, taken one after another. Assumes nothing.
use Rattle.std.specs.Prelude.{◌≡◌, ℕ, List, [], ◌∷◌, ◌++◌, drop, Some, None, Option}
use Rattle.model.specs.Moves as model
use Rattle.lists.specs.Shorts.{listed}
use Rattle.moves.specs.Views.{pairs_of}
use Rattle.drafts.specs.Drafts.{charges_of}
use Rattle.format.specs.Files.{Entry}
use Rattle.framing.specs.Reading.{Lacks}
use Rattle.rigfile.specs.declared.taker.Taker.{Taker}
use Rattle.rigfile.specs.declared.taker.NumberedMove.{NumberedMove}

-- bytes two by two; a last one by itself is left out
abbrev pub pairing : List ℕ → List model.Pair
pairing [] = []
pairing (x ∷ []) = []
pairing (x ∷ y ∷ xs) = record { device = x; setting = y } ∷ pairing xs

-- the pairs are those of the bytes, from this one on and from the next
pub record Laid (t : Taker) : Type 0 where
  pub here : pairs_of t.here.now ≡ pairing t.reader.rest.now
  pub next : pairs_of t.next.now ≡ pairing (drop 1 t.reader.rest.now)

-- an item was taken, which is seen as one of which P holds, and what is left is laid out as before; or none such stands there
abbrev pub Gives : {X Y : Type 0} → (Y → Type 0) → (X → Y) → (Y → List ℕ) → Option X → Taker → Taker → Type 0
Gives P seen f (Some x) old new = P (seen x) × (old.reader.rest.now ≡ f (seen x) ++ new.reader.rest.now) × Laid new
Gives P seen f None old new = Lacks P f old.reader.rest.now

abbrev pub entry_of : NumberedMove → Entry
entry_of m =
    record {
      number = m.head.number;
      move = record { conditions = pairs_of m.conditions.now; effects = pairs_of m.effects.now; base = m.head.base; surcharges = charges_of (listed m.charges) };
    }
