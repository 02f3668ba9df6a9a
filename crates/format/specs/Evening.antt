-- The file of the worked evening. Assumes nothing.
use Rattle.std.specs.Prelude.{◌≡◌, ℕ, List, [], ◌∷◌, Some, Option}
use Rattle.model.specs.Moves.{Pair, Surcharge, Move}
use Rattle.model.specs.Contents.{Contents}
use Rattle.format.specs.Files.{file}

abbrev at : ℕ → ℕ → Pair
at v d = record { device = v; setting = d }

-- an extra while the lamp is on
abbrev lit : ℕ → Surcharge
lit n = record { tests = at 0 1 ∷ []; extra = n }

abbrev turn : Pair → Pair → ℕ → List Surcharge → Option Move
turn from to base xs = Some (record { conditions = from ∷ []; effects = to ∷ []; base = base; surcharges = xs })

abbrev pub evening : Contents
evening =
    record {
      settings = 2 ∷ 3 ∷ [];
      names = (76 ∷ 65 ∷ 77 ∷ 80 ∷ 32 ∷ 32 ∷ 32 ∷ 32 ∷ []) ∷ (83 ∷ 75 ∷ 89 ∷ 32 ∷ 32 ∷ 32 ∷ 32 ∷ 32 ∷ []) ∷ [];
      scene = 1 ∷ 0 ∷ [];
      masks = 3 ∷ 4 ∷ [];
      slots = turn (at 0 1) (at 0 0) 15 [] ∷ turn (at 1 0) (at 1 1) 20 (lit 30 ∷ []) ∷ turn (at 1 1) (at 1 2) 20 (lit 40 ∷ []) ∷ turn (at 1 0) (at 1 2) 40 (lit 50 ∷ []) ∷ [];
    }

abbrev pub EveningFile : Type 0
EveningFile =
    file evening
    ≡ 1 ∷ 2 ∷ 4 ∷ 0 ∷ 12 ∷ 0 ∷ 30 ∷ 0 ∷ 34 ∷ 0 ∷ 89 ∷ 0
    ∷ 2 ∷ 76 ∷ 65 ∷ 77 ∷ 80 ∷ 32 ∷ 32 ∷ 32 ∷ 32
    ∷ 3 ∷ 83 ∷ 75 ∷ 89 ∷ 32 ∷ 32 ∷ 32 ∷ 32 ∷ 32
    ∷ 1 ∷ 0 ∷ 3 ∷ 4
    ∷ 0 ∷ 1 ∷ 1 ∷ 0 ∷ 15 ∷ 0 ∷ 0 ∷ 1 ∷ 0 ∷ 0
    ∷ 1 ∷ 1 ∷ 1 ∷ 1 ∷ 20 ∷ 0 ∷ 1 ∷ 0 ∷ 1 ∷ 1 ∷ 1 ∷ 30 ∷ 0 ∷ 0 ∷ 1
    ∷ 2 ∷ 1 ∷ 1 ∷ 1 ∷ 20 ∷ 0 ∷ 1 ∷ 1 ∷ 1 ∷ 2 ∷ 1 ∷ 40 ∷ 0 ∷ 0 ∷ 1
    ∷ 3 ∷ 1 ∷ 1 ∷ 1 ∷ 40 ∷ 0 ∷ 1 ∷ 0 ∷ 1 ∷ 2 ∷ 1 ∷ 50 ∷ 0 ∷ 0 ∷ 1
    ∷ []
