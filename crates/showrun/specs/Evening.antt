-- The calls of the worked evening, in the order in which they are made. Assumes nothing.
use Rattle.std.specs.Prelude.{ℕ, List, [], ◌∷◌, replicate}
use Rattle.model.specs.Moves.{Pair, Surcharge, Move}
use Rattle.diagram.specs.Openings.{diagram_opened}
use Rattle.showrun.specs.Calls.{Call, add, retime, withdraw, perform, want, plan}

-- a device at a setting: the lamp is device 0, with 0 off and 1 on, and the sky device 1, with 0 day, 1 dusk and 2 dark
abbrev at : ℕ → ℕ → Pair
at v d = record { device = v; setting = d }

-- an extra while the lamp is on
abbrev lit : ℕ → Surcharge
lit n = record { tests = at 0 1 ∷ []; extra = n }

abbrev turn : Pair → Pair → ℕ → List Surcharge → Move
turn from to base xs = record { conditions = from ∷ []; effects = to ∷ []; base = base; surcharges = xs }

abbrev lamp_off : Move
lamp_off = turn (at 0 1) (at 0 0) 15 []

-- a plan on a new diagram shelf of 512 node slots, with a sheet of so many bytes
abbrev pub planned : ℕ → Call
planned bytes = plan (diagram_opened (2 ∷ 3 ∷ []) 512) (replicate bytes 0)

abbrev pub calls : List Call
calls =
    add 0 lamp_off
    ∷ add 1 (turn (at 1 0) (at 1 1) 20 (lit 30 ∷ []))
    ∷ add 2 (turn (at 1 1) (at 1 2) 20 (lit 40 ∷ []))
    ∷ add 3 (turn (at 1 0) (at 1 2) 40 (lit 50 ∷ []))
    ∷ want (3 ∷ 4 ∷ [])
    ∷ planned 16
    ∷ planned 2
    ∷ planned 3
    -- without move 0
    ∷ withdraw 0
    ∷ planned 16
    -- after move 0
    ∷ add 0 lamp_off
    ∷ perform 0
    ∷ perform 0
    ∷ planned 16
    -- the longest move, and one that would be longer
    ∷ retime 0 65535 []
    ∷ retime 0 65535 (lit 1 ∷ [])
    -- without moves 2 and 3
    ∷ withdraw 2
    ∷ withdraw 3
    ∷ planned 16
    -- other masks
    ∷ want (3 ∷ 8 ∷ [])
    ∷ want (3 ∷ 0 ∷ [])
    ∷ want (3 ∷ 7 ∷ [])
    ∷ planned 16
    ∷ []
