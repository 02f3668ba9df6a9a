-- The rig file: what it lists, its bytes, and the file of a rig's contents. Assumes nothing.
use Rattle.std.specs.Prelude.{◌≡◌, ℕ, ◌+◌, ◌*◌, ◌≤◌, List, [], ◌∷◌, ◌++◌, length, Some, None, Option, slice_set}
use Rattle.std.specs.List.{flat_map, AllByRecursion}
use Rattle.model.specs.Moves.{Surcharge, Move}
use Rattle.model.specs.Contents.{Contents, Name}
use Rattle.model.specs.Calls.{Lawful}
use Rattle.format.specs.Bytes.{two, pair}

-- a move with its number
pub record Entry : Type 0 where
  pub number : ℕ
  pub move : Move

-- what a file lists, whether or not a rig takes it
pub record Listing : Type 0 where
  pub settings : List ℕ
  pub names : List Name
  pub scene : List ℕ
  pub masks : List ℕ
  pub moves : List Entry

-- the number of tests, the extra, the tests
abbrev pub surcharge : Surcharge → List ℕ
surcharge x = length x.tests ∷ (two x.extra ++ flat_map pair x.tests)

-- the lists of a move, conditions before effects before surcharges
abbrev pub lists : Move → List ℕ
lists m = flat_map pair m.conditions ++ (flat_map pair m.effects ++ flat_map surcharge m.surcharges)

-- the number, how long the lists are, the base, the lists
abbrev pub entry : Entry → List ℕ
entry e =
    e.number ∷ length e.move.conditions ∷ length e.move.effects ∷ length e.move.surcharges
    ∷ (two e.move.base ++ lists e.move)

-- each device: its settings count and its name
abbrev pub devices : List ℕ → List Name → List ℕ
devices [] names = []
devices (n ∷ ns) [] = []
devices (n ∷ ns) (name ∷ names) = n ∷ (name ++ devices ns names)

-- the parts behind the header, without gaps
abbrev pub body : Listing → List ℕ
body l = devices l.settings l.names ++ (l.scene ++ (l.masks ++ flat_map entry l.moves))

-- of n devices and m moves in so many bytes: version, device count, move count, zero byte; the offsets of devices,
-- scene and moves, the total length
abbrev pub header : ℕ → ℕ → ℕ → List ℕ
header n m total = 1 ∷ n ∷ m ∷ 0 ∷ (two 12 ++ (two (12 + 9 * n) ++ (two (12 + 11 * n) ++ two total)))

abbrev pub bytes : Listing → List ℕ
bytes l = header (length l.settings) (length l.moves) (12 + length (body l)) ++ body l

-- the numbers rise strictly, from low on
abbrev pub Rising : ℕ → List Entry → Type 0
Rising low [] = Unit {0}
Rising low (e ∷ es) = (low ≤ e.number) × Rising (e.number + 1) es

abbrev pub Eight : Name → Type 0
Eight name = length name ≡ 8

-- a name of eight bytes, a present setting and a mask for each device, and moves by rising number
pub record Shaped (l : Listing) : Type 0 where
  pub names : length l.names ≡ length l.settings
  pub eight : AllByRecursion Eight l.names
  pub scene : length l.scene ≡ length l.settings
  pub masks : length l.masks ≡ length l.settings
  pub moves : Rising 0 l.moves

-- the moves of the slots in use by rising number, the first slot being numbered n
abbrev pub entries : ℕ → List (Option Move) → List Entry
entries n [] = []
entries n (None ∷ slots) = entries (n + 1) slots
entries n (Some m ∷ slots) = record { number = n; move = m } ∷ entries (n + 1) slots

-- each move in the slot of its number
abbrev pub placed : List Entry → List (Option Move) → List (Option Move)
placed [] slots = slots
placed (e ∷ es) slots = placed es (slice_set slots e.number (Some e.move))

abbrev pub listing : Contents → Listing
listing c = record { settings = c.settings; names = c.names; scene = c.scene; masks = c.masks; moves = entries 0 c.slots }

-- the file of a rig's contents
abbrev pub file : Contents → List ℕ
file c = bytes (listing c)

-- contents of a rig: lawful, and with names of eight bytes
pub record Held (c : Contents) : Type 0 where
  pub lawful : Lawful c
  pub eight : AllByRecursion Eight c.names
