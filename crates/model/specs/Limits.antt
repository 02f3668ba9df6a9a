-- Every limit of the planner, named once. Assumes nothing.
use Rattle.std.specs.Prelude.{ℕ, Bool, ◌||◌, nat_lt}

-- a number below the least or above the most
abbrev pub outside : ℕ → ℕ → ℕ → Bool
outside least most n = nat_lt n least || nat_lt most n

abbrev pub most_devices : ℕ
most_devices = 12

abbrev pub least_settings : ℕ
least_settings = 2

abbrev pub most_settings : ℕ
most_settings = 8

-- a name's bytes are printable
abbrev pub least_byte : ℕ
least_byte = 32

abbrev pub most_byte : ℕ
most_byte = 126

abbrev pub most_slots : ℕ
most_slots = 255

abbrev pub most_conditions : ℕ
most_conditions = 12

abbrev pub most_effects : ℕ
most_effects = 12

abbrev pub most_surcharges : ℕ
most_surcharges = 8

abbrev pub most_tests : ℕ
most_tests = 3

-- a move's base and all its extras together, in tenths of a second
abbrev pub most_tenths : ℕ
most_tenths = 65535

-- of a diagram shelf
abbrev pub most_nodes : ℕ
most_nodes = 65535

-- a chart's times
abbrev pub greatest_time : ℕ
greatest_time = 1000000000000000000

abbrev pub peg_count : ℕ
peg_count = 8
