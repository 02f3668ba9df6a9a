-- The refusals of a shelf by their numbers. Assumes nothing.
use Rattle.std.specs.Prelude.{ℕ, Ok, Err, Result}
use Rattle.shelf.specs.declared.fault.ShelfFault.{ShelfFault}
use Rattle.shelf.specs.declared.fault.ShelfFault.TheVariants.{CountsOff, DeviceHigh, SettingHigh, PegHigh, PegBare, TimeHigh, NoRoom}

abbrev pub number : ShelfFault → ℕ
number CountsOff = 1
number DeviceHigh = 7
number SettingHigh = 8
number PegHigh = 14
number PegBare = 15
number TimeHigh = 16
number NoRoom = 18

-- what a call answers, with the number for the refusal
abbrev pub numbered : {X : Type 0} → Result X ShelfFault → Result X ℕ
numbered (Ok x) = Ok x
numbered (Err f) = Err (number f)
