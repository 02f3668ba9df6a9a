-- The numbers of a rig's refusals. Assumes nothing.
use Rattle.std.specs.Prelude.{◌≡◌, ℕ, List, Ok, Err, Result}
use Rattle.model.specs.Refusals.{Check, answer}
use Rattle.moves.specs.declared.fault.RigFault.{RigFault}
use Rattle.moves.specs.declared.fault.RigFault.TheVariants.{CountsOff, NameByteOff, SlotsOff, NumberHigh, SlotInUse, SlotVacant, DeviceHigh, SettingHigh, Repeated, LengthsOff, TimesOff, ConditionUnmet, MaskIll}

abbrev pub number : RigFault → ℕ
number CountsOff = 1
number NameByteOff = 2
number SlotsOff = 3
number NumberHigh = 4
number SlotInUse = 5
number SlotVacant = 6
number DeviceHigh = 7
number SettingHigh = 8
number Repeated = 9
number LengthsOff = 10
number TimesOff = 11
number ConditionUnmet = 12
number MaskIll = 13

-- an answer with the refusal's number in its place
abbrev pub numbered : {T : Type 0} → Result T RigFault → Result T ℕ
numbered (Ok x) = Ok x
numbered (Err f) = Err (number f)

-- no check refuses and P holds of the result, or the first that does is answered
abbrev pub Judged : {T : Type 0} → List Check → (T → Type 0) → Result T RigFault → Type 0
Judged cs P (Ok x) = (answer cs (tt {0}) ≡ Ok (tt {0})) × P x
Judged cs P (Err f) = answer cs (tt {0}) ≡ Err (number f)
