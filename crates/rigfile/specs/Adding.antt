-- The moves of a file, added to a rig. Assumes nothing.
use Rattle.std.specs.Prelude.{◌≡◌, ℕ, List, ◌++◌, length, Some, Ok, Err, Result, IfOk}
use Rattle.std.specs.List.{flat_map}
use Rattle.model.specs.Contents.{Contents, with_slot}
use Rattle.model.specs.Calls.{adds}
use Rattle.format.specs.Files.{Entry, entry}
use Rattle.format.specs.Reading.{Untaken, unless_refused, adding}
use Rattle.rigfile.specs.declared.unread.ReadFault.{ReadFault}
use Rattle.rigfile.specs.Reading.{untaken}

-- what is taken once contents c are left, or the number and the byte of the refusal
abbrev pub ended : Result (Unit {0}) ReadFault → Contents → Result Contents Untaken
ended (Ok _) c = Ok c
ended (Err f) c = Err (untaken f)

-- a move that stands at the front, which is at that byte of the file, was added to contents c and d is left; or the rig refuses it
abbrev pub AddsNext : ℕ → List ℕ → Contents → Result (Unit {0}) ReadFault → List ℕ → Contents → Type 0
AddsNext byte before c r after d =
    (e : Entry) (behind : List ℕ) → before ≡ entry e ++ behind → (ended r d ≡ unless_refused (adds c e.number e.move) byte (Ok (with_slot c e.number (Some e.move)))) × IfOk r (λ _. after ≡ behind)

-- so many moves that stand there, the first at that byte, were added one after another, or the first refusal ended it
abbrev pub AddsAll : ℕ → ℕ → List ℕ → Contents → Result (Unit {0}) ReadFault → Contents → Type 0
AddsAll count byte before c r d = (es : List Entry) → length es ≡ count → before ≡ flat_map entry es → ended r d ≡ adding c byte es
