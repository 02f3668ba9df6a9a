-- Each call leaves lawful contents lawful. Assumes nothing.
use Rattle.std.specs.Prelude.{◌≡◌, ℕ, List, Ok}
use Rattle.model.specs.Scenes.{Shape, Scene}
use Rattle.model.specs.Moves.{Surcharge, Move}
use Rattle.model.specs.Contents.{Contents, Name}
use Rattle.model.specs.Calls.{Lawful, opens, opened, added, retimed, withdrawn, performed, wanting}

abbrev pub OpeningsLawful : Type 0
OpeningsLawful = (ns : Shape) (names : List Name) (s : Scene) (slots : ℕ) → opens ns names s slots ≡ Ok (tt {0}) → Lawful (opened ns names s slots)

pub record Kept (c : Contents) : Type 0 where
  pub add : (n : ℕ) (m : Move) → Lawful (added c n m)
  pub retime : (n base : ℕ) (xs : List Surcharge) → Lawful (retimed c n base xs)
  pub withdraw : (n : ℕ) → Lawful (withdrawn c n)
  pub perform : (n : ℕ) → Lawful (performed c n)
  pub want : (ms : List ℕ) → Lawful (wanting c ms)

abbrev pub CallsKeep : Type 0
CallsKeep = (c : Contents) → Lawful c → Kept c
