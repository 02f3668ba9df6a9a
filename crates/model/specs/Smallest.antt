-- Where several refusals hold, the smallest number is answered: for every call. Assumes nothing.
use Rattle.std.specs.Prelude.{ℕ, ◌||◌, List, [], ◌∷◌, ◌++◌, length, nat_le}
use Rattle.model.specs.Refusals.{refuse, Smallest}
use Rattle.model.specs.Scenes.{Shape, Scene}
use Rattle.model.specs.Moves.{Surcharge, Move}
use Rattle.model.specs.Contents.{Contents, Name}
use Rattle.model.specs.Calls.{open_checks, opens, no_slot, in_use, vacant, unmet, move_checks, timing_checks, adds, retimes, withdraws, performs, want_checks, wants, looks}
use Rattle.model.specs.Shelves.{Meaning, Call, call_checks, scene_checks, high, bare, does, wipes, compares, reads}

-- the calls on a rig
pub record RigSmallest : Type 0 where
  pub opening : (ns : Shape) (names : List Name) (s : Scene) (slots : ℕ) → Smallest (open_checks ns names s slots) (opens ns names s slots)
  pub add : (c : Contents) (n : ℕ) (m : Move) → Smallest (no_slot c n ∷ in_use c n ∷ move_checks c.settings m) (adds c n m)
  pub retime : (c : Contents) (n base : ℕ) (xs : List Surcharge) → Smallest (no_slot c n ∷ vacant c n ∷ timing_checks c.settings base xs) (retimes c n base xs)
  pub withdraw : (c : Contents) (n : ℕ) → Smallest (no_slot c n ∷ vacant c n ∷ []) (withdraws c n)
  pub perform : (c : Contents) (n : ℕ) → Smallest (no_slot c n ∷ vacant c n ∷ unmet c n ∷ []) (performs c n)
  pub want : (c : Contents) (ms : List ℕ) → Smallest (want_checks c.settings ms) (wants c ms)
  pub look : (c : Contents) (v : ℕ) → Smallest (refuse 7 (nat_le (length c.settings) v) ∷ []) (looks c v)

-- the calls of a shelf
pub record ShelfSmallest : Type 0 where
  pub hang : (m : Meaning) (c : Call) → Smallest (call_checks m c) (does m c)
  pub wipe : (m : Meaning) (p : ℕ) → Smallest (refuse 14 (high p) ∷ []) (wipes m p)
  pub same : (m : Meaning) (a b : ℕ) → Smallest (refuse 14 (high a || high b) ∷ refuse 15 (bare m.pegs a || bare m.pegs b) ∷ []) (compares m a b)
  pub at : (m : Meaning) (p : ℕ) (s : Scene) → Smallest (scene_checks m.shape s ++ (refuse 14 (high p) ∷ refuse 15 (bare m.pegs p) ∷ [])) (reads m p s)
