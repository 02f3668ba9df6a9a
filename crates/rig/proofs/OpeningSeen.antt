-- The contents of an opening. Assumes nothing.
use Rattle.std.proofs.Common.{◌≡◌, ℕ, zero, suc, List, ◌∷◌, map, replicate, None, Ok, vec_items, Option, Vec, sym, refl, ap, ◌∙◌, subst}
use Rattle.std.specs.declared.alloc.Global.{Global}
use Rattle.model.specs.Scenes.{Shape, Scene}
use Rattle.model.specs.Moves as model
use Rattle.model.specs.Contents.{Contents, Name}
use Rattle.model.specs.Calls.{Lawful, opens, opened}
use Rattle.theory.proofs.Opening.{openings_lawful}
use Rattle.rig.specs.declared.devices.Devices.{Devices}
use Rattle.moves.specs.declared.entry.Move.{Move}
use Rattle.rig.specs.Openings.{AsGiven, Stood}
use Rattle.moves.specs.Views.{slot_of}
use Rattle.rig.specs.Holding.{holding}

-- vacant slots are seen as such
vacant_seen : (n : ℕ) → map slot_of (replicate n None) ≡ replicate n None
vacant_seen zero = refl
vacant_seen (suc n) = ap (λ (l : List (Option model.Move)). None ∷ l) (vacant_seen n)

-- the contents of a rig of these devices with every slot vacant
module _ (ns : Shape) (names : List Name) (s : Scene) (d : Devices) (given : AsGiven ns names s d) (n : ℕ) (slots : Vec (Option Move) Global) (none : vec_items slots ≡ replicate n None) where
  opened_seen : holding d slots ≡ opened ns names s n
  opened_seen =
      let seen : map slot_of (vec_items slots) ≡ replicate n None = ap (map slot_of) none ∙ vacant_seen n in
      rw (given.settings, given.names_given, given.scene, given.masks, seen)

  opened_lawful : opens ns names s n ≡ Ok tt → Lawful (holding d slots)
  opened_lawful e = subst Lawful (sym opened_seen) (openings_lawful ns names s n e)

-- an opening was accepted, and c is what it leaves
pub record Begun (ns : Shape) (names : List Name) (s : Scene) (n : ℕ) (c : Contents) : Type 0 where
  pub accepted : opens ns names s n ≡ Ok (tt {0})
  pub seen : c ≡ opened ns names s n
  pub lawful : Lawful c

pub begun : (ns : Shape) (names : List Name) (s : Scene) (d : Devices) (k n : ℕ) → Stood ns names s k (Ok d) → k ≡ n → (slots : Vec (Option Move) Global) → vec_items slots ≡ replicate n None → Begun ns names s n (holding d slots)
begun ns names s d k n stood e slots none =
    let accepted = subst (λ (j : ℕ). opens ns names s j ≡ Ok tt) e stood.0 in
    record { accepted = accepted; seen = opened_seen ns names s d stood.1 n slots none; lawful = opened_lawful ns names s d stood.1 n slots none accepted }
