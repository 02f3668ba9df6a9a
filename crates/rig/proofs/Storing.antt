-- A table with one slot rewritten, through the slice that it lent. Assumes nothing.
use Rattle.std.proofs.Common.{◌≡◌, ℕ, ◌<◌, List, map, length, get_or, set, Some, None, Ok, vec_items, vec_len, Option, Result, Vec, sym, ap, ◌∙◌}
use Rattle.std.proofs.Math.ListN.{get_or-map}
use Rattle.std.specs.Vec.{with_items}
use Rattle.std.specs.declared.alloc.Global.{Global}
use Rattle.std.proofs.lemmas.List.{with_items_is, get_or_read, map-set}
use Rattle.model.specs.Moves as model
use Rattle.model.specs.Refusals.{left_by}
use Rattle.model.specs.Contents.{slot, with_slot, with_slots}
use Rattle.model.specs.Calls.{retiming}
use Rattle.model.proofs.Refusing.{left_ok}
use Rattle.rig.specs.declared.devices.Devices.{Devices}
use Rattle.moves.specs.declared.entry.Move.{Move}
use Rattle.moves.specs.Views.{move_of, slot_of}
use Rattle.rig.specs.Holding.{holding}
use Rattle.rig.specs.Slots.{retimed_in}

-- an accepted call that wrote o in a slot of the slice that it lent leaves what its definition says
module _ (d : Devices) (v : Vec (Option Move) Global) (lent ws : List (Option Move)) (value : lent ≡ vec_items v) (len : length ws ≡ vec_len v) where
  pub stored :
      (n : ℕ) (p o : Option model.Move) (r : Result (Unit {0}) ℕ) → map slot_of ws ≡ set (map slot_of lent) n p → p ≡ o → r ≡ Ok tt
      → holding d (with_items v ws) ≡ left_by r (with_slot (holding d v) n o) (holding d v)
  stored n p o r put same passed =
      ap (with_slots (holding d v)) (ap (map slot_of) (with_items_is v ws len) ∙ put ∙ ap (λ (l : List (Option Move)). set (map slot_of l) n p) value)
      ∙ ap (with_slot (holding d v) n) same
      ∙ sym (left_ok r tt (with_slot (holding d v) n o) (holding d v) passed)

  -- and so where it is the move of that slot retimed
  pub stored_retimed :
      (n base : ℕ) (xs ys : List model.Surcharge) (r : Result (Unit {0}) ℕ) → map slot_of ws ≡ set (map slot_of lent) n (retimed_in base xs (get_or (map slot_of lent) n None)) → xs ≡ ys → r ≡ Ok tt
      → holding d (with_items v ws) ≡ left_by r (with_slot (holding d v) n (retimed_in base ys (slot (holding d v) n))) (holding d v)
  stored_retimed n base xs ys r put e =
      stored n _ _ r put (ap (λ (l : List (Option Move)). retimed_in base xs (get_or (map slot_of l) n None)) value ∙ ap (λ (zs : List model.Surcharge). retimed_in base zs (slot (holding d v) n)) e)

-- the move m that was read in the slot, retimed
pub retimed : (xs : List (Option Move)) (n : ℕ) → n < length xs → (read : Option Move) → read ≡ get_or xs n read → (m : Move) → read ≡ Some m → (new : Move) (base : ℕ) (ys : List model.Surcharge) → move_of new ≡ retiming base ys (move_of m)
    → map slot_of (set xs n (Some new)) ≡ set (map slot_of xs) n (retimed_in base ys (get_or (map slot_of xs) n None))
retimed xs n lt read is m some new base ys e =
    let there : get_or xs n None ≡ Some m = sym (get_or_read xs n read lt is None) ∙ some in
    let seen : get_or (map slot_of xs) n None ≡ Some (move_of m) = get_or-map slot_of xs n None ∙ ap slot_of there in
    map-set slot_of xs n (Some new) ∙ ap (set (map slot_of xs) n) (ap Some e ∙ sym (ap (retimed_in base ys) seen))
