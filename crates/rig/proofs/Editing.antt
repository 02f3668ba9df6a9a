-- A move or its times put into a slot of a rig: what the call answers and leaves. Assumes nothing.
use Rattle.std.proofs.Common.{◌≡◌, ℕ, List, map, length, get_or, set, Some, None, Ok, vec_items, vec_len, Option, Result, sym, subst}
use Rattle.std.specs.Vec.{with_items}
use Rattle.model.specs.Scenes.{Shape}
use Rattle.model.specs.Moves as model
use Rattle.model.specs.Refusals.{answer}
use Rattle.model.specs.Contents.{Contents}
use Rattle.model.specs.Calls.{Lawful, adds, added, retimes, retimed, move_checks, timing_checks}
use Rattle.theory.proofs.Keeping.{calls_keep}
use Rattle.rig.specs.declared.frame.Rig.{Rig}
use Rattle.moves.specs.declared.entry.Move.{Move}
use Rattle.moves.specs.Views.{slot_of}
use Rattle.rig.specs.Holding.{holding}
use Rattle.rig.specs.Rigs.{contents}
use Rattle.rig.specs.Slots.{use_checks, vacancy_checks, retimed_in}
use Rattle.rig.proofs.Answering.{then_judged}
use Rattle.rig.proofs.Storing.{stored, stored_retimed}

-- an edit was accepted, and c is what it leaves
pub record Edited (defined : Result (Unit {0}) ℕ) (done c : Contents) : Type 0 where
  pub answer : Ok tt ≡ defined
  pub left : c ≡ done
  pub lawful : Lawful c

edited : (defined : Result (Unit {0}) ℕ) (done c : Contents) → defined ≡ Ok tt → c ≡ done → Lawful done → Edited defined done c
edited defined done c accepted left law = record { answer = sym accepted; left = left; lawful = subst Lawful (sym left) law }

-- ws stand in the slice that the rig lent for its slots; the slots and the settings were read before, and passed
module _ (r : Rig) (n : ℕ) (lent ws : List (Option Move)) (value : lent ≡ vec_items r.slots) (len : length ws ≡ vec_len r.slots) {xs : List (Option model.Move)} {ns : Shape} (seen : xs ≡ (contents r).slots) (shape : ns ≡ (contents r).settings) where
  pub added_there :
      (d : model.Move) → answer (vacancy_checks xs n) (tt {0}) ≡ Ok (tt {0}) → answer (move_checks ns d) (tt {0}) ≡ Ok (tt {0})
      → (p : Option model.Move) → map slot_of ws ≡ set (map slot_of lent) n p → p ≡ Some d
      → Edited (adds (contents r) n d) (added (contents r) n d) (holding r.devices (with_items r.slots ws))
  added_there d vacant fits p put same =
      let s = contents r in
      let judged : adds s n d ≡ Ok tt = then_judged s (λ xs. vacancy_checks xs n) (λ ns. move_checks ns d) seen shape vacant fits in
      edited _ _ _ judged (stored r.devices r.slots lent ws value len n p (Some d) (adds s n d) put same judged) ((calls_keep s r.lawful).add n d)

  pub retimed_there :
      (base : ℕ) (ys : List model.Surcharge) → answer (use_checks xs n) (tt {0}) ≡ Ok (tt {0}) → answer (timing_checks ns base ys) (tt {0}) ≡ Ok (tt {0})
      → (zs : List model.Surcharge) → map slot_of ws ≡ set (map slot_of lent) n (retimed_in base zs (get_or (map slot_of lent) n None)) → zs ≡ ys
      → Edited (retimes (contents r) n base ys) (retimed (contents r) n base ys) (holding r.devices (with_items r.slots ws))
  retimed_there base ys used fits zs put same =
      let s = contents r in
      let judged : retimes s n base ys ≡ Ok tt = then_judged s (λ xs. use_checks xs n) (λ ns. timing_checks ns base ys) seen shape used fits in
      edited _ _ _ judged (stored_retimed r.devices r.slots lent ws value len n base zs ys (retimes s n base ys) put same judged) ((calls_keep s r.lawful).retime n base ys)
