-- A move added to a rig, as its definition says. Assumes nothing.
use Rattle.std.proofs.Common.{◌≡◌, ℕ, List, ◌++◌, length, Some, Ok, Err, Result, sym, refl, ap, ◌∙◌, subst}
use Rattle.std.proofs.lemmas.List.{length-set}
use Rattle.model.specs.Moves.{Move}
use Rattle.model.specs.Refusals.{left_by}
use Rattle.model.specs.Contents.{Contents, with_slot}
use Rattle.model.specs.Calls.{adds, added}
use Rattle.format.specs.Files.{Entry, entry}
use Rattle.format.specs.Reading.{unless_refused}
use Rattle.format.proofs.Parts.{entry_prefix}
use Rattle.rigfile.specs.declared.unread.ReadFault.{ReadFault}
use Rattle.rigfile.specs.Reading.{untaken}
use Rattle.rigfile.specs.Adding.{AddsNext}

-- a table stays as long
pub as_many_slots : (c : Contents) (n : ℕ) (m : Move) → length (added c n m).slots ≡ length c.slots
as_many_slots c n m = go (adds c n m)
  where
    go : (r : Result (Unit {0}) ℕ) → length (left_by r (with_slot c n (Some m)) c).slots ≡ length c.slots
    go (Ok _) = length-set c.slots n (Some m)
    go (Err _) = refl

module _ (byte : ℕ) (before : List ℕ) (c d : Contents) (after : List ℕ) (x : Entry) (front : before ≡ entry x ++ after) where
  -- the move that was taken was added
  pub next_ok : Ok tt ≡ adds c x.number x.move → d ≡ added c x.number x.move → AddsNext byte before c (Ok tt) after d
  next_ok ok left e behind q =
      let p = entry_prefix x e after behind (sym front ∙ q) in
      let done = go (adds c x.number x.move) ok left in
      (subst (λ (z : Entry). Ok d ≡ unless_refused (adds c z.number z.move) byte (Ok (with_slot c z.number (Some z.move)))) p.0 done, p.1)
    where
      go : (r : Result (Unit {0}) ℕ) → Ok tt ≡ r → d ≡ left_by r (with_slot c x.number (Some x.move)) c → Ok d ≡ unless_refused r byte (Ok (with_slot c x.number (Some x.move)))
      go (Ok _) h l = ap Ok l
      go (Err _) h l = cc

  -- or the rig refused it
  pub next_err : (f : ReadFault) (k : ℕ) → untaken f ≡ record { number = k; byte = byte } → Err k ≡ adds c x.number x.move → AddsNext byte before c (Err f) after d
  next_err f k u err e behind q =
      let p = entry_prefix x e after behind (sym front ∙ q) in
      let done : Err (untaken f) ≡ unless_refused (adds c x.number x.move) byte (Ok (with_slot c x.number (Some x.move))) =
      ap Err u ∙ ap (λ (r : Result (Unit {0}) ℕ). unless_refused r byte (Ok (with_slot c x.number (Some x.move)))) err in
      (subst (λ (z : Entry). Err (untaken f) ≡ unless_refused (adds c z.number z.move) byte (Ok (with_slot c z.number (Some z.move)))) p.0 done, tt)
