-- Each call leaves lawful contents lawful. Assumes nothing.
use Rattle.std.proofs.Common.{◌≡◌, ℕ, ◌<◌, Bool, true, false, ◌||◌, ltb, List, [], ◌∷◌, length, get_or, set, Some, None, Ok, Option, Result, sym, refl, ap, ◌∙◌, subst, ⊎_elim}
use Rattle.std.specs.List.{AllByRecursion}
use Rattle.std.proofs.lemmas.List.{length-set, get_or-set_same, get_or-set_other, get_or_past}
use Rattle.std.proofs.lemmas.Bool.{or_parts, or_from, cases_eq, cases_lt, cond-false}
use Rattle.model.specs.Limits.{outside, most_conditions, most_effects}
use Rattle.model.specs.Lists.{some, repeats}
use Rattle.model.specs.Refusals.{Check, answer, passes, left_by}
use Rattle.model.specs.Scenes.{Shape}
use Rattle.model.specs.Moves.{Pair, Surcharge, Move}
use Rattle.model.specs.Masks.{product_of_ones}
use Rattle.model.specs.Contents.{Contents, slot, with_slot, with_masks}
use Rattle.model.specs.Calls.{Lawful, lawful_slot, open_checks, move_checks, timing_checks, want_checks, pairs_of, tested, device_high, setting_high, same_device, surcharges_off, no_slot, in_use, vacant, in_slot, retiming, adds, retimes, withdraws, performs, wants}
use Rattle.model.proofs.Refusing.{accepted, left_either, left_ok}
use Rattle.theory.specs.Keeping.{CallsKeep}
use Rattle.theory.proofs.Told.{no_refusal}
use Rattle.theory.proofs.Performing.{performed_keeps}

-- checks of which none holds pass
pub all_pass : (cs : List Check) → AllByRecursion (λ k. k.holds ≡ false) cs → passes cs ≡ true
all_pass [] h = refl
all_pass (k ∷ cs) h = cond-false k.holds false (passes cs) h.0 ∙ all_pass cs h.1

pub accepted_passes : {T : Type 0} (cs : List Check) (x y : T) → answer cs x ≡ Ok y → passes cs ≡ true
accepted_passes cs x y e = all_pass cs (accepted cs x y e)

-- a list of lists without the flaw, with other lists at its end
module _ (t : List Pair → Bool) (m : Move) (xs : List Surcharge) where
  other_tests : some t (pairs_of m) ≡ false → some t (tested xs) ≡ false → some t (m.conditions ∷ m.effects ∷ tested xs) ≡ false
  other_tests h k =
      let one = or_parts (t m.conditions) (some t (m.effects ∷ tested m.surcharges)) h in
      let two = or_parts (t m.effects) (some t (tested m.surcharges)) one.1 in
      or_from (t m.conditions) (some t (m.effects ∷ tested xs)) one.0 (or_from (t m.effects) (some t (tested xs)) two.0 k)

-- a lawful move with other lawful times
pub retiming_lawful : (ns : Shape) (base : ℕ) (xs : List Surcharge) (m : Move) → passes (move_checks ns m) ≡ true → passes (timing_checks ns base xs) ≡ true → passes (move_checks ns (retiming base xs m)) ≡ true
retiming_lawful ns base xs m h k =
    let old = no_refusal (move_checks ns m) h in
    let new = no_refusal (timing_checks ns base xs) k in
    let long = or_parts (ltb most_conditions (length m.conditions)) (outside 1 most_effects (length m.effects) || surcharges_off m.surcharges) old.1.1.1.0 in
    let longer = or_parts (outside 1 most_effects (length m.effects)) (surcharges_off m.surcharges) long.1 in
    all_pass (move_checks ns (retiming base xs m)) (
      other_tests (some (device_high ns)) m xs old.0 new.0,
      (
        other_tests (some (setting_high ns)) m xs old.1.0 new.1.0,
        (
          other_tests (repeats same_device) m xs old.1.1.0 new.1.1.0,
          (
            or_from (ltb most_conditions (length m.conditions)) (outside 1 most_effects (length m.effects) || surcharges_off xs) long.0
                (or_from (outside 1 most_effects (length m.effects)) (surcharges_off xs) longer.0 new.1.1.1.0),
            (new.1.1.1.1.0, tt),
          ),
        ),
      ),
    )

-- one slot of lawful contents rewritten
pub lawful_with_slot : (c : Contents) (n : ℕ) (o : Option Move) → Lawful c → lawful_slot c.settings o ≡ true → Lawful (with_slot c n o)
lawful_with_slot c n o h e =
    record {
      opens = subst (λ (k : ℕ). passes (open_checks c.settings c.names c.scene k) ≡ true) (sym (length-set c.slots n o)) h.opens;
      wants = h.wants;
      moves = λ k lt.
          let lt' : k < length c.slots = subst (λ (l : ℕ). k < l) (length-set c.slots n o) lt in
          ⊎_elim
          (λ same. subst (λ (j : ℕ). lawful_slot c.settings (get_or (set c.slots j o) k None) ≡ true) same (ap (lawful_slot c.settings) (get_or-set_same c.slots k o None lt') ∙ e))
          (λ other. ap (lawful_slot c.settings) (get_or-set_other c.slots n k o None other) ∙ h.moves k lt')
          (cases_eq k n);
    }

-- what a call leaves is lawful where an accepted one leaves lawful contents
by_answer : {T : Type 0} (r : Result T ℕ) (new old : Contents) → Lawful old → ((x : T) → r ≡ Ok x → Lawful new) → Lawful (left_by r new old)
by_answer r new old h k = left_either r new old Lawful k h

pub retimed_slot : (ns : Shape) (base : ℕ) (xs : List Surcharge) (o : Option Move) → lawful_slot ns o ≡ true → passes (timing_checks ns base xs) ≡ true → lawful_slot ns (in_slot (λ m. Some (retiming base xs m)) None o) ≡ true
retimed_slot ns base xs None h k = refl
retimed_slot ns base xs (Some m) h k = retiming_lawful ns base xs m h k

slot_lawful : (c : Contents) → Lawful c → (n : ℕ) → lawful_slot c.settings (slot c n) ≡ true
slot_lawful c h n = at c.slots h.moves
  where
    at : (ms : List (Option Move)) → ((k : ℕ) → k < length ms → lawful_slot c.settings (get_or ms k None) ≡ true) → lawful_slot c.settings (get_or ms n None) ≡ true
    at ms f = ⊎_elim (f n) (λ past. ap (lawful_slot c.settings) (get_or_past ms n None past)) (cases_lt n (length ms))

-- the last checks of a list pass where all do
after_two : {T : Type 0} (a b : Check) (cs : List Check) (x y : T) → answer (a ∷ b ∷ cs) x ≡ Ok y → passes cs ≡ true
after_two a b cs x y e = all_pass cs (accepted (a ∷ b ∷ cs) x y e).1.1

pub calls_keep : CallsKeep
calls_keep c h =
    record {
      add = λ n m. by_answer (adds c n m) (with_slot c n (Some m)) c h (λ x e. lawful_with_slot c n (Some m) h (after_two (no_slot c n) (in_use c n) (move_checks c.settings m) tt x e));
      retime = λ n base xs. by_answer (retimes c n base xs) _ c h (λ x e.
          lawful_with_slot c n _ h (retimed_slot c.settings base xs (slot c n) (slot_lawful c h n) (after_two (no_slot c n) (vacant c n) (timing_checks c.settings base xs) tt x e)));
      withdraw = λ n. by_answer (withdraws c n) (with_slot c n None) c h (λ x e. lawful_with_slot c n None h refl);
      perform = λ n. by_answer (performs c n) _ c h (λ x e. subst Lawful (left_ok (performs c n) x _ c e) ((performed_keeps c n x e).lawful h));
      want = λ ms. by_answer (wants c ms) (with_masks c ms) c h (λ x e. record { opens = h.opens; wants = accepted_passes (want_checks c.settings ms) (product_of_ones ms) x e; moves = h.moves });
    }
