-- What a call of a diagram shelf answers and leaves once its chart was tried. Assumes nothing.
use Rattle.std.proofs.Common.{◌≡◌, ℕ, Bool, true, false, ◌&&◌, ◌||◌, List, [], ◌∷◌, ◌++◌, length, take, slice_index, nat_le, nat_lt, Ok, Err, Result, sym, refl, ap, ◌∙◌}
use Rattle.std.specs.List.{AllByRecursion}
use Rattle.std.proofs.lemmas.Bool.{both_ways, or_parts, leb-false, lt-ltb}
use Rattle.std.proofs.lemmas.List.Elements.{All-from_recursion, recursion_from_All, All-push}
use Rattle.model.specs.Charts.{late, plus, greatest}
use Rattle.model.specs.Lists.{some}
use Rattle.model.specs.Refusals.{Check, refuse, answer}
use Rattle.model.specs.Shelves.{Meaning, Call, dial, cheaper, sum, put, Sound, on, bare, high, hung, target, no_room, overfills, call_checks, does, flat_fill}
use Rattle.model.proofs.Refusing.{accepts, refuses}
use Rattle.model.proofs.Soundness.{call_accepted, call_refused, hung_legal}
use Rattle.nodes.specs.declared.remembered.Op.TheVariants.{Cheaper, Sum}
use Rattle.hang.specs.Tasks.{call_of, made, Allowed}
use Rattle.hang.specs.declared.task.Task.{Task}
use Rattle.hang.specs.declared.task.Task.TheVariants.{Dial, Join, Put}
use Rattle.shelf.specs.Faults.{number, numbered}
use Rattle.shelf.specs.declared.fault.ShelfFault.{ShelfFault}
use Rattle.shelf.proofs.Calling.{Answered}
use Rattle.diagram.specs.Means.{Hung}

-- the checks of a call that come before that of room
abbrev pub before : Meaning → Call → List Check
before m (dial t v es) = refuse 7 (nat_le (length m.shape) v) ∷ refuse 14 (high t) ∷ refuse 16 (some late (take (slice_index m.shape v) es)) ∷ []
before m (cheaper t a b) = refuse 14 (high t || (high a || high b)) ∷ refuse 15 (bare m.pegs a || bare m.pegs b) ∷ []
before m (sum t a b) = refuse 14 (high t || (high a || high b)) ∷ refuse 15 (bare m.pegs a || bare m.pegs b) ∷ refuse 16 (late (plus (greatest (on m.pegs a)) (greatest (on m.pegs b)))) ∷ []
before m (put t a v d) = refuse 7 (nat_le (length m.shape) v) ∷ refuse 8 (nat_lt v (length m.shape) && nat_le (slice_index m.shape v) d) ∷ refuse 14 (high t || high a) ∷ refuse 15 (bare m.pegs a) ∷ []

checks_are : (m : Meaning) (call : Call) → call_checks m call ≡ before m call ++ (no_room m call ∷ [])
checks_are m (dial t v es) = refl
checks_are m (cheaper t a b) = refl
checks_are m (sum t a b) = refl
checks_are m (put t a v d) = refl

abbrev pub Passes : Meaning → Call → Type 0
Passes m call = AllByRecursion (λ k. k.holds ≡ false) (before m call)

-- the same charts where there is always room
abbrev roomy : Meaning → Meaning
roomy m = record { shape = m.shape; capacity = 0; fill = flat_fill; pegs = m.pegs }

passes_roomy : (m : Meaning) (call : Call) → Passes m call → AllByRecursion (λ k. k.holds ≡ false) (call_checks (roomy m) call)
passes_roomy m (dial t v es) h = (h.0, (h.1.0, (h.1.1.0, (refl, tt))))
passes_roomy m (cheaper t a b) h = (h.0, (h.1.0, (refl, tt)))
passes_roomy m (sum t a b) h = (h.0, (h.1.0, (h.1.1.0, (refl, tt))))
passes_roomy m (put t a v d) h = (h.0, (h.1.0, (h.1.1.0, (h.1.1.1.0, (refl, tt)))))

second : (x y : Bool) → x ≡ true → (x && y) ≡ false → y ≡ false
second true y e h = h
second false y e h = absurd (both_ways false refl e)

module _ (m : Meaning) (s : Sound m) where
  legal : (call : Call) → Passes m call → some late (hung m.shape m.pegs call) ≡ false
  legal call h = hung_legal (roomy m) (record { legal = s.legal; eight = s.eight; whole = s.whole; timely = s.timely }) call (passes_roomy m call h)

  pub allowed : (t : ℕ) (task : Task) → Passes m (call_of t task) → Allowed m.shape m.pegs task
  allowed t (Dial v es) h = (leb-false (length m.shape) v h.0, h.1.1.0)
  allowed t (Join Cheaper a b) h =
      let both = or_parts (bare m.pegs a) (bare m.pegs b) h.1.0 in
      (both.0, both.1, legal (cheaper t a b) h)
  allowed t (Join Sum a b) h =
      let both = or_parts (bare m.pegs a) (bare m.pegs b) h.1.0 in
      (both.0, both.1, legal (sum t a b) h)
  allowed t (Put a v d) h =
      let low = leb-false (length m.shape) v h.0 in
      (h.1.1.1.0, low, leb-false (slice_index m.shape v) d (second (nat_lt v (length m.shape)) (nat_le (slice_index m.shape v) d) (lt-ltb v (length m.shape) low) h.1.0))

-- every check but that of room has passed
module _ (m n : Meaning) (call : Call) (passed : Passes m call) where
  all_passed : overfills m call ≡ false → AllByRecursion (λ k. k.holds ≡ false) (before m call ++ (no_room m call ∷ []))
  all_passed h = recursion_from_All (λ k. k.holds ≡ false) (before m call ++ (no_room m call ∷ [])) (All-push (λ k. k.holds ≡ false) (before m call) (no_room m call) (All-from_recursion (λ k. k.holds ≡ false) (before m call) passed) h)

  answered : (r : Result (Unit {0}) ShelfFault) → Hung m n (target call) (hung m.shape m.pegs call) r → Answered m call (numbered r) n
  answered (Ok tt) h =
      let e : does m call ≡ Ok tt = ap (λ cs. answer cs tt) (checks_are m call) ∙ accepts (before m call ++ (no_room m call ∷ [])) tt (all_passed h.0) in
      record { answer = sym e; left = h.1 ∙ sym (call_accepted m call e) }
  answered (Err f) h =
      let e : does m call ≡ Err 18 = ap (λ cs. answer cs tt) (checks_are m call) ∙ refuses (before m call) 18 (overfills m call) [] tt passed h.1 in
      record { answer = ap (λ g. Err (number g)) h.0 ∙ sym e; left = h.2 ∙ sym (call_refused m call 18 e) }

pub answers : (m n : Meaning) (t : ℕ) (task : Task) → Passes m (call_of t task) → (r : Result (Unit {0}) ShelfFault) → Hung m n t (made m.shape m.pegs task) r → Answered m (call_of t task) (numbered r) n
answers m n t (Dial v es) h r w = answered m n (dial t v es) h r w
answers m n t (Join Cheaper a b) h r w = answered m n (cheaper t a b) h r w
answers m n t (Join Sum a b) h r w = answered m n (sum t a b) h r w
answers m n t (Put a v d) h r w = answered m n (put t a v d) h r w
