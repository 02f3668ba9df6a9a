-- From a file to what comes of it. Assumes nothing.
use Rattle.std.proofs.Common.{◌≡◌, ℕ, ◌≤◌, ◌⊎◌, List, length, replicate, IfSome, Some, None, Ok, Err, Option, Result, ◌∙◌, subst, inl, inr, ⊎_elim}
use Rattle.model.specs.Contents.{Contents}
use Rattle.model.specs.Shelves.{Meaning}
use Rattle.diagram.specs.Openings.{diagram_opened}
use Rattle.planner.specs.declared.answer.Plan as answer
use Rattle.planner.specs.declared.answer.Plan.TheVariants as plan
use Rattle.steps.specs.declared.fault.PlanFault.{PlanFault}
use Rattle.rigfile.specs.Reading.{Answers}
use Rattle.report.specs.declared.told.Told.{Told}
use Rattle.planfile.specs.declared.failure.Failure.{Failure}
use Rattle.planfile.specs.declared.failure.Failure.TheVariants.{Input, InputLong, Unread, Unopened, NoMemory, Unplanned}
use Rattle.planfile.specs.Inputs.{most_input}
use Rattle.planfile.specs.Telling.{ToldOf, Tells}
use Rattle.planfile.specs.Coming.{move_slots, node_slots, sheet_length, Comes}
use Rattle.planfile.specs.Steps.{PlannedAnew}

-- of a plan no failure is told but that memory ran out, or that it was sent back
abbrev WhyTold : Failure → Type 0
WhyTold e = (e ≡ NoMemory) ⊎ ((fault : PlanFault) × (e ≡ Unplanned fault))

why : (c : Contents) (sheet : List ℕ) (a : Result answer.Plan PlanFault) (e : Failure) → ToldOf c sheet a (Err e) → WhyTold e
why c sheet (Ok (plan.Way k t r)) e h = inl h
why c sheet (Ok (plan.NoWay r)) e h = cc
why c sheet (Err fault) e h = inr (fault, cc)

module _ (c : Contents) (m : Meaning) (old : List ℕ) (is : m ≡ diagram_opened c.settings node_slots) (blank : old ≡ replicate sheet_length 0) where
  there : (told : Result Told Failure) → Tells c m old told → Tells c (diagram_opened c.settings node_slots) (replicate sheet_length 0) told
  there told h = subst (λ n. Tells c n (replicate sheet_length 0) told) is (subst (λ xs. Tells c m xs told) blank h)

  why_of : (e : Failure) → Tells c m old (Err e) → WhyTold e
  why_of e h = why c h.sheet h.answer e h.of_it

  no_other : (e : Failure) → (e ≡ NoMemory → ⊥) → ((fault : PlanFault) → e ≡ Unplanned fault → ⊥) → Tells c m old (Err e) → ⊥
  no_other e room back h = ⊎_elim room (λ of. back of.0 of.1) (why_of e h)

  pub planned_anew : (told : Result Told Failure) → Tells c m old told → PlannedAnew c told
  planned_anew (Ok told) h = there (Ok told) h
  planned_anew (Err (Unplanned fault)) h = there (Err (Unplanned fault)) h
  planned_anew (Err NoMemory) h = tt
  planned_anew (Err InputLong) h = no_other InputLong (λ e. cc) (λ fault e. cc) h
  planned_anew (Err (Input error)) h = no_other (Input error) (λ e. cc) (λ fault e. cc) h
  planned_anew (Err (Unread fault)) h = no_other (Unread fault) (λ e. cc) (λ other e. cc) h
  planned_anew (Err (Unopened fault)) h = absurd (no_other (Unopened fault) (λ e. cc) (λ other e. cc) h)

module _ (bytes : List ℕ) (few : length bytes ≤ most_input) (c : Contents) (read : Answers bytes move_slots (Ok c)) where
  come : (told : Result Told Failure) → PlannedAnew c told → Comes bytes told
  come (Ok told) h = record { few = few; rig = c; read = read; tells = h }
  come (Err (Unplanned fault)) h = record { few = few; rig = c; read = read; tells = h }
  come (Err NoMemory) h = tt
  come (Err InputLong) h = absurd h
  come (Err (Input error)) h = absurd h
  come (Err (Unread fault)) h = absurd h
  come (Err (Unopened fault)) h = h

pub comes : (known : Option (List ℕ)) (items slice : List ℕ) (c : Contents) (told : Result Told Failure) →
    IfSome known (λ xs. (items ≡ xs) × (length xs ≤ most_input)) → slice ≡ items → Answers slice move_slots (Ok c) → PlannedAnew c told →
    IfSome known (λ xs. Comes xs told)
comes None items slice c told fed is read h = tt
comes (Some xs) items slice c told fed is read h = come xs fed.1 c (subst (λ ys. Answers ys move_slots (Ok c)) (is ∙ fed.0) read) told h
