-- An accepted perform is a transition, device by device. Assumes nothing.
use Rattle.std.proofs.Common.{◌≡◌, ℕ, ◌<◌, List, [], ◌∷◌, length, get_or, set, Ok, Err, Result, sym, refl, ap, ◌∙◌, subst, inl, inr}
use Rattle.std.proofs.lemmas.List.{length-set, get_or-set_same, get_or-set_other}
use Rattle.model.specs.Lists.{In}
use Rattle.model.specs.Scenes.{Scene}
use Rattle.model.specs.Moves.{Pair, Successor, Transition, holds, applied}
use Rattle.model.specs.Contents.{Contents}
use Rattle.model.specs.Calls.{Lawful, Moved, performs, performed}
use Rattle.model.proofs.Tests.{every_in}
use Rattle.theory.specs.Wellformed.{Absent, Distinct}
use Rattle.theory.proofs.Performing.{accepted, move_lawful}

pub applied_length : (es : List Pair) (s : Scene) → length (applied es s) ≡ length s
applied_length [] s = refl
applied_length (p ∷ es) s = applied_length es (set s p.device p.setting) ∙ length-set s p.device p.setting

-- a device that no effect sets keeps its setting
pub applied_kept : (es : List Pair) (s : Scene) (v : ℕ) → ((p : Pair) → In p es → p.device ≡ v → ⊥) → get_or (applied es s) v 0 ≡ get_or s v 0
applied_kept [] s v h = refl
applied_kept (p ∷ es) s v h =
    applied_kept es (set s p.device p.setting) v (λ q i. h q (inr i))
    ∙ get_or-set_other s p.device v p.setting 0 (λ e. h p (inl refl) (sym e))

absent_in : (v : ℕ) (es : List Pair) → Absent v es → (p : Pair) → In p es → p.device ≡ v → ⊥
absent_in v [] a p i e = elim i [ ]
absent_in v (q ∷ es) a p (inl h) e = a.0 (sym e ∙ ap (λ (x : Pair). x.device) h)
absent_in v (q ∷ es) a p (inr i) e = absent_in v es a.1 p i e

-- a device that an effect sets has its setting, since no other effect sets it
pub applied_given : (es : List Pair) (s : Scene) → Distinct es → (p : Pair) → In p es → p.device < length s → get_or (applied es s) p.device 0 ≡ p.setting
applied_given [] s d p i lt = elim i [ ]
applied_given (q ∷ es) s d p (inl h) lt =
    subst (λ (x : Pair). get_or (applied (q ∷ es) s) x.device 0 ≡ x.setting) (sym h)
    (applied_kept es (set s q.device q.setting) q.device (absent_in q.device es d.0)
    ∙ get_or-set_same s q.device q.setting 0 (subst (λ (x : Pair). x.device < length s) h lt))
applied_given (q ∷ es) s d p (inr i) lt =
    applied_given es (set s q.device q.setting) d.1 p i (subst (λ (n : ℕ). p.device < n) (sym (length-set s q.device q.setting)) lt)

pub applied_successor : (es : List Pair) (s : Scene) → Distinct es → Successor es s (applied es s)
applied_successor es s d = record { devices = applied_length es s; given = applied_given es s d; kept = applied_kept es s }

moved_by : (c : Contents) (n : ℕ) → Lawful c → (r : Result ℕ ℕ) → performs c n ≡ r → Moved c n r (performed c n)
moved_by c n law (Ok t) e =
    let k = accepted c n t e in
    let m = k.move in (
      m,
      k.there,
      subst (λ (d : Contents). Transition m c.scene t d.scene) (sym k.leaves) (record {
        applicable = every_in (holds c.scene) m.conditions k.may;
        successor = applied_successor m.effects c.scene (move_lawful c n m law k.there).effected.distinct;
        paid = k.answered;
      }),
    )
moved_by c n law (Err f) e = tt

-- of an answer and contents that are those of perform
pub moved : (c : Contents) (n : ℕ) → Lawful c → (r : Result ℕ ℕ) (d : Contents) → r ≡ performs c n → d ≡ performed c n → Moved c n r d
moved c n law r d er ed = subst (Moved c n r) (sym ed) (moved_by c n law r (sym er))
