-- Steps round a ring, and what a search has passed.
use Rattle.std.proofs.Common.{◌≡◌, ℕ, ◌<◌, ◌≤◌, true, ◌⊎◌, List, length, set, is_some, Some, None, Option, sym, refl, ap, ◌∙◌, subst, subst₂, inl, inr, arith}
use Rattle.std.specs.Option.{unwrap_or}
use Rattle.std.proofs.lemmas.Bool.Decides.{nat_tests}
use Rattle.std.proofs.lemmas.Bool.{both_ways, cases_lt, cases_order, cases_eq}
use Rattle.std.proofs.lemmas.List.{get_or-set_same, get_or-set_other, length-set}
use Rattle.table.specs.Tables.{steps, slot, Probed, Absent, Apart, Kept}
use Rattle.table.specs.Finds.{Others, FindsIn, Finds, Open}
use Rattle.table.specs.declared.found.Found.{Found}
use Rattle.table.specs.declared.found.Found.TheVariants.{At, Free, Full}

-- every slot nearer than t steps to e's initial holds an entry, and not one alike to e
abbrev pub Passed : {E : Type 0} → (E → E → Type 0) → (E → ℕ → ℕ) → List (Option E) → E → ℕ → Type 0
Passed {E} alike initial slots e t = (m : ℕ) → m < length slots → steps (length slots) (initial e (length slots)) m < t → (is_some (slot slots m) ≡ true) × ((x : E) → slot slots m ≡ Some x → alike x e → ⊥)

-- the ring
steps_from : (n h i m : ℕ) → h ≤ i → i < n → m < n → steps n h m < steps n h i → h ≤ m
steps_from n h i m p q r near = grind (arith, nat_tests)

steps_to : (n h i m : ℕ) → h ≤ i → i < n → m < n → steps n h m < steps n h i → m < i
steps_to n h i m p q r near = grind (arith, nat_tests)

steps_round : (n h i m : ℕ) → i < h → h < n → m < n → steps n h m < steps n h i → (h ≤ m) ⊎ (m < i)
steps_round n h i m p q r near = elim (cases_lt m i) [ inl l ↦ inr l | inr l ↦ inl (grind (arith, nat_tests)) ]

pub steps_same : (n h k m : ℕ) → h < n → k < n → m < n → steps n h k ≡ steps n h m → k ≡ m
steps_same n h k m p q r e = grind (arith, nat_tests)

empty_or_not : {E : Type 0} (o : Option E) (x : E) → o ≡ None → o ≡ Some x → ⊥
empty_or_not o x p q = both_ways (is_some o) (ap is_some p) (ap is_some q)

module _ {E : Type 0} (alike : E → E → Type 0) (initial : E → ℕ → ℕ) (slots : List (Option E)) (e : E) where
  -- all that is passed before a slot, whether the search came to it before or after the end of the slots
  pub passed_by : (i : ℕ) → i < length slots → initial e (length slots) ≤ i → Others alike slots e (initial e (length slots)) i → Passed alike initial slots e (steps (length slots) (initial e (length slots)) i)
  passed_by i il hi others m ml near = others m (steps_from (length slots) (initial e (length slots)) i m hi il ml near) (steps_to (length slots) (initial e (length slots)) i m hi il ml near)

  pub passed_round : (i : ℕ) → i < initial e (length slots) → initial e (length slots) < length slots → Others alike slots e (initial e (length slots)) (length slots) → Others alike slots e 0 i → Passed alike initial slots e (steps (length slots) (initial e (length slots)) i)
  passed_round i il hl late early m ml near = elim (steps_round (length slots) (initial e (length slots)) i m il hl ml near) [ inl q ↦ late m q ml | inr q ↦ early m (omega arith) q ]

  -- an empty slot, all nearer ones passed: no entry has the key
  pub free_absent : (i t : ℕ) → ((x : E) → alike x e → initial x (length slots) ≡ initial e (length slots)) → Probed initial slots → i < length slots → initial e (length slots) < length slots → steps (length slots) (initial e (length slots)) i ≡ t → slot slots i ≡ None → Passed alike initial slots e t → Absent alike slots e
  free_absent i t together probed il hl at none passed k x kl here like = elim (cases_order (steps (length slots) (initial e (length slots)) k) t) [ inl s ↦ same s | inr (inl s) ↦ (passed k kl s).1 x here like | inr (inr s) ↦ later s ]
    where
      same : steps (length slots) (initial e (length slots)) k ≡ t → ⊥
      same s = empty_or_not (slot slots k) x (ap (slot slots) (steps_same (length slots) (initial e (length slots)) k i hl kl il (s ∙ sym at)) ∙ none) here

      later : t < steps (length slots) (initial e (length slots)) k → ⊥
      later s =
          let near : steps (length slots) (initial x (length slots)) i < steps (length slots) (initial x (length slots)) k = rw (together x like) (omega (arith, at)) in
          both_ways (is_some (slot slots i)) (ap is_some none) (probed k x kl here i il near)

-- what the two parts of a search answer, from the slot at which it starts and from slot 0
module _ {E : Type 0} (alike : E → E → Type 0) (initial : E → ℕ → ℕ) (slots : List (Option E)) (e : E) (together : (x : E) → alike x e → initial x (length slots) ≡ initial e (length slots)) (probed : Probed initial slots) (hl : initial e (length slots) < length slots) where
  open_by : (i : ℕ) → i < length slots → slot slots i ≡ None → Passed alike initial slots e (steps (length slots) (initial e (length slots)) i) → Open alike initial slots e i
  open_by i il none passed = record {
    within = il;
    empty = none;
    reached = λ k l s. (passed k l s).0;
    absent = free_absent alike initial slots e i (steps (length slots) (initial e (length slots)) i) together probed il hl refl none passed;
  }

  pub found_from : (r : Found) → FindsIn alike slots e (initial e (length slots)) (length slots) (Some r) → Finds alike initial slots e r
  found_from (At i) f = f
  found_from (Free i) f = open_by i f.within f.empty (passed_by alike initial slots e i f.within f.after f.others)
  found_from Full f = absurd f

  pub found_round : Others alike slots e (initial e (length slots)) (length slots) → (r : Option Found) → FindsIn alike slots e 0 (initial e (length slots)) r → Finds alike initial slots e (unwrap_or r Full)
  found_round late None f = record { all = λ k l. (both k l).0; absent = λ k x l. (both k l).1 x }
    where
      both : (k : ℕ) → k < length slots → (is_some (slot slots k) ≡ true) × ((x : E) → slot slots k ≡ Some x → alike x e → ⊥)
      both k l = elim (cases_lt k (initial e (length slots))) [ inl q ↦ f k (omega arith) q | inr q ↦ late k q l ]
  found_round late (Some (At i)) f = f
  found_round late (Some (Free i)) f = open_by i (omega (arith, f.within)) f.empty (passed_round alike initial slots e i f.within hl late f.others)
  found_round late (Some Full) f = absurd f

module _ {E : Type 0} (alike : E → E → Type 0) (initial : E → ℕ → ℕ) (slots : List (Option E)) (e : E) (i : ℕ) (open_at : Open alike initial slots e i) where
  -- what a slot holds after e is put into slot i
  slot_after : (k : ℕ) (x : E) → slot (set slots i (Some e)) k ≡ Some x → ((k ≡ i) × (x ≡ e)) ⊎ ((k ≡ i → ⊥) × (slot slots k ≡ Some x))
  slot_after k x p = elim (cases_eq k i) [
    | inl q ↦ inl (q, let z : slot (set slots i (Some e)) k ≡ Some e = ap (slot (set slots i (Some e))) q ∙ get_or-set_same slots i (Some e) None open_at.within in cc)
    | inr q ↦ inr (q, sym (get_or-set_other slots i k (Some e) None q) ∙ p)
  ]

  -- a slot that held an entry holds one still
  still : (k : ℕ) → is_some (slot slots k) ≡ true → is_some (slot (set slots i (Some e)) k) ≡ true
  still k p = elim (cases_eq k i) [
    | inl q ↦ ap is_some (ap (slot (set slots i (Some e))) q ∙ get_or-set_same slots i (Some e) None open_at.within)
    | inr q ↦ ap is_some (get_or-set_other slots i k (Some e) None q) ∙ p
  ]

  pub place_probed : Probed initial slots → Probed initial (set slots i (Some e))
  place_probed probed k x kl here m ml near =
      let len = length-set slots i (Some e) in
      let kl' : k < length slots = omega (arith, len) in
      let ml' : m < length slots = omega (arith, len) in
      let near' : steps (length slots) (initial x (length slots)) m < steps (length slots) (initial x (length slots)) k = rw len at near in
      still m (elim (slot_after k x here) [
        | inl q ↦ open_at.reached m ml' (subst₂ (λ a b. steps (length slots) (initial b (length slots)) m < steps (length slots) (initial b (length slots)) a) q.0 q.1 near')
        | inr q ↦ probed k x kl' q.1 m ml' near'
      ])

  pub place_apart : ((x y : E) → alike x y → alike y x) → Apart alike slots → Apart alike (set slots i (Some e))
  place_apart symmetric apart a b x y al bl hx hy like =
      let len = length-set slots i (Some e) in
      let al' : a < length slots = omega (arith, len) in
      let bl' : b < length slots = omega (arith, len) in
      elim (slot_after a x hx) [
        | inl p ↦ elim (slot_after b y hy) [
          | inl q ↦ p.0 ∙ sym q.0
          | inr q ↦ absurd (open_at.absent b y bl' q.1 (subst (λ v. alike y v) p.1 (symmetric x y like)))
        ]
        | inr p ↦ elim (slot_after b y hy) [
          | inl q ↦ absurd (open_at.absent a x al' p.1 (subst (λ v. alike x v) q.1 like))
          | inr q ↦ apart a b x y al' bl' p.1 q.1 like
        ]
      ]

module _ {E : Type 0} (old new : List (Option E)) (i : ℕ) (e : E) (il : i < length old) (none : slot old i ≡ None) (put : new ≡ set old i (Some e)) where
  pub put_here : slot new i ≡ Some e
  put_here = ap (λ (l : List (Option E)). slot l i) put ∙ get_or-set_same old i (Some e) None il

  pub put_others : (k : ℕ) → (k ≡ i → ⊥) → slot new k ≡ slot old k
  put_others k q = ap (λ (l : List (Option E)). slot l k) put ∙ get_or-set_other old i k (Some e) None q

  pub put_kept : Kept old new
  put_kept k x p = elim (cases_eq k i) [ inl q ↦ absurd (empty_or_not (slot old k) x (ap (slot old) q ∙ none) p) | inr q ↦ put_others k q ∙ p ]

  pub put_length : length new ≡ length old
  put_length = ap length put ∙ length-set old i (Some e)
