-- Surcharges and moves, one after another. Assumes nothing.
use Rattle.std.proofs.Common.{◌≡◌, ℕ, ◌+◌, ◌*◌, ◌<◌, ◌≤◌, List, [], ◌∷◌, ◌++◌, length, Some, None, Option, MatchOption, sym, refl, ap, ◌∙◌, append_assoc, arith, length-append}
use Rattle.std.specs.List.{flat_map}
use Rattle.std.proofs.lemmas.List.{flat_map_more}
use Rattle.model.specs.Moves.{Surcharge, Move}
use Rattle.format.specs.Bytes.{two, pair, Prefix}
use Rattle.format.specs.Files.{Entry, surcharge, lists, entry, Rising}
use Rattle.format.proofs.Codes.{two_prefix, cut}
use Rattle.format.proofs.Parts.{lists_then, entry_prefix}
use Rattle.format.proofs.Sizes.{pairs_long}
use Rattle.framing.specs.declared.heads.Toll.{Toll}
use Rattle.framing.specs.declared.heads.Head.{Head}
use Rattle.framing.specs.Reading.{Any, Lacks, Passes, Skips, toll, head, after, Follows}
use Rattle.framing.proofs.Pieces.{paired}

-- some items were passed, and no further one stands there: more of them stood there in no way
pub stuck : {X : Type 0} (f : X → List ℕ) → Prefix f → (done xs : List X) (rest t : List ℕ) → length done < length xs → flat_map f done ++ rest ≡ flat_map f xs ++ t → Lacks Any f rest → ⊥
stuck f P [] [] rest t lt e barren = omega arith
stuck f P [] (x ∷ xs) rest t lt e barren = barren x (flat_map f xs ++ t) tt (e ∙ append_assoc (f x) (flat_map f xs) t)
stuck f P (d ∷ ds) [] rest t lt e barren = omega arith
stuck f P (d ∷ ds) (x ∷ xs) rest t lt e barren =
    stuck f P ds xs rest t (omega arith)
    (P d x (flat_map f ds ++ rest) (flat_map f xs ++ t) (sym (append_assoc (f d) (flat_map f ds) rest) ∙ e ∙ append_assoc (f x) (flat_map f xs) t)).1
    barren

-- one more item was passed
pub grown : {X : Type 0} (f : X → List ℕ) (xs : List X) (x : X) (before mid behind : List ℕ) → before ≡ flat_map f xs ++ mid → mid ≡ f x ++ behind → before ≡ flat_map f (xs ++ x ∷ []) ++ behind
grown f xs x before mid behind a b =
    a ∙ ap (λ (m : List ℕ). flat_map f xs ++ m) b ∙ sym (append_assoc (flat_map f xs) (f x) behind) ∙ ap (λ (m : List ℕ). m ++ behind) (flat_map_more f [] xs x)

-- Surcharges

pub toll_surcharge : (t : Toll) (x : Surcharge) (r s : List ℕ) → toll t ++ r ≡ surcharge x ++ s → (length x.tests ≡ t.count) × (r ≡ flat_map pair x.tests ++ s)
toll_surcharge t x r s e =
    let n : length x.tests ≡ t.count = cc in
    let d : two t.extra ++ r ≡ two x.extra ++ (flat_map pair x.tests ++ s) = cc in
    (n, (two_prefix t.extra x.extra r (flat_map pair x.tests ++ s) d).1)

pub no_toll : (b : List ℕ) → Lacks Any toll b → Lacks Any surcharge b
no_toll b lacks x rest p e = lacks (record { count = length x.tests; extra = x.extra }) (flat_map pair x.tests ++ rest) tt e

pub short_tests : (t : Toll) (b r : List ℕ) → b ≡ toll t ++ r → length r < 2 * t.count → Lacks Any surcharge b
short_tests t b r e lt x rest p q =
    let h = toll_surcharge t x r rest (sym e ∙ q) in
    let l = ap length h.1 ∙ length-append (flat_map pair x.tests) rest in
    let m = pairs_long x.tests in
    omega (arith, l, m, lt, h.0)

pub whole_surcharge : (t : Toll) (b r xs rest : List ℕ) → b ≡ toll t ++ r → length xs ≡ 2 * t.count → r ≡ xs ++ rest → (x : Surcharge) × (Any x) × (b ≡ surcharge x ++ rest)
whole_surcharge t b r xs rest e n q =
    let p = paired t.count xs n in
    let x : Surcharge = record { tests = p.0; extra = t.extra } in
    (x, tt, e ∙ ap (λ (u : List ℕ). toll t ++ u) (q ∙ ap (λ (u : List ℕ). u ++ rest) p.2) ∙ ap (λ (k : ℕ). k ∷ (two t.extra ++ (flat_map pair p.0 ++ rest))) (sym p.1))

-- Moves

pub record Parted (h : Head) (e : Entry) (r s : List ℕ) : Type 0 where
  pub number : h.number ≡ e.number
  pub conditions : length e.move.conditions ≡ h.conditions
  pub effects : length e.move.effects ≡ h.effects
  pub surcharges : length e.move.surcharges ≡ h.surcharges
  pub rest : r ≡ flat_map pair e.move.conditions ++ (flat_map pair e.move.effects ++ (flat_map surcharge e.move.surcharges ++ s))

pub head_entry : (h : Head) (e : Entry) (r s : List ℕ) → head h ++ r ≡ entry e ++ s → Parted h e r s
head_entry h e r s q =
    let m = e.move in
    let d : two h.base ++ r ≡ two m.base ++ (lists m ++ s) = cc in
    record { number = cc; conditions = cc; effects = cc; surcharges = cc; rest = (two_prefix h.base m.base r (lists m ++ s) d).1 ∙ lists_then m s }

pub no_head : (b : List ℕ) → Lacks Any head b → Lacks Any entry b
no_head b lacks e rest p q =
    lacks (record { number = e.number; conditions = length e.move.conditions; effects = length e.move.effects; surcharges = length e.move.surcharges; base = e.move.base }) (lists e.move ++ rest) tt q

module _ (h : Head) (b r : List ℕ) (front : b ≡ head h ++ r) where
  pub short_conditions : length r < 2 * h.conditions → Lacks Any entry b
  short_conditions lt e rest p q =
      let a = head_entry h e r rest (sym front ∙ q) in
      let l = ap length a.rest ∙ length-append (flat_map pair e.move.conditions) (flat_map pair e.move.effects ++ (flat_map surcharge e.move.surcharges ++ rest)) in
      omega (arith, l, pairs_long e.move.conditions, lt, a.conditions)

  module _ (xs s : List ℕ) (n : length xs ≡ 2 * h.conditions) (second : r ≡ xs ++ s) where
    behind_conditions : (e : Entry) (rest : List ℕ) → b ≡ entry e ++ rest → s ≡ flat_map pair e.move.effects ++ (flat_map surcharge e.move.surcharges ++ rest)
    behind_conditions e rest q =
        let a = head_entry h e r rest (sym front ∙ q) in
        let l : length xs ≡ length (flat_map pair e.move.conditions) = omega (arith, n, pairs_long e.move.conditions, a.conditions) in
        (cut xs (flat_map pair e.move.conditions) s (flat_map pair e.move.effects ++ (flat_map surcharge e.move.surcharges ++ rest)) l (sym second ∙ a.rest)).1

    pub short_effects : length s < 2 * h.effects → Lacks Any entry b
    short_effects lt e rest p q =
        let a = head_entry h e r rest (sym front ∙ q) in
        let l = ap length (behind_conditions e rest q) ∙ length-append (flat_map pair e.move.effects) (flat_map surcharge e.move.surcharges ++ rest) in
        omega (arith, l, pairs_long e.move.effects, lt, a.effects)

    module _ (ys t : List ℕ) (m : length ys ≡ 2 * h.effects) (third : s ≡ ys ++ t) where
      pub short_surcharges : Lacks (λ (us : List Surcharge). length us ≡ h.surcharges) (flat_map surcharge) t → Lacks Any entry b
      short_surcharges lacks e rest p q =
          let a = head_entry h e r rest (sym front ∙ q) in
          let l : length ys ≡ length (flat_map pair e.move.effects) = omega (arith, m, pairs_long e.move.effects, a.effects) in
          lacks e.move.surcharges rest a.surcharges (cut ys (flat_map pair e.move.effects) t (flat_map surcharge e.move.surcharges ++ rest) l (sym third ∙ behind_conditions e rest q)).1

      pub whole_entry : (us : List Surcharge) (rest : List ℕ) → length us ≡ h.surcharges → t ≡ flat_map surcharge us ++ rest → (e : Entry) × (e.number ≡ h.number) × (b ≡ entry e ++ rest)
      whole_entry us rest k fourth =
          let c = paired h.conditions xs n in
          let f = paired h.effects ys m in
          let o : Move = record { conditions = c.0; effects = f.0; base = h.base; surcharges = us } in
          let e : Entry = record { number = h.number; move = o } in (
            e,
            refl,
            front
                ∙ ap (λ (u : List ℕ). head h ++ u) (second ∙ ap (λ (u : List ℕ). u ++ s) c.2 ∙ ap (λ (u : List ℕ). flat_map pair c.0 ++ u) (third ∙ ap (λ (u : List ℕ). u ++ t) f.2 ∙ ap (λ (u : List ℕ). flat_map pair f.0 ++ u) fourth))
                ∙ ap (λ (u : List ℕ). head h ++ u) (sym (lists_then o rest))
                ∙ ap (λ (i : ℕ). h.number ∷ i ∷ h.effects ∷ h.surcharges ∷ (two h.base ++ (lists o ++ rest))) (sym c.1)
                ∙ ap (λ (i : ℕ). h.number ∷ length c.0 ∷ i ∷ h.surcharges ∷ (two h.base ++ (lists o ++ rest))) (sym f.1)
                ∙ ap (λ (i : ℕ). h.number ∷ length c.0 ∷ length f.0 ∷ i ∷ (two h.base ++ (lists o ++ rest))) (sym k),
          )

-- Rising numbers

pub rising_push : (low : ℕ) (es : List Entry) (e : Entry) → Rising low es → after low es ≤ e.number → Rising low (es ++ e ∷ [])
rising_push low [] e r h = (h, tt)
rising_push low (x ∷ xs) e r h = (r.0, rising_push (x.number + 1) xs e r.1 h)

pub after_push : (low : ℕ) (es : List Entry) (e : Entry) → after low (es ++ e ∷ []) ≡ e.number + 1
after_push low [] e = refl
after_push low (x ∷ xs) e = after_push (x.number + 1) xs e

-- the last number says which may come after

pub high_enough : (last : Option ℕ) (a n : ℕ) → MatchOption last (a ≡ 0) (λ k. a ≡ k + 1) → Follows last n → a ≤ n
high_enough None a n r f = omega arith
high_enough (Some k) a n r f = omega arith

pub too_low : (last : Option ℕ) (a n : ℕ) → MatchOption last (a ≡ 0) (λ k. a ≡ k + 1) → (Follows last n → ⊥) → n < a
too_low None a n r f = absurd (f tt)
too_low (Some k) a n r f = omega arith

-- a move whose number does not rise stands in no rising list
pub falls : (low : ℕ) (done es : List Entry) (e : Entry) (rest t : List ℕ) → length done < length es → flat_map entry done ++ (entry e ++ rest) ≡ flat_map entry es ++ t → e.number < after low done → Rising low es → ⊥
falls low [] [] e rest t lt q h r = omega arith
falls low [] (x ∷ xs) e rest t lt q h r =
    let p = entry_prefix e x rest (flat_map entry xs ++ t) (q ∙ append_assoc (entry x) (flat_map entry xs) t) in
    let n = ap (λ (z : Entry). z.number) p.0 in
    omega (arith, n, r.0, h)
falls low (d ∷ ds) [] e rest t lt q h r = omega arith
falls low (d ∷ ds) (x ∷ xs) e rest t lt q h r =
    let p = entry_prefix d x (flat_map entry ds ++ (entry e ++ rest)) (flat_map entry xs ++ t) (sym (append_assoc (entry d) (flat_map entry ds) (entry e ++ rest)) ∙ q ∙ append_assoc (entry x) (flat_map entry xs) t) in
    falls (x.number + 1) ds xs e rest t (omega arith) p.1 (rw (sym p.0) h) r.1

-- the tests of a surcharge were passed over, or there are too few bytes
pub pass_surcharge : (t : Toll) (b r rest : List ℕ) (n : ℕ) (k : Option (Unit {0})) → n ≡ 2 * t.count → b ≡ toll t ++ r → Skips n k r rest → Passes Any surcharge k b rest
pass_surcharge t b r rest n (Some _) m e s = whole_surcharge t b r s.0 rest e (s.1 ∙ m) s.2
pass_surcharge t b r rest n None m e s = short_tests t b r e (omega (arith, s, m))
