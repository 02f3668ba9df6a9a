-- What an opening leaves is lawful. Assumes nothing.
use Rattle.std.proofs.Common.{◌≡◌, ℕ, ◌^◌, ◌<◌, ◌≤◌, true, false, eqb, leb, [], ◌∷◌, map, None, sym, refl, ap, subst, arith, pow_mono}
use Rattle.std.specs.List.{AllByRecursion}
use Rattle.std.proofs.lemmas.List.{length-map, length-replicate, get_or-replicate}
use Rattle.std.proofs.lemmas.Bool.{or_parts, or_from, ne_eqb, lt-leb, eq-eqb, not_from_true}
use Rattle.model.specs.Limits.{least_settings}
use Rattle.model.specs.Lists.{some_two}
use Rattle.model.specs.Refusals.{passes}
use Rattle.model.specs.Scenes.{Shape, shape_off}
use Rattle.model.specs.Masks.{ill, all_of}
use Rattle.model.specs.Calls.{lawful_slot, open_checks, want_checks}
use Rattle.model.proofs.Refusing.{accepted}
use Rattle.theory.specs.Keeping.{OpeningsLawful}
use Rattle.theory.proofs.Told.{lawful_shape}
use Rattle.theory.proofs.Keeping.{all_pass, accepted_passes}

-- the mask of all settings of a device that has one is not ill
all_not_ill : (n : ℕ) → least_settings ≤ n → ill (all_of n) n ≡ false
all_not_ill n h =
    let one : 1 ≤ n = omega arith in
    let p : 2 ^ 1 ≤ 2 ^ n = pow_mono one in
    or_from (eqb (all_of n) 0) (leb (2 ^ n) (all_of n)) (ne_eqb (all_of n) 0 (λ e. omega arith)) (lt-leb (2 ^ n) (all_of n) (omega arith))

pub all_wanted : (ns : Shape) → AllByRecursion (λ n. least_settings ≤ n) ns → some_two ill (map all_of ns) ns ≡ false
all_wanted [] h = refl
all_wanted (n ∷ ns) h = or_from (ill (all_of n) n) (some_two ill (map all_of ns) ns) (all_not_ill n h.0) (all_wanted ns h.1)

pub openings_lawful : OpeningsLawful
openings_lawful ns names s slots e =
    let checks = accepted (open_checks ns names s slots) tt tt e in
    let shape = lawful_shape ns (or_parts (shape_off ns) _ checks.0).0 in
    record {
      opens = subst (λ (k : ℕ). passes (open_checks ns names s k) ≡ true) (sym (length-replicate slots None)) (accepted_passes (open_checks ns names s slots) tt tt e);
      wants = all_pass (want_checks ns (map all_of ns)) (not_from_true _ (eq-eqb _ _ (length-map ns all_of)), (all_wanted ns shape.each_some, tt));
      moves = λ k lt. ap (lawful_slot ns) (get_or-replicate slots k None None (subst (λ (l : ℕ). k < l) (length-replicate slots None) lt));
    }
