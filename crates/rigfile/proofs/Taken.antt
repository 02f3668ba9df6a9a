-- A move taken part by part. Assumes nothing.
use Rattle.std.proofs.Common.{◌≡◌, ℕ, List, ◌∷◌, ◌++◌, length, sym, ap, ◌∙◌}
use Rattle.std.specs.List.{flat_map}
use Rattle.model.specs.Moves.{Pair, Surcharge, Move}
use Rattle.format.specs.Bytes.{two, pair}
use Rattle.format.specs.Files.{Entry, surcharge, lists, entry}
use Rattle.format.proofs.Codes.{pair_prefix, many}
use Rattle.format.proofs.Parts.{lists_then}
use Rattle.framing.specs.declared.heads.Head.{Head}
use Rattle.framing.specs.Reading.{Any, Lacks, head}
use Rattle.framing.proofs.Moves.{head_entry}

-- behind the head stand the conditions, the effects and the surcharges; where one of them is missing, no move stands there
module _ (h : Head) (b r : List ℕ) (front : b ≡ head h ++ r) where
  pub no_conditions : Lacks (λ (ps : List Pair). length ps ≡ h.conditions) (flat_map pair) r → Lacks Any entry b
  no_conditions lacks e rest p q =
      let a = head_entry h e r rest (sym front ∙ q) in
      lacks e.move.conditions (flat_map pair e.move.effects ++ (flat_map surcharge e.move.surcharges ++ rest)) a.conditions a.rest

  module _ (cs : List Pair) (s : List ℕ) (n : length cs ≡ h.conditions) (second : r ≡ flat_map pair cs ++ s) where
    behind_conditions : (e : Entry) (rest : List ℕ) → b ≡ entry e ++ rest → s ≡ flat_map pair e.move.effects ++ (flat_map surcharge e.move.surcharges ++ rest)
    behind_conditions e rest q =
        let a = head_entry h e r rest (sym front ∙ q) in
        (many pair pair_prefix cs e.move.conditions s (flat_map pair e.move.effects ++ (flat_map surcharge e.move.surcharges ++ rest)) (n ∙ sym a.conditions) (sym second ∙ a.rest)).1

    pub no_effects : Lacks (λ (ps : List Pair). length ps ≡ h.effects) (flat_map pair) s → Lacks Any entry b
    no_effects lacks e rest p q =
        let a = head_entry h e r rest (sym front ∙ q) in
        lacks e.move.effects (flat_map surcharge e.move.surcharges ++ rest) a.effects (behind_conditions e rest q)

    module _ (es : List Pair) (t : List ℕ) (m : length es ≡ h.effects) (third : s ≡ flat_map pair es ++ t) where
      pub no_surcharges : Lacks (λ (xs : List Surcharge). length xs ≡ h.surcharges) (flat_map surcharge) t → Lacks Any entry b
      no_surcharges lacks e rest p q =
          let a = head_entry h e r rest (sym front ∙ q) in
          lacks e.move.surcharges rest a.surcharges
          (many pair pair_prefix es e.move.effects t (flat_map surcharge e.move.surcharges ++ rest) (m ∙ sym a.effects) (sym third ∙ behind_conditions e rest q)).1

      pub whole : (xs : List Surcharge) (rest : List ℕ) → length xs ≡ h.surcharges → t ≡ flat_map surcharge xs ++ rest → b ≡ entry (record { number = h.number; move = record { conditions = cs; effects = es; base = h.base; surcharges = xs } }) ++ rest
      whole xs rest k fourth =
          let o : Move = record { conditions = cs; effects = es; base = h.base; surcharges = xs } in
          let behind : r ≡ lists o ++ rest = second ∙ ap (λ (u : List ℕ). flat_map pair cs ++ u) (third ∙ ap (λ (u : List ℕ). flat_map pair es ++ u) fourth) ∙ sym (lists_then o rest) in
          front
          ∙ ap (λ (u : List ℕ). head h ++ u) behind
          ∙ sym (λ j. h.number ∷ n j ∷ m j ∷ k j ∷ (two h.base ++ (lists o ++ rest)))
