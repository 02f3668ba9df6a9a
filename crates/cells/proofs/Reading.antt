-- What is read of rows. Assumes nothing.
use Rattle.std.proofs.Common.{◌≡◌, nat_eq, [], ◌∷◌, Some, None, sym, refl, ap, ◌∙◌, ⊎_elim, arith}
use Rattle.std.specs.List.{fold, reduce}
use Rattle.std.specs.Option.{option_cmp, option_eq, option_flatten}
use Rattle.std.specs.Ordering.{nat_cmp, max_by_ordering}
use Rattle.std.specs.Cmp.{nat_cmp_is}
use Rattle.std.specs.declared.cmp.Ordering.TheVariants.{Less, Equal, Greater}
use Rattle.std.proofs.lemmas.Bool.{cases_order}
use Rattle.model.specs.Charts.{Time, Chart, same_time, greater, greatest}
use Rattle.model.proofs.Lateness.{greater_assoc}

-- two entries are the same in Rust where they are in the model
pub same_entry : (a b : Time) → option_eq nat_eq a b ≡ same_time a b
same_entry None None = refl
same_entry None (Some b) = refl
same_entry (Some a) None = refl
same_entry (Some a) (Some b) = refl

-- the later of two entries in std's order, in which never is least
abbrev pub later : Time → Time → Time
later a b = max_by_ordering (option_cmp nat_cmp a b) a b

later_is_greater : (a b : Time) → later a b ≡ greater a b
later_is_greater None None = refl
later_is_greater None (Some b) = refl
later_is_greater (Some a) None = refl
later_is_greater (Some a) (Some b) =
    ⊎_elim
    (λ e. ap (λ o. max_by_ordering {A = Time} o (Some a) (Some b)) (sym (nat_cmp_is a b Equal e)) ∙ ap Some (omega arith))
    (⊎_elim
    (λ lt. ap (λ o. max_by_ordering {A = Time} o (Some a) (Some b)) (sym (nat_cmp_is a b Less lt)) ∙ ap Some (omega arith))
    (λ gt. ap (λ o. max_by_ordering {A = Time} o (Some a) (Some b)) (sym (nat_cmp_is a b Greater gt)) ∙ ap Some (omega arith)))
    (cases_order a b)

greater_none : (a : Time) → a ≡ greater a None
greater_none None = refl
greater_none (Some a) = refl

later_of_all : (most : Time) (row : Chart) → fold later most row ≡ greater most (greatest row)
later_of_all most [] = greater_none most
later_of_all most (x ∷ row) =
    later_of_all (later most x) row ∙ ap (λ t. greater t (greatest row)) (later_is_greater most x) ∙ greater_assoc most x (greatest row)

-- the latest entry of a row, if it has one, and never for none
pub latest_is_greatest : (row : Chart) → option_flatten (reduce later row) ≡ greatest row
latest_is_greatest [] = refl
latest_is_greatest (x ∷ row) = later_of_all x row
