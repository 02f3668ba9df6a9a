-- How many scenes there are, as the product of a chain's items. Assumes nothing.
use Rattle.std.proofs.Common.{◌≡◌, ℕ, ◌*◌, ◌<◌, ◌≤◌, ◌^◌, false, List, [], ◌∷◌, Option, map, length, take, sym, ap, subst, ◌∙◌, mul_assoc, mul-one, one-mul, arith}
use Rattle.std.specs.List.{fold}
use Rattle.std.specs.Bool.{⊤}
use Rattle.std.specs.Iterator.{Yields, Drains}
use Rattle.std.specs.Iterator.Runs.{EachRunFrom, YieldsRun}
use Rattle.std.proofs.iter.Yields.{gives_Drains}
use Rattle.std.proofs.lemmas.List.{map-id, length-take}
use Rattle.std.proofs.lemmas.Iterator.{YieldsList}
use Rattle.std.proofs.lemmas.Iterator.Consumers.{YieldsList-so_far}
use Rattle.model.specs.Lists.{some}
use Rattle.model.specs.Scenes.{Shape, size}
use Rattle.model.proofs.Sizes.{count_off, size_most}
use Rattle.model.proofs.Testing.{none_take}

product_size : (p : ℕ) (ns : Shape) → fold (λ a n. a * n) p ns ≡ p * size ns
product_size p [] = sym (mul-one p)
product_size p (n ∷ ns) = product_size (p * n) ns ∙ mul_assoc p n (size ns)

-- a chain that gives the counts of a shape
module _ {S : Type 0} {steps : S → Option ℕ → S → Type 0} (s : S) (ns : Shape) (e : YieldsList steps (λ n. n) s (map (λ n. n) ns)) where
  pub product_is : (r : ℕ) → ((xs : List ℕ) × (⊤ → Drains steps s xs) × (r ≡ fold (λ a n. a * n) 1 xs)) → r ≡ size ns
  product_is r h =
      let all = sym (map-id h.0) ∙ gives_Drains steps (λ n. n) h.0 _ s e.runs (h.1 tt) ∙ map-id ns in
      h.2 ∙ ap (fold (λ a n. a * n) 1) all ∙ product_size 1 ns ∙ one-mul (size ns)

  -- the items so far are the first counts, and have no more scenes than a shape may have
  pub product_fits : some count_off ns ≡ false → length ns ≤ 12 → EachRunFrom steps s (λ p. fold (λ a n. a * n) 1 p.items < 2 ^ 64)
  unfolding YieldsRun
  product_fits legal few = λ p _ at.
      let k = length p.items in
      let front = sym (map-id p.items) ∙ YieldsList-so_far e p.items p.gave.0.0 (subst (λ u. Yields steps u p.items p.gave.0.0) at p.gave.0.1) ∙ ap (take k) (map-id ns) in
      let most = size_most (take k ns) (none_take count_off k ns legal) (omega (arith, length-take k ns)) in
      omega (arith, most, ap (fold (λ a n. a * n) 1) front, product_size 1 (take k ns), one-mul (size (take k ns)))
