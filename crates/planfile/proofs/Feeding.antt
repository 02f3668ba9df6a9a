-- An input read up to a limit. Assumes nothing.
use Rattle.std.proofs.Common.{◌≡◌, ℕ, ◌+◌, ◌≤◌, min, List, [], ◌++◌, length, take, IfSome, Some, None, Option, ap, ◌∙◌, arith}
use Rattle.std.specs.Option.{option_map}
use Rattle.std.proofs.lemmas.List.{length-take, take_all}

-- what has no more than the limit was the whole of it
pub whole : (n : ℕ) (known : Option (List ℕ)) (items : List ℕ) →
    IfSome (option_map (take (n + 1)) known) (λ ys. items ≡ [] ++ ys) → length items ≤ n →
    IfSome known (λ xs. (items ≡ xs) × (length xs ≤ n))
whole n None items is few = is
whole n (Some xs) items is few =
    let many : min (n + 1) (length xs) ≤ n = omega (arith, length-take (n + 1) xs, ap length is, few) in
    let small : length xs ≤ n = omega (arith, many) in
    (is ∙ take_all (n + 1) xs (omega (arith, small)), small)
