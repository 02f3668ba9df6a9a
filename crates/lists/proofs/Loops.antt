-- The library's tests over a list, as the definitions see them. Assumes nothing.
use Rattle.std.proofs.Common.{◌≡◌, Bool, true, false, cond, ◌&&◌, ◌||◌, List, [], ◌∷◌, map, refl, ap, ◌∙◌}
use Rattle.std.specs.List.{list_any, list_all, zip}
use Rattle.model.specs.Lists.{every, some, some_two, repeats}

-- the library's words for the same tests
pub any_is_some : {X : Type 0} (t : X → Bool) (xs : List X) → list_any t xs ≡ some t xs
any_is_some t [] = refl
any_is_some t (x ∷ xs) = ap (λ (b : Bool). t x || b) (any_is_some t xs)

-- a test of two lists side by side
pub any_is_some_two : {X Y : Type 0} (t : X → Y → Bool) (xs : List X) (ys : List Y) → list_any (λ p. t p.0 p.1) (zip xs ys) ≡ some_two t xs ys
any_is_some_two t [] ys = refl
any_is_some_two t (x ∷ xs) [] = refl
any_is_some_two t (x ∷ xs) (y ∷ ys) = ap (λ (b : Bool). t x y || b) (any_is_some_two t xs ys)

both : (a b c : Bool) → b ≡ c → (a && b) ≡ cond a c false
both true b c e = e
both false b c e = refl

-- and of what is seen
module _ {X Y : Type 0} (t : Y → Bool) (f : X → Y) where
  pub any_is_some_seen : (xs : List X) → list_any (λ x. t (f x)) xs ≡ some t (map f xs)
  any_is_some_seen [] = refl
  any_is_some_seen (x ∷ xs) = ap (λ (b : Bool). t (f x) || b) (any_is_some_seen xs)

  pub all_is_every_seen : (xs : List X) → list_all (λ x. t (f x)) xs ≡ every t (map f xs)
  all_is_every_seen [] = refl
  all_is_every_seen (x ∷ xs) = both (t (f x)) (list_all (λ x. t (f x)) xs) (every t (map f xs)) (all_is_every_seen xs)

  -- a test of the values is a test of what is seen
  pub some_of_seen : (xs : List X) → some (λ x. t (f x)) xs ≡ some t (map f xs)
  some_of_seen [] = refl
  some_of_seen (x ∷ xs) = ap (λ (b : Bool). t (f x) || b) (some_of_seen xs)

pub repeats_seen : {X Y : Type 0} (same : Y → Y → Bool) (f : X → Y) (xs : List X) → repeats (λ x y. same (f x) (f y)) xs ≡ repeats same (map f xs)
repeats_seen same f [] = refl
repeats_seen {X} {Y} same f (x ∷ xs) =
    ap (λ (b : Bool). b || repeats (λ x y. same (f x) (f y)) xs) (some_of_seen (same (f x)) f xs) ∙ ap (λ (b : Bool). some (same (f x)) (map f xs) || b) (repeats_seen same f xs)
