-- Tests over lists. Assumes nothing.
use Rattle.std.specs.Prelude.{◌≡◌, ℕ, ◌+◌, Bool, true, false, cond, ◌||◌, ◌⊎◌, List, [], ◌∷◌}

-- x is an element
abbrev pub In : {X : Type 0} → X → List X → Type 0
In x [] = ⊥
In x (y ∷ ys) = (x ≡ y) ⊎ In x ys

-- what f gives for each, added up
abbrev pub total : {X : Type 0} → (X → ℕ) → List X → ℕ
total f [] = 0
total f (x ∷ xs) = f x + total f xs

-- the test passes at each element
abbrev pub every : {X : Type 0} → (X → Bool) → List X → Bool
every t [] = true
every t (x ∷ xs) = cond (t x) (every t xs) false

-- the test passes at some element
abbrev pub some : {X : Type 0} → (X → Bool) → List X → Bool
some t [] = false
some t (x ∷ xs) = t x || some t xs

-- at how many elements the test passes
abbrev pub count : {X : Type 0} → (X → Bool) → List X → ℕ
count t [] = 0
count t (x ∷ xs) = cond (t x) 1 0 + count t xs

-- the test passes at some two elements of the same place
abbrev pub some_two : {X Y : Type 0} → (X → Y → Bool) → List X → List Y → Bool
some_two t [] ys = false
some_two t (x ∷ xs) [] = false
some_two t (x ∷ xs) (y ∷ ys) = t x y || some_two t xs ys

-- some element is the same as an earlier one
abbrev pub repeats : {X : Type 0} → (X → X → Bool) → List X → Bool
repeats same [] = false
repeats same (x ∷ xs) = some (same x) xs || repeats same xs
