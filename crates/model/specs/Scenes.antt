-- Scenes (the states of planning), their order, and their places in it. Assumes nothing.
use Rattle.std.specs.Prelude.{ℕ, ◌+◌, ◌*◌, ◌<◌, Bool, ◌||◌, List, [], ◌∷◌, map, length}
use Rattle.std.specs.List.{range_with_len, flat_map}
use Rattle.model.specs.Limits.{outside, most_devices, least_settings, most_settings}
use Rattle.model.specs.Lists.{some}

-- a shape gives each device (a state variable) the number of its settings
abbrev pub Shape : Type 0
Shape = List ℕ

-- device or settings count outside its limits
abbrev pub shape_off : Shape → Bool
shape_off ns = outside 1 most_devices (length ns) || some (outside least_settings most_settings) ns

-- a scene gives each device one setting
abbrev pub Scene : Type 0
Scene = List ℕ

-- s is a scene of the shape
abbrev pub SceneOf : Shape → Scene → Type 0
SceneOf [] [] = Unit {0}
SceneOf [] (x ∷ xs) = ⊥
SceneOf (n ∷ ns) [] = ⊥
SceneOf (n ∷ ns) (x ∷ xs) = (x < n) × SceneOf ns xs

-- how many scenes there are
abbrev pub size : Shape → ℕ
size [] = 1
size (n ∷ ns) = n * size ns

-- all scenes, device 0 slowest
abbrev pub scenes : Shape → List Scene
scenes [] = [] ∷ []
scenes (n ∷ ns) = flat_map (λ x. map (λ xs. x ∷ xs) (scenes ns)) (range_with_len 0 n)

-- the place of a scene among them
abbrev pub rank : Shape → Scene → ℕ
rank [] xs = 0
rank (n ∷ ns) [] = 0
rank (n ∷ ns) (x ∷ xs) = x * size ns + rank ns xs
