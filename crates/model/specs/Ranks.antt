-- What the order of the scenes promises, and the scene at a place in it. Assumes nothing.
use Rattle.std.specs.Prelude.{◌≡◌, ℕ, ◌/◌, ◌%◌, [], ◌∷◌, map, length}
use Rattle.model.specs.Scenes.{Shape, Scene, SceneOf, size, scenes}
use Rattle.model.specs.Charts.{Time, at}

-- there are as many scenes as their number says
abbrev pub Counted : Type 0
Counted = (ns : Shape) → length (scenes ns) ≡ size ns

-- a chart that is made of a function has the function's entry at each scene
abbrev pub Tabulated : Type 0
Tabulated = (ns : Shape) (f : Scene → Time) (s : Scene) → SceneOf ns s → at ns (map f (scenes ns)) s ≡ f s

-- the scene at a place, by division
abbrev pub unrank : Shape → ℕ → Scene
unrank [] k = []
unrank (n ∷ ns) k = (k / size ns) ∷ unrank ns (k % size ns)
