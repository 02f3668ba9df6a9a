-- Masks and a scene side by side, in the library's words. Assumes nothing.
use Rattle.std.proofs.Common.{◌≡◌, ℕ, Bool, ◌&&◌, List, [], ◌∷◌, refl, ap}
use Rattle.std.specs.List.{list_all, zip}
use Rattle.model.specs.Scenes.{Scene}
use Rattle.model.specs.Masks.{admits, wanted}

pub all_is_wanted : (ms : List ℕ) (s : Scene) → list_all (λ p. admits p.0 p.1) (zip ms s) ≡ wanted ms s
all_is_wanted [] s = refl
all_is_wanted (m ∷ ms) [] = refl
all_is_wanted (m ∷ ms) (x ∷ s) = ap (λ (b : Bool). admits m x && b) (all_is_wanted ms s)
