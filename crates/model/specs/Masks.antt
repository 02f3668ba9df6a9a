-- Masks, and the scenes that they want (the goal states). Assumes nothing.
use Rattle.std.specs.Prelude.{ℕ, ◌-◌, ◌*◌, ◌/◌, ◌%◌, ◌^◌, Bool, true, ◌&&◌, ◌||◌, List, [], ◌∷◌, ◌==◌, count_ones, nat_le}
use Rattle.model.specs.Scenes.{Scene}

-- bit d of a mask admits setting d
abbrev pub admits : ℕ → ℕ → Bool
admits mask d = mask / 2 ^ d % 2 == 1

-- every setting of the scene is admitted
abbrev pub wanted : List ℕ → Scene → Bool
wanted [] s = true
wanted (m ∷ ms) [] = true
wanted (m ∷ ms) (x ∷ xs) = admits m x && wanted ms xs

-- a mask that admits nothing, or has a bit for no setting of a device with n
abbrev pub ill : ℕ → ℕ → Bool
ill mask n = mask == 0 || nat_le (2 ^ n) mask

-- the mask that admits every setting of a device with n
abbrev pub all_of : ℕ → ℕ
all_of n = 2 ^ n - 1

-- the product of the ones in the masks
abbrev pub product_of_ones : List ℕ → ℕ
product_of_ones [] = 1
product_of_ones (m ∷ ms) = count_ones m * product_of_ones ms
