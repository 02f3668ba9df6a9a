-- Charts (functions from scenes to times, never being infinity) and what is made of them. Assumes nothing.
use Rattle.std.specs.Prelude.{ℕ, ◌+◌, min, max, Bool, true, false, ◌&&◌, List, [], ◌∷◌, map, get_or, Some, None, Option, ◌==◌, nat_lt, slice_index, slice_index_or, slice_set}
use Rattle.model.specs.Limits.{greatest_time}
use Rattle.model.specs.Scenes.{Shape, Scene, scenes, rank}

-- a time, or never
abbrev pub Time : Type 0
Time = Option ℕ

-- an entry for each scene, in the order of the scenes
abbrev pub Chart : Type 0
Chart = List Time

abbrev pub at : Shape → Chart → Scene → Time
at ns c s = slice_index_or c (rank ns s) None

-- the lesser of two entries: any time is less than never
abbrev pub lesser : Time → Time → Time
lesser None b = b
lesser (Some a) None = Some a
lesser (Some a) (Some b) = Some (min a b)

-- the greater of two entries, never apart
abbrev pub greater : Time → Time → Time
greater None b = b
greater (Some a) None = Some a
greater (Some a) (Some b) = Some (max a b)

-- the sum of two entries: never if either is never
abbrev pub plus : Time → Time → Time
plus None b = None
plus (Some a) None = None
plus (Some a) (Some b) = Some (a + b)

-- entry by entry
abbrev pub zipped : (Time → Time → Time) → Chart → Chart → Chart
zipped f [] ys = []
zipped f (x ∷ xs) [] = []
zipped f (x ∷ xs) (y ∷ ys) = f x y ∷ zipped f xs ys

-- a scene has the entry of the device's setting
abbrev pub dialled : Shape → ℕ → List Time → Chart
dialled ns v es = map (λ s. get_or es (slice_index s v) None) (scenes ns)

-- a scene has what the chart gives once the device is at the setting
abbrev pub put_chart : Shape → ℕ → ℕ → Chart → Chart
put_chart ns v d c = map (λ s. at ns c (slice_set s v d)) (scenes ns)

-- the greatest time, if there is one
abbrev pub greatest : Chart → Time
greatest [] = None
greatest (x ∷ xs) = greater x (greatest xs)

-- above the greatest time that a chart may have
abbrev pub late : Time → Bool
late None = false
late (Some t) = nat_lt greatest_time t

abbrev pub same_time : Time → Time → Bool
same_time None None = true
same_time None (Some b) = false
same_time (Some a) None = false
same_time (Some a) (Some b) = a == b

abbrev pub same_chart : Chart → Chart → Bool
same_chart [] [] = true
same_chart [] (y ∷ ys) = false
same_chart (x ∷ xs) [] = false
same_chart (x ∷ xs) (y ∷ ys) = same_time x y && same_chart xs ys
