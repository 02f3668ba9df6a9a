-- Shelves of eight pegs: what one means, and what each call answers and leaves. Assumes nothing.
use Rattle.std.specs.Prelude.{◌≡◌, ℕ, ◌*◌, Bool, false, not, ◌&&◌, ◌||◌, leb, List, [], ◌∷◌, ◌++◌, length, take, replicate, is_some, IfSome, Some, None, Option, Result, ◌==◌, nat_le, nat_lt, slice_index, slice_index_or, slice_set}
use Rattle.model.specs.Limits.{peg_count}
use Rattle.model.specs.Lists.{some, some_two}
use Rattle.model.specs.Scenes.{Shape, Scene, size, shape_off}
use Rattle.model.specs.Charts.{Time, Chart, at, lesser, plus, zipped, dialled, put_chart, greatest, late, same_chart}
use Rattle.model.specs.Parts.{parts_of_all}
use Rattle.model.specs.Refusals.{Check, refuse, answer, left_by}

-- what each peg carries
abbrev pub Pegs : Type 0
Pegs = List (Option Chart)

-- of which only the pegs change
pub record Meaning : Type 0 where
  pub shape : Shape
  pub capacity : ℕ
  pub fill : Pegs → Chart → ℕ
  pub pegs : Pegs

abbrev pub chart_of : Option Chart → Chart
chart_of None = []
chart_of (Some c) = c

-- the chart on a peg
abbrev pub on : Pegs → ℕ → Chart
on ps p = chart_of (slice_index_or ps p None)

abbrev pub bare : Pegs → ℕ → Bool
bare ps p = not (is_some (slice_index_or ps p None))

abbrev pub high : ℕ → Bool
high p = nat_le peg_count p

-- a call that hangs a chart: the target comes first
pub data Call : Type 0 where
  dial : ℕ → ℕ → List Time → Call
  cheaper : ℕ → ℕ → ℕ → Call
  sum : ℕ → ℕ → ℕ → Call
  put : ℕ → ℕ → ℕ → ℕ → Call

abbrev pub target : Call → ℕ
target (dial t v es) = t
target (cheaper t a b) = t
target (sum t a b) = t
target (put t a v d) = t

-- the chart that a call hangs
abbrev pub hung : Shape → Pegs → Call → Chart
hung ns ps (dial t v es) = dialled ns v es
hung ns ps (cheaper t a b) = zipped lesser (on ps a) (on ps b)
hung ns ps (sum t a b) = zipped plus (on ps a) (on ps b)
hung ns ps (put t a v d) = put_chart ns v d (on ps a)

abbrev pub after : Shape → Pegs → Call → Pegs
after ns ps c = slice_set ps (target c) (Some (hung ns ps c))

abbrev pub with_pegs : Meaning → Pegs → Meaning
with_pegs m ps = record { shape = m.shape; capacity = m.capacity; fill = m.fill; pegs = ps }

-- the capacity is below the fill
abbrev pub overfills : Meaning → Call → Bool
overfills m c = nat_lt m.capacity (m.fill m.pegs (hung m.shape m.pegs c))

abbrev pub no_room : Meaning → Call → Check
no_room m c = refuse 18 (overfills m c)

abbrev pub call_checks : Meaning → Call → List Check
call_checks m (dial t v es) =
    refuse 7 (nat_le (length m.shape) v) ∷ refuse 14 (high t) ∷ refuse 16 (some late (take (slice_index m.shape v) es)) ∷ no_room m (dial t v es) ∷ []
call_checks m (cheaper t a b) =
    refuse 14 (high t || (high a || high b)) ∷ refuse 15 (bare m.pegs a || bare m.pegs b) ∷ no_room m (cheaper t a b) ∷ []
call_checks m (sum t a b) =
    refuse 14 (high t || (high a || high b)) ∷ refuse 15 (bare m.pegs a || bare m.pegs b)
    ∷ refuse 16 (late (plus (greatest (on m.pegs a)) (greatest (on m.pegs b)))) ∷ no_room m (sum t a b) ∷ []
call_checks m (put t a v d) =
    refuse 7 (nat_le (length m.shape) v) ∷ refuse 8 (nat_lt v (length m.shape) && nat_le (slice_index m.shape v) d)
    ∷ refuse 14 (high t || high a) ∷ refuse 15 (bare m.pegs a) ∷ no_room m (put t a v d) ∷ []

abbrev pub does : Meaning → Call → Result (Unit {0}) ℕ
does m c = answer (call_checks m c) tt

abbrev pub done : Meaning → Call → Meaning
done m c = left_by (does m c) (with_pegs m (after m.shape m.pegs c)) m

abbrev pub wipes : Meaning → ℕ → Result (Unit {0}) ℕ
wipes m p = answer (refuse 14 (high p) ∷ []) tt

abbrev pub wiped : Meaning → ℕ → Meaning
wiped m p = left_by (wipes m p) (with_pegs m (slice_set m.pegs p None)) m

-- whether two pegs carry equal charts
abbrev pub compares : Meaning → ℕ → ℕ → Result Bool ℕ
compares m a b =
    answer (refuse 14 (high a || high b) ∷ refuse 15 (bare m.pegs a || bare m.pegs b) ∷ []) (same_chart (on m.pegs a) (on m.pegs b))

-- a scene without one setting per device, or with a setting too high for its device
abbrev pub scene_checks : Shape → Scene → List Check
scene_checks ns s = refuse 1 (not (length s == length ns)) ∷ refuse 8 (some_two leb ns s) ∷ []

-- the time that a peg's chart gives a scene
abbrev pub reads : Meaning → ℕ → Scene → Result Time ℕ
reads m p s =
    answer (scene_checks m.shape s ++ (refuse 14 (high p) ∷ refuse 15 (bare m.pegs p) ∷ []))
    (at m.shape (on m.pegs p) s)

-- what holds of every shelf: a legal shape, eight pegs, and each chart has an entry for each scene, none of them late
pub record Sound (m : Meaning) : Type 0 where
  pub legal : shape_off m.shape ≡ false
  pub eight : length m.pegs ≡ peg_count
  pub whole : (p : ℕ) → IfSome (slice_index_or m.pegs p None) (λ c. length c ≡ size m.shape)
  pub timely : (p : ℕ) → IfSome (slice_index_or m.pegs p None) (λ c. some late c ≡ false)

-- the charts on the pegs
abbrev pub charts : Pegs → List Chart
charts [] = []
charts (None ∷ ps) = charts ps
charts (Some c ∷ ps) = c ∷ charts ps

-- a flat shelf takes no room for a chart
abbrev pub flat_fill : Pegs → Chart → ℕ
flat_fill ps c = 0

-- a flat shelf needs a number for each scene and peg
abbrev pub flat_opens : Shape → ℕ → Result (Unit {0}) ℕ
flat_opens ns cells = answer (refuse 1 (shape_off ns) ∷ refuse 3 (nat_lt cells (peg_count * size ns)) ∷ []) tt

-- and opens with every peg bare
abbrev pub flat_opened : Shape → Meaning
flat_opened ns = record { shape = ns; capacity = 0; fill = flat_fill; pegs = replicate peg_count None }

-- a diagram shelf has a node for each different part of the charts on its pegs and the chart to be hung
abbrev pub diagram_fill : Shape → Pegs → Chart → ℕ
diagram_fill ns ps c = parts_of_all ns (c ∷ charts ps)
