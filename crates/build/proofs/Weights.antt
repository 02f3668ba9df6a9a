-- Weights with a time subtracted and added again, and charts accordingly. Assumes nothing.
use Rattle.std.proofs.Common.{◌≡◌, ℕ, ◌+◌, ◌-◌, List, [], ◌∷◌, ◌++◌, map, take, is_some, Some, None, Option, sym, refl, ap, ◌∙◌, arith}
use mathlib.Core.List.{map-map}
use Rattle.std.specs.List.{AllByRecursion, flat_map}
use Rattle.std.proofs.lemmas.Bool.{both_ways}
use Rattle.std.proofs.ByRecursion.{All-weaker}
use Rattle.nodes.specs.declared.edge.Edge.{Edge}
use Rattle.nodes.specs.declared.node.Node.{Node}
use Rattle.model.specs.Charts.{Time, Chart, plus, lesser}
use Rattle.model.specs.Parts.{less}
use Rattle.model.specs.Scenes.{Shape}
use Rattle.parts.specs.Shifts.{later, zeroed}
use Rattle.parts.proofs.Pieces.{map_each}
use Rattle.store.specs.Stores.{node_at, lowest, chart}
use Rattle.build.specs.Builds.{lower_by}

some_same : (x y : ℕ) → ◌≡◌ {A = Time} (Some x) (Some y) → x ≡ y
some_same x y h = cc

pub none_some : (x : ℕ) → ◌≡◌ {A = Time} None (Some x) → ⊥
none_some x h = both_ways (is_some {T = ℕ} None) refl (ap is_some h)

pub less_none : (m : Time) → less m None ≡ None
less_none None = refl
less_none (Some m) = refl

pub zeroed_less : (m w : Time) → zeroed (less m w) ≡ zeroed w
zeroed_less None w = refl
zeroed_less (Some m) None = refl
zeroed_less (Some m) (Some w) = refl

less_lesser : (m : ℕ) (x y : Time) → less (Some m) (lesser x y) ≡ lesser (less (Some m) x) (less (Some m) y)
less_lesser m None y = refl
less_lesser m (Some x) None = refl
less_lesser m (Some x) (Some y) = ap {B = Time} Some (omega arith)

lowest_less : (m : ℕ) (es : List Edge) → lowest (map (lower_by (Some m)) es) ≡ less (Some m) (lowest es)
lowest_less m [] = refl
lowest_less m (e ∷ es) = ap (lesser (less (Some m) e.weight)) (lowest_less m es) ∙ sym (less_lesser m e.weight (lowest es))

map_edge_id : (es : List Edge) → map (lower_by None) es ≡ es
map_edge_id [] = refl
map_edge_id (e ∷ es) = ap (λ t. e ∷ t) (map_edge_id es)

less_zero : (w : Time) → less (Some 0) w ≡ w
less_zero None = refl
less_zero (Some y) = ap {B = Time} Some (omega arith)

-- by nothing
pub lower_zero : (es : List Edge) → map (lower_by (Some 0)) es ≡ es
lower_zero [] = refl
lower_zero (e ∷ es) =
    let p = less_zero e.weight in
    let q = lower_zero es in
    λ i. record { weight = p i; child = e.child } ∷ q i

-- lowered by the lowest, the lowest is 0, or there is none
pub lowest_lowered : (m : Time) (es : List Edge) → lowest es ≡ m → lowest (map (lower_by m) es) ≡ zeroed m
lowest_lowered None es h = ap lowest (map_edge_id es) ∙ h
lowest_lowered (Some m) es h = lowest_less m es ∙ ap (less (Some m)) h ∙ ap {B = Time} Some (omega arith)

pub zeroed_twice : (m : Time) → zeroed (zeroed m) ≡ zeroed m
zeroed_twice None = refl
zeroed_twice (Some m) = refl

-- what was subtracted can be added again
abbrev pub Back : Time → Time → Type 0
Back m w = plus m (less m w) ≡ w

back_lesser : (x m w : Time) → Back m w → Back (lesser x m) w
back_lesser None m w h = h
back_lesser (Some x) None None h = refl
back_lesser (Some x) None (Some w) h = absurd (none_some w h)
back_lesser (Some x) (Some m) None h = refl
back_lesser (Some x) (Some m) (Some w) h = ap {B = Time} Some (omega (arith, some_same (m + (w - m)) w h))

back_here : (w m : Time) → Back (lesser w m) w
back_here None None = refl
back_here None (Some m) = refl
back_here (Some w) None = ap {B = Time} Some (omega arith)
back_here (Some w) (Some m) = ap {B = Time} Some (omega arith)

pub back_all : (es : List Edge) → AllByRecursion (λ e. Back (lowest es) e.weight) es
back_all [] = tt
back_all (e ∷ es) = (back_here e.weight (lowest es), All-weaker (λ d. Back (lowest es) d.weight) (λ d. Back (lesser e.weight (lowest es)) d.weight) (λ d h. back_lesser e.weight (lowest es) d.weight h) es (back_all es))

plus_assoc : (x y z : Time) → plus (plus x y) z ≡ plus x (plus y z)
plus_assoc None y z = refl
plus_assoc (Some x) None z = refl
plus_assoc (Some x) (Some y) None = refl
plus_assoc (Some x) (Some y) (Some z) = ap {B = Time} Some (omega arith)

map_same : {A B : Type 0} (f g : A → B) (l : List A) → ((x : A) → f x ≡ g x) → map f l ≡ map g l
map_same f g [] h = refl
map_same f g (x ∷ xs) h = let p = h x in let q = map_same f g xs h in λ i. p i ∷ q i

pub later_later : (x y : Time) (c : Chart) → later x (later y c) ≡ later (plus x y) c
later_later x y c = map-map (plus x) (plus y) c ∙ map_same (λ z. plus x (plus y z)) (plus (plus x y)) c (λ z. sym (plus_assoc x y z))

chart_back : (nodes : List (Option Node)) (ns : Shape) (m : Time) (e : Edge) → Back m e.weight → later m (chart nodes ns (lower_by m e)) ≡ chart nodes ns e
chart_back nodes [] m e h = ap (λ w. w ∷ []) h
chart_back nodes (n ∷ ns) m e h =
    let b = flat_map (chart nodes ns) (take n (node_at nodes e.child).edges) in
    later_later m (less m e.weight) b ∙ ap (λ w. later w b) h

pub body_back : (nodes : List (Option Node)) (ns : Shape) (m : Time) (es : List Edge) → AllByRecursion (λ e. Back m e.weight) es → later m (flat_map (chart nodes ns) (map (lower_by m) es)) ≡ flat_map (chart nodes ns) es
body_back nodes ns m es a = map_each (plus m) (chart nodes ns) (map (lower_by m) es) ∙ go es a
  where
    go : (ds : List Edge) → AllByRecursion (λ e. Back m e.weight) ds → flat_map (λ x. later m (chart nodes ns x)) (map (lower_by m) ds) ≡ flat_map (chart nodes ns) ds
    go [] b = refl
    go (d ∷ ds) b = let p = chart_back nodes ns m d b.0 in let q = go ds b.1 in λ i. p i ++ q i
