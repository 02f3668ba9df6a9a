-- The greatest time of edges. Assumes nothing.
use Rattle.std.proofs.Common.{◌≡◌, ℕ, zero, suc, ◌<◌, max, false, List, [], ◌∷◌, length, get_or, Some, None, Option, refl, ◌∙◌, arith}
use Rattle.std.specs.List.{cons_option, filter_map, fold, reduce}
use Rattle.std.proofs.lemmas.Bool.{ltb-false, le-ltb}
use Rattle.nodes.specs.declared.edge.Edge.{Edge}
use Rattle.nodes.specs.declared.node.Node.{Node}
use Rattle.model.specs.Charts.{Time, plus, greater, late}
use Rattle.model.specs.Limits.{greatest_time}
use Rattle.model.specs.Scenes.{Shape}
use Rattle.model.proofs.Lateness.{greater_assoc}
use Rattle.store.specs.Stores.{below, highest}

pub late_left : (a b : Time) → late (greater a b) ≡ false → late a ≡ false
late_left None b h = refl
late_left (Some a) None h = h
late_left (Some a) (Some b) h = le-ltb greatest_time a (omega (arith, ltb-false greatest_time (max a b) h))

pub late_right : (a b : Time) → late (greater a b) ≡ false → late b ≡ false
late_right None b h = h
late_right (Some a) None h = refl
late_right (Some a) (Some b) h = le-ltb greatest_time b (omega (arith, ltb-false greatest_time (max a b) h))

-- where the greatest time of all edges is not late, that of each is not
pub each_timely : (nodes : List (Option Node)) (ns : Shape) (es : List Edge) (k : ℕ) (d : Edge) → k < length es → late (highest nodes ns es) ≡ false → late (plus (get_or es k d).weight (below nodes ns (get_or es k d))) ≡ false
each_timely nodes ns [] k d lt h = absurd (omega arith)
each_timely nodes ns (e ∷ es) zero d lt h = late_left (plus e.weight (below nodes ns e)) (highest nodes ns es) h
each_timely nodes ns (e ∷ es) (suc k) d lt h = each_timely nodes ns es k d (omega arith) (late_right (plus e.weight (below nodes ns e)) (highest nodes ns es) h)

-- the greatest times of the edges that have one
abbrev pub reaches : List (Option Node) → Shape → List Edge → List ℕ
reaches nodes ns es = filter_map (λ (e : Edge). plus e.weight (below nodes ns e)) es

greatest_from : (nodes : List (Option Node)) (ns : Shape) (m : ℕ) (es : List Edge) → ◌≡◌ {A = Time} (Some (fold max m (reaches nodes ns es))) (greater (Some m) (highest nodes ns es))
greatest_from nodes ns m [] = refl
greatest_from nodes ns m (e ∷ es) = go (plus e.weight (below nodes ns e)) (λ v. greatest_from nodes ns v es)
  where
    go : (t : Time) → ((v : ℕ) → ◌≡◌ {A = Time} (Some (fold max v (reaches nodes ns es))) (greater (Some v) (highest nodes ns es))) → ◌≡◌ {A = Time} (Some (fold max m (cons_option t (reaches nodes ns es)))) (greater (Some m) (greater t (highest nodes ns es)))
    go None rest = rest m
    go (Some v) rest = rest (max m v) ∙ greater_assoc (Some m) (Some v) (highest nodes ns es)

-- the greatest of them is the greatest time of the edges
pub greatest_is : (nodes : List (Option Node)) (ns : Shape) (es : List Edge) → reduce max (reaches nodes ns es) ≡ highest nodes ns es
greatest_is nodes ns [] = refl
greatest_is nodes ns (e ∷ es) = go (plus e.weight (below nodes ns e)) (greatest_is nodes ns es)
  where
    go : (t : Time) → reduce max (reaches nodes ns es) ≡ highest nodes ns es → reduce max (cons_option t (reaches nodes ns es)) ≡ greater t (highest nodes ns es)
    go None rest = rest
    go (Some v) rest = greatest_from nodes ns v es
