-- The greatest times of charts that are later throughout, or put together of pieces. Assumes nothing.
use Rattle.std.proofs.Common.{◌≡◌, List, [], ◌∷◌, ◌++◌, Some, None, Option, sym, refl, ap, ◌∙◌, arith}
use Rattle.std.specs.List.{AllByRecursion, flat_map}
use Rattle.nodes.specs.declared.edge.Edge.{Edge}
use Rattle.nodes.specs.declared.node.Node.{Node}
use Rattle.model.specs.Charts.{Time, Chart, plus, greater, greatest}
use Rattle.model.specs.Scenes.{Shape}
use Rattle.model.proofs.Lateness.{greater_assoc}
use Rattle.parts.specs.Shifts.{later}
use Rattle.store.specs.Stores.{below, highest}

pub greater_none : (x : Time) → greater x None ≡ x
greater_none None = refl
greater_none (Some x) = refl

plus_none : (x : Time) → plus x None ≡ None
plus_none None = refl
plus_none (Some x) = refl

plus_greater : (w x y : Time) → plus w (greater x y) ≡ greater (plus w x) (plus w y)
plus_greater None x y = refl
plus_greater (Some w) None y = refl
plus_greater (Some w) (Some x) None = refl
plus_greater (Some w) (Some x) (Some y) = ap {B = Time} Some (omega arith)

pub plus_zero : (w : Time) → plus w (Some 0) ≡ w
plus_zero None = refl
plus_zero (Some w) = ap {B = Time} Some (omega arith)

pub greatest_later : (w : Time) (c : Chart) → greatest (later w c) ≡ plus w (greatest c)
greatest_later w [] = sym (plus_none w)
greatest_later w (x ∷ xs) = ap (greater (plus w x)) (greatest_later w xs) ∙ sym (plus_greater w x (greatest xs))

greatest_append : (c d : Chart) → greatest (c ++ d) ≡ greater (greatest c) (greatest d)
greatest_append [] d = refl
greatest_append (x ∷ xs) d = ap (greater x) (greatest_append xs d) ∙ sym (greater_assoc x (greatest xs) (greatest d))

-- the greatest time of pieces, by that of each
pub highest_joined : (nodes : List (Option Node)) (ns : Shape) (f : Edge → Chart) (es : List Edge) → AllByRecursion (λ e. greatest (f e) ≡ plus e.weight (below nodes ns e)) es → greatest (flat_map f es) ≡ highest nodes ns es
highest_joined nodes ns f [] a = refl
highest_joined nodes ns f (e ∷ es) a =
    greatest_append (f e) (flat_map f es) ∙ ap (λ v. greater v (greatest (flat_map f es))) a.0
    ∙ ap (greater (plus e.weight (below nodes ns e))) (highest_joined nodes ns f es a.1)
