-- What a store keeps has at most one proof. Assumes nothing.
use Rattle.std.specs.Prelude.{ℕ, ◌+◌, List, [], ◌∷◌, take, drop, Option}
use Rattle.std.specs.Coded.{×_prop, Unit-prop, Coded-set, coded_ℕ, coded_option}
use mathlib.Core.Bool.{Bool-set}
use mathlib.Core.HLevel.{⊥_prop}
use mathlib.Core.List.{is_set}
use native.Mathlib.Nat.{ℕ_set}
use Rattle.std.specs.List.{AllByRecursion}
use Rattle.nodes.specs.declared.edge.Edge.{Edge}
use Rattle.nodes.specs.declared.node.Node.{Node}
use Rattle.model.specs.Charts.{Time}
use Rattle.model.specs.Scenes.{Shape}
use Rattle.table.specs.Once.{apart_prop}
use Rattle.store.specs.Stores.{Leads, Fine, Proper, Store}

pub time_set : IsSet Time
time_set = Coded-set (coded_option coded_ℕ)

pub edge_set : IsSet Edge
edge_set a b p q = λ k i. record {
  weight = time_set a.weight b.weight (λ j. (p j).weight) (λ j. (q j).weight) k i;
  child = ℕ_set a.child b.child (λ j. (p j).child) (λ j. (q j).child) k i;
}

pub all_prop : {A : Type 0} (P : A → Type 0) (xs : List A) → ((x : A) → IsProp (P x)) → IsProp (AllByRecursion P xs)
all_prop P [] h = Unit-prop
all_prop P (x ∷ xs) h = ×_prop (h x) (all_prop P xs h)

leads_prop : (nodes : List (Option Node)) (n l : ℕ) (e : Edge) → IsProp (Leads nodes n l e)
leads_prop nodes n l e p q = λ i. record {
  here = Bool-set _ _ p.here q.here i;
  deep = ℕ_set _ _ p.deep q.deep i;
  low = time_set _ _ p.low q.low i;
}

pub fine_prop : (nodes : List (Option Node)) (ns : Shape) (l : ℕ) (e : Edge) → IsProp (Fine nodes ns l e)
fine_prop nodes [] l e = ℕ_set e.child 0
fine_prop nodes (n ∷ ns) l e = leads_prop nodes n l e

proper_prop : (nodes : List (Option Node)) (ns : Shape) (x : Node) → IsProp (Proper nodes ns x)
proper_prop nodes [] x p q = ⊥_prop p q
proper_prop nodes (n ∷ ns) x p q = λ i. record {
  wide = ℕ_set _ _ p.wide q.wide i;
  rest = is_set edge_set _ _ p.rest q.rest i;
  low = time_set _ _ p.low q.low i;
  high = time_set _ _ p.high q.high i;
  kids = all_prop (Fine nodes ns (x.level + 1)) (take n x.edges) (fine_prop nodes ns (x.level + 1)) p.kids q.kids i;
}

pub store_prop : (nodes : List (Option Node)) (shape : Shape) → IsProp (Store nodes shape)
store_prop nodes shape p q = λ i. record {
  apart = apart_prop _ nodes p.apart q.apart i;
  proper = λ k x h. proper_prop nodes (drop x.level shape) x (p.proper k x h) (q.proper k x h) i;
}
