-- What `==` answers of two edges and of two nodes: whether all fields are the same. Assumes nothing.
use Rattle.std.specs.Prelude.{Bool, nat_eq}
use Rattle.std.specs.Ordering.{on, eq_of_both}
use Rattle.std.specs.Option.{option_eq}
use Rattle.std.specs.Cmp.Lexicographic.{pointwise}
use Rattle.nodes.specs.declared.edge.Edge.{Edge}
use Rattle.nodes.specs.declared.node.Node.{Node}

abbrev pub edge_eq : Edge → Edge → Bool
edge_eq = eq_of_both (on (λ v. v.weight) (option_eq nat_eq)) (on (λ v. v.child) nat_eq)

abbrev pub node_eq : Node → Node → Bool
node_eq = eq_of_both (eq_of_both (on (λ v. v.level) nat_eq) (on (λ v. v.most) (option_eq nat_eq))) (on (λ v. v.edges) (pointwise edge_eq))
