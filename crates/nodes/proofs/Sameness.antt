-- What `==` answers of two edges, and of two nodes, is whether all fields are the same, and decides whether they are.
use Rattle.std.proofs.Common.{◌≡◌, ◌==◌, Bool, true, false, ◌&&◌, nat_eq, Decides, refl, arith}
use Rattle.std.specs.Option.{option_eq}
use Rattle.std.proofs.lemmas.Bool.Decides.{nat_tests}
use Rattle.std.proofs.lemmas.Slice.Eq.{slice_eq-Decides}
use Rattle.std.specs.Cmp.Lexicographic.{pointwise}
use Rattle.nodes.specs.declared.edge.Edge.{Edge}
use Rattle.nodes.specs.declared.node.Node.{Node}
use Rattle.nodes.specs.contracts.edge.EdgePartialEq.TheImpl as of_edges
use Rattle.nodes.specs.contracts.node.NodePartialEq.TheImpl as of_nodes
use Rattle.nodes.specs.Equals.{edge_eq, node_eq}

pub edge_eq_value : (a b : Edge) → of_edges.eq-value.it a b ≡ edge_eq a b
edge_eq_value a b = refl

grouped : (x y z : Bool) → (x && (y && z)) ≡ ((x && y) && z)
grouped true y z = refl
grouped false y z = refl

pub node_eq_value : (a b : Node) → of_nodes.eq-value.it a b ≡ node_eq a b
node_eq_value a b = grouped (a.level == b.level) (option_eq nat_eq a.most b.most) (pointwise edge_eq a.edges b.edges)

pub edge_eq_decides : (a b : Edge) → Decides (edge_eq a b) (a ≡ b)
edge_eq_decides a b = grind (arith, nat_tests)

pub node_eq_decides : (a b : Node) → Decides (node_eq a b) (a ≡ b)
node_eq_decides a b =
    let d : Decides (pointwise edge_eq a.edges b.edges) (a.edges ≡ b.edges) = slice_eq-Decides edge_eq_decides a.edges b.edges _ refl in
    grind (arith, nat_tests, d)
