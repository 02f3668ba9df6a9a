use Rattle.nodes.proofs.Sameness.{node_eq_value, node_eq_decides}
use Rattle.nodes.proofs.node.NodeEntry.same_key.Goals as goal

pub returns : goal.returns
returns c = rw (c.eq.ensures, node_eq_value c.args.self.now c.args.other.now) (node_eq_decides c.args.self.now c.args.other.now)
