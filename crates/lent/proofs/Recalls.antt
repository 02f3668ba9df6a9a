-- A result that is remembered is right. Assumes nothing.
use Rattle.std.proofs.Common.{List, Option, sym}
use Rattle.nodes.specs.declared.edge.Edge.{Edge}
use Rattle.nodes.specs.declared.node.Node.{Node}
use Rattle.nodes.specs.declared.remembered.Key.{Key}
use Rattle.nodes.specs.declared.remembered.Remembered.{Remembered}
use Rattle.model.specs.Scenes.{Shape}
use Rattle.memo.specs.Results.{Recalled, Right, Knows}

pub recalled_right : {nodes : List (Option Node)} {shape : Shape} {memo : List (Option Remembered)} {key : Key} {e : Edge} → Knows nodes shape memo → Recalled memo key e → Right nodes shape key e
recalled_right {nodes} {shape} k r =
    let p = r.like in
    let q = sym r.is in
    coe 0 1 (i. Right nodes shape (p i) (q i)) (k.all r.place r.entry r.here)
