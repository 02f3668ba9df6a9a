use Rattle.hang.specs.Tasks.{made}
use Rattle.diagram.specs.Means.{means}
use Rattle.diagram.proofs.Hanging.{hung}
use Rattle.diagram.proofs.diagram_shelf.DiagramShelf.hang_task.Goals as goal

pub returns : goal.returns
returns c =
    let s = c.args.self.now in
    record { hung = rw c.ok_or.ensures.value (hung s.charts.diagrams.store c.hang.new.self.diagrams.store s.charts.pegs c.hang.new.self.pegs c.hang.ensures.kept (made (means s).shape (means s).pegs c.args.task) c.args.target.number c.hang.result c.hang.ensures.told) }
