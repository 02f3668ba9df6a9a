-- A diagram shelf is sound. Assumes nothing.
use Rattle.std.specs.Prelude.{◌≡◌, ℕ, false, List, [], ◌∷◌, length, IfSome, Some, None, Option, slice_index_or}
use Rattle.std.proofs.Common.{zero, suc, refl, ◌∙◌}
use Rattle.std.specs.List.{AllByRecursion}
use lib.ListN.{length-map}
use Rattle.nodes.specs.declared.edge.Edge.{Edge}
use Rattle.nodes.specs.declared.node.Node.{Node}
use Rattle.model.specs.Charts.{Chart, late}
use Rattle.model.specs.Lists.{some}
use Rattle.model.specs.Scenes.{Shape, size}
use Rattle.model.specs.Shelves.{Sound}
use Rattle.store.specs.Stores.{chart, Fine}
use Rattle.store.proofs.Canon.{knows}
use Rattle.build.specs.Grew.{nodes_in, shape_in}
use Rattle.pegs.specs.Held.{peg_chart, peg_fine, pegs_of}
use Rattle.diagram.specs.declared.diagram_shelf.DiagramShelf.{DiagramShelf}
use Rattle.diagram.specs.Means.{means}

module _ (nodes : List (Option Node)) (shape : Shape) (P : Chart → Type 0) (here : (e : Edge) → Fine nodes shape 0 e → some late (chart nodes shape e) ≡ false → P (chart nodes shape e)) where
  on_peg : (p : Option Edge) → peg_fine nodes shape p → IfSome (peg_chart nodes shape p) P
  on_peg None f = tt
  on_peg (Some e) f = here e f.0 f.1

  on_each : (pegs : List (Option Edge)) → AllByRecursion (peg_fine nodes shape) pegs → (k : ℕ) → IfSome (slice_index_or (pegs_of nodes shape pegs) k None) P
  on_each [] f k = tt
  on_each (p ∷ ps) f zero = on_peg p f.0
  on_each (p ∷ ps) f (suc k) = on_each ps f.1 k

pub sound_of : (s : DiagramShelf) → Sound (means s)
sound_of s =
    let store = s.charts.diagrams.store in
    let nodes = nodes_in store in
    let shape = shape_in store in
    let fine = s.charts.held.fine in
    record {
      legal = s.legal;
      eight = length-map s.charts.pegs (peg_chart nodes shape) ∙ s.charts.as_many;
      whole = on_each nodes shape (λ c. length c ≡ size shape) (λ e f l. (knows nodes shape store.ready.store shape 0 e refl f).long) s.charts.pegs fine;
      timely = on_each nodes shape (λ c. some late c ≡ false) (λ e f l. l) s.charts.pegs fine;
    }
