-- What the pegs of a diagram shelf carry, and the charts that its meaning has there. Assumes nothing.
use Rattle.std.proofs.Common.{◌≡◌, ℕ, zero, suc, ◌<◌, true, false, not, List, [], ◌∷◌, get_or, is_some, Some, None, Option, refl, ap, ◌∙◌, subst, arith}
use Rattle.std.specs.List.{AllByRecursion}
use Rattle.nodes.specs.declared.edge.Edge.{Edge}
use Rattle.nodes.specs.declared.node.Node.{Node}
use Rattle.model.specs.Scenes.{Shape}
use Rattle.model.specs.Shelves.{on, bare, chart_of}
use Rattle.store.specs.Stores.{chart}
use Rattle.build.specs.Grew.{nodes_in, shape_in}
use Rattle.pegs.specs.Held.{peg_chart, peg_fine, pegs_of}
use Rattle.diagram.specs.declared.diagram_shelf.DiagramShelf.{DiagramShelf}
use Rattle.diagram.specs.Means.{means}
use Rattle.diagram.specs.Numbers.{Carries, hung_in}

module _ (nodes : List (Option Node)) (shape : Shape) where
  pub tells_of : (pegs : List (Option Edge)) (p : ℕ) → bare (pegs_of nodes shape pegs) p ≡ not (get_or (hung_in pegs) p false)
  tells_of [] p = refl
  tells_of (None ∷ ps) zero = refl
  tells_of (Some e ∷ ps) zero = refl
  tells_of (q ∷ ps) (suc p) = tells_of ps p

  nothing : (e : Edge) → ◌≡◌ {A = Option Edge} None (Some e) → ⊥
  nothing e h = absurd (let z : ◌≡◌ {A = ℕ} 0 1 = cc in omega arith)

  -- a peg that carries an edge
  pub hangs_of : (pegs : List (Option Edge)) (p : ℕ) (e : Edge) → get_or pegs p None ≡ Some e → get_or (hung_in pegs) p false ≡ true
  hangs_of [] p e h = absurd (nothing e h)
  hangs_of (q ∷ ps) zero e h = ap is_some h
  hangs_of (q ∷ ps) (suc p) e h = hangs_of ps p e h

  pub on_of : (pegs : List (Option Edge)) (p : ℕ) (e : Edge) → get_or pegs p None ≡ Some e → on (pegs_of nodes shape pegs) p ≡ chart nodes shape e
  on_of [] p e h = absurd (nothing e h)
  on_of (q ∷ ps) zero e h = ap (λ x. chart_of (peg_chart nodes shape x)) h
  on_of (q ∷ ps) (suc p) e h = on_of ps p e h

  pub fine_of : (pegs : List (Option Edge)) (p : ℕ) (e : Edge) → AllByRecursion (peg_fine nodes shape) pegs → get_or pegs p None ≡ Some e → peg_fine nodes shape (Some e)
  fine_of [] p e f h = absurd (nothing e h)
  fine_of (q ∷ ps) zero e f h = subst (peg_fine nodes shape) h f.0
  fine_of (q ∷ ps) (suc p) e f h = fine_of ps p e f.1 h

module _ (s : DiagramShelf) where
  abbrev nodes : List (Option Node)
  nodes = nodes_in s.charts.diagrams.store

  abbrev shape : Shape
  shape = shape_in s.charts.diagrams.store

  pub tells : (p : ℕ) → p < 8 → bare (means s).pegs p ≡ not (get_or (hung_in s.charts.pegs) p false)
  tells p h = tells_of nodes shape s.charts.pegs p

  module _ (p : ℕ) (e : Edge) (c : Carries s.charts.pegs p e) where
    pub hangs : get_or (hung_in s.charts.pegs) p false ≡ true
    hangs = hangs_of nodes shape s.charts.pegs p e c.1

    pub not_bare : bare (means s).pegs p ≡ false
    not_bare = tells p c.0 ∙ ap not hangs

    pub on_is : on (means s).pegs p ≡ chart nodes shape e
    on_is = on_of nodes shape s.charts.pegs p e c.1

    pub fine_is : peg_fine nodes shape (Some e)
    fine_is = fine_of nodes shape s.charts.pegs p e s.charts.held.fine c.1
