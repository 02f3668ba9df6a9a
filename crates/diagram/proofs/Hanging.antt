-- What hanging a chart leaves of a diagram shelf. Assumes nothing.
use Rattle.std.proofs.Common.{ℕ, List, length, Some, None, Option, sym, refl}
use Rattle.std.specs.Option.{ok_or}
use Rattle.std.proofs.lemmas.Bool.{le-ltb, lt-ltb}
use Rattle.nodes.specs.declared.edge.Edge.{Edge}
use Rattle.model.specs.Charts.{Chart}
use Rattle.model.specs.Shelves.{diagram_fill}
use Rattle.build.specs.Grew.{nodes_in, shape_in}
use Rattle.build.specs.declared.node_store.NodeStore.{NodeStore}
use Rattle.pegs.specs.Held.{pegs_in, Alike}
use Rattle.hang.specs.Tasks.{Told}
use Rattle.shelf.specs.declared.fault.ShelfFault.TheVariants.{NoRoom}
use Rattle.diagram.specs.Means.{meaning_of, Hung}

module _ (old new : NodeStore) (pegs after : List (Option Edge)) (kept : Alike old new) (c : Chart) (t : ℕ) where
  pub hung : (r : Option (Unit {0})) → Told (length (nodes_in old)) (shape_in old) (pegs_in old pegs) (pegs_in new after) c t r → Hung (meaning_of old pegs) (meaning_of new after) t c (ok_or r NoRoom)
  hung (Some _) h =
      let p = sym kept.shape in
      let q = h.1 in
      (le-ltb (length (nodes_in old)) (diagram_fill (shape_in old) (pegs_in old pegs) c) h.0, λ i. record { shape = p i; capacity = kept.size i; fill = diagram_fill (p i); pegs = q i })
  hung None h =
      let p = sym kept.shape in
      let q = h.1 in
      (refl, lt-ltb (length (nodes_in old)) (diagram_fill (shape_in old) (pegs_in old pegs) c) h.0, λ i. record { shape = p i; capacity = kept.size i; fill = diagram_fill (p i); pegs = q i })
