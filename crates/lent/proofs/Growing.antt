-- Slots of nodes that grow kid by kid. Assumes nothing.
use Rattle.std.proofs.Common.{◌≡◌, ℕ, ◌+◌, ◌*◌, ◌<◌, ◌≤◌, false, List, length, get_or, drop, set, Option, sym, ap, ◌∙◌, subst}
use Rattle.nodes.specs.declared.edge.Edge.{Edge}
use Rattle.nodes.specs.declared.node.Node.{Node}
use Rattle.model.specs.Charts.{Chart, late}
use Rattle.model.specs.Lists.{some}
use Rattle.model.specs.Scenes.{Shape, size}
use Rattle.store.specs.Fillings.{Stuck}
use Rattle.build.specs.Builds.{Ready, Kids, Makeable, Grows, Built, Stands, Partway, together, piece}
use Rattle.build.proofs.Steps.{grows_then, partway_grows, partway_stuck, partway_more, partway_kids, partway_all}

-- slots that have grown are such that an operation may start
pub ready_after : {old new : List (Option Node)} {shape : Shape} {l : ℕ} {c : Chart} → Ready old shape → Grows old new shape l c → Ready new shape
ready_after r g = record { table = g.table; store = g.store; small = subst (λ n. n ≤ 65536) (sym g.same) r.small; some = r.some; few = r.few; short = r.short }

-- the kids of a node are built one by one, and then the node
module _ {old mid : List (Option Node)} {shape : Shape} {l : ℕ} {c : Chart} {i : ℕ} {kids : List Edge} (ready : Ready old shape) (lt : l < length shape) (way : Partway old mid shape l c i kids) where
  -- the next kid
  module _ {new : List (Option Node)} {d : Chart} (il : i < get_or shape l 0) (is : d ≡ piece shape l c i) (g : Grows mid new shape (l + 1) d) where
    here : Grows mid new shape (l + 1) (piece shape l c i)
    here = subst (Grows mid new shape (l + 1)) is g

    pub grows_next : Grows old new shape l c
    grows_next = partway_grows old mid new shape l c i kids ready.store lt il way here

    pub stuck_next : Stuck new shape (l + 1) d → Stuck new shape l c
    stuck_next s = partway_stuck old mid new shape l c i kids ready.store lt il way here (subst (Stuck new shape (l + 1)) is s)

    pub way_next : (kid : Edge) → Stands new shape (l + 1) d kid → Partway old new shape l c (i + 1) (set kids i kid)
    way_next kid s = partway_more old mid new shape l c i kids ready.store lt il way here kid (ready.few l) s.0 (s.1 ∙ is)

  -- the node
  module _ (all : i ≡ get_or shape l 0) (long : length c ≡ get_or shape l 0 * size (drop (l + 1) shape)) where
    end : Partway old mid shape l c (get_or shape l 0) kids
    end = subst (λ k. Partway old mid shape l c k kids) all way

    way_kids : Kids mid (get_or shape l 0) (drop (l + 1) shape) l kids
    way_kids = partway_kids old mid shape l c kids (ready.few l) end

    way_together : together mid shape l kids ≡ c
    way_together = partway_all old mid shape l c kids (ready.few l) end long

    pub way_makeable : some late c ≡ false → Makeable mid shape l kids
    way_makeable h = record { depth = lt; kids = way_kids; timely = ap (some late) way_together ∙ h }

    module _ (new : List (Option Node)) where
      pub grows_made : Grows mid new shape l (together mid shape l kids) → Grows old new shape l c
      grows_made g = grows_then old mid new shape l l c c ready.store (λ p h. h) way.grows (subst (Grows mid new shape l) way_together g)

      pub built_made : (r : Option Edge) → Built new shape l (together mid shape l kids) r → Built new shape l c r
      built_made r b = subst (λ (d : Chart). Built new shape l d r) way_together b
