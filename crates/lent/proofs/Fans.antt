-- A fan of charts with one entry each, kid by kid. Assumes nothing.
use Rattle.std.proofs.Common.{◌≡◌, ◌*◌, ℕ, ◌+◌, ◌-◌, ◌<◌, ◌≤◌, false, List, length, get_or, take, drop, set, None, Option, sym, zero-add, length-take, ap, ◌∙◌, subst, arith}
use Rattle.std.specs.List.{range_with_len, flat_map}
use Rattle.std.proofs.lemmas.List.{drop_more, get_or-take}
use Rattle.std.proofs.lemmas.List.FromFn.{get_or-range_with_len}
use Rattle.nodes.specs.declared.edge.Edge.{Edge}
use Rattle.nodes.specs.declared.node.Node.{Node}
use Rattle.model.specs.Charts.{Time, Chart, dialled, late}
use Rattle.model.specs.Lists.{some}
use Rattle.model.specs.Scenes.{Shape, size}
use Rattle.model.proofs.Testing.{none_at}
use Rattle.parts.proofs.Tabulated.{dialled_here}
use Rattle.store.specs.Fillings.{Stuck}
use Rattle.build.specs.Builds.{Ready, Makeable, Grows, Built, Made, Stands, Partway, together, piece}
use Rattle.build.proofs.Spreads.{piece_at, made_long}
use Rattle.dials.specs.Flats.{flat}
use Rattle.dials.proofs.Turns.{flat_long, dial_timely, fanned}
use Rattle.lent.proofs.Growing.{ready_after, grows_next, stuck_next, way_next, way_makeable, grows_made, built_made}

fan_is : (shape : Shape) (l : ℕ) (es : List Time) → l < length shape → dialled (drop l shape) 0 es ≡ flat_map (fanned shape l es) (range_with_len 0 (get_or shape l 0))
fan_is shape l es lt = ap (λ t. dialled t 0 es) (drop_more shape l 0 lt) ∙ dialled_here (get_or shape l 0) (drop (l + 1) shape) es

-- what is known while the kids of a fan are built, one for each of the device's n settings
pub record Fan (old mid : List (Option Node)) (shape : Shape) (l : ℕ) (es : List Time) (n i : ℕ) (kids : List Edge) : Type 0 where
  pub ready : Ready old shape
  pub depth : l < length shape
  pub timely : some late (take (get_or shape l 0) es) ≡ false
  pub way : Partway old mid shape l (dialled (drop l shape) 0 es) i kids
  pub count : n ≡ get_or shape l 0
  pub eight : length es ≡ 8

module _ {old mid : List (Option Node)} {shape : Shape} {l : ℕ} {es : List Time} {n i : ℕ} {kids : List Edge} (s : Fan old mid shape l es n i kids) where
  abbrev whole : Chart
  whole = dialled (drop l shape) 0 es

  abbrev next : ℕ → Chart
  next j = flat (drop (l + 1) shape) (get_or (take n es) j None)

  all_counted : length (take n es) ≡ get_or shape l 0
  all_counted = omega (arith, length-take n es, s.eight, s.count, s.ready.few l)

  pub fan_ready : Ready mid shape
  fan_ready = ready_after s.ready s.way.grows

  pub fan_timely : i < length (take n es) → late (get_or (take n es) i None) ≡ false
  fan_timely il = none_at late i (take n es) None il (ap (λ k. some late (take k es)) s.count ∙ s.timely)

  -- one kid more
  module _ (new : List (Option Node)) (il : i < length (take n es)) (g : Grows mid new shape (l + 1) (next i)) where
    within : i < get_or shape l 0
    within = omega (arith, il, all_counted)

    next_is : next i ≡ piece shape l whole i
    next_is =
        ap (flat (drop (l + 1) shape)) (get_or-take n es i None (omega (arith, within, s.count)))
        ∙ sym (ap (λ c. piece shape l c i) (fan_is shape l es s.depth) ∙ piece_at shape l i (fanned shape l es) (λ x. flat_long (drop (l + 1) shape) (get_or es x None)) within
        ∙ ap (fanned shape l es) (get_or-range_with_len 0 (get_or shape l 0) i 0 within ∙ zero-add i))

    pub fan_none : (r : Option Edge) → r ≡ None → Stuck new shape (l + 1) (next i) → Made old new shape l whole r
    fan_none r none t = record {
      grows = grows_next s.ready s.depth s.way within next_is g;
      built = subst (Built new shape l whole) (sym none) (stuck_next s.ready s.depth s.way within next_is g t);
    }

    pub fan_more : (kid : Edge) → Stands new shape (l + 1) (next i) kid → Partway old new shape l whole (i + 1) (set kids i kid)
    fan_more kid st = way_next s.ready s.depth s.way within next_is g kid st

  -- all of them
  module _ (most : i ≤ length (take n es)) (least : length (take n es) ≤ i) where
    all : i ≡ get_or shape l 0
    all = omega (arith, most, least, all_counted)

    long : length whole ≡ get_or shape l 0 * size (drop (l + 1) shape)
    long = ap length (fan_is shape l es s.depth) ∙ made_long shape l (fanned shape l es) (λ x. flat_long (drop (l + 1) shape) (get_or es x None))

    pub fan_makeable : Makeable mid shape l kids
    fan_makeable =
        let z : 0 ≡ l - l = omega arith in
        way_makeable s.ready s.depth s.way all long (ap (λ k. some late (dialled (drop l shape) k es)) z ∙ dial_timely shape l l es (omega arith) s.depth s.timely)

    pub fan_made : (new : List (Option Node)) (r : Option Edge) → Made mid new shape l (together mid shape l kids) r → Made old new shape l whole r
    fan_made new r m = record { grows = grows_made s.ready s.depth s.way all long new m.grows; built = built_made s.ready s.depth s.way all long new r m.built }
