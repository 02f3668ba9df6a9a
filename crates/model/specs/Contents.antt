-- What a rig holds. Assumes nothing.
use Rattle.std.specs.Prelude.{ℕ, List, None, Option, slice_index_or, slice_set}
use Rattle.model.specs.Scenes.{Shape, Scene}
use Rattle.model.specs.Moves.{Move}

abbrev pub Name : Type 0
Name = List ℕ

pub record Contents : Type 0 where
  pub settings : Shape
  pub names : List Name
  pub scene : Scene
  pub masks : List ℕ
  pub slots : List (Option Move)

-- what stands in slot n; None where it is vacant, or where there is no such slot
abbrev pub slot : Contents → ℕ → Option Move
slot c n = slice_index_or c.slots n None

abbrev pub with_slots : Contents → List (Option Move) → Contents
with_slots c ms = record { settings = c.settings; names = c.names; scene = c.scene; masks = c.masks; slots = ms }

abbrev pub with_slot : Contents → ℕ → Option Move → Contents
with_slot c n m = with_slots c (slice_set c.slots n m)

abbrev pub with_scene : Contents → Scene → Contents
with_scene c s = record { settings = c.settings; names = c.names; scene = s; masks = c.masks; slots = c.slots }

abbrev pub with_masks : Contents → List ℕ → Contents
with_masks c ms = record { settings = c.settings; names = c.names; scene = c.scene; masks = ms; slots = c.slots }
