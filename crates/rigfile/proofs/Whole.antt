-- A rig's file from its parts. Assumes nothing.
use Rattle.std.proofs.Common.{◌≡◌, ℕ, ◌+◌, ◌*◌, ◌≤◌, List, ◌++◌, map, length, is_some, Option, sym, refl, ap, ◌∙◌, subst, arith}
use Rattle.std.specs.List.{flat_map, count_by, sum_by, AllByRecursion}
use Rattle.model.specs.Moves as model
use Rattle.model.specs.Contents.{Contents, Name}
use Rattle.model.specs.Calls.{Lawful}
use Rattle.moves.specs.declared.entry.Move.{Move}
use Rattle.moves.specs.Views.{slot_of}
use Rattle.format.specs.Files.{Held, Eight, header, devices, entry, entries, body, listing, file}
use Rattle.format.proofs.Sizes.{body_long}
use Rattle.format.proofs.Whole.{shaped, short}
use Rattle.rigfile.specs.declared.writer.Writer.{Writer}
use Rattle.rigfile.specs.Writing.{Room, Puts, slot_bytes, slots_bytes}
use Rattle.rigfile.proofs.Written.{Ahead, begin, room, turn}
use Rattle.rigfile.proofs.Turns.{as_many_used, slots_size}

-- the lists that a rig lends
module _ (c : Contents) (ns : List ℕ) (names : List Name) (slots : List (Option Move)) (a : ns ≡ c.settings) (b : names ≡ c.names) (e : map slot_of slots ≡ c.slots) where
  -- the file is as long as the code takes it to be, and short
  module _ (lawful : Lawful c) (eight : AllByRecursion Eight names) where
    held : Held c
    held = record { lawful = lawful; eight = subst (AllByRecursion Eight) b eight }

    file_short : length (file c) ≤ 32274
    file_short = short c held

    pub file_long : {d z : ℕ} → d ≡ 9 * length names → z ≡ sum_by (λ (o : Option Move). length (slot_bytes 0 o)) slots → 12 + d + 2 * length ns + z ≡ length (file c)
    file_long p q =
        let s = shaped c held in
        let l = body_long (listing c) s.names s.eight s.scene s.masks in
        let n = ap length a in
        let k = ap length b in
        let m = ap (λ (os : List (Option model.Move)). length (flat_map entry (entries 0 os))) e in
        omega (arith, l, n, k, m, p, q, s.names, slots_size slots)

    pub file_small : {d z : ℕ} → d ≡ 9 * length names → z ≡ sum_by (λ (o : Option Move). length (slot_bytes 0 o)) slots → 12 + d + 2 * length ns + z ≤ 32274
    file_small p q = let l = file_long p q in omega (arith, l, file_short)

  abbrev last : List ℕ
  last = slots_bytes 0 slots

  -- once the header is put, the parts behind it are ahead
  module _ {sc ms : List ℕ} {k t : ℕ} {old new : Writer} (s : sc ≡ c.scene) (m : ms ≡ c.masks) (count : k ≡ count_by is_some slots) (total : t ≡ length (file c)) (enough : Room old (file c)) (put : Puts old (header (length ns) k t) new) where
    after_header : Ahead old (file c) (devices ns names ++ (sc ++ (ms ++ last))) new
    after_header =
        let size : length (file c) ≡ 12 + length (body (listing c)) = omega arith in
        let n = count ∙ as_many_used slots ∙ ap (λ (os : List (Option model.Move)). length (entries 0 os)) e in
        let l = total ∙ size in
        let parted : header (length ns) k t ++ (devices ns names ++ (sc ++ (ms ++ last))) ≡ file c =
        λ i. header (length (a i)) (n i) (l i) ++ (devices (a i) (b i) ++ (s i ++ (m i ++ flat_map entry (entries 0 (e i))))) in
        turn (devices ns names ++ (sc ++ (ms ++ last))) (sym parted) (begin old (file c) enough) put

    pub devices_room : Room new (devices ns names)
    devices_room = room (devices ns names) (sc ++ (ms ++ last)) refl after_header

    module _ {w : Writer} (p : Puts new (devices ns names) w) where
      after_devices : Ahead old (file c) (sc ++ (ms ++ last)) w
      after_devices = turn (sc ++ (ms ++ last)) refl after_header p

      pub scene_room : Room w sc
      scene_room = room sc (ms ++ last) refl after_devices

      module _ {v : Writer} (q : Puts w sc v) where
        after_scene : Ahead old (file c) (ms ++ last) v
        after_scene = turn (ms ++ last) refl after_devices q

        pub masks_room : Room v ms
        masks_room = room ms last refl after_scene

        pub after_masks : {u : Writer} → Puts v ms u → Ahead old (file c) (slots_bytes 0 slots) u
        after_masks = turn last refl after_scene
