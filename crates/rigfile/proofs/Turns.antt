-- The next item of a list, as bytes. Assumes nothing.
use Rattle.std.proofs.Common.{◌≡◌, ℕ, ◌+◌, ◌<◌, ◌≤◌, List, [], ◌∷◌, ◌++◌, map, length, get_or, drop, filter, is_some, suc, Some, None, Option, sym, refl, ap, ◌∙◌, arith, length-append}
use Rattle.std.specs.List.{flat_map, count_by, sum_by}
use Rattle.std.proofs.lemmas.Grind.{flat_map-append}
use Rattle.std.proofs.lemmas.List.{at_drop_more, at_drop_all}
use Rattle.std.proofs.lemmas.List.Sums.{length-filter}
use Rattle.std.proofs.lemmas.List.Concat.{length-flat_map}
use Rattle.moves.specs.declared.entry.Move.{Move}
use Rattle.moves.specs.Views.{slot_of}
use Rattle.format.specs.Files.{entry, entries}
use Rattle.format.proofs.Tables.{entries_first}
use Rattle.rigfile.specs.declared.writer.Writer.{Writer}
use Rattle.rigfile.specs.Writing.{Room, Puts, slot_bytes, slots_bytes}
use Rattle.rigfile.proofs.Written.{Ahead, room, turn, ended}

-- a loop puts items, as bytes of f, and stands at the i-th
module _ {X : Type 0} (f : X → List ℕ) (xs : List X) (i : ℕ) {old mid : Writer} (ahead : Ahead old (flat_map f xs) (flat_map f (drop i xs)) mid) where
  module _ (x d : X) (lt : i < length xs) (is : x ≡ get_or xs i d) where
    left : flat_map f (drop i xs) ≡ f x ++ flat_map f (drop (i + 1) xs)
    left = at_drop_more (flat_map f) xs i d lt ∙ ap (λ u. f u ++ flat_map f (drop (i + 1) xs)) (sym is)

    pub item_room : Room mid (f x)
    item_room = room (f x) (flat_map f (drop (i + 1) xs)) left ahead

    pub item_put : {new : Writer} → Puts mid (f x) new → Ahead old (flat_map f xs) (flat_map f (drop (i + 1) xs)) new
    item_put = turn (flat_map f (drop (i + 1) xs)) left ahead

  pub items_put : length xs ≤ i → Puts old (flat_map f xs) mid
  items_put end = ended (at_drop_all (flat_map f) xs i end) ahead

pub slots_left : (xs : List (Option Move)) (i : ℕ) (x d : Option Move) → i < length xs → x ≡ get_or xs i d → slots_bytes i (drop i xs) ≡ slot_bytes i x ++ slots_bytes (i + 1) (drop (i + 1) xs)
slots_left xs i x d lt is =
    at_drop_more (slots_bytes i) xs i d lt
    ∙ ap (λ (o : Option Move). slots_bytes i (o ∷ drop (i + 1) xs)) (sym is)
    ∙ ap (flat_map entry) (entries_first i (slot_of x) (map slot_of (drop (i + 1) xs)))
    ∙ flat_map-append entry (entries i (slot_of x ∷ [])) (entries (i + 1) (map slot_of (drop (i + 1) xs)))

-- a slot in use has one entry, a vacant one none
used : (n : ℕ) (slots : List (Option Move)) → length (filter is_some slots) ≡ length (entries n (map slot_of slots))
used n [] = refl
used n (None ∷ slots) = used (n + 1) slots
used n (Some m ∷ slots) = ap (λ (k : ℕ). suc k) (used (n + 1) slots)

pub as_many_used : (slots : List (Option Move)) → count_by is_some slots ≡ length (entries 0 (map slot_of slots))
as_many_used slots = sym (length-filter is_some slots) ∙ used 0 slots

-- a slot takes as many bytes whatever its number
sized : (n : ℕ) (slots : List (Option Move)) → length (flat_map (slot_bytes 0) slots) ≡ length (slots_bytes n slots)
sized n [] = refl
sized n (None ∷ slots) = sized (n + 1) slots
sized n (Some m ∷ slots) =
    let a = length-append (slot_bytes 0 (Some m)) (flat_map (slot_bytes 0) slots) in
    let b = length-append (slot_bytes n (Some m)) (slots_bytes (n + 1) slots) in
    let d = ap length (flat_map-append entry (entries n (slot_of (Some m) ∷ [])) (entries (n + 1) (map slot_of slots))) in
    omega (arith, a, b, d, sized (n + 1) slots, same_size n m)
  where
    same_size : (n : ℕ) (m : Move) → length (slot_bytes n (Some m)) ≡ length (slot_bytes 0 (Some m))
    same_size n m = refl

pub slots_size : (slots : List (Option Move)) → sum_by (λ (o : Option Move). length (slot_bytes 0 o)) slots ≡ length (slots_bytes 0 slots)
slots_size slots = sym (length-flat_map (slot_bytes 0) slots) ∙ sized 0 slots
