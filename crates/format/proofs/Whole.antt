-- Whole files: one reading, one file, and none too long. Assumes nothing.
use Rattle.std.proofs.Common.{◌≡◌, ℕ, ◌≤◌, false, not, eqb, List, [], ◌++◌, length, replicate, None, sym, ap, ◌∙◌, append-nil, arith}
use Rattle.std.specs.List.{flat_map}
use Rattle.std.proofs.lemmas.Bool.{eqb-true, not-false, or_parts, ltb-false}
use Rattle.model.specs.Limits.{outside, most_slots}
use Rattle.model.specs.Scenes.{shape_off}
use Rattle.model.specs.Contents.{Contents}
use Rattle.model.specs.Calls.{Lawful, counts_off, open_checks}
use Rattle.model.proofs.Ranks.{scene_length}
use Rattle.theory.proofs.Told.{no_refusal, contents_told}
use Rattle.format.specs.Files.{Entry, Listing, Shaped, Held, entry, body, bytes, entries, placed, listing, file}
use Rattle.format.specs.Laws.{OneReading, OneFile, EveryFile, Prefixes}
use Rattle.format.proofs.Codes.{two_prefix, pair_prefix, many, cut}
use Rattle.format.proofs.Parts.{surcharge_prefix, entry_prefix, cut_devices}
use Rattle.format.proofs.Sizes.{body_long, entries_short}
use Rattle.format.proofs.Tables.{entries_rise, placed_back}

pub prefixes : Prefixes
prefixes = record { of_two = two_prefix; of_pair = pair_prefix; of_surcharge = surcharge_prefix; of_entry = entry_prefix }

-- what two files that are the same have the same
pub record Alike (k l : Listing) : Type 0 where
  pub devices_alike : length k.settings ≡ length l.settings
  pub moves_alike : length k.moves ≡ length l.moves
  pub body_alike : body k ≡ body l

alike : (k l : Listing) → bytes k ≡ bytes l → Alike k l
alike k l e =
    let n = length k.settings in
    let m = length l.settings in
    let a : n ≡ m = cc in
    let b : length k.moves ≡ length l.moves = cc in
    let c : body k ≡ body l = cc in
    record { devices_alike = a; moves_alike = b; body_alike = c }

pub one_reading : OneReading
one_reading k l a b e =
    let h = alike k l e in
    let p = cut_devices k.settings l.settings k.names l.names (k.scene ++ (k.masks ++ flat_map entry k.moves)) (l.scene ++ (l.masks ++ flat_map entry l.moves)) h.devices_alike a.names b.names a.eight b.eight h.body_alike in
    let q = cut k.scene l.scene (k.masks ++ flat_map entry k.moves) (l.masks ++ flat_map entry l.moves) (a.scene ∙ h.devices_alike ∙ sym b.scene) p.2 in
    let r = cut k.masks l.masks (flat_map entry k.moves) (flat_map entry l.moves) (a.masks ∙ h.devices_alike ∙ sym b.masks) q.1 in
    let s = many entry entry_prefix k.moves l.moves [] [] h.moves_alike (append-nil (flat_map entry k.moves) ∙ r.1 ∙ sym (append-nil (flat_map entry l.moves))) in
    λ i. record { settings = p.0 i; names = p.1 i; scene = q.0 i; masks = r.0 i; moves = s.0 i }

-- a rig has as many names as devices, and not too many slots
pub as_many_names : (c : Contents) → Lawful c → length c.names ≡ length c.settings
as_many_names c h =
    let checks = no_refusal (open_checks c.settings c.names c.scene (length c.slots)) h.opens in
    let one : counts_off c.settings c.names c.scene ≡ false = checks.0 in
    let counts = or_parts (shape_off c.settings) _ one in
    let lists = or_parts (not (eqb (length c.names) (length c.settings))) _ counts.1 in
    eqb-true (length c.names) (length c.settings) (not-false _ lists.0)

pub few_slots : (c : Contents) → Lawful c → length c.slots ≤ most_slots
few_slots c h =
    let checks = no_refusal (open_checks c.settings c.names c.scene (length c.slots)) h.opens in
    let three : outside 1 most_slots (length c.slots) ≡ false = checks.1.1.0 in
    ltb-false most_slots (length c.slots) (or_parts _ _ three).1

pub shaped : (c : Contents) → Held c → Shaped (listing c)
shaped c h =
    let told = contents_told c h.lawful in
    record {
      names = as_many_names c h.lawful;
      eight = h.eight;
      scene = scene_length c.settings c.scene told.present;
      masks = told.as_many_masks;
      moves = entries_rise 0 c.slots;
    }

pub short : (c : Contents) → Held c → length (file c) ≤ 32274
short c h =
    let told = contents_told c h.lawful in
    let s = shaped c h in
    let a = body_long (listing c) s.names s.eight s.scene s.masks in
    let b = entries_short c.settings 0 c.slots told.each_slot in
    omega (arith, a, b, told.shape.few, few_slots c h.lawful)

pub every_file : EveryFile
every_file = record { shaped = shaped; short = short }

pub one_file : OneFile
one_file c d h k l e =
    let p = one_reading (listing c) (listing d) (shaped c h) (shaped d k) e in
    let m : entries 0 c.slots ≡ entries 0 d.slots = ap (λ (x : Listing). x.moves) p in
    let q : c.slots ≡ d.slots =
    sym (placed_back c.slots)
    ∙ ap (λ (es : List Entry). placed es (replicate (length c.slots) None)) m
    ∙ ap (λ (n : ℕ). placed (entries 0 d.slots) (replicate n None)) l
    ∙ placed_back d.slots in
    λ i. record { settings = (p i).settings; names = (p i).names; scene = (p i).scene; masks = (p i).masks; slots = q i }
