-- What stands before the moves of a file, part by part. Assumes nothing.
use Rattle.std.proofs.Common.{◌≡◌, ℕ, ◌+◌, ◌*◌, ◌<◌, List, ◌++◌, length, sym, ap, ◌∙◌, arith, length-append}
use Rattle.std.specs.List.{flat_map}
use Rattle.format.specs.Files.{Listing, entry}
use Rattle.format.proofs.Codes.{cut}
use Rattle.format.proofs.Parts.{cut_devices}
use Rattle.format.proofs.Sizes.{body_long}
use Rattle.framing.specs.declared.heads.Header.{Header}
use Rattle.framing.specs.Reading.{opening}
use Rattle.framing.specs.Frames.{Framed}
use Rattle.framing.proofs.Whole.{begun, short_part}
use Rattle.lists.specs.Shorts.{listed}
use Rattle.rigfile.specs.declared.front.Devices.{Devices}
use Rattle.rigfile.specs.declared.front.Front.{Front}
use Rattle.rigfile.specs.Fronts.{TakenDevices, Lists}
use Rattle.rigfile.proofs.Devised.{front_long}

module _ (h : Header) (b r : List ℕ) (front : b ≡ opening h ++ r) where
  -- a part that is missing is missing in no file
  pub short_devices : length r < 9 * h.devices → Framed b → ⊥
  short_devices lt = short_part h b r front (omega (arith, lt))

  module _ (d : Devices) (s : List ℕ) (taken : TakenDevices h.devices d r s) where
    long : length r ≡ 9 * h.devices + length s
    long = front_long (listed d.settings) (listed d.names) r s (taken.named ∙ sym taken.many) taken.eight taken.stood ∙ ap (λ (n : ℕ). 9 * n + length s) taken.many

    pub short_scene : length s < h.devices → Framed b → ⊥
    short_scene lt = short_part h b r front (omega (arith, lt, long))

    pub short_masks : (sc t : List ℕ) → length sc ≡ h.devices → s ≡ sc ++ t → length t < h.devices → Framed b → ⊥
    short_masks sc t n e lt = short_part h b r front (let l = ap length e ∙ length-append sc t in omega (arith, lt, long, l, n))

  -- the parts are those of the listing
  pub lists : (f : Front) (s t : List ℕ) → TakenDevices h.devices f.devices r s → length f.scene.now ≡ h.devices → s ≡ f.scene.now ++ t → length f.masks.now ≡ h.devices → t ≡ f.masks.now ++ f.moves.now → h.moves ≡ f.count → h.total ≡ f.total → Framed b → Lists b f
  lists f s t taken n e m g count total framed =
      let l : Listing = framed.0 in
      let z = framed.1 in
      let k = begun h l r (sym front ∙ framed.2) in
      let moves = flat_map entry l.moves in
      let p = cut_devices (listed f.devices.settings) l.settings (listed f.devices.names) l.names s (l.scene ++ (l.masks ++ moves)) (taken.many ∙ sym k.many_devices) (taken.named ∙ sym taken.many) z.names taken.eight z.eight (sym taken.stood ∙ k.rest) in
      let q = cut f.scene.now l.scene t (l.masks ++ moves) (n ∙ sym k.many_devices ∙ sym z.scene) (sym e ∙ p.2) in
      let u = cut f.masks.now l.masks f.moves.now moves (m ∙ sym k.many_devices ∙ sym z.masks) (sym g ∙ q.1) in
      let long = body_long l z.names z.eight z.scene z.masks in
      record {
        listing = l;
        shaped = z;
        made = framed.2;
        parts =
            record {
              settings = p.0;
              names = p.1;
              scene = q.0;
              masks = u.0;
              count = k.many_moves ∙ count;
              moves = u.1;
              total = omega (arith, total, k.total, long, ap length u.1);
            };
      }
