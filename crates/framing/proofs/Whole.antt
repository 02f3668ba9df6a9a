-- Whole files. Assumes nothing.
use Rattle.std.proofs.Common.{◌≡◌, ℕ, ◌+◌, ◌*◌, ◌<◌, Bool, true, false, eqb, List, [], ◌∷◌, ◌++◌, length, take, drop, MatchOption, sym, ap, ◌∙◌, append_assoc, append-nil, arith, length-append, take-append-drop}
use Rattle.std.specs.List.{flat_map}
use Rattle.std.proofs.lemmas.List.{length-take-le, length-drop, nil_from_length}
use Rattle.std.proofs.lemmas.Bool.{eqb-true, eqb-false}
use Rattle.format.specs.Bytes.{two}
use Rattle.format.specs.Files.{Entry, Listing, entry, devices, body, header, bytes}
use Rattle.format.proofs.Codes.{two_prefix, many, cut}
use Rattle.format.proofs.Parts.{entry_prefix}
use Rattle.format.proofs.Sizes.{body_long, devices_long}
use Rattle.framing.specs.declared.heads.Header.{Header}
use Rattle.framing.specs.Reading.{Any, Lacks, Moves, opening}
use Rattle.framing.specs.Frames.{Plain, Framed}
use Rattle.framing.proofs.Tests.{passed}
use Rattle.framing.proofs.Pieces.{devised}

-- what a header that begins a file of l says
pub record Begun (h : Header) (l : Listing) (r : List ℕ) : Type 0 where
  pub version : h.version ≡ 1
  pub many_devices : length l.settings ≡ h.devices
  pub many_moves : length l.moves ≡ h.moves
  pub zero : h.zero ≡ 0
  pub first : h.first ≡ 12
  pub second : h.second ≡ 12 + 9 * length l.settings
  pub third : h.third ≡ 12 + 11 * length l.settings
  pub total : h.total ≡ 12 + length (body l)
  pub rest : r ≡ body l

pub begun : (h : Header) (l : Listing) (r : List ℕ) → opening h ++ r ≡ bytes l → Begun h l r
begun h l r e =
    let n = length l.settings in
    let b₄ = body l in
    let b₃ = two (12 + length (body l)) ++ b₄ in
    let b₂ = two (12 + 11 * n) ++ b₃ in
    let b₁ = two (12 + 9 * n) ++ b₂ in
    let e₁ : two h.first ++ (two h.second ++ (two h.third ++ (two h.total ++ r))) ≡ two 12 ++ b₁ = cc in
    let p₁ = two_prefix h.first 12 (two h.second ++ (two h.third ++ (two h.total ++ r))) b₁ e₁ in
    let p₂ = two_prefix h.second (12 + 9 * n) (two h.third ++ (two h.total ++ r)) b₂ p₁.1 in
    let p₃ = two_prefix h.third (12 + 11 * n) (two h.total ++ r) b₃ p₂.1 in
    let p₄ = two_prefix h.total (12 + length (body l)) r b₄ p₃.1 in
    record { version = cc; many_devices = cc; many_moves = cc; zero = cc; first = p₁.0; second = p₂.0; third = p₃.0; total = p₄.0; rest = p₄.1 }

pub no_header : (b : List ℕ) → Lacks Any opening b → Framed b → ⊥
no_header b lacks f =
    let l = f.0 in
    let n = length l.settings in
    lacks (record { version = 1; devices = n; moves = length l.moves; zero = 0; first = 12; second = 12 + 9 * n; third = 12 + 11 * n; total = 12 + length (body l) }) (body l) tt f.2

module _ (h : Header) (b r : List ℕ) (front : b ≡ opening h ++ r) where
  said : (f : Framed b) → Begun h f.0 r
  said f = begun h f.0 r (sym front ∙ f.2)

  long : (f : Framed b) → length r ≡ 11 * h.devices + length (flat_map entry f.0.moves)
  long f =
      let s = said f in
      let z = f.1 in
      omega (arith, ap length s.rest, body_long f.0 z.names z.eight z.scene z.masks, s.many_devices)

  pub short_part : length r < 11 * h.devices → Framed b → ⊥
  short_part lt f = omega (arith, long f, lt)

  module _ (xs s : List ℕ) (n : length xs ≡ 11 * h.devices) (second : r ≡ xs ++ s) where
    -- behind the devices and the scene part stand the moves
    behind_part : (f : Framed b) → s ≡ flat_map entry f.0.moves
    behind_part f =
        let l = f.0 in
        let d = devices l.settings l.names in
        let m = flat_map entry l.moves in
        let w : body l ≡ (d ++ (l.scene ++ l.masks)) ++ m = ap (λ (u : List ℕ). d ++ u) (sym (append_assoc l.scene l.masks m)) ∙ sym (append_assoc d (l.scene ++ l.masks) m) in
        let g = said f in
        let z = f.1 in
        let k : length xs ≡ length (d ++ (l.scene ++ l.masks)) =
        omega (arith, n, length-append d (l.scene ++ l.masks), length-append l.scene l.masks, devices_long l.settings l.names z.names z.eight, z.scene, z.masks, g.many_devices) in
        (cut xs (d ++ (l.scene ++ l.masks)) s m k (sym second ∙ g.rest ∙ w)).1

    pub no_moves : Lacks (Moves h.moves) (flat_map entry) s → Framed b → ⊥
    no_moves lacks f = lacks f.0.moves [] ((said f).many_moves, f.1.moves) (behind_part f ∙ sym (append-nil (flat_map entry f.0.moves)))

    module _ (es : List Entry) (rest : List ℕ) (moves : Moves h.moves es) (third : s ≡ flat_map entry es ++ rest) where
      nothing_left : Framed b → length rest ≡ 0
      nothing_left f =
          ap length (many entry entry_prefix es f.0.moves rest [] (moves.0 ∙ sym (said f).many_moves) (sym third ∙ behind_part f ∙ sym (append-nil (flat_map entry f.0.moves)))).1

      -- nothing is left: the listing
      whole : Plain h (length b) → length rest ≡ 0 → Framed b
      whole plain none =
          let k = h.devices in
          let d = devised k (take (9 * k) xs) (length-take-le (9 * k) xs (omega (arith, n))) in
          let tail = drop (9 * k) xs in
          let tl : length tail ≡ 2 * k = (let m = length-drop (9 * k) xs in omega (arith, m, n)) in
          let sc = take k tail in
          let ms = drop k tail in
          let l : Listing = record { settings = d.settings; names = d.names; scene = sc; masks = ms; moves = es } in
          let sl : length sc ≡ k = length-take-le k tail (omega (arith, tl)) in
          let ml : length ms ≡ k = (let m = length-drop k tail in omega (arith, m, tl)) in
          let part : xs ≡ devices d.settings d.names ++ (sc ++ ms) =
          sym (take-append-drop (9 * k) xs) ∙ ap (λ (u : List ℕ). u ++ tail) d.made ∙ ap (λ (u : List ℕ). devices d.settings d.names ++ u) (sym (take-append-drop k tail)) in
          let m = flat_map entry es in
          let all : r ≡ body l =
          second
          ∙ ap (λ (u : List ℕ). xs ++ u) (third ∙ ap (λ (u : List ℕ). m ++ u) (nil_from_length rest none) ∙ append-nil m)
          ∙ ap (λ (u : List ℕ). u ++ m) part
          ∙ append_assoc (devices d.settings d.names) (sc ++ ms) m
          ∙ ap (λ (u : List ℕ). devices d.settings d.names ++ u) (append_assoc sc ms m) in
          let total : h.total ≡ 12 + length (body l) = omega (arith, plain.total, ap length front, ap length all) in
          let dm = sym d.many in
          let second' : h.second ≡ 12 + 9 * length d.settings = plain.second ∙ ap (λ (q : ℕ). 12 + 9 * q) dm in
          let third' : h.third ≡ 12 + 11 * length d.settings = plain.third ∙ ap (λ (q : ℕ). 12 + 11 * q) dm in
          let mm = sym moves.0 in
          let v = plain.version in
          let z = plain.zero in
          let f = plain.first in
          let head : opening h ≡ header (length d.settings) (length es) (12 + length (body l)) =
          λ i. v i ∷ dm i ∷ mm i ∷ z i ∷ (two (f i) ++ (two (second' i) ++ (two (third' i) ++ two (total i)))) in (
            l,
            record { names = d.named ∙ dm; eight = d.eight; scene = sl ∙ dm; masks = ml ∙ dm; moves = moves.1 },
            front ∙ ap (λ (u : List ℕ). opening h ++ u) all ∙ ap (λ (u : List ℕ). u ++ body l) head,
          )

      pub ends : Plain h (length b) → (k : Bool) → k ≡ eqb (length rest) 0 → MatchOption (passed k) (Framed b → ⊥) (λ _. Framed b)
      ends plain true e = whole plain (eqb-true (length rest) 0 (sym e))
      ends plain false e = λ f. eqb-false (length rest) 0 (sym e) (nothing_left f)
