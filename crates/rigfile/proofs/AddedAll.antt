-- Moves added to a rig one after another. Assumes nothing.
use Rattle.std.proofs.Common.{◌≡◌, ℕ, ◌+◌, ◌-◌, ◌<◌, ◌≤◌, List, [], ◌∷◌, length, drop, Some, Ok, Err, Result, sym, ap, ◌∙◌, arith, length-append}
use Rattle.std.specs.List.{flat_map}
use Rattle.std.proofs.lemmas.List.{length-drop, drop-drop}
use Rattle.model.specs.Contents.{Contents, with_slot}
use Rattle.model.specs.Calls.{adds}
use Rattle.format.specs.Files.{Entry, entry}
use Rattle.format.specs.Reading.{Untaken, unless_refused, adding}
use Rattle.rigfile.specs.declared.unread.ReadFault.{ReadFault}
use Rattle.rigfile.specs.Reading.{untaken}
use Rattle.rigfile.specs.Adding.{AddsNext}

-- i of the moves are added, and what is left of them gives the same
abbrev pub Partway : ℕ → ℕ → ℕ → ℕ → List ℕ → List ℕ → Contents → Contents → Type 0
Partway total count i first before rest c d =
    (es : List Entry) → length es ≡ count → before ≡ flat_map entry es → (rest ≡ flat_map entry (drop i es)) × (adding c first es ≡ adding d (total - length rest) (drop i es))

went_on : (r : Result (Unit {0}) ℕ) (byte : ℕ) (d w : Contents) → Ok d ≡ unless_refused r byte (Ok w) → (d ≡ w) × ((later : Result Contents Untaken) → unless_refused r byte later ≡ later)
went_on (Ok _) byte d w h = (cc, λ later. cc)
went_on (Err k) byte d w h = absurd cc

stopped : (r : Result (Unit {0}) ℕ) (byte : ℕ) (u : Untaken) (w : Contents) → Err u ≡ unless_refused r byte (Ok w) → (later : Result Contents Untaken) → Err u ≡ unless_refused r byte later
stopped (Ok _) byte u w h later = absurd cc
stopped (Err k) byte u w h later = h

module _ (total count i first : ℕ) (before rest : List ℕ) (c d : Contents) (part : Partway total count i first before rest c d) where
  -- every move is added
  pub all_added : count ≤ i → (es : List Entry) → length es ≡ count → before ≡ flat_map entry es → Ok d ≡ adding c first es
  all_added le es n e = go (drop i es) (length-drop i es) (part es n e).1
    where
      go : (ys : List Entry) → length ys ≡ length es - i → adding c first es ≡ adding d (total - length rest) ys → Ok d ≡ adding c first es
      go [] l h = sym h
      go (y ∷ ys) l h = absurd (omega arith)

  module _ (more : i < count) (after : List ℕ) (f : Contents) where
    -- one move more is added
    pub one_more : length rest ≤ total → AddsNext (total - length rest) rest d (Ok tt) after f → Partway total count (i + 1) first before after c f
    one_more within next es n e = go (drop i es) (length-drop i es) (sym (drop-drop 1 i es)) (part es n e).0 (part es n e).1
      where
        go : (ys : List Entry) → length ys ≡ length es - i → drop (i + 1) es ≡ drop 1 ys → rest ≡ flat_map entry ys → adding c first es ≡ adding d (total - length rest) ys → (after ≡ flat_map entry (drop (i + 1) es)) × (adding c first es ≡ adding f (total - length after) (drop (i + 1) es))
        go [] l q p h = absurd (omega arith)
        go (x ∷ xs) l q p h =
            let a = next x (flat_map entry xs) p in
            let byte = total - length rest in
            let w = with_slot d x.number (Some x.move) in
            let g = went_on (adds d x.number x.move) byte f w a.0 in
            let long = ap length p ∙ length-append (entry x) (flat_map entry xs) in
            let same = ap length a.1 in
            let there : byte + length (entry x) ≡ total - length after = omega (arith, long, same, within) in (
              a.1 ∙ ap (flat_map entry) (sym q),
              h
                  ∙ g.1 (adding w (byte + length (entry x)) xs)
                  ∙ ap (λ (u : Contents). adding u (byte + length (entry x)) xs) (sym g.0)
                  ∙ ap (λ (k : ℕ). adding f k xs) there
                  ∙ ap (adding f (total - length after)) (sym q),
            )

    -- or the rig refuses it
    pub refused : (fault : ReadFault) → AddsNext (total - length rest) rest d (Err fault) after f → (es : List Entry) → length es ≡ count → before ≡ flat_map entry es → Err (untaken fault) ≡ adding c first es
    refused fault next es n e = go (drop i es) (length-drop i es) (part es n e).0 (part es n e).1
      where
        go : (ys : List Entry) → length ys ≡ length es - i → rest ≡ flat_map entry ys → adding c first es ≡ adding d (total - length rest) ys → Err (untaken fault) ≡ adding c first es
        go [] l p h = absurd (omega arith)
        go (x ∷ xs) l p h =
            let a = next x (flat_map entry xs) p in
            let byte = total - length rest in
            let w = with_slot d x.number (Some x.move) in
            stopped (adds d x.number x.move) byte (untaken fault) w a.0 (adding w (byte + length (entry x)) xs) ∙ sym h
