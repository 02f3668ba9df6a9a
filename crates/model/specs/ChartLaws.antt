-- The laws of charts and of shelves, as statements. Assumes nothing.
use Rattle.std.specs.Prelude.{◌≡◌, ℕ, ◌+◌, ◌<◌, ◌≤◌, false, List, [], ◌∷◌, length, take, replicate, Some, None, Decides, slice_index, slice_index_or}
use Rattle.model.specs.Limits.{peg_count}
use Rattle.model.specs.Lists.{some}
use Rattle.model.specs.Scenes.{Shape, size}
use Rattle.model.specs.Charts.{Time, Chart, lesser, greater, plus, zipped, dialled, put_chart, greatest, late, same_chart}
use Rattle.model.specs.Shelves.{Meaning, Call, Sound, done, wiped, diagram_fill}

-- the lesser of two charts at each scene
pub record CheaperLaws : Type 0 where
  pub commutes : (a b : Chart) → zipped lesser a b ≡ zipped lesser b a
  pub associates : (a b c : Chart) → zipped lesser (zipped lesser a b) c ≡ zipped lesser a (zipped lesser b c)
  pub idempotent : (a : Chart) → zipped lesser a a ≡ a

-- the sum of two charts at each scene: never if either is never, and no time is lost
pub record SumLaws : Type 0 where
  pub never_left : (b : Time) → plus None b ≡ None
  pub never_right : (a : Time) → plus a None ≡ None
  pub times : (a b : ℕ) → plus (Some a) (Some b) ≡ Some (a + b)
  pub each : (a b : Chart) (k : ℕ) → k < length a → k < length b → slice_index_or (zipped plus a b) k None ≡ plus (slice_index_or a k None) (slice_index_or b k None)
  pub commutes : (a b : Chart) → zipped plus a b ≡ zipped plus b a
  pub associates : (a b c : Chart) → zipped plus (zipped plus a b) c ≡ zipped plus a (zipped plus b c)

-- a pair put twice is put once
abbrev pub PutOnce : Type 0
PutOnce = (ns : Shape) (v d : ℕ) (c : Chart) → v < length ns → d < slice_index ns v → put_chart ns v d (put_chart ns v d c) ≡ put_chart ns v d c

-- the test of sameness tells equality
abbrev pub SameIsEqual : Type 0
SameIsEqual = (a b : Chart) → Decides (same_chart a b) (a ≡ b)

-- each operation gives an entry for each scene
pub record Lengths : Type 0 where
  pub dialled_length : (ns : Shape) (v : ℕ) (es : List Time) → length (dialled ns v es) ≡ size ns
  pub zipped_length : (f : Time → Time → Time) (a b : Chart) → length a ≡ length b → length (zipped f a b) ≡ length a
  pub put_length : (ns : Shape) (v d : ℕ) (c : Chart) → length (put_chart ns v d c) ≡ size ns

-- one time is at most another; nothing is asked where there is no time
abbrev pub NoLater : Time → Time → Type 0
NoLater None b = Unit {0}
NoLater (Some a) None = ⊥
NoLater (Some a) (Some b) = a ≤ b

-- a chart's greatest time tells whether it is legal, and no operation passes what the greatest times allow
pub record Latest : Type 0 where
  pub tells : (c : Chart) → some late c ≡ late (greatest c)
  pub falls : (a b : Time) → NoLater a b → late b ≡ false → late a ≡ false
  pub of_dialled : (ns : Shape) (v : ℕ) (es : List Time) → v < length ns → NoLater (greatest (dialled ns v es)) (greatest (take (slice_index ns v) es))
  pub of_cheaper : (a b : Chart) → NoLater (greatest (zipped lesser a b)) (greater (greatest a) (greatest b))
  pub of_sum : (a b : Chart) → NoLater (greatest (zipped plus a b)) (plus (greatest a) (greatest b))
  pub of_put : (ns : Shape) (v d : ℕ) (c : Chart) → NoLater (greatest (put_chart ns v d c)) (greatest c)

-- a sound shelf stays sound: what a call hangs has an entry for each scene, and no late time
pub record StaysSound : Type 0 where
  pub by_call : (m : Meaning) (c : Call) → Sound m → Sound (done m c)
  pub by_wipe : (m : Meaning) (p : ℕ) → Sound m → Sound (wiped m p)

-- with settings 2, 3, 2 the dial of device 0 with the entries 0 and 5 has three different parts
abbrev pub ThreeParts : Type 0
ThreeParts =
    let ns : Shape = 2 ∷ 3 ∷ 2 ∷ [] in
    diagram_fill ns (replicate peg_count None) (dialled ns 0 (Some 0 ∷ Some 5 ∷ [])) ≡ 3
