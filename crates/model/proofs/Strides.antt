-- Charts by strides: a scene's place is a block, a setting of one device, and a rest. Assumes nothing.
use Rattle.std.proofs.Common.{◌≡◌, ℕ, zero, suc, ◌+◌, ◌*◌, ◌<◌, List, [], ◌∷◌, length, get_or, take, drop, set, None, sym, ap, ◌∙◌, subst, mul_assoc, add-mul, add-one, arith}
use Rattle.model.specs.Scenes.{Shape, Scene, SceneOf, size, rank}
use Rattle.model.specs.Charts.{Time, Chart, at, dialled, put_chart}
use Rattle.model.proofs.Ranks.{rank_less, rank_set, setting_less, same_charts, tabulated, tabulated_length}
use Rattle.model.proofs.Sizes.{size_split, digit_more}

-- how many scenes there are for one setting of a device, once those before it are set
abbrev pub stride : Shape → ℕ → ℕ
stride ns v = size (drop (v + 1) ns)

-- the place of a setting in a block of a chart
abbrev pub spot : Shape → ℕ → ℕ → ℕ → ℕ → ℕ
spot ns v b d r = b * (get_or ns v 0 * stride ns v) + (d * stride ns v + r)

pub record Placed (ns : Shape) (v : ℕ) (s : Scene) : Type 0 where
  pub block : ℕ
  pub rest : ℕ
  pub block_low : block < size (take v ns)
  pub rest_low : rest < stride ns v
  pub place : rank ns s ≡ spot ns v block (get_or s v 0) rest

-- one device more in front
further : (x t b w y : ℕ) → x * (t * w) + (b * w + y) ≡ (x * t + b) * w + y
further x t b w y = omega (arith, mul_assoc x t w, add-mul (x * t) b w)

pub placed_at : (ns : Shape) (v : ℕ) (s : Scene) → SceneOf ns s → v < length ns → Placed ns v s
placed_at [] v s l h = absurd (omega arith)
placed_at (n ∷ ns) v [] l h = absurd l
placed_at (n ∷ ns) zero (x ∷ xs) l h = record {
  block = 0;
  rest = rank ns xs;
  block_low = omega arith;
  rest_low = rank_less ns xs l.1;
  place = omega arith;
}
placed_at (n ∷ ns) (suc v) (x ∷ xs) l h =
    let p = placed_at ns v xs l.1 (omega arith) in
    let w = get_or ns v 0 * stride ns v in
    let next : suc v + 1 ≡ suc (v + 1) = omega arith in
    let deeper : stride (n ∷ ns) (suc v) ≡ stride ns v = ap (λ k. size (drop k (n ∷ ns))) next in
    record {
      block = x * size (take v ns) + p.block;
      rest = p.rest;
      block_low = digit_more x p.block (size (take v ns)) n l.0 p.block_low;
      rest_low = subst (λ (k : ℕ). p.rest < k) (sym deeper) p.rest_low;
      place =
          ap (λ k. x * k + rank ns xs) (size_split ns v (omega arith)) ∙ ap (λ k. x * (size (take v ns) * w) + k) p.place
          ∙ further x (size (take v ns)) p.block w (get_or xs v 0 * stride ns v + p.rest)
          ∙ ap (λ k. (x * size (take v ns) + p.block) * (get_or ns v 0 * k) + (get_or xs v 0 * k + p.rest)) (sym deeper);
    }

-- a chart with the entry of a setting at each of its places is dialled
pub dialled_by_strides : (ns : Shape) (v : ℕ) (es : List Time) (c : Chart) → v < length ns → length c ≡ size ns
    → ((b d r : ℕ) → b < size (take v ns) → d < get_or ns v 0 → r < stride ns v → get_or c (spot ns v b d r) None ≡ get_or es d None)
    → c ≡ dialled ns v es
dialled_by_strides ns v es c h whole each =
    same_charts ns c (dialled ns v es) whole (tabulated_length ns (λ s. get_or es (get_or s v 0) None)) (λ s l.
    let p = placed_at ns v s l h in
    ap (λ k. get_or c k None) p.place ∙ each p.block (get_or s v 0) p.rest p.block_low (setting_less ns s v l h) p.rest_low
    ∙ sym (tabulated ns (λ q. get_or es (get_or q v 0) None) s l))

-- a chart that has at each place what the source has at the setting is put
pub put_by_strides : (ns : Shape) (v d : ℕ) (old c : Chart) → v < length ns → length c ≡ size ns
    → ((b x r : ℕ) → b < size (take v ns) → x < get_or ns v 0 → r < stride ns v → get_or c (spot ns v b x r) None ≡ get_or old (spot ns v b d r) None)
    → c ≡ put_chart ns v d old
put_by_strides ns v d old c h whole each =
    same_charts ns c (put_chart ns v d old) whole (tabulated_length ns (λ s. at ns old (set s v d))) (λ s l.
    let p = placed_at ns v s l h in
    let moved : rank ns (set s v d) ≡ spot ns v p.block d p.rest =
    omega (arith, rank_set ns s v d l h, ap (λ k. get_or s v 0 * size (drop k ns)) (add-one v), ap (λ k. d * size (drop k ns)) (add-one v), p.place) in
    ap (λ k. get_or c k None) p.place ∙ each p.block (get_or s v 0) p.rest p.block_low (setting_less ns s v l h) p.rest_low
    ∙ ap (λ k. get_or old k None) (sym moved) ∙ sym (tabulated ns (λ q. at ns old (set q v d)) s l))
