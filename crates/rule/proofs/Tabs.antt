-- Charts that functions make, and the laws of entries. Assumes nothing.
use Rattle.std.proofs.Common.{◌≡◌, ℕ, zero, suc, ◌+◌, ◌<◌, ◌≤◌, min, Bool, true, false, cond, ◌&&◌, eqb, ltb, List, [], ◌∷◌, map, length, get_or, set, Some, None, refl, ap, arith}
use Rattle.std.specs.List.{AllByRecursion}
use Rattle.std.proofs.lemmas.List.FromFn.{get_or-map-range_with_len}
use Rattle.std.proofs.lemmas.Bool.{lt-ltb, cond-true}
use Rattle.model.specs.Limits.{most_settings}
use Rattle.model.specs.Scenes.{Shape, Scene, SceneOf, scenes}
use Rattle.model.specs.Charts.{Time, lesser, plus, zipped, dialled, put_chart}
use Rattle.model.specs.Moves.{Pair, holds}
use Rattle.model.proofs.Ranks.{tabulated, tabulated_as, scene_length, set_scene}
use Rattle.theory.specs.Iteration.{later}
use Rattle.theory.specs.Wellformed.{Within}
use Rattle.rule.specs.Steps.{entries}
use Rattle.rule.specs.Bridge.{tab}

-- no device has more settings than the entries that are dialled
abbrev pub Few : Shape → Type 0
Few = AllByRecursion (λ n. n ≤ most_settings)

pub setting_few : (ns : Shape) (s : Scene) (v : ℕ) → Few ns → SceneOf ns s → get_or s v 0 < most_settings
setting_few [] [] v e l = omega arith
setting_few [] (x ∷ xs) v e l = absurd l
setting_few (n ∷ ns) [] v e l = absurd l
setting_few (n ∷ ns) (x ∷ xs) zero e l = omega (arith, e.0, l.0)
setting_few (n ∷ ns) (x ∷ xs) (suc v) e l = setting_few ns xs v e.1 l.1

-- in a scene of the shape a pair of the shape holds by its setting alone
pub holds_is : (ns : Shape) (p : Pair) (s : Scene) → Within ns p → SceneOf ns s → holds s p ≡ eqb (get_or s p.device 0) p.setting
holds_is ns p s h l = cond-true (ltb p.device (length s)) _ _ (lt-ltb p.device (length s) (omega (arith, h.0, scene_length ns s l)))

-- charts are equal that agree at each scene
pub tab_as : (ns : Shape) (f g : Scene → Time) → ((s : Scene) → SceneOf ns s → f s ≡ g s) → tab ns f ≡ tab ns g
tab_as = tabulated_as

zipped_map : (f : Time → Time → Time) (g h : Scene → Time) (xs : List Scene) → zipped f (map g xs) (map h xs) ≡ map (λ x. f (g x) (h x)) xs
zipped_map f g h [] = refl
zipped_map f g h (x ∷ xs) = ap (λ ys. f (g x) (h x) ∷ ys) (zipped_map f g h xs)

pub tab_zipped : (ns : Shape) (f : Time → Time → Time) (g h : Scene → Time) → zipped f (tab ns g) (tab ns h) ≡ tab ns (λ s. f (g s) (h s))
tab_zipped ns f g h = zipped_map f g h (scenes ns)

pub tab_dialled : (ns : Shape) → Few ns → (v : ℕ) (f : ℕ → Time) → dialled ns v (entries f) ≡ tab ns (λ s. f (get_or s v 0))
tab_dialled ns e v f = tab_as ns _ _ (λ s l. get_or-map-range_with_len f 0 most_settings (get_or s v 0) (get_or s v 0) None (setting_few ns s v e l) (omega arith))

pub tab_put : (ns : Shape) (v d : ℕ) → v < length ns → d < get_or ns v 0 → (f : Scene → Time) → put_chart ns v d (tab ns f) ≡ tab ns (λ s. f (set s v d))
tab_put ns v d h k f = tab_as ns _ _ (λ s l. tabulated ns f (set s v d) (set_scene ns s v d l h k))

-- Entries

pub lesser_same : (o : Time) → lesser o o ≡ o
lesser_same None = refl
lesser_same (Some a) = let e : min a a ≡ a = omega arith in ap Some e

pub lesser_never : (o : Time) → lesser o None ≡ o
lesser_never None = refl
lesser_never (Some a) = refl

pub plus_only : (o : Time) (b : Bool) → plus o (cond b (Some 0) None) ≡ cond b o None
plus_only None true = refl
plus_only None false = refl
plus_only (Some a) true = let e : a + 0 ≡ a = omega arith in ap Some e
plus_only (Some a) false = refl

pub plus_later : (o : Time) (t : ℕ) → plus o (Some t) ≡ later t o
plus_later None t = refl
plus_later (Some a) t = let e : a + t ≡ t + a = omega arith in ap Some e

pub later_zero : (o : Time) → later 0 o ≡ o
later_zero None = refl
later_zero (Some t) = let z : 0 + t ≡ t = omega arith in ap Some z

pub later_later : (t u : ℕ) (o : Time) → later t (later u o) ≡ later (u + t) o
later_later t u None = refl
later_later t u (Some a) = let e : t + (u + a) ≡ u + t + a = omega arith in ap Some e

pub later_cond : (t : ℕ) (b : Bool) (o : Time) → later t (cond b o None) ≡ cond b (later t o) None
later_cond t true o = refl
later_cond t false o = refl

-- two tests, one after the other
abbrev pub both : Bool → Bool → Bool
both a b = cond a b false

pub cond_both : (a b : Bool) (o : Time) → cond b (cond a o None) None ≡ cond (both a b) o None
cond_both true b o = refl
cond_both false true o = refl
cond_both false false o = refl

pub cond_and : (a b : Bool) (o : Time) → cond b (cond a o None) None ≡ cond (a && b) o None
cond_and true true o = refl
cond_and true false o = refl
cond_and false true o = refl
cond_and false false o = refl

pub both_true : (a : Bool) → both a true ≡ a
both_true true = refl
both_true false = refl

pub both_assoc : (a b c : Bool) → both (both a b) c ≡ both a (both b c)
both_assoc true b c = refl
both_assoc false b c = refl

pub lesser_cond : (a b : Bool) (x : ℕ) → lesser (Some (cond a x 0)) (Some (cond b x 0)) ≡ Some (cond (both a b) x 0)
lesser_cond true true x = let z : min x x ≡ x = omega arith in ap Some z
lesser_cond true false x = let z : min x 0 ≡ 0 = omega arith in ap Some z
lesser_cond false true x = let z : min 0 x ≡ 0 = omega arith in ap Some z
lesser_cond false false x = refl

pub cond_some : (b : Bool) (x : ℕ) → cond b (Some x) (Some 0) ≡ Some (cond b x 0)
cond_some true x = refl
cond_some false x = refl
