-- How great the times of a chart can be after a call. Assumes nothing.
use Rattle.std.proofs.Common.{◌≡◌, ℕ, zero, suc, ◌+◌, ◌^◌, ◌<◌, ◌≤◌, false, List, [], ◌∷◌, length, get_or, take, set, Some, None, refl, mul-le-mul, arith}
use native.Mathlib.Nat.{pow-succ', pow-le-pow_right}
use Rattle.std.specs.List.{range_with_len, AllByRecursion}
use Rattle.std.proofs.ByRecursion.{All-map, All-take, All-weaker}
use Rattle.std.proofs.lemmas.Bool.{le-ltb, or_from}
use Rattle.model.specs.Limits.{most_settings, most_devices, greatest_time}
use Rattle.model.specs.Lists.{some}
use Rattle.model.specs.Scenes.{Shape, Scene, scenes, size}
use Rattle.model.specs.Charts.{Time, Chart, at, lesser, greater, plus, zipped, dialled, put_chart, greatest, late}
use Rattle.theory.specs.Wellformed.{LawfulShape}
use Rattle.rule.specs.Steps.{entries}
use Rattle.rule.proofs.Tabs.{Few}

-- never, or at most b
abbrev pub Upto : ℕ → Time → Type 0
Upto b None = Unit {0}
Upto b (Some t) = t ≤ b

-- each entry of the chart is
abbrev pub Most : ℕ → List Time → Type 0
Most b = AllByRecursion (Upto b)

upto_more : (a b : ℕ) → a ≤ b → (o : Time) → Upto a o → Upto b o
upto_more a b h None u = tt
upto_more a b h (Some t) u = omega arith

pub most_more : (a b : ℕ) → a ≤ b → (c : Chart) → Most a c → Most b c
most_more a b h c = All-weaker (Upto a) (Upto b) (upto_more a b h) c

everywhere : {X : Type 0} (P : X → Type 0) → ((x : X) → P x) → (xs : List X) → AllByRecursion P xs
everywhere P h [] = tt
everywhere P h (x ∷ xs) = (h x, everywhere P h xs)

most_at : (b : ℕ) (c : List Time) (i : ℕ) → Most b c → Upto b (get_or c i None)
most_at b [] i h = tt
most_at b (x ∷ xs) zero h = h.0
most_at b (x ∷ xs) (suc i) h = most_at b xs i h.1

pub most_entries : (b : ℕ) (f : ℕ → Time) → ((x : ℕ) → Upto b (f x)) → Most b (entries f)
most_entries b f h = All-map (Upto b) f (range_with_len 0 most_settings) (everywhere (λ x. Upto b (f x)) h (range_with_len 0 most_settings))

-- What each call hangs

pub most_dialled : (b : ℕ) (ns : Shape) (v : ℕ) (es : List Time) → Most b es → Most b (dialled ns v es)
most_dialled b ns v es h =
    All-map (Upto b) (λ (s : Scene). get_or es (get_or s v 0) None) (scenes ns) (everywhere _ (λ s. most_at b es (get_or s v 0) h) (scenes ns))

pub most_put : (b : ℕ) (ns : Shape) (v d : ℕ) (c : Chart) → Most b c → Most b (put_chart ns v d c)
most_put b ns v d c h =
    All-map (Upto b) (λ (s : Scene). at ns c (set s v d)) (scenes ns) (everywhere _ (λ s. most_at b c _ h) (scenes ns))

upto_lesser : (b : ℕ) (x y : Time) → Upto b x → Upto b y → Upto b (lesser x y)
upto_lesser b None y h k = k
upto_lesser b (Some s) None h k = h
upto_lesser b (Some s) (Some t) h k = omega arith

pub most_cheaper : (b : ℕ) (x y : Chart) → Most b x → Most b y → Most b (zipped lesser x y)
most_cheaper b [] ys h k = tt
most_cheaper b (x ∷ xs) [] h k = tt
most_cheaper b (x ∷ xs) (y ∷ ys) h k = (upto_lesser b x y h.0 k.0, most_cheaper b xs ys h.1 k.1)

upto_plus : (a b : ℕ) (x y : Time) → Upto a x → Upto b y → Upto (a + b) (plus x y)
upto_plus a b None y h k = tt
upto_plus a b (Some s) None h k = tt
upto_plus a b (Some s) (Some t) h k = omega arith

pub most_sum : (a b : ℕ) (x y : Chart) → Most a x → Most b y → Most (a + b) (zipped plus x y)
most_sum a b [] ys h k = tt
most_sum a b (x ∷ xs) [] h k = tt
most_sum a b (x ∷ xs) (y ∷ ys) h k = (upto_plus a b x y h.0 k.0, most_sum a b xs ys h.1 k.1)

-- Times that are not late

upto_greater : (b : ℕ) (x y : Time) → Upto b x → Upto b y → Upto b (greater x y)
upto_greater b None y h k = k
upto_greater b (Some s) None h k = h
upto_greater b (Some s) (Some t) h k = omega arith

upto_greatest : (b : ℕ) (c : Chart) → Most b c → Upto b (greatest c)
upto_greatest b [] h = tt
upto_greatest b (x ∷ xs) h = upto_greater b x (greatest xs) h.0 (upto_greatest b xs h.1)

not_late : (b : ℕ) (o : Time) → b ≤ greatest_time → Upto b o → late o ≡ false
not_late b None h u = refl
not_late b (Some t) h u = le-ltb greatest_time t (omega arith)

pub sum_not_late : (a b : ℕ) (x y : Chart) → a + b ≤ greatest_time → Most a x → Most b y → late (plus (greatest x) (greatest y)) ≡ false
sum_not_late a b x y h p q = not_late (a + b) _ h (upto_plus a b (greatest x) (greatest y) (upto_greatest a x p) (upto_greatest b y q))

none_late : (b : ℕ) (c : List Time) → b ≤ greatest_time → Most b c → some late c ≡ false
none_late b [] h u = refl
none_late b (x ∷ xs) h u = or_from (late x) (some late xs) (not_late b x h u.0) (none_late b xs h u.1)

pub entries_not_late : (b n : ℕ) (es : List Time) → b ≤ greatest_time → Most b es → some late (take n es) ≡ false
entries_not_late b n es h u = none_late b (take n es) h (All-take (Upto b) n es u)

-- How many scenes there can be

size_power : (ns : Shape) → Few ns → size ns ≤ most_settings ^ length ns
size_power [] h = omega arith
size_power (n ∷ ns) h = omega (arith, mul-le-mul h.0 (size_power ns h.1), pow-succ' most_settings (length ns))

pub size_most : (ns : Shape) → LawfulShape ns → size ns ≤ most_settings ^ most_devices
size_most ns h =
    let some : 0 < most_settings = omega arith in
    let more : most_settings ^ length ns ≤ most_settings ^ most_devices = pow-le-pow_right some h.few in
    let less = size_power ns h.each_few in
    omega arith
