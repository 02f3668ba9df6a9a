-- Calls of which no refusal but "no room" can hold. Assumes nothing.
use Rattle.std.proofs.Common.{◌≡◌, ℕ, ◌<◌, ◌≤◌, false, ◌&&◌, ◌||◌, ltb, leb, ◌⊎◌, List, [], ◌∷◌, ◌++◌, length, get_or, take, None, Err, refl, ap, ◌∙◌, subst, inl, inr, arith}
use Rattle.std.specs.List.{AllByRecursion}
use Rattle.std.proofs.lemmas.List.{get_or-set_other}
use Rattle.std.proofs.lemmas.Bool.{lt-leb, and_right, cond-false}
use Rattle.model.specs.Lists.{In, some}
use Rattle.model.specs.Refusals.{Check, refuse, answer}
use Rattle.model.specs.Charts.{Time, plus, greatest, late}
use Rattle.model.specs.Moves.{Pair}
use Rattle.model.specs.Shelves.{Meaning, Call, dial, cheaper, sum, put, target, on, bare, high, after, with_pegs, no_room, call_checks}
use Rattle.theory.specs.Wellformed.{Within}
use Rattle.rule.specs.Steps.{Step, calls}
use Rattle.rule.specs.Running.{ran, after_steps, OnlyRoom, OnlyRoomIn}

-- where none of the checks before "no room" holds
others_told : (front : List Check) (n : Check) → n.number ≡ 18 → AllByRecursion (λ k. k.holds ≡ false) front → (k : Check) → In k (front ++ (n ∷ [])) → (k.number ≡ 18) ⊎ (k.holds ≡ false)
others_told [] n e h k (inl same) = inl (ap (λ (x : Check). x.number) same ∙ e)
others_told [] n e h k (inr none) = absurd none
others_told (x ∷ xs) n e h k (inl same) = inr (ap (λ (y : Check). y.holds) same ∙ h.0)
others_told (x ∷ xs) n e h k (inr more) = others_told xs n e h.1 k more

answer_last : (front : List Check) (n : Check) → AllByRecursion (λ k. k.holds ≡ false) front → answer {T = Unit {0}} (front ++ (n ∷ [])) tt ≡ answer (n ∷ []) tt
answer_last [] n h = refl
answer_last (x ∷ xs) n h = cond-false x.holds (Err x.number) (answer (xs ++ (n ∷ [])) tt) h.0 ∙ answer_last xs n h.1

only : (m : Meaning) (c : Call) (front : List Check) → call_checks m c ≡ front ++ (no_room m c ∷ []) → AllByRecursion (λ k. k.holds ≡ false) front → target c < 5 → OnlyRoom m c
only m c front e h low = record {
  others = λ k here. others_told front (no_room m c) refl h k (subst (In k) e here);
  answers = ap (λ ks. answer ks tt) e ∙ answer_last front (no_room m c) h;
  low = low;
}

-- Each call

pub dials : (m : Meaning) (t v : ℕ) (es : List Time) → high t ≡ false → t < 5 → v < length m.shape → some late (take (get_or m.shape v 0) es) ≡ false → OnlyRoom m (dial t v es)
dials m t v es h low less early =
    only m (dial t v es) (refuse 7 (leb (length m.shape) v) ∷ refuse 14 (high t) ∷ refuse 16 (some late (take (get_or m.shape v 0) es)) ∷ []) refl
    (lt-leb (length m.shape) v less, (h, (early, tt))) low

pub cheapens : (m : Meaning) (t a b : ℕ) → (high t || (high a || high b)) ≡ false → t < 5 → (bare m.pegs a || bare m.pegs b) ≡ false → OnlyRoom m (cheaper t a b)
cheapens m t a b h low hung =
    only m (cheaper t a b) (refuse 14 (high t || (high a || high b)) ∷ refuse 15 (bare m.pegs a || bare m.pegs b) ∷ []) refl (h, (hung, tt)) low

pub sums : (m : Meaning) (t a b : ℕ) → (high t || (high a || high b)) ≡ false → t < 5 → (bare m.pegs a || bare m.pegs b) ≡ false → late (plus (greatest (on m.pegs a)) (greatest (on m.pegs b))) ≡ false →
    OnlyRoom m (sum t a b)
sums m t a b h low hung early =
    only m (sum t a b)
    (refuse 14 (high t || (high a || high b)) ∷ refuse 15 (bare m.pegs a || bare m.pegs b) ∷ refuse 16 (late (plus (greatest (on m.pegs a)) (greatest (on m.pegs b)))) ∷ []) refl
    (h, (hung, (early, tt))) low

pub puts : (m : Meaning) (t a : ℕ) (q : Pair) → (high t || high a) ≡ false → t < 5 → Within m.shape q → bare m.pegs a ≡ false → OnlyRoom m (put t a q.device q.setting)
puts m t a q h low within hung =
    only m (put t a q.device q.setting)
    (
    refuse 7 (leb (length m.shape) q.device) ∷ refuse 8 (ltb q.device (length m.shape) && leb (get_or m.shape q.device 0) q.setting)
    ∷ refuse 14 (high t || high a) ∷ refuse 15 (bare m.pegs a) ∷ []
    ) refl (
      lt-leb (length m.shape) q.device within.0,
      (
        and_right (ltb q.device (length m.shape)) (leb (get_or m.shape q.device 0) q.setting) (lt-leb (get_or m.shape q.device 0) q.setting within.1),
        (h, (hung, tt)),
      ),
    ) low

-- Lists of calls

pub only_append : (m : Meaning) (cs ds : List Call) → OnlyRoomIn m cs → OnlyRoomIn (with_pegs m (ran m.shape m.pegs cs)) ds → OnlyRoomIn m (cs ++ ds)
only_append m [] ds h k = k
only_append m (c ∷ cs) ds h k = (h.0, only_append (with_pegs m (after m.shape m.pegs c)) cs ds h.1 k)

-- at a step, after those before it
pub only_at : (m : Meaning) (done left : List Step) (x : Step) → OnlyRoomIn m (calls (done ++ (x ∷ left))) → OnlyRoom (after_steps m done) x.call
only_at m [] left x h = h.0
only_at m (y ∷ done) left x h = only_at (with_pegs m (after m.shape m.pegs y.call)) done left x h.1

-- pegs from 5 on stay
pub upper_kept : (m : Meaning) (done left : List Step) → OnlyRoomIn m (calls (done ++ left)) → (p : ℕ) → 5 ≤ p → get_or (after_steps m done).pegs p None ≡ get_or m.pegs p None
upper_kept m [] left h p le = refl
upper_kept m (y ∷ done) left h p le =
    let low : target y.call < 5 = h.0.low in
    upper_kept (with_pegs m (after m.shape m.pegs y.call)) done left h.1 p le
    ∙ get_or-set_other m.pegs (target y.call) p _ None (λ e. omega arith)
