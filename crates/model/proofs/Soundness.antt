-- A sound shelf stays sound. Assumes nothing.
use Rattle.std.proofs.Common.{◌≡◌, ℕ, zero, suc, Bool, true, false, not, [], ◌∷◌, length, get_or, take, set, is_some, IfSome, Some, None, Ok, Err, Option, sym, ◌∙◌, arith, rules}
use Rattle.std.specs.List.{AllByRecursion}
use Rattle.std.proofs.lemmas.List.{length-set}
use Rattle.std.proofs.lemmas.Bool.{or_parts, leb-false}
use Rattle.model.specs.Lists.{some}
use Rattle.model.specs.Scenes.{size}
use Rattle.model.specs.Charts.{Time, Chart, lesser, greater, plus, zipped, dialled, put_chart, greatest, late}
use Rattle.model.specs.Shelves.{Meaning, Pegs, Call, dial, cheaper, sum, put, Sound, chart_of, on, bare, hung, target, after, with_pegs, call_checks, does, done, wipes, wiped}
use Rattle.model.specs.ChartLaws.{StaysSound}
use Rattle.model.proofs.Refusing.{accepted, left_ok, left_err, left_either}
use Rattle.model.proofs.Charting.{zipped_length, put_length, lengths}
use Rattle.model.proofs.Lateness.{late_tells, legal_under, latest}

-- What a call leaves

pub call_refused : (m : Meaning) (c : Call) (n : ℕ) → does m c ≡ Err n → done m c ≡ m
call_refused m c n e = left_err (does m c) n (with_pegs m (after m.shape m.pegs c)) m e

pub call_accepted : (m : Meaning) (c : Call) → does m c ≡ Ok tt → done m c ≡ with_pegs m (after m.shape m.pegs c)
call_accepted m c e = left_ok (does m c) tt (with_pegs m (after m.shape m.pegs c)) m e

-- Pegs

-- what holds of what each peg carries holds after one is hung
pub each_hung : (P : Chart → Type 0) (ps : Pegs) (t : ℕ) (o : Option Chart) → IfSome o P → ((p : ℕ) → IfSome (get_or ps p None) P) → (p : ℕ) → IfSome (get_or (set ps t o) p None) P
each_hung P [] t o h k p = k p
each_hung P (x ∷ ps) zero o h k zero = h
each_hung P (x ∷ ps) zero o h k (suc p) = k (suc p)
each_hung P (x ∷ ps) (suc t) o h k zero = k 0
each_hung P (x ∷ ps) (suc t) o h k (suc p) = each_hung P ps t o h (λ q. k (suc q)) p

-- a peg that is not bare
carries : (P : Chart → Type 0) (o : Option Chart) → not (is_some o) ≡ false → IfSome o P → P (chart_of o)
carries P None e h = absurd (let z : ◌≡◌ {A = Bool} true false = e in grind arith)
carries P (Some c) e h = h

module _ (m : Meaning) (s : Sound m) where
  pub whole_on : (p : ℕ) → bare m.pegs p ≡ false → length (on m.pegs p) ≡ size m.shape
  whole_on p e = carries (λ c. length c ≡ size m.shape) (get_or m.pegs p None) e (s.whole p)

  pub legal_on : (p : ℕ) → bare m.pegs p ≡ false → some late (on m.pegs p) ≡ false
  legal_on p e = carries (λ c. some late c ≡ false) (get_or m.pegs p None) e (s.timely p)

  pub sound_hung : (t : ℕ) (c : Chart) → length c ≡ size m.shape → some late c ≡ false → Sound (with_pegs m (set m.pegs t (Some c)))
  sound_hung t c l k = record {
    legal = s.legal;
    eight = length-set m.pegs t (Some c) ∙ s.eight;
    whole = each_hung (λ d. length d ≡ size m.shape) m.pegs t (Some c) l s.whole;
    timely = each_hung (λ d. some late d ≡ false) m.pegs t (Some c) k s.timely;
  }

  pub greatest_on : (p : ℕ) → bare m.pegs p ≡ false → late (greatest (on m.pegs p)) ≡ false
  greatest_on p e = sym (late_tells (on m.pegs p)) ∙ legal_on p e

  both_late : (a b : Time) → late a ≡ false → late b ≡ false → late (greater a b) ≡ false
  both_late None b h k = k
  both_late (Some a) None h k = h
  both_late (Some a) (Some b) h k = search rules

  -- the chart that an accepted call hangs
  hung_whole : (c : Call) → AllByRecursion (λ k. k.holds ≡ false) (call_checks m c) → length (hung m.shape m.pegs c) ≡ size m.shape
  hung_whole (dial t v es) h = lengths.dialled_length m.shape v es
  hung_whole (cheaper t a b) h =
      let both = or_parts (bare m.pegs a) (bare m.pegs b) h.1.0 in
      zipped_length lesser (on m.pegs a) (on m.pegs b) (whole_on a both.0 ∙ sym (whole_on b both.1)) ∙ whole_on a both.0
  hung_whole (sum t a b) h =
      let both = or_parts (bare m.pegs a) (bare m.pegs b) h.1.0 in
      zipped_length plus (on m.pegs a) (on m.pegs b) (whole_on a both.0 ∙ sym (whole_on b both.1)) ∙ whole_on a both.0
  hung_whole (put t a v d) h = put_length m.shape v d (on m.pegs a)

  pub hung_legal : (c : Call) → AllByRecursion (λ k. k.holds ≡ false) (call_checks m c) → some late (hung m.shape m.pegs c) ≡ false
  hung_legal (dial t v es) h =
      legal_under (dialled m.shape v es) (greatest (take (get_or m.shape v 0) es))
      (latest.of_dialled m.shape v es (leb-false (length m.shape) v h.0))
      (sym (late_tells (take (get_or m.shape v 0) es)) ∙ h.1.1.0)
  hung_legal (cheaper t a b) h =
      let both = or_parts (bare m.pegs a) (bare m.pegs b) h.1.0 in
      legal_under (zipped lesser (on m.pegs a) (on m.pegs b)) (greater (greatest (on m.pegs a)) (greatest (on m.pegs b)))
      (latest.of_cheaper (on m.pegs a) (on m.pegs b))
      (both_late (greatest (on m.pegs a)) (greatest (on m.pegs b)) (greatest_on a both.0) (greatest_on b both.1))
  hung_legal (sum t a b) h =
      legal_under (zipped plus (on m.pegs a) (on m.pegs b)) (plus (greatest (on m.pegs a)) (greatest (on m.pegs b)))
      (latest.of_sum (on m.pegs a) (on m.pegs b)) h.1.1.0
  hung_legal (put t a v d) h =
      legal_under (put_chart m.shape v d (on m.pegs a)) (greatest (on m.pegs a))
      (latest.of_put m.shape v d (on m.pegs a)) (greatest_on a h.1.1.1.0)

  pub sound_done : (c : Call) → Sound (done m c)
  sound_done c =
      left_either (does m c) (with_pegs m (after m.shape m.pegs c)) m Sound
      (λ x e. let h = accepted (call_checks m c) tt x e in sound_hung (target c) (hung m.shape m.pegs c) (hung_whole c h) (hung_legal c h))
      s

  pub sound_wiped : (p : ℕ) → Sound (wiped m p)
  sound_wiped p =
      left_either (wipes m p) (with_pegs m (set m.pegs p None)) m Sound
      (λ x e. record {
        legal = s.legal;
        eight = length-set m.pegs p None ∙ s.eight;
        whole = each_hung (λ d. length d ≡ size m.shape) m.pegs p None tt s.whole;
        timely = each_hung (λ d. some late d ≡ false) m.pegs p None tt s.timely;
      })
      s

pub stays_sound : StaysSound
stays_sound = record {
  by_call = λ m c s. sound_done m s c;
  by_wipe = λ m p s. sound_wiped m s p;
}
