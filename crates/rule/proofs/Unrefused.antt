-- The calls of one move can be refused for want of room alone, and keep its times small. Assumes nothing.
use Rattle.std.proofs.Common.{◌≡◌, ℕ, ◌+◌, ◌<◌, ◌≤◌, Bool, true, false, cond, eqb, List, [], ◌∷◌, ◌++◌, length, get_or, Some, None, Option, sym, refl, ap, ◌∙◌, subst, arith}
use Rattle.std.specs.List.{AllByRecursion}
use Rattle.std.proofs.lemmas.List.{append_assoc}
use Rattle.model.specs.Limits.{greatest_time, most_tenths}
use Rattle.model.specs.Lists.{total}
use Rattle.model.specs.Charts.{Time, Chart, lesser, plus, zipped, dialled, put_chart}
use Rattle.model.specs.Moves.{Pair, Surcharge, Move}
use Rattle.model.specs.Calls.{extra}
use Rattle.model.specs.Shelves.{Pegs, Meaning, Call, dial, sum, high, with_pegs}
use Rattle.theory.specs.Wellformed.{Within, LawfulSurcharge, LawfulMove}
use Rattle.rule.specs.Steps.{entries, only, dearer, effected, conditioned, based, further, tested, surcharged}
use Rattle.rule.specs.Running.{ran, OnlyRoom, OnlyRoomIn}
use Rattle.rule.proofs.Blocks.{ran_append}
use Rattle.rule.proofs.Bounds.{Upto, Most, most_more, most_entries, most_dialled, most_put, most_cheaper, most_sum, sum_not_late, entries_not_late}
use Rattle.rule.proofs.Rooms.{dials, cheapens, sums, puts, only_append}

-- What is dialled

pub upto_only : (b d x : ℕ) → Upto b (only d x)
upto_only b d x = go (eqb x d)
  where
    go : (t : Bool) → Upto b (cond t (Some 0) None)
    go true = omega arith
    go false = tt

upto_dearer : (e d x : ℕ) → Upto e (dearer e d x)
upto_dearer e d x = go (eqb x d)
  where
    go : (t : Bool) → Upto e (cond t (Some e) (Some 0))
    go true = omega arith
    go false = omega arith

module _ (m : Meaning) where
  -- a dial of small entries
  pub dials_small : (ps : Pegs) (t v e : ℕ) (f : ℕ → Time) → high t ≡ false → t < 5 → v < length m.shape → e ≤ greatest_time → ((x : ℕ) → Upto e (f x)) → OnlyRoom (with_pegs m ps) (dial t v (entries f))
  dials_small ps t v e f h low less small upto =
      dials (with_pegs m ps) t v (entries f) h low less (entries_not_late e (get_or m.shape v 0) (entries f) small (most_entries e f upto))

  pub dialled_small : (v e : ℕ) (f : ℕ → Time) → ((x : ℕ) → Upto e (f x)) → Most e (dialled m.shape v (entries f))
  dialled_small v e f upto = most_dialled e m.shape v (entries f) (most_entries e f upto)

module _ (m : Meaning) (a b : Option Chart) (rest : Pegs) where
  -- peg 2 has a chart of times up to u, pegs 3 and 4 whatever they have
  pub record Kept (ps : Pegs) (u : ℕ) : Type 0 where
    pub chart : Chart
    pub three : Option Chart
    pub four : Option Chart
    pub most : Most u chart
    pub is : ps ≡ a ∷ b ∷ Some chart ∷ three ∷ four ∷ rest

  -- calls before which peg 2 has times up to w, and after which up to u
  pub record Unrefused (x : Chart) (d e : Option Chart) (cs : List Call) (u : ℕ) : Type 0 where
    pub only_room : OnlyRoomIn (with_pegs m (a ∷ b ∷ Some x ∷ d ∷ e ∷ rest)) cs
    pub kept : Kept (ran m.shape (a ∷ b ∷ Some x ∷ d ∷ e ∷ rest) cs) u

  abbrev pub Block : List Call → ℕ → ℕ → Type 0
  Block cs w u = (x : Chart) → Most w x → (d e : Option Chart) → Unrefused x d e cs u

  nothing : (w u : ℕ) → w ≤ u → Block [] w u
  nothing w u h x most d e = record { only_room = tt; kept = record { chart = x; three = d; four = e; most = most_more w u h x most; is = refl } }

  -- one block after another
  pub then : (cs ds : List Call) (w u k : ℕ) → Block cs w u → Block ds u k → Block (cs ++ ds) w k
  then cs ds w u k f g x most d e =
      let one = f x most d e in
      let n = one.kept in
      let two = g n.chart n.most n.three n.four in
      let ps : Pegs = a ∷ b ∷ Some x ∷ d ∷ e ∷ rest in
      record {
        only_room = only_append (with_pegs m ps) cs ds one.only_room (subst (λ qs. OnlyRoomIn (with_pegs m qs) ds) (sym n.is) two.only_room);
        kept = subst (λ qs. Kept qs k) (sym (ran_append m.shape ps cs ds ∙ ap (λ qs. ran m.shape qs ds) n.is)) two.kept;
      }

  effected_unrefused : (qs : List Pair) → AllByRecursion (Within m.shape) qs → (w : ℕ) → Block (effected qs) w w
  effected_unrefused [] h w x most d e = nothing w w (omega arith) x most d e
  effected_unrefused (q ∷ qs) h w x most d e =
      let more = effected_unrefused qs h.1 w (put_chart m.shape q.device q.setting x) (most_put w m.shape q.device q.setting x most) d e in
      record { only_room = (puts (with_pegs m (a ∷ b ∷ Some x ∷ d ∷ e ∷ rest)) 2 2 q refl (omega arith) h.0 refl, more.only_room); kept = more.kept }

  -- a dial on peg 3, and its sum with peg 2
  added : (v t w : ℕ) (f : ℕ → Time) → v < length m.shape → w + t ≤ greatest_time → ((x : ℕ) → Upto t (f x)) → Block (dial 3 v (entries f) ∷ sum 2 2 3 ∷ []) w (w + t)
  added v t w f less small upto x most d e =
      let y = dialled m.shape v (entries f) in
      let few = dialled_small m v t f upto in
      record {
        only_room = (
          dials_small m (a ∷ b ∷ Some x ∷ d ∷ e ∷ rest) 3 v t f refl (omega arith) less (omega arith) upto,
          (sums (with_pegs m (a ∷ b ∷ Some x ∷ Some y ∷ e ∷ rest)) 2 2 3 refl (omega arith) refl (sum_not_late w t x y small most few), tt),
        );
        kept = record { chart = zipped plus x y; three = Some y; four = e; most = most_sum w t x y most few; is = refl };
      }

  conditioned_unrefused : (qs : List Pair) → AllByRecursion (Within m.shape) qs → (w : ℕ) → w ≤ greatest_time → Block (conditioned qs) w w
  conditioned_unrefused [] h w small = nothing w w (omega arith)
  conditioned_unrefused (q ∷ qs) h w small =
      let z : w + 0 ≡ w = omega arith in
      then (dial 3 q.device (entries (only q.setting)) ∷ sum 2 2 3 ∷ []) (conditioned qs) w w w
      (subst (Block (dial 3 q.device (entries (only q.setting)) ∷ sum 2 2 3 ∷ []) w) z (added q.device 0 w (only q.setting) h.0.0 (omega arith) (upto_only 0 q.setting)))
      (conditioned_unrefused qs h.1 w small)

  based_unrefused : (t w : ℕ) → 1 ≤ length m.shape → w + t ≤ greatest_time → Block (based t) w (w + t)
  based_unrefused t w one small = added 0 t w (λ _. Some t) (omega arith) small (λ x. omega arith)

  -- peg 2 has the chart x, peg 3 one of times up to t
  record Third (ps : Pegs) (x : Chart) (t : ℕ) : Type 0 where
    chart : Chart
    four : Option Chart
    most : Most t chart
    is : ps ≡ a ∷ b ∷ Some x ∷ Some chart ∷ four ∷ rest

  further_unrefused : (t : ℕ) (qs : List Pair) → AllByRecursion (Within m.shape) qs → t ≤ greatest_time → (x y : Chart) → Most t y → (e : Option Chart) →
      OnlyRoomIn (with_pegs m (a ∷ b ∷ Some x ∷ Some y ∷ e ∷ rest)) (further t qs) × Third (ran m.shape (a ∷ b ∷ Some x ∷ Some y ∷ e ∷ rest) (further t qs)) x t
  further_unrefused t [] h small x y most e = (tt, record { chart = y; four = e; most = most; is = refl })
  further_unrefused t (q ∷ qs) h small x y most e =
      let f = dearer t q.setting in
      let z = dialled m.shape q.device (entries f) in
      let few = dialled_small m q.device t f (upto_dearer t q.setting) in
      let more = further_unrefused t qs h.1 small x (zipped lesser y z) (most_cheaper t y z most few) (Some z) in (
        (
          dials_small m (a ∷ b ∷ Some x ∷ Some y ∷ e ∷ rest) 4 q.device t f refl (omega arith) h.0.0 small (upto_dearer t q.setting),
          (cheapens (with_pegs m (a ∷ b ∷ Some x ∷ Some y ∷ Some z ∷ rest)) 3 3 4 refl (omega arith) refl, more.0),
        ),
        more.1,
      )

  tested_unrefused : (t : ℕ) (qs : List Pair) → 1 ≤ length qs → AllByRecursion (Within m.shape) qs → t ≤ greatest_time → (x : Chart) (d e : Option Chart) →
      OnlyRoomIn (with_pegs m (a ∷ b ∷ Some x ∷ d ∷ e ∷ rest)) (tested t qs) × Third (ran m.shape (a ∷ b ∷ Some x ∷ d ∷ e ∷ rest) (tested t qs)) x t
  tested_unrefused t [] some h small x d e = absurd (omega arith)
  tested_unrefused t (q ∷ qs) some h small x d e =
      let f = dearer t q.setting in
      let more = further_unrefused t qs h.1 small x (dialled m.shape q.device (entries f)) (dialled_small m q.device t f (upto_dearer t q.setting)) e in
      ((dials_small m (a ∷ b ∷ Some x ∷ d ∷ e ∷ rest) 3 q.device t f refl (omega arith) h.0.0 small (upto_dearer t q.setting), more.0), more.1)

  -- one surcharge
  charge_unrefused : (x : Surcharge) → LawfulSurcharge m.shape x → (w : ℕ) → w + x.extra ≤ greatest_time → Block (tested x.extra x.tests ++ (sum 2 2 3 ∷ [])) w (w + x.extra)
  charge_unrefused c law w small x most d e =
      let cs = tested c.extra c.tests in
      let ps : Pegs = a ∷ b ∷ Some x ∷ d ∷ e ∷ rest in
      let n = tested_unrefused c.extra c.tests law.some_tests law.pairs.within (omega arith) x d e in
      let y = n.1.chart in
      let qs : Pegs = a ∷ b ∷ Some x ∷ Some y ∷ n.1.four ∷ rest in
      let last : OnlyRoomIn (with_pegs m qs) (sum 2 2 3 ∷ []) =
      (sums (with_pegs m qs) 2 2 3 refl (omega arith) refl (sum_not_late w c.extra x y small most n.1.most), tt) in
      record {
        only_room = only_append (with_pegs m ps) cs (sum 2 2 3 ∷ []) n.0 (subst (λ rs. OnlyRoomIn (with_pegs m rs) (sum 2 2 3 ∷ [])) (sym n.1.is) last);
        kept = record {
          chart = zipped plus x y;
          three = Some y;
          four = n.1.four;
          most = most_sum w c.extra x y most n.1.most;
          is = ran_append m.shape ps cs (sum 2 2 3 ∷ []) ∙ ap (λ rs. ran m.shape rs (sum 2 2 3 ∷ [])) n.1.is;
        };
      }

  surcharged_unrefused : (xs : List Surcharge) → AllByRecursion (LawfulSurcharge m.shape) xs → (w : ℕ) → w + total extra xs ≤ greatest_time → Block (surcharged xs) w (w + total extra xs)
  surcharged_unrefused [] h w small = nothing w (w + 0) (omega arith)
  surcharged_unrefused (x ∷ xs) h w small =
      let z : w + x.extra + total extra xs ≡ w + (x.extra + total extra xs) = omega arith in
      let assoc : (tested x.extra x.tests ++ (sum 2 2 3 ∷ [])) ++ surcharged xs ≡ surcharged (x ∷ xs) = append_assoc (tested x.extra x.tests) (sum 2 2 3 ∷ []) (surcharged xs) in
      subst (λ cs. Block cs w (w + total extra (x ∷ xs))) assoc
      (then (tested x.extra x.tests ++ (sum 2 2 3 ∷ [])) (surcharged xs) w (w + x.extra) (w + total extra (x ∷ xs))
      (charge_unrefused x h.0 w (omega arith))
      (subst (Block (surcharged xs) (w + x.extra)) z (surcharged_unrefused xs h.1 (w + x.extra) (omega arith))))

  -- all of a move's calls but the copy
  pub rest_unrefused : (v : Move) → LawfulMove m.shape v → 1 ≤ length m.shape → (w : ℕ) → w + most_tenths ≤ greatest_time →
      Block (effected v.effects ++ (conditioned v.conditions ++ (based v.base ++ surcharged v.surcharges))) w (w + most_tenths)
  rest_unrefused v law one w small =
      let top = w + v.base + total extra v.surcharges in
      let most : v.base + total extra v.surcharges ≤ most_tenths = law.most in
      let all : Block (effected v.effects ++ (conditioned v.conditions ++ (based v.base ++ surcharged v.surcharges))) w top =
      then (effected v.effects) _ w w top (effected_unrefused v.effects law.effected.within w)
      (then (conditioned v.conditions) _ w w top (conditioned_unrefused v.conditions law.conditioned.within w (omega arith))
      (then (based v.base) (surcharged v.surcharges) w (w + v.base) top (based_unrefused v.base w one (omega arith))
      (surcharged_unrefused v.surcharges law.surcharged (w + v.base) (omega arith)))) in
      λ x few d e.
      let s = all x few d e in
      let n = s.kept in
      record { only_room = s.only_room; kept = record { chart = n.chart; three = n.three; four = n.four; most = most_more top (w + most_tenths) (omega arith) n.chart n.most; is = n.is } }
