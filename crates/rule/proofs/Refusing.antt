-- The whole rule can be refused for want of room alone. Assumes nothing.
use Rattle.std.proofs.Common.{◌≡◌, ℕ, zero, suc, ◌+◌, ◌*◌, ◌^◌, ◌≤◌, Bool, true, false, cond, List, [], ◌∷◌, ◌++◌, length, Some, None, Option, sym, refl, ap, ◌∙◌, subst, mul-le-mul_right, arith}
use Rattle.std.specs.List.{range_with_len, flat_map, AllByRecursion}
use Rattle.model.specs.Limits.{greatest_time, most_tenths, most_settings, most_devices, peg_count}
use Rattle.model.specs.Scenes.{Shape, size}
use Rattle.model.specs.Charts.{Chart, lesser, plus, zipped, dialled}
use Rattle.model.specs.Masks.{admits}
use Rattle.model.specs.Moves.{Move}
use Rattle.model.specs.Contents.{Contents}
use Rattle.model.specs.Calls.{Lawful}
use Rattle.model.specs.Shelves.{Pegs, Meaning, Call, cheaper, with_pegs}
use Rattle.theory.specs.Wellformed.{LawfulShape, LawfulSlot}
use Rattle.theory.proofs.Told.{contents_told}
use Rattle.rule.specs.Steps.{entries, admitted, copy, masked, round_0, tried, of_slot, Step, calls, marked, by_moves, round, changing}
use Rattle.rule.specs.Running.{ran, OnlyRoomIn}
use Rattle.rule.specs.Rule.{count, start, so_far, rule}
use Rattle.rule.specs.Bridge.{RuleOnlyRoom}
use Rattle.rule.proofs.Blocks.{ran_append}
use Rattle.rule.proofs.Rounds.{calls_append, calls_marked}
use Rattle.rule.proofs.Counts.{rounds_counted}
use Rattle.rule.proofs.Whole.{five}
use Rattle.rule.proofs.Bounds.{Upto, Most, most_more, most_cheaper, most_sum, sum_not_late, size_most}
use Rattle.rule.proofs.Rooms.{cheapens, sums, only_append, only_at, upper_kept}
use Rattle.rule.proofs.Unrefused.{rest_unrefused, dials_small, dialled_small}

upto_admitted : (mask x : ℕ) → Upto 0 (admitted mask x)
upto_admitted mask x = go (admits mask x)
  where
    go : (t : Bool) → Upto 0 (cond t (Some 0) None)
    go true = omega arith
    go false = tt

calls_block : (r : ℕ) (o : Option ℕ) (cs : List Call) (ys : List Step) → cs ++ calls ys ≡ calls (marked r o cs ++ ys)
calls_block r o cs ys = sym (calls_append (marked r o cs) ys ∙ ap (λ ds. ds ++ calls ys) (calls_marked r o cs))

module _ (m : Meaning) (shape : LawfulShape m.shape) (rest : Pegs) where
  -- peg 0 has the chart p, peg 1 one of times up to u
  pub record Two (ps : Pegs) (p : Chart) (u : ℕ) : Type 0 where
    pub chart : Chart
    pub two : Option Chart
    pub three : Option Chart
    pub four : Option Chart
    pub most : Most u chart
    pub is : ps ≡ Some p ∷ Some chart ∷ two ∷ three ∷ four ∷ rest

  pub record LeavesTwo (ps : Pegs) (cs : List Call) (p : Chart) (u : ℕ) : Type 0 where
    pub only_room : OnlyRoomIn (with_pegs m ps) cs
    pub two : Two (ran m.shape ps cs) p u

  then_two : (ps : Pegs) (cs ds : List Call) (p : Chart) (u : ℕ) → LeavesTwo ps cs p u →
      ((q : Chart) → Most u q → (c d e : Option Chart) → LeavesTwo (Some p ∷ Some q ∷ c ∷ d ∷ e ∷ rest) ds p u) → LeavesTwo ps (cs ++ ds) p u
  then_two ps cs ds p u g f =
      let n = g.two in
      let more = f n.chart n.most n.two n.three n.four in
      record {
        only_room = only_append (with_pegs m ps) cs ds g.only_room (subst (λ qs. OnlyRoomIn (with_pegs m qs) ds) (sym n.is) more.only_room);
        two = subst (λ qs. Two qs p u) (sym (ran_append m.shape ps cs ds ∙ ap (λ qs. ran m.shape qs ds) n.is)) more.two;
      }

  -- one slot: from times up to k on peg 0, those on peg 1 stay up to k and a move's time
  slot_leaves : (o : Option Move) → LawfulSlot m.shape o → (p : Chart) (k : ℕ) → k + most_tenths ≤ greatest_time → Most k p → (q : Chart) → Most (k + most_tenths) q → (c d e : Option Chart) →
      LeavesTwo (Some p ∷ Some q ∷ c ∷ d ∷ e ∷ rest) (of_slot o) p (k + most_tenths)
  slot_leaves None law p k small few q most c d e = record { only_room = tt; two = record { chart = q; two = c; three = d; four = e; most = most; is = refl } }
  slot_leaves (Some v) law p k small few q most c d e =
      let ps : Pegs = Some p ∷ Some q ∷ c ∷ d ∷ e ∷ rest in
      let s = rest_unrefused m (Some p) (Some q) rest v law shape.some k small (zipped lesser p p) (most_cheaper k p p few few) d e in
      let n = s.kept in
      let qs : Pegs = Some p ∷ Some q ∷ Some n.chart ∷ n.three ∷ n.four ∷ rest in
      let last : OnlyRoomIn (with_pegs m qs) (cheaper 1 1 2 ∷ []) = (cheapens (with_pegs m qs) 1 1 2 refl (omega arith) refl, tt) in
      record {
        only_room = only_append (with_pegs m ps) (tried v) (cheaper 1 1 2 ∷ [])
            (cheapens (with_pegs m ps) 2 0 0 refl (omega arith) refl, s.only_room)
            (subst (λ rs. OnlyRoomIn (with_pegs m rs) (cheaper 1 1 2 ∷ [])) (sym n.is) last);
        two = record {
          chart = zipped lesser q n.chart;
          two = Some n.chart;
          three = n.three;
          four = n.four;
          most = most_cheaper (k + most_tenths) q n.chart most n.most;
          is = ran_append m.shape ps (tried v) (cheaper 1 1 2 ∷ []) ∙ ap (λ rs. ran m.shape rs (cheaper 1 1 2 ∷ [])) n.is;
        };
      }

  moves_leave : (r i : ℕ) (slots : List (Option Move)) → AllByRecursion (LawfulSlot m.shape) slots → (p : Chart) (k : ℕ) → k + most_tenths ≤ greatest_time → Most k p →
      (q : Chart) → Most (k + most_tenths) q → (c d e : Option Chart) → LeavesTwo (Some p ∷ Some q ∷ c ∷ d ∷ e ∷ rest) (calls (by_moves r i slots)) p (k + most_tenths)
  moves_leave r i [] law p k small few q most c d e = record { only_room = tt; two = record { chart = q; two = c; three = d; four = e; most = most; is = refl } }
  moves_leave r i (o ∷ slots) law p k small few q most c d e =
      subst (λ cs. LeavesTwo (Some p ∷ Some q ∷ c ∷ d ∷ e ∷ rest) cs p (k + most_tenths)) (calls_block r (Some i) (of_slot o) (by_moves r (i + 1) slots))
      (then_two (Some p ∷ Some q ∷ c ∷ d ∷ e ∷ rest) (of_slot o) (calls (by_moves r (i + 1) slots)) p (k + most_tenths)
      (slot_leaves o law.0 p k small few q most c d e)
      (λ q most c d e. moves_leave r (i + 1) slots law.1 p k small few q most c d e))

  pub round_leaves : (r : ℕ) (slots : List (Option Move)) → AllByRecursion (LawfulSlot m.shape) slots → (p : Chart) (k : ℕ) → k + most_tenths ≤ greatest_time → Most k p → (b c d e : Option Chart) →
      LeavesTwo (Some p ∷ b ∷ c ∷ d ∷ e ∷ rest) (calls (round r slots)) p (k + most_tenths)
  round_leaves r slots law p k small few b c d e =
      let q = zipped lesser p p in
      let more = moves_leave r 0 slots law p k small few q (most_more k (k + most_tenths) (omega arith) q (most_cheaper k p p few few)) c d e in
      record { only_room = (cheapens (with_pegs m (Some p ∷ b ∷ c ∷ d ∷ e ∷ rest)) 1 0 0 refl (omega arith) refl, more.only_room); two = more.two }

  -- peg 0 has a chart of times up to u
  pub record One (ps : Pegs) (u : ℕ) : Type 0 where
    pub chart : Chart
    pub one : Option Chart
    pub two : Option Chart
    pub three : Option Chart
    pub four : Option Chart
    pub most : Most u chart
    pub is : ps ≡ Some chart ∷ one ∷ two ∷ three ∷ four ∷ rest

  pub record LeavesOne (ps : Pegs) (cs : List Call) (u : ℕ) : Type 0 where
    pub only_room : OnlyRoomIn (with_pegs m ps) cs
    pub one : One (ran m.shape ps cs) u

  then_one : (ps : Pegs) (cs ds : List Call) (u k : ℕ) → LeavesOne ps cs u → ((p : Chart) → Most u p → (b c d e : Option Chart) → LeavesOne (Some p ∷ b ∷ c ∷ d ∷ e ∷ rest) ds k) → LeavesOne ps (cs ++ ds) k
  then_one ps cs ds u k g f =
      let n = g.one in
      let more = f n.chart n.most n.one n.two n.three n.four in
      record {
        only_room = only_append (with_pegs m ps) cs ds g.only_room (subst (λ qs. OnlyRoomIn (with_pegs m qs) ds) (sym n.is) more.only_room);
        one = subst (λ qs. One qs k) (sym (ran_append m.shape ps cs ds ∙ ap (λ qs. ran m.shape qs ds) n.is)) more.one;
      }

  pub changing_leaves : (r : ℕ) (slots : List (Option Move)) → AllByRecursion (LawfulSlot m.shape) slots → (p : Chart) (k : ℕ) → k + most_tenths ≤ greatest_time → Most k p → (b c d e : Option Chart) →
      LeavesOne (Some p ∷ b ∷ c ∷ d ∷ e ∷ rest) (calls (changing slots r)) (k + most_tenths)
  changing_leaves r slots law p k small few b c d e =
      let ps : Pegs = Some p ∷ b ∷ c ∷ d ∷ e ∷ rest in
      let g = round_leaves r slots law p k small few b c d e in
      let n = g.two in
      let q = n.chart in
      let qs : Pegs = Some p ∷ Some q ∷ n.two ∷ n.three ∷ n.four ∷ rest in
      let last : OnlyRoomIn (with_pegs m qs) (copy 0 1 ∷ []) = (cheapens (with_pegs m qs) 0 1 1 refl (omega arith) refl, tt) in
      subst (λ cs. LeavesOne ps cs (k + most_tenths)) (sym (calls_append (round r slots) (marked r None (copy 0 1 ∷ []))))
      (record {
        only_room = only_append (with_pegs m ps) (calls (round r slots)) (copy 0 1 ∷ []) g.only_room (subst (λ rs. OnlyRoomIn (with_pegs m rs) (copy 0 1 ∷ [])) (sym n.is) last);
        one = record {
          chart = zipped lesser q q;
          one = Some q;
          two = n.two;
          three = n.three;
          four = n.four;
          most = most_cheaper (k + most_tenths) q q n.most n.most;
          is = ran_append m.shape ps (calls (round r slots)) (copy 0 1 ∷ []) ∙ ap (λ rs. ran m.shape rs (copy 0 1 ∷ [])) n.is;
        };
      })

  -- n rounds more
  pub rounds_leave : (slots : List (Option Move)) → AllByRecursion (LawfulSlot m.shape) slots → (j n : ℕ) (p : Chart) (k : ℕ) → k + n * most_tenths ≤ greatest_time → Most k p → (b c d e : Option Chart) →
      LeavesOne (Some p ∷ b ∷ c ∷ d ∷ e ∷ rest) (calls (flat_map (changing slots) (range_with_len j n))) (k + n * most_tenths)
  rounds_leave slots law j zero p k small few b c d e =
      record { only_room = tt; one = record { chart = p; one = b; two = c; three = d; four = e; most = most_more k (k + 0 * most_tenths) (omega arith) p few; is = refl } }
  rounds_leave slots law j (suc n) p k small few b c d e =
      let z : k + most_tenths + n * most_tenths ≡ k + suc n * most_tenths = omega arith in
      subst (λ cs. LeavesOne (Some p ∷ b ∷ c ∷ d ∷ e ∷ rest) cs (k + suc n * most_tenths)) (sym (calls_append (changing slots j) (flat_map (changing slots) (range_with_len (j + 1) n))))
      (then_one (Some p ∷ b ∷ c ∷ d ∷ e ∷ rest) (calls (changing slots j)) (calls (flat_map (changing slots) (range_with_len (j + 1) n))) (k + most_tenths) (k + suc n * most_tenths)
      (changing_leaves j slots law p k (omega arith) few b c d e)
      (λ p few b c d e. subst (LeavesOne (Some p ∷ b ∷ c ∷ d ∷ e ∷ rest) (calls (flat_map (changing slots) (range_with_len (j + 1) n)))) z (rounds_leave slots law (j + 1) n p (k + most_tenths) (omega arith) few b c d e)))

  masked_leaves : (v : ℕ) (ms : List ℕ) → v + length ms ≡ length m.shape → (p : Chart) → Most 0 p → (b c d e : Option Chart) → LeavesOne (Some p ∷ b ∷ c ∷ d ∷ e ∷ rest) (masked v ms) 0
  masked_leaves v [] h p few b c d e = record { only_room = tt; one = record { chart = p; one = b; two = c; three = d; four = e; most = few; is = refl } }
  masked_leaves v (mask ∷ ms) h p few b c d e =
      let x = dialled m.shape v (entries (admitted mask)) in
      let low = dialled_small m v 0 (admitted mask) (upto_admitted mask) in
      let more = masked_leaves (v + 1) ms (omega arith) (zipped plus p x) (most_sum 0 0 p x few low) b c (Some x) e in
      record {
        only_room = (
          dials_small m (Some p ∷ b ∷ c ∷ d ∷ e ∷ rest) 3 v 0 (admitted mask) refl (omega arith) (omega arith) (omega arith) (upto_admitted mask),
          (sums (with_pegs m (Some p ∷ b ∷ c ∷ Some x ∷ e ∷ rest)) 0 0 3 refl (omega arith) refl (sum_not_late 0 0 p x (omega arith) few low), more.only_room),
        );
        one = more.one;
      }

  round_0_leaves : (ms : List ℕ) → length ms ≡ length m.shape → (a b c d e : Option Chart) → LeavesOne (a ∷ b ∷ c ∷ d ∷ e ∷ rest) (round_0 ms) 0
  round_0_leaves [] h a b c d e = absurd (omega (arith, shape.some))
  round_0_leaves (mask ∷ ms) h a b c d e =
      let more = masked_leaves 1 ms (omega arith) (dialled m.shape 0 (entries (admitted mask))) (dialled_small m 0 0 (admitted mask) (upto_admitted mask)) b c d e in
      record {
        only_room = (dials_small m (a ∷ b ∷ c ∷ d ∷ e ∷ rest) 0 0 0 (admitted mask) refl (omega arith) (omega arith) (omega arith) (upto_admitted mask), more.only_room);
        one = more.one;
      }

  pub start_leaves : (slots : List (Option Move)) → AllByRecursion (LawfulSlot m.shape) slots → (masks : List ℕ) → length masks ≡ length m.shape → (n : ℕ) → 0 + n * most_tenths ≤ greatest_time →
      (a b c d e : Option Chart) → LeavesOne (a ∷ b ∷ c ∷ d ∷ e ∷ rest) (calls (start slots masks n)) (0 + n * most_tenths)
  start_leaves slots law masks h n small a b c d e =
      subst (λ cs. LeavesOne (a ∷ b ∷ c ∷ d ∷ e ∷ rest) cs (0 + n * most_tenths)) (calls_block 0 None (round_0 masks) (flat_map (changing slots) (range_with_len 1 n)))
      (then_one (a ∷ b ∷ c ∷ d ∷ e ∷ rest) (round_0 masks) (calls (flat_map (changing slots) (range_with_len 1 n))) 0 (0 + n * most_tenths)
      (round_0_leaves masks h a b c d e)
      (λ p few b c d e. rounds_leave slots law 1 n p 0 small few b c d e))

-- as many rounds as there are scenes, and one more, keep every time below the limit
small_enough : (ns : Shape) (n : ℕ) → LawfulShape ns → n ≤ size ns → n * most_tenths + most_tenths ≤ greatest_time
small_enough ns n h le =
    let most : n ≤ most_settings ^ most_devices = omega (arith, size_most ns h) in
    let product : n * most_tenths ≤ most_settings ^ most_devices * most_tenths = mul-le-mul_right most_tenths most in
    omega arith

pub so_far_unrefused : (c : Contents) → Lawful c → (m : Meaning) → m.shape ≡ c.settings → length m.pegs ≡ peg_count → (n : ℕ) → n ≤ size c.settings → OnlyRoomIn m (calls (so_far c n))
so_far_unrefused c law m same long n le =
    let told = contents_told c law in
    let shape : LawfulShape m.shape = subst LawfulShape (sym same) told.shape in
    let slots : AllByRecursion (LawfulSlot m.shape) c.slots = subst (λ ns. AllByRecursion (LawfulSlot ns) c.slots) (sym same) told.each_slot in
    let masks : length c.masks ≡ length m.shape = told.as_many_masks ∙ ap length (sym same) in
    let small : n * most_tenths + most_tenths ≤ greatest_time = small_enough c.settings n told.shape le in
    let k = five m.pegs long in
    let ps : Pegs = k.zeroth ∷ k.one ∷ k.two ∷ k.three ∷ k.four ∷ k.rest in
    let s = start_leaves m shape k.rest c.slots slots c.masks masks n (omega arith) k.zeroth k.one k.two k.three k.four in
    let h = s.one in
    let last = round_leaves m shape k.rest (n + 1) c.slots slots h.chart (0 + n * most_tenths) (omega arith) h.most h.one h.two h.three h.four in
    let all : OnlyRoomIn (with_pegs m ps) (calls (start c.slots c.masks n) ++ calls (round (n + 1) c.slots)) =
    only_append (with_pegs m ps) (calls (start c.slots c.masks n)) (calls (round (n + 1) c.slots)) s.only_room
    (subst (λ qs. OnlyRoomIn (with_pegs m qs) (calls (round (n + 1) c.slots))) (sym h.is) last.only_room) in
    subst (λ qs. OnlyRoomIn (with_pegs m qs) (calls (so_far c n))) (sym k.is)
    (subst (OnlyRoomIn (with_pegs m ps)) (sym (calls_append (start c.slots c.masks n) (round (n + 1) c.slots))) all)

pub rule_unrefused : (c : Contents) → Lawful c → (m : Meaning) → m.shape ≡ c.settings → length m.pegs ≡ peg_count → OnlyRoomIn m (calls (rule c))
rule_unrefused c law m same long = so_far_unrefused c law m same long (count c) (rounds_counted c law).few

pub rule_only_room : RuleOnlyRoom
rule_only_room c law m same long done left x e =
    let all : OnlyRoomIn m (calls (done ++ (x ∷ left))) = subst (λ xs. OnlyRoomIn m (calls xs)) e (rule_unrefused c law m same long) in
    (only_at m done left x all, upper_kept m done (x ∷ left) all)
