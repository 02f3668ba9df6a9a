-- The first refusal of a rising list is the smallest. Assumes nothing.
use Rattle.std.proofs.Common.{ℕ, ◌<◌, ◌≤◌, Bool, true, false, cond, ◌||◌, leb, List, [], ◌∷◌, ◌++◌, length, Ok, Err, Result, sym, refl, ap, ◌∙◌, subst, inl, inr, arith, lit<}
use Rattle.std.proofs.lemmas.Bool.{false≢true}
use Rattle.model.specs.Lists.{In}
use Rattle.model.specs.Refusals.{Check, refuse, answer, Above, Smallest}
use Rattle.model.specs.Calls.{open_checks, no_slot, in_use, vacant, unmet, move_checks, timing_checks, want_checks}
use Rattle.model.specs.Shelves.{Meaning, Call, call_checks, scene_checks, high, bare, does, dial, cheaper, sum, put}
use Rattle.model.specs.Smallest.{RigSmallest, ShelfSmallest}

-- every number of a list that rises above n is greater
above_in : (n : ℕ) (cs : List Check) → Above n cs → (c : Check) → In c cs → n < c.number
above_in n [] a c h = elim h [ ]
above_in n (d ∷ ds) a c (inl h) = subst (λ (x : Check). n < x.number) (sym h) a.0
above_in n (d ∷ ds) a c (inr h) = let more = above_in d.number ds a.1 c h in omega (arith, a.0, more)

module _ {T : Type 0} (x : T) where
  -- one check before others, by whether it holds
  by : (n : ℕ) (b : Bool) (cs : List Check) → Above n cs → (r : Result T ℕ) → Smallest cs r → Smallest (refuse n b ∷ cs) (cond b (Err n) r)
  by n true cs a r s = (
    (refuse n true, inl refl, refl, refl),
    λ c i h. elim i [ inl e ↦ subst (λ (k : Check). n ≤ k.number) (sym e) (omega arith) | inr j ↦ (let more = above_in n cs a c j in omega arith) ],
  )
  by n false cs a (Ok y) s = λ c i. elim i [ inl e ↦ ap (λ (k : Check). k.holds) e | inr j ↦ s c j ]
  by n false cs a (Err k) s = (
    (s.0.0, inr s.0.1, s.0.2, s.0.3),
    λ c i h. elim i [ inl e ↦ absurd (false≢true (sym (ap (λ (k : Check). k.holds) e) ∙ h)) | inr j ↦ s.1 c j h ],
  )

  pub smallest : (n : ℕ) (cs : List Check) → Above n cs → Smallest cs (answer cs x)
  smallest n [] a = λ c i. elim i [ ]
  smallest n (c ∷ cs) a = by c.number c.holds cs a.1 (answer cs x) (smallest c.number cs a.1)

pub rig_smallest : RigSmallest
rig_smallest =
    record {
      opening = λ ns names s slots. smallest tt 0 (open_checks ns names s slots) (lit< tt, (lit< tt, (lit< tt, (lit< tt, (lit< tt, tt)))));
      add = λ c n m. smallest tt 0 (no_slot c n ∷ in_use c n ∷ move_checks c.settings m) (lit< tt, (lit< tt, (lit< tt, (lit< tt, (lit< tt, (lit< tt, (lit< tt, tt)))))));
      retime = λ c n base xs. smallest tt 0 (no_slot c n ∷ vacant c n ∷ timing_checks c.settings base xs) (lit< tt, (lit< tt, (lit< tt, (lit< tt, (lit< tt, (lit< tt, (lit< tt, tt)))))));
      withdraw = λ c n. smallest tt 0 (no_slot c n ∷ vacant c n ∷ []) (lit< tt, (lit< tt, tt));
      perform = λ c n. smallest _ 0 (no_slot c n ∷ vacant c n ∷ unmet c n ∷ []) (lit< tt, (lit< tt, (lit< tt, tt)));
      want = λ c ms. smallest _ 0 (want_checks c.settings ms) (lit< tt, (lit< tt, tt));
      look = λ c v. smallest _ 0 (refuse 7 (leb (length c.settings) v) ∷ []) (lit< tt, tt);
    }

hung_smallest : (m : Meaning) (c : Call) → Smallest (call_checks m c) (does m c)
hung_smallest m (dial t v es) = smallest tt 0 (call_checks m (dial t v es)) (lit< tt, (lit< tt, (lit< tt, (lit< tt, tt))))
hung_smallest m (cheaper t a b) = smallest tt 0 (call_checks m (cheaper t a b)) (lit< tt, (lit< tt, (lit< tt, tt)))
hung_smallest m (sum t a b) = smallest tt 0 (call_checks m (sum t a b)) (lit< tt, (lit< tt, (lit< tt, (lit< tt, tt))))
hung_smallest m (put t a v d) = smallest tt 0 (call_checks m (put t a v d)) (lit< tt, (lit< tt, (lit< tt, (lit< tt, (lit< tt, tt)))))

pub shelf_smallest : ShelfSmallest
shelf_smallest =
    record {
      hang = hung_smallest;
      wipe = λ m p. smallest tt 0 (refuse 14 (high p) ∷ []) (lit< tt, tt);
      same = λ m a b. smallest _ 0 (refuse 14 (high a || high b) ∷ refuse 15 (bare m.pegs a || bare m.pegs b) ∷ []) (lit< tt, (lit< tt, tt));
      at = λ m p s. smallest _ 0 (scene_checks m.shape s ++ (refuse 14 (high p) ∷ refuse 15 (bare m.pegs p) ∷ [])) (lit< tt, (lit< tt, (lit< tt, (lit< tt, tt))));
    }
