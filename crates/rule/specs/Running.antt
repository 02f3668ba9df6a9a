-- Lists of calls on a shelf: what is on the pegs after them, and which of them overfills it. Assumes nothing.
use Rattle.std.specs.Prelude.{◌≡◌, ◌<◌, true, false, cond, ◌⊎◌, List, [], ◌∷◌, ◌++◌, Some, None, Ok, Err, Option}
use Rattle.model.specs.Lists.{In}
use Rattle.model.specs.Refusals.{Check}
use Rattle.model.specs.Scenes.{Shape}
use Rattle.model.specs.Shelves.{Pegs, Meaning, Call, target, after, with_pegs, overfills, call_checks, does}
use Rattle.rule.specs.Steps.{Step, calls}

-- the pegs after the calls, capacity apart
abbrev pub ran : Shape → Pegs → List Call → Pegs
ran ns ps [] = ps
ran ns ps (c ∷ cs) = ran ns (after ns ps c) cs

abbrev pub after_steps : Meaning → List Step → Meaning
after_steps m xs = with_pegs m (ran m.shape m.pegs (calls xs))

-- the first step whose chart overfills the shelf, if there is one
abbrev pub first_overfilling : Meaning → List Step → Option Step
first_overfilling m [] = None
first_overfilling m (x ∷ xs) =
    cond (overfills m x.call) (Some x) (first_overfilling (with_pegs m (after m.shape m.pegs x.call)) xs)

-- no step overfills the shelf, as those before it leave it
abbrev pub Fits : Meaning → List Step → Type 0
Fits m xs = (done left : List Step) (x : Step) → xs ≡ done ++ (x ∷ left) → overfills (after_steps m done) x.call ≡ false

-- x is the first step that does
pub record First (m : Meaning) (xs : List Step) (x : Step) : Type 0 where
  pub done : List Step
  pub left : List Step
  pub split : xs ≡ done ++ (x ∷ left)
  pub fits : Fits m done
  pub overfilling : overfills (after_steps m done) x.call ≡ true

abbrev pub Told : Meaning → List Step → Option Step → Type 0
Told m xs None = Fits m xs
Told m xs (Some x) = First m xs x

abbrev pub OverfillingTold : Type 0
OverfillingTold = (m : Meaning) (xs : List Step) → Told m xs (first_overfilling m xs)

-- of all refusals of the call none but "no room" can hold, and it hangs its chart on one of pegs 0 to 4
pub record OnlyRoom (m : Meaning) (c : Call) : Type 0 where
  pub others : (k : Check) → In k (call_checks m c) → (k.number ≡ 18) ⊎ (k.holds ≡ false)
  pub answers : does m c ≡ cond (overfills m c) (Err 18) (Ok tt)
  pub low : target c < 5

-- so it is with each of the calls, as the ones before it leave the shelf
abbrev pub OnlyRoomIn : Meaning → List Call → Type 0
OnlyRoomIn m [] = Unit {0}
OnlyRoomIn m (c ∷ cs) = OnlyRoom m c × OnlyRoomIn (with_pegs m (after m.shape m.pegs c)) cs
