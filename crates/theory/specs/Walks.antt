-- The greedy walk: from each scene the action of the smallest number that loses no time. Assumes nothing.
use Rattle.std.specs.Prelude.{◌≡◌, ℕ, zero, suc, ◌<◌, Bool, true, false, cond, ◌⊎◌, ◌↔◌, List, [], ◌∷◌, length, take, Some, None, Option, ◌==◌, ◌≢◌, slice_index}
use Rattle.model.specs.Scenes.{Shape, Scene, SceneOf}
use Rattle.model.specs.Charts.{Time}
use Rattle.theory.specs.Actions.{Action, Table, numbered, LawfulTable, Run}
use Rattle.theory.specs.Iteration.{through, Right}

-- the same list, or a smaller number where the two first differ
abbrev pub Before : List ℕ → List ℕ → Type 0
Before [] [] = Unit {0}
Before [] (j ∷ js) = ⊥
Before (i ∷ is) [] = ⊥
Before (i ∷ is) (j ∷ js) = (i < j) ⊎ ((i ≡ j) × Before is js)

-- the lists are the same up to a place that both have, and there the first has the smaller number
pub record Smaller (is js : List ℕ) : Type 0 where
  pub place : ℕ
  pub in_first : place < length is
  pub in_second : place < length js
  pub same : take place is ≡ take place js
  pub smaller : slice_index is place < slice_index js place

abbrev pub BeforeTold : Type 0
BeforeTold = (is js : List ℕ) → Before is js ↔ ((is ≡ js) ⊎ Smaller is js)

-- a walk from s to a scene of time 0, by actions that lose no time, each of the smallest number that does not
abbrev pub Greedy : Table → (Scene → Time) → List ℕ → Scene → Type 0
Greedy acts v [] s = v s ≡ Some 0
Greedy acts v (i ∷ is) s =
    (a : Action) × (numbered acts i ≡ Some a) × (through (Some a) v s ≡ v s) × ((j : ℕ) → j < i → through (numbered acts j) v s ≢ v s) × Greedy acts v is (a.next s)

-- The same walk, computed

abbrev pub is_time : Time → ℕ → Bool
is_time None t = false
is_time (Some a) t = a == t

abbrev pub one_more : Option ℕ → Option ℕ
one_more None = None
one_more (Some i) = Some (suc i)

-- the smallest number of an action through which the time from s is t
abbrev pub first : Table → (Scene → Time) → Scene → ℕ → Option ℕ
first [] v s t = None
first (a ∷ acts) v s t = cond (is_time (through a v s) t) (Some 0) (one_more (first acts v s t))

-- o is that number
abbrev pub Found : Table → (Scene → Time) → Scene → ℕ → Option ℕ → Type 0
Found acts v s t None = (j : ℕ) → through (numbered acts j) v s ≢ Some t
Found acts v s t (Some i) = (through (numbered acts i) v s ≡ Some t) × ((j : ℕ) → j < i → through (numbered acts j) v s ≢ Some t)

abbrev pub FirstFound : Type 0
FirstFound = (acts : Table) (v : Scene → Time) (s : Scene) (t : ℕ) → Found acts v s t (first acts v s t)

-- the scene that an action leads to
abbrev pub led : Option Action → Scene → Scene
led None s = s
led (Some a) s = a.next s

abbrev pub given : Option ℕ → (ℕ → List ℕ) → List ℕ
given None f = []
given (Some x) f = f x

-- at most n actions of the walk; from a scene of time t, t of them are enough
abbrev pub walk : Table → (Scene → Time) → ℕ → Scene → List ℕ
walk acts v zero s = []
walk acts v (suc n) s = given (v s) (λ t. cond (t == 0) [] (given (first acts v s t) (λ i. i ∷ walk acts v n (led (numbered acts i) s))))

-- Where v has the least times of all runs

-- a scene has time 0 exactly if it is a goal scene
abbrev pub ZeroWanted : Type 0
ZeroWanted =
    (ns : Shape) (acts : Table) (goal : Scene → Bool) → LawfulTable ns acts → (v : Scene → Time) → Right ns acts goal v →
    (s : Scene) → SceneOf ns s → (v s ≡ Some 0) ↔ (goal s ≡ true)

-- a greedy walk from a scene of time t is a run of time t, and the first of all runs of that time
abbrev pub WalkRight : Type 0
WalkRight =
    (ns : Shape) (acts : Table) (goal : Scene → Bool) → LawfulTable ns acts → (v : Scene → Time) → Right ns acts goal v →
    (s : Scene) → SceneOf ns s → (t : ℕ) → v s ≡ Some t → (is : List ℕ) → Greedy acts v is s →
    Run acts goal is s t × ((js : List ℕ) → Run acts goal js s t → Before is js)

-- the computed walk is greedy
abbrev pub WalkFound : Type 0
WalkFound =
    (ns : Shape) (acts : Table) (goal : Scene → Bool) → LawfulTable ns acts → (v : Scene → Time) → Right ns acts goal v →
    (s : Scene) → SceneOf ns s → (t : ℕ) → v s ≡ Some t → Greedy acts v (walk acts v t s) s
