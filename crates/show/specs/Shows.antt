-- A show: what each call answers, what it leaves, and what each plan promises. Assumes nothing.
use Rattle.std.specs.Prelude.{◌≡◌, ℕ, List, [], ◌∷◌, length, take, Some, Ok, Err, vec_items, vec_len, Option, Result, Vec}
use Rattle.std.specs.List.{slice_get}
use Rattle.std.specs.declared.alloc.Global.{Global}
use Rattle.model.specs.Scenes.{Shape, Scene}
use Rattle.model.specs.Contents.{Contents, Name}
use Rattle.model.specs.Calls.{opens, opened, adds, added, retimes, retimed, withdraws, withdrawn, performs, performed, wants, wanting}
use Rattle.model.specs.Shelves.{Meaning}
use Rattle.moves.specs.declared.fault.RigFault.{RigFault}
use Rattle.rig.specs.declared.frame.Rig.{Rig}
use Rattle.moves.specs.declared.entry.Move.{Move}
use Rattle.rig.specs.declared.unopened.Unopened.{Unopened}
use Rattle.moves.specs.Faults.{number, numbered}
use Rattle.rig.specs.Rigs.{contents}
use Rattle.drafts.specs.Drafts.{charges_of, draft_of}
use Rattle.planner.specs.declared.answer.Plan as answer
use Rattle.steps.specs.declared.fault.PlanFault.{PlanFault}
use Rattle.planner.specs.Plans.{Planned}
use Rattle.show.specs.declared.cue.Cue.{Cue}
use Rattle.show.specs.declared.cue.Cue.TheVariants.{Add, Retime, Withdraw, Perform, Want, Plan}
use Rattle.show.specs.Agreeing.{PlansAgree}

module _ {S : Type 0} where
  -- what a call leaves of the contents: an accepted one alters them, a refused one or a plan leaves them as they are
  abbrev pub altered : Contents → Cue S → Contents
  altered c (Add n draft _) = added c n (draft_of draft.now)
  altered c (Retime n base charges _) = retimed c n base (charges_of charges.now)
  altered c (Withdraw n _) = withdrawn c n
  altered c (Perform n _) = performed c n
  altered c (Want masks _) = wanting c (vec_items masks)
  altered c (Plan shelf sheet _) = c

  -- what the calls leave, in order
  abbrev pub altered_by : Contents → List (Cue S) → Contents
  altered_by c [] = c
  altered_by c (x ∷ xs) = altered_by (altered c x) xs

  -- a reply is what the definition of its call gives
  pub record Replied {X : Type 0} (given : Result X ℕ) (cue : Option (Result X RigFault) → Cue S) (y : Cue S) : Type 0 where
    pub reply : Result X RigFault
    pub placed : y ≡ cue (Some reply)
    pub as_defined : numbered reply ≡ given

  -- a plan was made of contents c, with the shelf and the sheet of its cue
  pub record Planning (meaning : S → Meaning) (c : Contents) (shelf : S) (sheet : Vec ℕ Global) (y : Cue S) : Type 0 where
    pub shelf_left : S
    pub sheet_left : Vec ℕ Global
    pub reply : Result answer.Plan PlanFault
    pub placed : y ≡ Plan shelf_left sheet_left (Some reply)
    pub planned : Planned c (meaning shelf) (vec_items sheet) reply (meaning shelf_left) (vec_items sheet_left)

  -- cue x, called on contents c, is left as y
  abbrev pub Answered : (S → Meaning) → Contents → Cue S → Cue S → Type 0
  Answered meaning c (Add n draft _) y = Replied (adds c n (draft_of draft.now)) (Add n draft) y
  Answered meaning c (Retime n base charges _) y = Replied (retimes c n base (charges_of charges.now)) (Retime n base charges) y
  Answered meaning c (Withdraw n _) y = Replied (withdraws c n) (Withdraw n) y
  Answered meaning c (Perform n _) y = Replied (performs c n) (Perform n) y
  Answered meaning c (Want masks _) y = Replied (wants c (vec_items masks)) (Want masks) y
  Answered meaning c (Plan shelf sheet _) y = Planning meaning c shelf sheet y

  -- the k-th of the cues was called on what those before it left, in order
  abbrev pub EachAnswered : (S → Meaning) → Contents → List (Cue S) → List (Cue S) → Type 0
  EachAnswered meaning c xs ys = (k : ℕ) (x : Cue S) → slice_get xs k ≡ Some x → (y : Cue S) × (slice_get ys k ≡ Some y) × Answered meaning (altered_by c (take k xs)) x y

  -- the cues xs were called one after another on contents c, were left as ys, and left the contents d
  pub record Played (meaning : S → Meaning) (c : Contents) (xs ys : List (Cue S)) (d : Contents) : Type 0 where
    pub as_many : length ys ≡ length xs
    pub each : EachAnswered meaning c xs ys
    pub leaves : d ≡ altered_by c xs
    -- any two plans that were not sent back, of this show or another, of contents alike, say the same
    pub agree : PlansAgree

  -- an opening that is refused makes no call and hands the slots back; another is played from what it left
  abbrev pub Shown : (S → Meaning) → Shape → List Name → Scene → Vec (Option Move) Global → List (Cue S) → Result Rig Unopened → List (Cue S) → Type 0
  Shown meaning ns names s slots xs (Ok rig) ys = (opens ns names s (vec_len slots) ≡ Ok (tt {0})) × Played meaning (opened ns names s (vec_len slots)) xs ys (contents rig)
  Shown meaning ns names s slots xs (Err e) ys = (opens ns names s (vec_len slots) ≡ Err (number e.fault)) × (e.slots ≡ slots) × (ys ≡ xs)
