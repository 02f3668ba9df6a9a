-- What read answers is what a file gives.
use Rattle.std.specs.Prelude.{◌≡◌, ℕ, List, Ok, Err, Result}
use Rattle.std.proofs.Common.{ap, subst}
use Rattle.model.specs.Limits.{most_slots}
use Rattle.model.specs.Contents.{Contents}
use Rattle.format.specs.Reading.{Untaken}
use Rattle.rig.specs.declared.frame.Rig.{Rig}
use Rattle.rig.specs.Rigs.{contents}
use Rattle.rigfile.specs.declared.unread.Unread.{Unread}
use Rattle.rigfile.specs.Reading.{Answers, read_as, untaken}
use Rattle.embed.specs.Reads.{Reads}

reads_of : (file : List ℕ) (n : ℕ) (r s : Result Contents Untaken) → n ≡ most_slots → Answers file n r → r ≡ s → Reads file s
reads_of file n r s many h same =
    subst (Reads file) same (let k = subst (λ m. Answers file m r) many h in record { listed = k.listed; unlisted = k.unframed })

pub rig_given : (file : List ℕ) (n : ℕ) (x : Result Rig Unread) (rig : Rig) → n ≡ most_slots → Answers file n (read_as x) → x ≡ Ok rig → Reads file (Ok (contents rig))
rig_given file n x rig many h is = reads_of file n (read_as x) (Ok (contents rig)) many h (ap read_as is)

pub fault_given : (file : List ℕ) (n : ℕ) (x : Result Rig Unread) (u : Unread) → n ≡ most_slots → Answers file n (read_as x) → x ≡ Err u → Reads file (Err (record { number = (untaken u.fault).number; byte = (untaken u.fault).byte }))
fault_given file n x u many h is = reads_of file n (read_as x) (Err (untaken u.fault)) many h (ap read_as is)
