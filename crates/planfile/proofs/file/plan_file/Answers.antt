use Rattle.rig.specs.Rigs.{contents}
use Rattle.planfile.proofs.Whole.{comes}
use Rattle.planfile.proofs.file.plan_file.Goals as goal

pub returns : goal.returns
returns g c =
    record { comes = comes (g.R.Read.remaining c.args.input) c.in_ok-bytes.bytes.items c.as_slice.result.now (contents c.in_ok-rig.rig) c.plan_anew.result c.in_ok-bytes.ensures.fed c.as_slice.ensures.value c.in_ok-rig.ensures.read c.plan_anew.ensures.planned }
