-- What a rig holds, as the definitions see it. Assumes nothing.
use Rattle.model.specs.Contents.{Contents}
use Rattle.rig.specs.declared.frame.Rig.{Rig}
use Rattle.rig.specs.Holding.{holding}

abbrev pub contents : Rig → Contents
contents r = holding r.devices r.slots
