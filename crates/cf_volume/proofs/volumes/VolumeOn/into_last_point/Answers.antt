use Rattle.cf_volume.proofs.Rewound.{last_again, steady_again}
use Rattle.cf_volume.proofs.volumes.VolumeOn.into_last_point.Goals as goal

pub returns-in-Ok-clause-at : goal.returns-in-Ok-clause-at
returns-in-Ok-clause-at g c =
    last_again g.G.Ground.state c.self.view_is c.rewind.new.parts.journal c.in-Ok.held c.rewind.new.parts.contents c.rewind.new.parts.limit c.opened_of.result c.opened_of.ensures c.rewind.ensures.same.1 c.in-Ok.ensures.table c.in-Ok.ensures.rewinds

pub returns-in-Ok-clause-steady : goal.returns-in-Ok-clause-steady
returns-in-Ok-clause-steady g c =
    steady_again g.G.Ground.state c.self.view_is c.rewind.new.parts.journal c.in-Ok.held c.rewind.new.parts.contents c.rewind.new.parts.limit c.opened_of.result c.opened_of.ensures c.rewind.ensures.same.1 c.rewind.ensures.same.0
    c.in-Ok.ensures.table c.in-Ok.ensures.rewinds c.requires.at.0 c.requires.at.1 c.requires.usable c.self.invariant
