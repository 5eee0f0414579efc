use Rattle.std.proofs.Common.{◌∙◌, ap, arith}
use Rattle.std.specs.Prelude.{vec_capacity}
use Rattle.cf_disk.specs.Images.{Held, durable}
use Rattle.cf_disk.proofs.MediumLaws.{clean_held, clean_medium, now_whole}
use Rattle.cf_disk.proofs.media.Medium.sync.Goals as goal

pub clear-requires : goal.clear-requires
clear-requires c = c.self.invariant.sound

pub invariant_of-self : goal.invariant_of-self
invariant_of-self c =
    let i = c.self.inside in
    clean_medium i.size i.bytes.items c.clear.new.self c.clear.ensures.clean c.self.invariant.fits (vec_capacity i.bytes) c.clear.ensures.sound
    (omega (arith, c.self.invariant.inside, c.clear.ensures.most)) c.self.invariant.room_is

pub returns-clause-is : goal.returns-clause-is
returns-clause-is c =
    let i = c.self.inside in
    clean_held i.size i.bytes.items c.clear.new.self c.clear.ensures.clean c.self.invariant.fits ∙ ap (λ (h : Held). durable h.bytes) c.self.view_is

pub returns-clause-whole : goal.returns-clause-whole
returns-clause-whole c =
    let i = c.self.inside in
    now_whole i.size (vec_capacity i.bytes) i.bytes.items i.pages c.self.invariant c.args.self.now c.self.view_is
